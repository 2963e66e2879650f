-- Entries stay in the order in which they fall due.
use Rattle.std.proofs.Common.{◌≡◌, ℕ, ◌==◌, not, Bool, true, false, cond, List, [], ◌∷◌, take, drop, filter, ◌+◌, suc, refl, sym, ap, subst, arith, rules}
use Rattle.std.specs.Prelude.{insert}
use Rattle.std.specs.List.{All, position_or_len}
use Rattle.std.proofs.lemmas.Bool.Decides.{nat_tests}
use Rattle.std.proofs.lemmas.List.Elements.{All-append, All-cons, All-nil, All-take, All-drop, All-filter, All-weaker}
use Rattle.fk_timer.specs.Schedule.{Entry, IsInOrder, precedes, holds, with_entry}

-- what precedes an entry precedes what that one precedes
through : (a b c : Entry) → precedes a b ≡ true → precedes b c ≡ true → precedes a c ≡ true
through a b c first second = grind (arith, nat_tests)

-- of two entries of different numbers one precedes the other
pub other_way : (a b : Entry) → precedes a b ≡ false → (b.id == a.id) ≡ false → precedes b a ≡ true
other_way a b not_before apart = grind (arith, nat_tests)

-- what holds of the entries and of one more holds of all with that one
pub All-with_entry : (P : Entry → Type 0) (entry : Entry) (entries : List Entry) → P entry → All P entries → All P (with_entry entry entries)
All-with_entry P entry entries one all =
    let place = position_or_len (λ other. precedes entry other) entries in
    All-append P (take place entries) (entry ∷ drop place entries) (All-take P place entries all) (All-cons P entry (drop place entries) one (All-drop P place entries all))

with_entry-cons : (entry x : Entry) (xs : List Entry) → with_entry entry (x ∷ xs) ≡ cond (precedes entry x) (entry ∷ x ∷ xs) (x ∷ with_entry entry xs)
with_entry-cons entry x xs =
    elim (precedes entry x) as (λ b. insert (x ∷ xs) (cond (not b) (1 + position_or_len (λ other. precedes entry other) xs) 0) entry ≡ cond b (entry ∷ x ∷ xs) (x ∷ with_entry entry xs)) [
      | true ↦ refl
      | false ↦
          let more : 1 + position_or_len (λ other. precedes entry other) xs ≡ suc (position_or_len (λ other. precedes entry other) xs) = omega arith in
          ap (λ place. insert (x ∷ xs) place entry) more
    ]

pub eqb-swap : (a b : ℕ) → (a == b) ≡ false → (b == a) ≡ false
eqb-swap a b apart = grind (arith, nat_tests)

-- one more entry of another number does not have this one
pub holds-with_entry : (id : ℕ) (entry : Entry) (entries : List Entry) → (entry.id == id) ≡ false → holds id entries ≡ false → holds id (with_entry entry entries) ≡ false
holds-with_entry id entry [] apart none = grind rules
holds-with_entry id entry (x ∷ xs) apart none =
    let here : (x.id == id) ≡ false = grind rules in
    let rest : holds id xs ≡ false = grind rules in
    let ih = holds-with_entry id entry xs apart rest in
    rw (with_entry-cons entry x xs)
    (elim (precedes entry x) as (λ b. holds id (cond b (entry ∷ x ∷ xs) (x ∷ with_entry entry xs)) ≡ false)
    [ true ↦ rw (apart, here, rest) refl | false ↦ rw (here, ih) refl ])

-- what is left of entries none of which has a number has it neither
pub holds-filter : (id : ℕ) (keeps : Entry → Bool) (entries : List Entry) → holds id entries ≡ false → holds id (filter keeps entries) ≡ false
holds-filter id keeps [] none = refl
holds-filter id keeps (x ∷ xs) none =
    let here : (x.id == id) ≡ false = grind rules in
    let rest : holds id xs ≡ false = grind rules in
    let ih = holds-filter id keeps xs rest in
    elim (keeps x) as (λ b. holds id (cond b (x ∷ filter keeps xs) (filter keeps xs)) ≡ false) [ true ↦ rw (here, ih) refl | false ↦ ih ]

-- one more entry, of a number that no other has, goes to its place
pub IsInOrder-with_entry : (entry : Entry) (entries : List Entry) → holds entry.id entries ≡ false → IsInOrder entries → IsInOrder (with_entry entry entries)
IsInOrder-with_entry entry [] unknown order = (All-nil (λ other. precedes entry other ≡ true), refl, tt)
IsInOrder-with_entry entry (x ∷ xs) unknown order =
    subst IsInOrder (sym (with_entry-cons entry x xs))
    ((elim (precedes entry x) as (λ b. precedes entry x ≡ b → IsInOrder (cond b (entry ∷ x ∷ xs) (x ∷ with_entry entry xs))) [
      | true ↦ λ before.
          let later = All-weaker (λ other. precedes x other ≡ true) (λ other. precedes entry other ≡ true) (λ other. through entry x other before) xs order.0 in
          (All-cons (λ other. precedes entry other ≡ true) x xs before later, unknown, order)
      | false ↦ λ not_before.
          let apart : (x.id == entry.id) ≡ false = grind rules in
          let rest : holds entry.id xs ≡ false = grind rules in (
            All-with_entry (λ other. precedes x other ≡ true) entry xs (other_way entry x not_before apart) order.0,
            holds-with_entry x.id entry xs (eqb-swap x.id entry.id apart) order.1,
            IsInOrder-with_entry entry xs rest order.2,
          )
    ]) refl)

-- the entries of other numbers stay in order
pub IsInOrder-filter : (keeps : Entry → Bool) (entries : List Entry) → IsInOrder entries → IsInOrder (filter keeps entries)
IsInOrder-filter keeps [] order = tt
IsInOrder-filter keeps (x ∷ xs) order =
    elim (keeps x) as (λ b. IsInOrder (cond b (x ∷ filter keeps xs) (filter keeps xs))) [
      | true ↦ (All-filter keeps (λ other. precedes x other ≡ true) xs order.0, holds-filter x.id keeps xs order.1, IsInOrder-filter keeps xs order.2)
      | false ↦ IsInOrder-filter keeps xs order.2
    ]
