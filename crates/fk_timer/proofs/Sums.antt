-- Lists with the same sums hold the same entries, and of those that are in order and hold the same there is one.
use Rattle.std.proofs.Common.{◌≡◌, ◌≤◌, ℕ, ◌==◌, ◌||◌, nat_lt, not, Bool, true, false, cond, List, [], ◌∷◌, length, filter, ◌+◌, refl, sym, ap, ◌∙◌, subst, arith, rules}
use Rattle.std.specs.List.{All, position_or_len, sum_by}
use Rattle.std.proofs.lemmas.Bool.{eq-eqb}
use Rattle.std.proofs.lemmas.Bool.Decides.{nat_tests}
use Rattle.std.proofs.lemmas.List.Sums.{sum_by-insert, sum_by-cons, sum_by-le-sum_by, prefix_len-le-length}
use Rattle.std.proofs.lemmas.List.Elements.{All-cons, All-nil, All-head, All-tail, All-weaker}
use Rattle.fk_timer.specs.Schedule.{Entry, IsInOrder, precedes, holds, with_entry}
use Rattle.fk_timer.specs.Private.{EachOnce, times, in_order}
use Rattle.std.proofs.lemmas.List.Edits.{length-insert}
use Rattle.fk_timer.proofs.Orders.{other_way, eqb-swap, All-with_entry, IsInOrder-with_entry, IsInOrder-filter}

-- every measure has one sum over both
abbrev pub Same : List Entry → List Entry → Type 0
Same xs ys = (measure : Entry → ℕ) → sum_by measure xs ≡ sum_by measure ys

sum-with_entry : (measure : Entry → ℕ) (entry : Entry) (entries : List Entry) → sum_by measure (with_entry entry entries) ≡ measure entry + sum_by measure entries
sum-with_entry measure entry entries =
    let whole = sum_by-insert measure entries (position_or_len (λ other. precedes entry other) entries) entry in
    omega (arith, whole)

pub Same-in_order : (entries : List Entry) → Same (in_order entries) entries
Same-in_order [] measure = refl
Same-in_order (entry ∷ entries) measure =
    let ih = Same-in_order entries measure in
    let more = sum-with_entry measure entry (in_order entries) in
    let cons = sum_by-cons measure entry entries in
    omega (arith, ih, more, cons)

pub sum-filter : (keeps : Entry → Bool) (measure : Entry → ℕ) (entries : List Entry) → sum_by measure (filter keeps entries) ≡ sum_by (λ entry. cond (keeps entry) (measure entry) 0) entries
sum-filter keeps measure [] = refl
sum-filter keeps measure (entry ∷ entries) =
    let ih = sum-filter keeps measure entries in
    (elim (keeps entry) as (λ b. sum_by measure (cond b (entry ∷ filter keeps entries) (filter keeps entries)) ≡ cond b (measure entry) 0 + sum_by (λ entry. cond (keeps entry) (measure entry) 0) entries) [
      | true ↦ sum_by-cons measure entry (filter keeps entries) ∙ ap (λ n. measure entry + n) ih
      | false ↦ omega (arith, ih)
    ]) ∙ sym (sum_by-cons (λ entry. cond (keeps entry) (measure entry) 0) entry entries)

pub times-cons : (id : ℕ) (entry : Entry) (entries : List Entry) → times id (entry ∷ entries) ≡ cond (entry.id == id) 1 0 + times id entries
times-cons id entry entries = sum_by-cons (λ (entry : Entry). cond (entry.id == id) 1 0) entry entries

-- a list has a number where some entry counts for it
pub holds-times : (id : ℕ) (entries : List Entry) → holds id entries ≡ nat_lt 0 (times id entries)
holds-times id [] = refl
holds-times id (entry ∷ entries) =
    let ih = holds-times id entries in
    (elim (entry.id == id) as (λ b. (b || holds id entries) ≡ nat_lt 0 (cond b 1 0 + times id entries)) [
      | true ↦ grind (arith, nat_tests)
      | false ↦ let none : times id entries ≡ 0 + times id entries = omega arith in ih ∙ ap (nat_lt 0) none
    ]) ∙ ap (nat_lt 0) (sym (times-cons id entry entries))

pub holds-same : (id : ℕ) (xs ys : List Entry) → Same xs ys → holds id xs ≡ holds id ys
holds-same id xs ys same = holds-times id xs ∙ ap (nat_lt 0) (same (λ entry. cond (entry.id == id) 1 0)) ∙ sym (holds-times id ys)

pub once-same : (xs ys : List Entry) → Same xs ys → EachOnce xs → EachOnce ys
once-same xs ys same once id =
    let all = same (λ entry. cond (entry.id == id) 1 0) in
    let most = once id in
    omega (arith, all, most)

once-tail : (entry : Entry) (entries : List Entry) → EachOnce (entry ∷ entries) → EachOnce entries
once-tail entry entries once id =
    let most = once id in
    let cons = times-cons id entry entries in
    omega (arith, most, cons)

-- an entry's own number is not among the others
once-head : (entry : Entry) (entries : List Entry) → EachOnce (entry ∷ entries) → holds entry.id entries ≡ false
once-head entry entries once =
    let most : cond (entry.id == entry.id) 1 0 + times entry.id entries ≤ 1 = subst (λ (n : ℕ). n ≤ 1) (times-cons entry.id entry entries) (once entry.id) in
    let here : 1 + times entry.id entries ≤ 1 = subst (λ (b : Bool). cond b 1 0 + times entry.id entries ≤ 1) (eq-eqb entry.id entry.id refl) most in
    let none : times entry.id entries ≡ 0 = omega arith in
    holds-times entry.id entries ∙ ap (nat_lt 0) none

pub IsInOrder-in_order : (entries : List Entry) → EachOnce entries → IsInOrder (in_order entries)
IsInOrder-in_order [] once = tt
IsInOrder-in_order (entry ∷ entries) once =
    IsInOrder-with_entry entry (in_order entries) (holds-same entry.id (in_order entries) entries (Same-in_order entries) ∙ once-head entry entries once)
    (IsInOrder-in_order entries (once-tail entry entries once))

pub All-in_order : (P : Entry → Type 0) (entries : List Entry) → All P entries → All P (in_order entries)
All-in_order P [] all = all
All-in_order P (entry ∷ entries) all = All-with_entry P entry (in_order entries) (All-head P entry entries all) (All-in_order P entries (All-tail P entry entries all))

-- none passes, so none counts
sum-none : (passes : Entry → Bool) (entries : List Entry) → All (λ entry. passes entry ≡ false) entries → sum_by (λ entry. cond (passes entry) 1 0) entries ≡ 0
sum-none passes [] none = refl
sum-none passes (entry ∷ entries) none =
    let ih = sum-none passes entries (All-tail (λ entry. passes entry ≡ false) entry entries none) in
    let here = All-head (λ entry. passes entry ≡ false) entry entries none in
    sum_by-cons (λ entry. cond (passes entry) 1 0) entry entries ∙ ap (λ b. cond b 1 0 + sum_by (λ entry. cond (passes entry) 1 0) entries) here ∙ (omega (arith, ih))

head-none : (passes : Entry → Bool) (entry : Entry) (entries : List Entry) → sum_by (λ entry. cond (passes entry) 1 0) (entry ∷ entries) ≡ 0 → passes entry ≡ false
head-none passes entry entries none =
    (elim (passes entry) as (λ b. cond b 1 0 + sum_by (λ entry. cond (passes entry) 1 0) entries ≡ 0 → b ≡ false) [ true ↦ λ some. absurd (omega arith) | false ↦ λ _. refl ])
    (sym (sum_by-cons (λ entry. cond (passes entry) 1 0) entry entries) ∙ none)

before-itself : (entry : Entry) → precedes entry entry ≡ false
before-itself entry = grind (arith, nat_tests)

other_side : (a b : Entry) → precedes a b ≡ true → precedes b a ≡ false
other_side a b before = grind (arith, nat_tests)

-- entries neither of which precedes the other are one
neither : (a b : Entry) → precedes a b ≡ false → precedes b a ≡ false → (a.id ≡ b.id) × (a.moment ≡ b.moment)
neither a b first second = (grind (arith, nat_tests), grind (arith, nat_tests))

all-behind : (first : Entry) (entries : List Entry) → All (λ other. precedes first other ≡ true) entries → All (λ other. precedes other first ≡ false) (first ∷ entries)
all-behind first entries all =
    All-cons (λ other. precedes other first ≡ false) first entries (before-itself first) (All-weaker (λ other. precedes first other ≡ true) (λ other. precedes other first ≡ false) (λ other. other_side first other) entries all)

-- what is first in one list precedes not the first of the other
heads : (x : Entry) (xs : List Entry) (y : Entry) (ys : List Entry) → Same (x ∷ xs) (y ∷ ys) → All (λ other. precedes x other ≡ true) xs → precedes y x ≡ false
heads x xs y ys same all =
    head-none (λ entry. precedes entry x) y ys
    (sym (same (λ entry. cond (precedes entry x) 1 0)) ∙ sum-none (λ entry. precedes entry x) (x ∷ xs) (all-behind x xs all))

pub one_order : (xs ys : List Entry) → IsInOrder xs → IsInOrder ys → Same xs ys → xs ≡ ys
one_order [] [] first second same = refl
one_order [] (y ∷ ys) first second same = absurd (let count = same (λ entry. 1) in let cons = sum_by-cons (λ (entry : Entry). 1) y ys in omega (arith, count, cons))
one_order (x ∷ xs) [] first second same = absurd (let count = same (λ entry. 1) in let cons = sum_by-cons (λ (entry : Entry). 1) x xs in omega (arith, count, cons))
one_order (x ∷ xs) (y ∷ ys) first second same =
    let back : Same (y ∷ ys) (x ∷ xs) = λ measure. sym (same measure) in
    let parts = neither x y (heads y ys x xs back second.0) (heads x xs y ys same first.0) in
    let head : x ≡ y = ap (λ (n : ℕ). record { id = n; moment = x.moment }) parts.0 ∙ ap (λ (n : ℕ). record { id = y.id; moment = n }) parts.1 in
    let rest : Same xs ys = λ measure.
    let whole = same measure in
    let here = ap measure head in
    let one = sum_by-cons measure x xs in
    let other = sum_by-cons measure y ys in
    omega (arith, whole, here, one, other) in
    let tail = one_order xs ys first.2 second.2 rest in cc

-- the order in which the entries fall due does not depend on how they are stored
pub in_order-same : (xs ys : List Entry) → EachOnce xs → Same xs ys → in_order xs ≡ in_order ys
in_order-same xs ys once same =
    one_order (in_order xs) (in_order ys) (IsInOrder-in_order xs once) (IsInOrder-in_order ys (once-same xs ys same once))
    (λ measure. Same-in_order xs measure ∙ same measure ∙ sym (Same-in_order ys measure))

counted-less : (b : Bool) (n : ℕ) → cond b n 0 ≤ n
counted-less true n = omega arith
counted-less false n = omega arith

-- what no other precedes, and no other has the number of, precedes all others
all-apart : (first : Entry) (entries : List Entry) → holds first.id entries ≡ false → All (λ other. precedes other first ≡ false) entries → All (λ other. precedes first other ≡ true) entries
all-apart first [] apart none = All-nil (λ other. precedes first other ≡ true)
all-apart first (entry ∷ entries) apart none =
    let here : (entry.id == first.id) ≡ false = grind rules in
    let rest : holds first.id entries ≡ false = grind rules in
    let later = All-head (λ other. precedes other first ≡ false) entry entries none in
    All-cons (λ other. precedes first other ≡ true) entry entries (other_way entry first later (eqb-swap entry.id first.id here)) (all-apart first entries rest (All-tail (λ other. precedes other first ≡ false) entry entries none))

pub once-filter : (keeps : Entry → Bool) (xs ys : List Entry) → EachOnce xs → Same ys (filter keeps xs) → EachOnce ys
once-filter keeps xs ys once same id =
    let kept = same (λ entry. cond (entry.id == id) 1 0) in
    let parted = sum-filter keeps (λ entry. cond (entry.id == id) 1 0) xs in
    let fewer = sum_by-le-sum_by (λ (entry : Entry). cond (keeps entry) (cond (entry.id == id) 1 0) 0) (λ (entry : Entry). cond (entry.id == id) 1 0) xs (λ entry. counted-less (keeps entry) (cond (entry.id == id) 1 0)) in
    let most = once id in
    omega (arith, kept, parted, fewer, most)

-- what is left of the entries keeps its order
pub in_order-filter : (keeps : Entry → Bool) (xs ys : List Entry) → EachOnce xs → Same ys (filter keeps xs) → in_order ys ≡ filter keeps (in_order xs)
in_order-filter keeps xs ys once same =
    let kept : Same (filter keeps (in_order xs)) (filter keeps xs) = λ measure.
    sum-filter keeps measure (in_order xs) ∙ Same-in_order xs (λ entry. cond (keeps entry) (measure entry) 0) ∙ sym (sum-filter keeps measure xs) in
    one_order (in_order ys) (filter keeps (in_order xs)) (IsInOrder-in_order ys (once-filter keeps xs ys once same)) (IsInOrder-filter keeps (in_order xs) (IsInOrder-in_order xs once))
    (λ measure. Same-in_order ys measure ∙ same measure ∙ sym (kept measure))

pub length-in_order : (entries : List Entry) → length (in_order entries) ≡ length entries
length-in_order [] = refl
length-in_order (entry ∷ entries) =
    let ih = length-in_order entries in
    let place = prefix_len-le-length (λ other. not (precedes entry other)) (in_order entries) in
    let one = length-insert (in_order entries) (position_or_len (λ other. precedes entry other) (in_order entries)) entry place in
    omega (arith, one, ih)

-- what is taken out goes before all the others
module _ (all : List Entry) (first : Entry) (rest : List Entry) (once : EachOnce all) (same : Same all (first ∷ rest)) (none : All (λ other. precedes other first ≡ false) rest) where
  once-out : EachOnce (first ∷ rest)
  once-out = once-same all (first ∷ rest) same once

  pub once-rest : EachOnce rest
  once-rest = once-tail first rest once-out

  pub alone : holds first.id (in_order rest) ≡ false
  alone = holds-same first.id (in_order rest) rest (Same-in_order rest) ∙ once-head first rest once-out

  pub leads : All (λ other. precedes first other ≡ true) (in_order rest)
  leads = All-in_order (λ other. precedes first other ≡ true) rest (all-apart first rest (once-head first rest once-out) none)

  pub taken : in_order all ≡ first ∷ in_order rest
  taken = one_order (in_order all) (first ∷ in_order rest) (IsInOrder-in_order all once) (leads, alone, IsInOrder-in_order rest once-rest)
      (λ measure.
      let before = Same-in_order all measure in
      let behind = Same-in_order rest measure in
      let whole = same measure in
      let one = sum_by-cons measure first rest in
      let other = sum_by-cons measure first (in_order rest) in
      omega (arith, before, behind, whole, one, other))
