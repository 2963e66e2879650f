-- What a list of changes is that is a ledger, and what one more change leaves of its live records.
use Rattle.std.proofs.Common.{◌≡◌, ◌≢◌, ◌⊎◌, ℕ, zero, suc, ◌+◌, ◌<◌, ◌≤◌, Bool, true, false, not, cond, eqb, List, [], ◌∷◌, ◌++◌, length, map, Some, None, refl, sym, ap, ◌∙◌, subst, arith, inl, inr, append_assoc, append-nil}
use Rattle.std.specs.Prelude.{nat_le}
use Rattle.std.specs.List.{filter, cons_option, list_any, AllPairs, Contains, range_with_len}
use Rattle.std.proofs.lemmas.List.Elements.{Contains-append_left, Contains-append_right, Contains-push_cases, filter-append, filter_map-append, filter_passes, All-contains}
use Rattle.std.proofs.lemmas.List.Kept.{AllPairs-cons}
use Rattle.std.proofs.lemmas.Bool.{ne_eqb, eqb-true, eq-eqb, cases_order}
use Rattle.fk_trace.specs.declared.change.OpenRecord.{OpenRecord}
use Rattle.fk_trace.specs.declared.change.Change.{Change}
use Rattle.fk_trace.specs.declared.change.Change.TheVariants.{Open, Done, Settled, Floor}
use Rattle.fk_trace.specs.Ledger.{Key, opens, dones, is_open, live, seen, numbers, next_id, kept_by, after_one, after, IsNumber, IsSeen, MayFollow, IsLedgerFrom, IsLedger}
use Rattle.fk_trace.proofs.Lists.{Contains-head, Contains-tail, Contains-cases, Contains-filter, Contains-map, Contains-unmap, All-by, list_any-at, list_any-from, same_by_key}
use Rattle.fk_trace.proofs.Ledgers.{opens-append, dones-append, opens-push_done, opens-push_open, dones-push_open, dones-push_done, live-of, live-push_done, live-push_open, next_by-above, next_id-push, next_id-push_open, none_at_bound, number-below, open-number, kept_in, numbers-kept, seen-kept, dones-kept, live-rise, next_id-rise}
use Rattle.fk_trace.proofs.RiseLaws.{ledger-rise}
use Rattle.fk_trace.proofs.Made.{AreMadeFrom, AreMade, IsLive, made-numbered}

-- two numbers are one or differ
cases_eq : (a b : ℕ) → (a ≡ b) ⊎ (a ≢ b)
cases_eq a b =
    elim (cases_order a b) [
      | inl e ↦ inl e
      | inr o ↦ inr (λ e. elim o [ inl lt ↦ absurd (omega arith) | inr lt ↦ absurd (omega arith) ])
    ]

-- what the test gives true for stays in a filter
pub Contains-kept : {X : Type 0} (q : X → Bool) (xs : List X) (x : X) → q x ≡ true → Contains xs x → Contains (filter q xs) x
Contains-kept q [] x t m = absurd (omega (arith, m.1))
Contains-kept q (y ∷ xs) x t m =
    elim (Contains-cases y xs x m) [
      | inl e ↦ let here : q y ≡ true = ap q e ∙ t in rw (here, ← e) (Contains-head y (filter q xs))
      | inr n ↦
          let rest = Contains-kept q xs x t n in
          (elim (q y) as (λ b. Contains (cond b (y ∷ filter q xs) (filter q xs)) x) [ true ↦ Contains-tail y (filter q xs) x rest | false ↦ rest ])
    ]

-- each change of a joined list may stand behind those before it
pub ledger-joined : (before a b : List Change) → IsLedgerFrom before a → IsLedgerFrom (before ++ a) b → IsLedgerFrom before (a ++ b)
ledger-joined before [] b h g = subst (λ (ledger : List Change). IsLedgerFrom ledger b) (append-nil before) g
ledger-joined before (change ∷ a) b h g =
    (h.0, ledger-joined (before ++ change ∷ []) a b h.1 (subst (λ (ledger : List Change). IsLedgerFrom ledger b) (sym (append_assoc before (change ∷ []) a)) g))

pub ledger-front : (before a b : List Change) → IsLedgerFrom before (a ++ b) → IsLedgerFrom before a
ledger-front before [] b h = tt
ledger-front before (change ∷ a) b h = (h.0, ledger-front (before ++ change ∷ []) a b h.1)

pub ledger-push : (ledger : List Change) (change : Change) → IsLedger ledger → MayFollow ledger change → IsLedger (ledger ++ change ∷ [])
ledger-push ledger change is may = ledger-joined [] ledger (change ∷ []) is (may, tt)

pub open-below : (ledger : List Change) (item : OpenRecord) → Contains (opens ledger) item → item.id < next_id ledger
open-below ledger item m = number-below 1 ledger item.id (open-number ledger item m)

live-opens : (ledger : List Change) (item : OpenRecord) → Contains (live ledger) item → Contains (opens ledger) item
live-opens ledger item m = Contains-filter (is_open ledger) (opens ledger) item m

-- records are told apart by their numbers
abbrev AreApart : List OpenRecord → Type 0
AreApart items = (a b : OpenRecord) → Contains items a → Contains items b → a.id ≡ b.id → a ≡ b

apart-push : (ledger : List Change) (change : Change) → AreApart (opens ledger) → MayFollow ledger change → AreApart (opens (ledger ++ change ∷ []))
apart-push ledger (Open item) apart may =
    let bound : (x : OpenRecord) → Contains (opens ledger) x → x.id < item.id = λ x m. All-contains (λ id. id < item.id) (numbers ledger) x.id may.0.above (open-number ledger x m) in
    let pushed : AreApart (opens ledger ++ item ∷ []) =
    λ a b m n e. elim (Contains-push_cases (opens ledger) item a m) [
      | inl k ↦ elim (Contains-push_cases (opens ledger) item b n) [
        | inl l ↦ apart a b k l e
        | inr f ↦ absurd (let low = bound a k in let same = ap (λ (y : OpenRecord). y.id) f in omega arith)
      ]
      | inr f ↦ elim (Contains-push_cases (opens ledger) item b n) [
        | inl l ↦ absurd (let low = bound b l in let same = ap (λ (y : OpenRecord). y.id) f in omega arith)
        | inr g ↦ sym f ∙ g
      ]
    ] in
    subst AreApart (sym (opens-push_open ledger item)) pushed
apart-push ledger (Done id) apart may = subst AreApart (sym (opens-push_done ledger id)) apart
apart-push ledger (Settled id stamp digest) apart may = subst AreApart (sym (opens-append ledger (Settled id stamp digest ∷ []) ∙ append-nil (opens ledger))) apart
apart-push ledger (Floor floor next) apart may = subst AreApart (sym (opens-append ledger (Floor floor next ∷ []) ∙ append-nil (opens ledger))) apart

apart-from : (before changes : List Change) → AreApart (opens before) → IsLedgerFrom before changes → AreApart (opens (before ++ changes))
apart-from before [] apart is = subst (λ (ledger : List Change). AreApart (opens ledger)) (sym (append-nil before)) apart
apart-from before (change ∷ changes) apart is =
    subst (λ (ledger : List Change). AreApart (opens ledger)) (append_assoc before (change ∷ []) changes)
    (apart-from (before ++ change ∷ []) changes (apart-push before change apart is.0) is.1)

-- two records of a ledger with one number are one
pub opens-one : (ledger : List Change) → IsLedger ledger → (a b : OpenRecord) → Contains (opens ledger) a → Contains (opens ledger) b → a.id ≡ b.id → a ≡ b
opens-one ledger is = apart-from [] ledger (λ a b m n e. absurd (omega (arith, m.1))) is

pub live-one : (ledger : List Change) → IsLedger ledger → (a b : OpenRecord) → Contains (live ledger) a → Contains (live ledger) b → a.id ≡ b.id → a ≡ b
live-one ledger is a b m n e = opens-one ledger is a b (live-opens ledger a m) (live-opens ledger b n) e

pub live-below : (ledger : List Change) (id : ℕ) → Contains (map (λ item. item.id) (live ledger)) id → id < next_id ledger
live-below ledger id m =
    let at = Contains-unmap (λ (item : OpenRecord). item.id) (live ledger) id m in
    let low = open-below ledger at.0 (live-opens ledger at.0 at.1) in
    let same = at.2 in
    omega arith

-- what is settled was recorded, so its number is below the next
abbrev pub AreBelow : List Change → Type 0
AreBelow ledger = (id : ℕ) → Contains (dones ledger) id → id < next_id ledger

below-push : (ledger : List Change) (change : Change) → AreBelow ledger → MayFollow ledger change → AreBelow (ledger ++ change ∷ [])
below-push ledger (Open item) below may = λ id m.
    let low = below id (subst (λ (ids : List ℕ). Contains ids id) (dones-push_open ledger item) m) in
    let up = next_by-above (Open item) (next_id ledger) in
    let is = next_id-push ledger (Open item) in
    omega arith
below-push ledger (Done settled) below may = λ id m.
    let is = next_id-push ledger (Done settled) in
    elim (Contains-push_cases (dones ledger) settled id (subst (λ (ids : List ℕ). Contains ids id) (dones-push_done ledger settled) m)) [
      | inl earlier ↦ let low = below id earlier in omega arith
      | inr here ↦ let low = live-below ledger settled may in omega arith
    ]
below-push ledger (Settled other stamp digest) below may = λ id m.
    let low = below id (subst (λ (ids : List ℕ). Contains ids id) (dones-append ledger (Settled other stamp digest ∷ []) ∙ append-nil (dones ledger)) m) in
    let up = next_by-above (Settled other stamp digest) (next_id ledger) in
    let is = next_id-push ledger (Settled other stamp digest) in
    omega arith
below-push ledger (Floor floor next) below may = λ id m.
    let low = below id (subst (λ (ids : List ℕ). Contains ids id) (dones-append ledger (Floor floor next ∷ []) ∙ append-nil (dones ledger)) m) in
    let up = next_by-above (Floor floor next) (next_id ledger) in
    let is = next_id-push ledger (Floor floor next) in
    omega arith

settled-from : (before changes : List Change) → AreBelow before → IsLedgerFrom before changes → AreBelow (before ++ changes)
settled-from before [] below is = subst AreBelow (sym (append-nil before)) below
settled-from before (change ∷ changes) below is =
    subst AreBelow (append_assoc before (change ∷ []) changes) (settled-from (before ++ change ∷ []) changes (below-push before change below is.0) is.1)

pub settled-below : (ledger : List Change) → IsLedger ledger → (id : ℕ) → Contains (dones ledger) id → id < next_id ledger
settled-below ledger is = settled-from [] ledger (λ id m. absurd (omega (arith, m.1))) is

-- what a run makes over a ledger may stand behind it
pub made-follow : (ledger : List Change) (item : OpenRecord) → item.id ≡ next_id ledger → (IsSeen item.digest.0 ledger → ⊥) → MayFollow ledger (Open item)
made-follow ledger item new fresh = (
  record {
    above = All-by (λ other. other < item.id) (numbers ledger) (λ other m. let low = number-below 1 ledger other m in omega arith);
    next = inr new;
  },
  fresh,
)

-- what is made leaves a ledger
made-from : (base ledger changes : List Change) → IsLedger ledger → AreMadeFrom IsLive base ledger changes → IsLedger (after ledger changes)
made-from base ledger [] is h = is
made-from base ledger (Open item ∷ changes) is h =
    made-from (ledger ++ Open item ∷ []) (ledger ++ Open item ∷ []) changes (ledger-push ledger (Open item) is (made-follow ledger item h.0.0 h.0.1)) h.1
made-from base ledger (Done id ∷ changes) is h = made-from (ledger ++ Done id ∷ []) (ledger ++ Done id ∷ []) changes (ledger-push ledger (Done id) is h.0) h.1
made-from base ledger (Settled id stamp digest ∷ changes) is h = absurd h
made-from base ledger (Floor floor next ∷ changes) is h = made-from ledger (after_one ledger (Floor floor next)) changes (ledger-rise floor next ledger h.0.0 is) h.1

pub ledger-made : (ledger changes : List Change) → IsLedger ledger → AreMade IsLive ledger changes → IsLedger (after ledger changes)
ledger-made ledger changes is h = made-from ledger ledger changes is h

-- a record stays live unless one of these Dones is its own
pub live-unless_settled : (ledger : List Change) (item : OpenRecord) → Contains (opens ledger) item → Contains (live ledger) item ⊎ Contains (dones ledger) item.id
live-unless_settled ledger item m =
    (elim (list_any (λ id. eqb id item.id) (dones ledger)) as (λ b. list_any (λ id. eqb id item.id) (dones ledger) ≡ b → Contains (live ledger) item ⊎ Contains (dones ledger) item.id) [
      | true ↦ λ t.
          let at = list_any-at (λ (id : ℕ). eqb id item.id) (dones ledger) t in
          inr (subst (λ (id : ℕ). Contains (dones ledger) id) (eqb-true at.0 item.id at.2) at.1)
      | false ↦ λ f. inl (Contains-kept (is_open ledger) (opens ledger) item (ap not f) m)
    ]) refl

-- what is live was recorded and isn't settled
pub live-recorded : (ledger : List Change) (item : OpenRecord) → Contains (live ledger) item → Contains (opens ledger) item × (Contains (dones ledger) item.id → ⊥)
live-recorded ledger item m =
    let keeps : OpenRecord → Bool = λ x. not (list_any (λ id. eqb id x.id) (dones ledger)) in
    let passes : not (list_any (λ id. eqb id item.id) (dones ledger)) ≡ true = All-contains (λ (x : OpenRecord). keeps x ≡ true) (live ledger) item (filter_passes keeps (opens ledger)) m in
    (live-opens ledger item m, λ settled. let any = list_any-from (λ (id : ℕ). eqb id item.id) (dones ledger) item.id settled (eq-eqb item.id item.id refl) in absurd cc)

-- a record that is live stays it where another is settled, and where one is recorded
pub live-kept_done : (ledger : List Change) (id other : ℕ) → other ≢ id → Contains (map (λ item. item.id) (live ledger)) other → Contains (map (λ item. item.id) (live (ledger ++ Done id ∷ []))) other
live-kept_done ledger id other differs m =
    let at = Contains-unmap (λ (item : OpenRecord). item.id) (live ledger) other m in
    let kept : not (eqb id at.0.id) ≡ true = ap not (ne_eqb id at.0.id (λ same. differs (sym at.2 ∙ sym same))) in
    let still = Contains-kept (λ (item : OpenRecord). not (eqb id item.id)) (live ledger) at.0 kept at.1 in
    let there : Contains (live (ledger ++ Done id ∷ [])) at.0 = subst (λ (items : List OpenRecord). Contains items at.0) (sym (live-push_done ledger id)) still in
    subst (λ (n : ℕ). Contains (map (λ (item : OpenRecord). item.id) (live (ledger ++ Done id ∷ []))) n) at.2 (Contains-map (λ (item : OpenRecord). item.id) (live (ledger ++ Done id ∷ [])) at.0 there)

pub live-kept_open : (ledger : List Change) (item other : OpenRecord) → Contains (live ledger) other → Contains (live (ledger ++ Open item ∷ [])) other
live-kept_open ledger item other m =
    let keeps : OpenRecord → Bool = is_open ledger in
    let all : live (ledger ++ Open item ∷ []) ≡ live ledger ++ filter keeps (item ∷ []) =
    live-of (ledger ++ Open item ∷ []) (dones ledger) (opens ledger ++ item ∷ []) (dones-push_open ledger item) (opens-push_open ledger item) ∙ filter-append keeps (opens ledger) (item ∷ []) in
    subst (λ (items : List OpenRecord). Contains items other) (sym all) (Contains-append_left (live ledger) (filter keeps (item ∷ [])) other m)

-- a Floor leaves the live records
pub live-floor : (floor next : ℕ) (ledger : List Change) → next ≡ next_id ledger → live (after_one ledger (Floor floor next)) ≡ live ledger
live-floor floor next ledger e = ap (λ (n : ℕ). live (after_one ledger (Floor floor n))) e ∙ live-rise floor ledger

next-floor : (floor next : ℕ) (ledger : List Change) → next ≡ next_id ledger → next_id (after_one ledger (Floor floor next)) ≡ next_id ledger
next-floor floor next ledger e = ap (λ (n : ℕ). next_id (after_one ledger (Floor floor n))) e ∙ next_id-rise floor ledger

-- where a Done isn't the record's own, it stays live
live-other : (ledger : List Change) (id : ℕ) (item : OpenRecord) → id ≢ item.id → Contains (live ledger) item → Contains (live (ledger ++ Done id ∷ [])) item
live-other ledger id item differs m =
    subst (λ (items : List OpenRecord). Contains items item) (sym (live-push_done ledger id)) (Contains-kept (λ (r : OpenRecord). not (eqb id r.id)) (live ledger) item (ap not (ne_eqb id item.id differs)) m)

-- what is live stays so, or is settled
live-from : (MayEnd : List Change → ℕ → Type 0) (base ledger changes : List Change) → AreMadeFrom MayEnd base ledger changes → (item : OpenRecord) → Contains (live ledger) item
    → Contains (live (after ledger changes)) item ⊎ Contains (dones changes) item.id
live-from MayEnd base ledger [] h item m = inl m
live-from MayEnd base ledger (Open other ∷ changes) h item m = live-from MayEnd (ledger ++ Open other ∷ []) (ledger ++ Open other ∷ []) changes h.1 item (live-kept_open ledger other item m)
live-from MayEnd base ledger (Done id ∷ changes) h item m =
    elim (cases_eq id item.id) [
      | inl e ↦ inr (subst (λ (n : ℕ). Contains (id ∷ dones changes) n) e (Contains-head id (dones changes)))
      | inr differs ↦ elim (live-from MayEnd (ledger ++ Done id ∷ []) (ledger ++ Done id ∷ []) changes h.1 item (live-other ledger id item differs m)) [
        | inl lives ↦ inl lives
        | inr settled ↦ inr (Contains-tail id (dones changes) item.id settled)
      ]
    ]
live-from MayEnd base ledger (Settled id stamp digest ∷ changes) h item m = absurd h
live-from MayEnd base ledger (Floor floor next ∷ changes) h item m =
    live-from MayEnd ledger (after_one ledger (Floor floor next)) changes h.1 item (subst (λ (items : List OpenRecord). Contains items item) (sym (live-floor floor next ledger h.0.0)) m)

pub live-made : (MayEnd : List Change → ℕ → Type 0) (ledger changes : List Change) → AreMade MayEnd ledger changes → (item : OpenRecord) → Contains (live ledger) item
    → Contains (live (after ledger changes)) item ⊎ Contains (dones changes) item.id
live-made MayEnd ledger changes h item m = live-from MayEnd ledger ledger changes h item m

-- a record that is made is live, or is settled
below-floor : (floor next : ℕ) (ledger : List Change) → AreBelow (after_one ledger (Floor floor next))
below-floor floor next ledger id m = absurd (let none = subst (λ (ids : List ℕ). Contains ids id) (dones-kept floor ledger ledger) m in omega (arith, none.1))

live-new : (ledger : List Change) (item : OpenRecord) → AreBelow ledger → item.id ≡ next_id ledger → Contains (live (ledger ++ Open item ∷ [])) item
live-new ledger item below new =
    let none : list_any (λ d. eqb d item.id) (dones ledger) ≡ false =
    none_at_bound (dones ledger) item.id (All-by (λ id. id < item.id) (dones ledger) (λ id m. let low = below id m in omega arith)) in
    subst (λ (items : List OpenRecord). Contains items item) (sym (live-push_open ledger item none)) (Contains-append_right (live ledger) (item ∷ []) item (Contains-head item []))

opened-from : (base ledger changes : List Change) → AreBelow ledger → AreMadeFrom IsLive base ledger changes → (item : OpenRecord) → Contains (opens changes) item
    → Contains (live (after ledger changes)) item ⊎ Contains (dones changes) item.id
opened-from base ledger [] below h item m = absurd (omega (arith, m.1))
opened-from base ledger (Open other ∷ changes) below h item m =
    elim (Contains-cases other (opens changes) item m) [
      | inl e ↦
          live-from IsLive (ledger ++ Open other ∷ []) (ledger ++ Open other ∷ []) changes h.1 item
          (subst (λ (r : OpenRecord). Contains (live (ledger ++ Open other ∷ [])) r) e (live-new ledger other below h.0.0))
      | inr n ↦ opened-from (ledger ++ Open other ∷ []) (ledger ++ Open other ∷ []) changes (below-push ledger (Open other) below (made-follow ledger other h.0.0 h.0.1)) h.1 item n
    ]
opened-from base ledger (Done id ∷ changes) below h item m =
    elim (opened-from (ledger ++ Done id ∷ []) (ledger ++ Done id ∷ []) changes (below-push ledger (Done id) below h.0) h.1 item m) [
      | inl lives ↦ inl lives
      | inr settled ↦ inr (Contains-tail id (dones changes) item.id settled)
    ]
opened-from base ledger (Settled id stamp digest ∷ changes) below h item m = absurd h
opened-from base ledger (Floor floor next ∷ changes) below h item m = opened-from ledger (after_one ledger (Floor floor next)) changes (below-floor floor next ledger) h.1 item m

pub opened-made : (ledger changes : List Change) → IsLedger ledger → AreMade IsLive ledger changes → (item : OpenRecord) → Contains (opens changes) item
    → Contains (live (after ledger changes)) item ⊎ Contains (dones changes) item.id
opened-made ledger changes is h item m = opened-from ledger ledger changes (settled-below ledger is) h item m

-- what is live afterwards and has a number from before was live before
back-from : (MayEnd : List Change → ℕ → Type 0) (base ledger changes : List Change) → AreMadeFrom MayEnd base ledger changes → (item : OpenRecord) → Contains (live (after ledger changes)) item → item.id < next_id ledger
    → Contains (live ledger) item
back-from MayEnd base ledger [] h item m low = m
back-from MayEnd base ledger (Open other ∷ changes) h item m low =
    let next = next_id-push_open ledger other h.0.0 in
    let there = back-from MayEnd (ledger ++ Open other ∷ []) (ledger ++ Open other ∷ []) changes h.1 item m (omega arith) in
    let recorded = live-recorded (ledger ++ Open other ∷ []) item there in
    elim (Contains-push_cases (opens ledger) other item (subst (λ (items : List OpenRecord). Contains items item) (opens-push_open ledger other) recorded.0)) [
      | inl k ↦ elim (live-unless_settled ledger item k) [
        | inl lives ↦ lives
        | inr settled ↦ absurd (recorded.1 (subst (λ (ids : List ℕ). Contains ids item.id) (sym (dones-push_open ledger other)) settled))
      ]
      | inr e ↦ absurd (let same = ap (λ (r : OpenRecord). r.id) e in let new = h.0.0 in omega arith)
    ]
back-from MayEnd base ledger (Done id ∷ changes) h item m low =
    let next = next_id-push ledger (Done id) in
    let there = back-from MayEnd (ledger ++ Done id ∷ []) (ledger ++ Done id ∷ []) changes h.1 item m (omega arith) in
    Contains-filter (λ (r : OpenRecord). not (eqb id r.id)) (live ledger) item (subst (λ (items : List OpenRecord). Contains items item) (live-push_done ledger id) there)
back-from MayEnd base ledger (Settled id stamp digest ∷ changes) h item m low = absurd h
back-from MayEnd base ledger (Floor floor next ∷ changes) h item m low =
    let same = next-floor floor next ledger h.0.0 in
    subst (λ (items : List OpenRecord). Contains items item) (live-floor floor next ledger h.0.0) (back-from MayEnd ledger (after_one ledger (Floor floor next)) changes h.1 item m (omega arith))

pub live-back : (MayEnd : List Change → ℕ → Type 0) (ledger changes : List Change) → AreMade MayEnd ledger changes → (item : OpenRecord) → Contains (live (after ledger changes)) item → item.id < next_id ledger
    → Contains (live ledger) item
live-back MayEnd ledger changes h item m low = back-from MayEnd ledger ledger changes h item m low

behind-from : (MayEnd : List Change → ℕ → Type 0) (base ledger a b : List Change) → AreMadeFrom MayEnd base ledger (a ++ b) → (other : List Change) × AreMadeFrom MayEnd other (after ledger a) b
behind-from MayEnd base ledger [] b h = (base, h)
behind-from MayEnd base ledger (Open item ∷ a) b h = behind-from MayEnd (ledger ++ Open item ∷ []) (ledger ++ Open item ∷ []) a b h.1
behind-from MayEnd base ledger (Done id ∷ a) b h = behind-from MayEnd (ledger ++ Done id ∷ []) (ledger ++ Done id ∷ []) a b h.1
behind-from MayEnd base ledger (Settled id stamp digest ∷ a) b h = absurd h
behind-from MayEnd base ledger (Floor floor next ∷ a) b h = behind-from MayEnd ledger (after_one ledger (Floor floor next)) a b h.1

-- and so was what is live behind more changes
pub live-since : (MayEnd : List Change → ℕ → Type 0) (ledger a b : List Change) → AreMade MayEnd ledger (a ++ b) → (item : OpenRecord) → Contains (live (after (after ledger a) b)) item
    → item.id < next_id (after ledger a) → Contains (live (after ledger a)) item
live-since MayEnd ledger a b h item m low =
    let behind = behind-from MayEnd ledger ledger a b h in
    back-from MayEnd behind.0 (after ledger a) b behind.1 item m low

in-range : (a n x : ℕ) → Contains (range_with_len a n) x → (a ≤ x) × (x < a + n)
in-range a zero x m = absurd (omega (arith, m.1))
in-range a (suc n) x m =
    elim (Contains-cases a (range_with_len (a + 1) n) x m) [
      | inl same ↦ (omega (arith, same), omega (arith, same))
      | inr more ↦ let within = in-range (a + 1) n x more in let low = within.0 in let up = within.1 in (omega arith, omega arith)
    ]

apart-ids : (items : List OpenRecord) (next : ℕ) → map (λ item. item.id) items ≡ range_with_len next (length items) → AllPairs (λ a b. a.id ≢ b.id) items
apart-ids [] next e = λ i j d l k. absurd (omega arith)
apart-ids (item ∷ items) next e =
    let first : item.id ≡ next = cc in
    let rest : map (λ (r : OpenRecord). r.id) items ≡ range_with_len (next + 1) (length items) = cc in
    AllPairs-cons (λ (a b : OpenRecord). a.id ≢ b.id) item items
    (All-by (λ (other : OpenRecord). item.id ≢ other.id) items (λ other m same.
    let within = in-range (next + 1) (length items) other.id (subst (λ (ids : List ℕ). Contains ids other.id) rest (Contains-map (λ (r : OpenRecord). r.id) items other m)) in
    let low = within.0 in
    absurd (omega arith)))
    (apart-ids items (next + 1) rest)

-- the records that are made have numbers from the next on, below the one after them, and are told apart by them
pub made-above : (MayEnd : List Change → ℕ → Type 0) (ledger changes : List Change) → AreMade MayEnd ledger changes → (item : OpenRecord) → Contains (opens changes) item
    → (next_id ledger ≤ item.id) × (item.id < next_id (after ledger changes))
made-above MayEnd ledger changes h item m =
    let numbered = made-numbered MayEnd ledger changes h in
    let among : Contains (range_with_len (next_id ledger) (length (opens changes))) item.id =
    subst (λ (ids : List ℕ). Contains ids item.id) numbered.0 (Contains-map (λ (r : OpenRecord). r.id) (opens changes) item m) in
    let within = in-range (next_id ledger) (length (opens changes)) item.id among in
    let all = numbered.1 in
    (within.0, let up = within.1 in omega arith)

pub made-one : (MayEnd : List Change → ℕ → Type 0) (ledger changes : List Change) → AreMade MayEnd ledger changes → (a b : OpenRecord) → Contains (opens changes) a → Contains (opens changes) b → a.id ≡ b.id → a ≡ b
made-one MayEnd ledger changes h a b m n e =
    let numbered = made-numbered MayEnd ledger changes h in
    same_by_key (λ (r : OpenRecord). r.id) (opens changes) (apart-ids (opens changes) (next_id ledger) numbered.0) a b m n e
