-- What a run makes over a ledger: records that are numbered on, of digests that the ledger has not seen and of keys that it doesn't bar,
-- and Dones of which something else is asked.
use Rattle.std.proofs.Common.{◌≡◌, ℕ, ◌+◌, ◌<◌, ◌≤◌, List, [], ◌∷◌, ◌++◌, length, map, refl, sym, ap, ◌∙◌, subst, arith, inl, inr}
use Rattle.std.specs.List.{AllPairs, Contains, range_with_len}
use Rattle.std.proofs.lemmas.Bool.{cases_lt}
use Rattle.std.proofs.lemmas.List.Elements.{Contains-append_left, Contains-append_right}
use Rattle.std.proofs.lemmas.List.Kept.{AllPairs-cons}
use Rattle.fk_trace.specs.declared.change.OpenRecord.{OpenRecord}
use Rattle.fk_trace.specs.declared.change.Change.{Change}
use Rattle.fk_trace.specs.declared.change.Change.TheVariants.{Open, Done, Settled, Floor}
use Rattle.fk_trace.specs.Ledger.{Key, key_of, opens, live, seen, next_id, floor_of, rise, after_one, after, State, state_of, Bars, IsLater, IsSeen}
use Rattle.fk_trace.proofs.Lists.{Contains-head, Contains-cases, Contains-map, Contains-unmap, All-by}
use Rattle.fk_trace.proofs.Ledgers.{seen-push_open, seen-push_done, next_id-push, next_id-push_open, floor_from-append, kept-seen, floor-rise, next_id-rise}

-- The changes may be made over the ledger one after another; of a Done this is asked at its place. Where a Floor stands directly before a
-- record, its key is one that the ledger before that Floor, the base, did not bar.
abbrev pub AreMadeFrom : (List Change → ℕ → Type 0) → List Change → List Change → List Change → Type 0
AreMadeFrom MayEnd base ledger [] = Unit {0}
AreMadeFrom MayEnd base ledger (Open item ∷ changes) =
    ((item.id ≡ next_id ledger) × (IsSeen item.digest.0 ledger → ⊥) × (Bars (state_of base) (key_of item) → ⊥))
    × AreMadeFrom MayEnd (after_one ledger (Open item)) (after_one ledger (Open item)) changes
AreMadeFrom MayEnd base ledger (Done id ∷ changes) = MayEnd ledger id × AreMadeFrom MayEnd (after_one ledger (Done id)) (after_one ledger (Done id)) changes
AreMadeFrom MayEnd base ledger (Settled id stamp digest ∷ changes) = ⊥
AreMadeFrom MayEnd base ledger (Floor floor next ∷ changes) =
    ((next ≡ next_id ledger) × (floor_of ledger ≤ floor)) × AreMadeFrom MayEnd ledger (after_one ledger (Floor floor next)) changes

abbrev pub AreMade : (List Change → ℕ → Type 0) → List Change → List Change → Type 0
AreMade MayEnd ledger changes = AreMadeFrom MayEnd ledger ledger changes

-- a Done of a live record, and any Done
abbrev pub IsLive : List Change → ℕ → Type 0
IsLive ledger id = Contains (map (λ item. item.id) (live ledger)) id

abbrev pub Whatever : List Change → ℕ → Type 0
Whatever ledger id = Unit {0}

-- the Floor is the one with which the ledger begins anew
as_rise : (floor next : ℕ) (ledger : List Change) → next ≡ next_id ledger → after_one ledger (Floor floor next) ≡ after_one ledger (rise floor ledger)
as_rise floor next ledger e = ap (λ (n : ℕ). after_one ledger (Floor floor n)) e

-- what bars a key bars each of the same digest with the same stamp or an earlier one
pub bars-earlier : (state : State) (key other : Key) → Bars state key → other.digest ≡ key.digest → other.stamp ≤ key.stamp → Bars state other
bars-earlier state key other (inl found) same earlier = inl (found.0, found.1, found.2 ∙ sym same, let le = found.3 in omega arith)
bars-earlier state key other (inr below) same earlier = inr (omega arith)

-- of two keys of which the one is barred and the other isn't, the other is later
pub later-unbarred : (state : State) (key other : Key) → Bars state key → (Bars state other → ⊥) → IsLater key other
later-unbarred state key other barred free same =
    grind (arith, λ (le : other.stamp ≤ key.stamp). free (bars-earlier state key other barred (sym same) le))

-- one more record is barred, and what was barred is barred still
bars-open : (ledger : List Change) (item : OpenRecord) (key : Key) → Bars (state_of ledger) key → Bars (state_of (ledger ++ Open item ∷ [])) key
bars-open ledger item key (inl found) =
    inl (found.0, subst (λ (keys : List Key). Contains keys found.0) (sym (seen-push_open ledger item)) (Contains-append_left (seen ledger) (key_of item ∷ []) found.0 found.1), found.2, found.3)
bars-open ledger item key (inr below) = inr (let same = floor_from-append 0 ledger (Open item ∷ []) in omega arith)

bars-done : (ledger : List Change) (id : ℕ) (key : Key) → Bars (state_of ledger) key → Bars (state_of (ledger ++ Done id ∷ [])) key
bars-done ledger id key (inl found) = inl (found.0, subst (λ (keys : List Key). Contains keys found.0) (sym (seen-push_done ledger id)) found.1, found.2, found.3)
bars-done ledger id key (inr below) = inr (let same = floor_from-append 0 ledger (Done id ∷ []) in omega arith)

bars-rise : (floor next : ℕ) (ledger : List Change) (key : Key) → next ≡ next_id ledger → floor_of ledger ≤ floor → Bars (state_of ledger) key → Bars (state_of (after_one ledger (Floor floor next))) key
bars-rise floor next ledger key e up (inl found) =
    elim (cases_lt key.stamp floor) [
      | inl below ↦ inr (subst (λ (n : ℕ). key.stamp < n) (sym (floor-rise floor ledger)) below)
      | inr above ↦ let le = found.3 in inl (found.0, kept-seen floor ledger ledger found.0 found.1 (omega arith), found.2, found.3)
    ]
bars-rise floor next ledger key e up (inr below) = inr (let same = floor-rise floor ledger in omega arith)

barred-open : (ledger : List Change) (item : OpenRecord) → Bars (state_of (ledger ++ Open item ∷ [])) (key_of item)
barred-open ledger item =
    inl (
      key_of item,
      subst (λ (keys : List Key). Contains keys (key_of item)) (sym (seen-push_open ledger item)) (Contains-append_right (seen ledger) (key_of item ∷ []) (key_of item) (Contains-head (key_of item) [])),
      refl,
      omega arith,
    )

-- what the one ledger bars the other bars too
abbrev Upholds : List Change → List Change → Type 0
Upholds base ledger = (key : Key) → Bars (state_of base) key → Bars (state_of ledger) key

module _ (MayEnd : List Change → ℕ → Type 0) where
  -- the base may be one that bars less
  made-based : (other base ledger changes : List Change) → Upholds other base → AreMadeFrom MayEnd base ledger changes → AreMadeFrom MayEnd other ledger changes
  made-based other base ledger [] upholds h = tt
  made-based other base ledger (Open item ∷ changes) upholds h = ((h.0.0, h.0.1, λ barred. h.0.2 (upholds (key_of item) barred)), h.1)
  made-based other base ledger (Done id ∷ changes) upholds h = h
  made-based other base ledger (Settled id stamp digest ∷ changes) upholds h = h
  made-based other base ledger (Floor floor next ∷ changes) upholds h = h

  joined-from : (base ledger a b : List Change) → Upholds base ledger → AreMadeFrom MayEnd base ledger a → AreMade MayEnd (after ledger a) b → AreMadeFrom MayEnd base ledger (a ++ b)
  joined-from base ledger [] b upholds h g = made-based base ledger ledger b upholds g
  joined-from base ledger (Open item ∷ a) b upholds h g = (h.0, joined-from (ledger ++ Open item ∷ []) (ledger ++ Open item ∷ []) a b (λ key barred. barred) h.1 g)
  joined-from base ledger (Done id ∷ a) b upholds h g = (h.0, joined-from (ledger ++ Done id ∷ []) (ledger ++ Done id ∷ []) a b (λ key barred. barred) h.1 g)
  joined-from base ledger (Settled id stamp digest ∷ a) b upholds h g = absurd h
  joined-from base ledger (Floor floor next ∷ a) b upholds h g =
      (h.0, joined-from ledger (after_one ledger (Floor floor next)) a b (λ key barred. bars-rise floor next ledger key h.0.0 h.0.1 barred) h.1 g)

  pub made-joined : (ledger a b : List Change) → AreMade MayEnd ledger a → AreMade MayEnd (after ledger a) b → AreMade MayEnd ledger (a ++ b)
  made-joined ledger a b h g = joined-from ledger ledger a b (λ key barred. barred) h g

  front-from : (base ledger a b : List Change) → AreMadeFrom MayEnd base ledger (a ++ b) → AreMadeFrom MayEnd base ledger a
  front-from base ledger [] b h = tt
  front-from base ledger (Open item ∷ a) b h = (h.0, front-from (ledger ++ Open item ∷ []) (ledger ++ Open item ∷ []) a b h.1)
  front-from base ledger (Done id ∷ a) b h = (h.0, front-from (ledger ++ Done id ∷ []) (ledger ++ Done id ∷ []) a b h.1)
  front-from base ledger (Settled id stamp digest ∷ a) b h = absurd h
  front-from base ledger (Floor floor next ∷ a) b h = (h.0, front-from ledger (after_one ledger (Floor floor next)) a b h.1)

  pub made-front : (ledger a b : List Change) → AreMade MayEnd ledger (a ++ b) → AreMade MayEnd ledger a
  made-front ledger a b h = front-from ledger ledger a b h

  -- the records are numbered on
  numbered-from : (base ledger changes : List Change) → AreMadeFrom MayEnd base ledger changes
      → (map (λ item. item.id) (opens changes) ≡ range_with_len (next_id ledger) (length (opens changes))) × (next_id (after ledger changes) ≡ next_id ledger + length (opens changes))
  numbered-from base ledger [] h = (refl, omega arith)
  numbered-from base ledger (Open item ∷ changes) h =
      let rest = numbered-from (ledger ++ Open item ∷ []) (ledger ++ Open item ∷ []) changes h.1 in
      let next = next_id-push_open ledger item h.0.0 in (
        ap (λ (n : ℕ). n ∷ map (λ (r : OpenRecord). r.id) (opens changes)) h.0.0 ∙ ap (λ (ns : List ℕ). next_id ledger ∷ ns) (rest.0 ∙ ap (λ (n : ℕ). range_with_len n (length (opens changes))) next),
        let there = rest.1 in omega arith,
      )
  numbered-from base ledger (Done id ∷ changes) h =
      let rest = numbered-from (ledger ++ Done id ∷ []) (ledger ++ Done id ∷ []) changes h.1 in
      let next = next_id-push ledger (Done id) in
      (rest.0 ∙ ap (λ (n : ℕ). range_with_len n (length (opens changes))) next, let there = rest.1 in omega arith)
  numbered-from base ledger (Settled id stamp digest ∷ changes) h = absurd h
  numbered-from base ledger (Floor floor first ∷ changes) h =
      let rest = numbered-from ledger (after_one ledger (Floor floor first)) changes h.1 in
      let next : next_id (after_one ledger (Floor floor first)) ≡ next_id ledger = ap next_id (as_rise floor first ledger h.0.0) ∙ next_id-rise floor ledger in
      (rest.0 ∙ ap (λ (n : ℕ). range_with_len n (length (opens changes))) next, rest.1 ∙ ap (λ (n : ℕ). n + length (opens changes)) next)

  pub made-numbered : (ledger changes : List Change) → AreMade MayEnd ledger changes
      → (map (λ item. item.id) (opens changes) ≡ range_with_len (next_id ledger) (length (opens changes))) × (next_id (after ledger changes) ≡ next_id ledger + length (opens changes))
  made-numbered ledger changes h = numbered-from ledger ledger changes h

  -- what a ledger bars is barred for good
  bars-from : (base ledger changes : List Change) → AreMadeFrom MayEnd base ledger changes → (key : Key) → Bars (state_of ledger) key → Bars (state_of (after ledger changes)) key
  bars-from base ledger [] h key barred = barred
  bars-from base ledger (Open item ∷ changes) h key barred = bars-from (ledger ++ Open item ∷ []) (ledger ++ Open item ∷ []) changes h.1 key (bars-open ledger item key barred)
  bars-from base ledger (Done id ∷ changes) h key barred = bars-from (ledger ++ Done id ∷ []) (ledger ++ Done id ∷ []) changes h.1 key (bars-done ledger id key barred)
  bars-from base ledger (Settled id stamp digest ∷ changes) h key barred = absurd h
  bars-from base ledger (Floor floor next ∷ changes) h key barred = bars-from ledger (after_one ledger (Floor floor next)) changes h.1 key (bars-rise floor next ledger key h.0.0 h.0.1 barred)

  pub made-bars : (ledger changes : List Change) → AreMade MayEnd ledger changes → (key : Key) → Bars (state_of ledger) key → Bars (state_of (after ledger changes)) key
  made-bars ledger changes h key barred = bars-from ledger ledger changes h key barred

  -- no record has a key that was barred
  fresh-from : (base ledger changes : List Change) → Upholds base ledger → AreMadeFrom MayEnd base ledger changes → (item : OpenRecord) → Contains (opens changes) item → Bars (state_of base) (key_of item) → ⊥
  fresh-from base ledger [] upholds h item m barred = absurd (omega (arith, m.1))
  fresh-from base ledger (Open made ∷ changes) upholds h item m barred =
      elim (Contains-cases made (opens changes) item m) [
        | inl e ↦ h.0.2 (subst (λ (r : OpenRecord). Bars (state_of base) (key_of r)) (sym e) barred)
        | inr n ↦ fresh-from (ledger ++ Open made ∷ []) (ledger ++ Open made ∷ []) changes (λ key b. b) h.1 item n (bars-open ledger made (key_of item) (upholds (key_of item) barred))
      ]
  fresh-from base ledger (Done id ∷ changes) upholds h item m barred =
      fresh-from (ledger ++ Done id ∷ []) (ledger ++ Done id ∷ []) changes (λ key b. b) h.1 item m (bars-done ledger id (key_of item) (upholds (key_of item) barred))
  fresh-from base ledger (Settled id stamp digest ∷ changes) upholds h item m barred = absurd h
  fresh-from base ledger (Floor floor next ∷ changes) upholds h item m barred =
      fresh-from ledger (after_one ledger (Floor floor next)) changes (λ key b. bars-rise floor next ledger key h.0.0 h.0.1 b) h.1 item m (upholds (key_of item) barred)

  pub made-fresh : (ledger changes : List Change) → AreMade MayEnd ledger changes → (item : OpenRecord) → Contains (opens changes) item → Bars (state_of ledger) (key_of item) → ⊥
  made-fresh ledger changes h item m barred = fresh-from ledger ledger changes (λ key b. b) h item m barred

  -- and each key is barred behind its record
  barred-from : (base ledger changes : List Change) → AreMadeFrom MayEnd base ledger changes → (item : OpenRecord) → Contains (opens changes) item → Bars (state_of (after ledger changes)) (key_of item)
  barred-from base ledger [] h item m = absurd (omega (arith, m.1))
  barred-from base ledger (Open made ∷ changes) h item m =
      elim (Contains-cases made (opens changes) item m) [
        | inl e ↦
            bars-from (ledger ++ Open made ∷ []) (ledger ++ Open made ∷ []) changes h.1 (key_of item)
            (subst (λ (r : OpenRecord). Bars (state_of (ledger ++ Open made ∷ [])) (key_of r)) e (barred-open ledger made))
        | inr n ↦ barred-from (ledger ++ Open made ∷ []) (ledger ++ Open made ∷ []) changes h.1 item n
      ]
  barred-from base ledger (Done id ∷ changes) h item m = barred-from (ledger ++ Done id ∷ []) (ledger ++ Done id ∷ []) changes h.1 item m
  barred-from base ledger (Settled id stamp digest ∷ changes) h item m = absurd h
  barred-from base ledger (Floor floor next ∷ changes) h item m = barred-from ledger (after_one ledger (Floor floor next)) changes h.1 item m

  pub made-barred : (ledger changes : List Change) → AreMade MayEnd ledger changes → (item : OpenRecord) → Contains (opens changes) item → Bars (state_of (after ledger changes)) (key_of item)
  made-barred ledger changes h item m = barred-from ledger ledger changes h item m

  -- so that of two records of one digest the later has a later stamp
  apart-from : (base ledger changes : List Change) → AreMadeFrom MayEnd base ledger changes → AllPairs IsLater (map key_of (opens changes))
  apart-from base ledger [] h = λ i j d l k. absurd (omega arith)
  apart-from base ledger (Open item ∷ changes) h =
      AllPairs-cons IsLater (key_of item) (map key_of (opens changes))
      (All-by (IsLater (key_of item)) (map key_of (opens changes)) (λ key m.
      let at = Contains-unmap key_of (opens changes) key m in
      subst (λ (other : Key). IsLater (key_of item) other) at.2
      (later-unbarred (state_of (ledger ++ Open item ∷ [])) (key_of item) (key_of at.0) (barred-open ledger item) (made-fresh (ledger ++ Open item ∷ []) changes h.1 at.0 at.1))))
      (apart-from (ledger ++ Open item ∷ []) (ledger ++ Open item ∷ []) changes h.1)
  apart-from base ledger (Done id ∷ changes) h = apart-from (ledger ++ Done id ∷ []) (ledger ++ Done id ∷ []) changes h.1
  apart-from base ledger (Settled id stamp digest ∷ changes) h = absurd h
  apart-from base ledger (Floor floor next ∷ changes) h = apart-from ledger (after_one ledger (Floor floor next)) changes h.1

  pub made-apart : (ledger changes : List Change) → AreMade MayEnd ledger changes → AllPairs IsLater (map key_of (opens changes))
  made-apart ledger changes h = apart-from ledger ledger changes h

-- any Dones may be made
pub made-dones : (ledger : List Change) (ids : List ℕ) → AreMade Whatever ledger (map Done ids)
made-dones ledger [] = tt
made-dones ledger (id ∷ ids) = (tt, made-dones (ledger ++ Done id ∷ []) ids)

-- a digest that was not seen, with a stamp that is not below the floor, is a key that isn't barred
pub unbarred : (ledger : List Change) (key : Key) → (IsSeen key.digest ledger → ⊥) → floor_of ledger ≤ key.stamp → Bars (state_of ledger) key → ⊥
unbarred ledger key fresh current (inl found) =
    fresh (subst (λ (digest : List ℕ). IsSeen digest ledger) found.2 (Contains-map (λ (other : Key). other.digest) (seen ledger) found.0 found.1))
unbarred ledger key fresh current (inr below) = absurd (omega arith)
