-- What is known while stanzas are tried one by one.
use Rattle.std.proofs.Common.{◌≡◌, ℕ, zero, suc, ◌+◌, ◌≤◌, Bool, true, false, List, [], ◌∷◌, ◌++◌, length, take, drop, Option, Some, None, Ok, Err, refl, sym, ◌∙◌, ap, arith, if◌then◌else◌, add-one}
use Rattle.std.specs.Prelude.{find, is_none, slice_get, unwrap_or}
use Rattle.std.specs.List.{sum_by}
use Rattle.std.specs.Option.{ok_or, option_map, option_map_or, option_or}
use Rattle.std.proofs.lemmas.List.{take-append-drop}
use Rattle.std.proofs.lemmas.List.Folds.{find-append}
use Rattle.std.proofs.lemmas.List.Sums.{sum_by-append}
use Rattle.fk_base.specs.FirstFailed.{first_failed}
use Rattle.fk_base.specs.declared.grant.Grant.{Grant}
use Rattle.fk_access.specs.declared.stanza.Stanza.{Stanza}
use Rattle.fk_packet.specs.Shape.{shape_fault}
use Rattle.fk_admit.specs.declared.refusal.Refusal.{Refusal}
use Rattle.fk_admit.specs.declared.refusal.Refusal.TheVariants.{NoStanza}
use Rattle.fk_admit.specs.Admit.{admitted, admitted_by, blocks_for, blocks_in_all, failed_condition, fields_by, first_grant, grant_of, granted_by, served_blocks, why}
use Rattle.fk_admit.specs.Arrival.{Arrival}
use Rattle.fk_admit.specs.Conditions.{serves, served_tests}

-- a list at the place of one of its items

pub drop-item : {X : Type 0} (xs : List X) (at : ℕ) (x : X) → slice_get xs at ≡ Some x → drop at xs ≡ x ∷ drop (suc at) xs
drop-item [] at x is = cc
drop-item (y ∷ xs) zero x is = let e : y ≡ x = cc in ap (λ z. z ∷ xs) e
drop-item (y ∷ xs) (suc at) x is = drop-item xs at x is

pub take-item : {X : Type 0} (xs : List X) (at : ℕ) (x : X) → slice_get xs at ≡ Some x → take (suc at) xs ≡ take at xs ++ x ∷ []
take-item [] at x is = cc
take-item (y ∷ xs) zero x is = let e : y ≡ x = cc in ap (λ z. z ∷ []) e
take-item (y ∷ xs) (suc at) x is = ap (λ zs. y ∷ zs) (take-item xs at x is)

-- one stanza

pub serves_none : (number : ℕ) (stanza : Stanza) (arrival : Arrival) → serves stanza.sources arrival.source ≡ false → granted_by number stanza arrival ≡ None
serves_none number stanza arrival other =
    ap (λ (s : Bool). if is_none (if s then first_failed (served_tests stanza arrival) else Some NoStanza)
    then option_map (grant_of number stanza arrival) (fields_by stanza arrival) else None) other

pub served_by : (number : ℕ) (stanza : Stanza) (arrival : Arrival) (found : Option Refusal) → serves stanza.sources arrival.source ≡ true →
    first_failed (served_tests stanza arrival) ≡ found →
    granted_by number stanza arrival ≡ (if is_none found then option_map (grant_of number stanza arrival) (fields_by stanza arrival) else None)
served_by number stanza arrival found served is =
    ap (λ (s : Bool). if is_none (if s then first_failed (served_tests stanza arrival) else Some NoStanza)
    then option_map (grant_of number stanza arrival) (fields_by stanza arrival) else None) served
    ∙ ap (λ (f : Option Refusal). if is_none f then option_map (grant_of number stanza arrival) (fields_by stanza arrival) else None) is

-- so many stanzas were tried, and none of them grants
pub record IsTrying (access : List Stanza) (arrival : Arrival) (at : ℕ) (first : Option Refusal) : Type 0 where
  pub grant_is : first_grant 1 access arrival ≡ first_grant (at + 1) (drop at access) arrival
  pub first_is : first ≡ option_map (failed_condition arrival) (find (λ stanza. serves stanza.sources arrival.source) (take at access))

pub trying_begins : (access : List Stanza) (arrival : Arrival) → IsTrying access arrival 0 None
trying_begins access arrival = record { grant_is = refl; first_is = refl }

next_grant : (access : List Stanza) (arrival : Arrival) (at : ℕ) (stanza : Stanza) → slice_get access at ≡ Some stanza →
    first_grant (at + 1) (drop at access) arrival ≡ option_or (granted_by (at + 1) stanza arrival) (first_grant (at + 1 + 1) (drop (suc at) access) arrival)
next_grant access arrival at stanza is = ap (λ (l : List Stanza). first_grant (at + 1) l arrival) (drop-item access at stanza is)

pub stanza_grants : (access : List Stanza) (arrival : Arrival) (at : ℕ) (stanza : Stanza) (first : Option Refusal) (grant : Grant) → IsTrying access arrival at first →
    slice_get access at ≡ Some stanza → serves stanza.sources arrival.source ≡ true → first_failed (served_tests stanza arrival) ≡ None →
    option_map (grant_of (at + 1) stanza arrival) (fields_by stanza arrival) ≡ Some grant → shape_fault arrival.datagram ≡ None →
    admitted access arrival ≡ Ok grant
stanza_grants access arrival at stanza first grant before is served passed grants shape =
    let this : granted_by (at + 1) stanza arrival ≡ Some grant = served_by (at + 1) stanza arrival None served passed ∙ grants in
    let all = before.grant_is ∙ next_grant access arrival at stanza is ∙ ap (λ (g : Option Grant). option_or g (first_grant (at + 1 + 1) (drop (suc at) access) arrival)) this in
    ap (λ f. admitted_by f access arrival) shape ∙ ap (λ (g : Option Grant). ok_or g (why access arrival)) all

find_one : (stanza : Stanza) (arrival : Arrival) (s : Bool) → serves stanza.sources arrival.source ≡ s →
    find (λ (x : Stanza). serves x.sources arrival.source) (stanza ∷ []) ≡ (if s then Some stanza else None)
find_one stanza arrival s is = ap (λ (b : Bool). if b then Some stanza else None) is

map_or : (f : Stanza → Refusal) (a b : Option Stanza) → option_map f (option_or a b) ≡ option_or (option_map f a) (option_map f b)
map_or f None b = refl
map_or f (Some x) b = refl

or_none : (a : Option Refusal) → option_or a None ≡ a
or_none None = refl
or_none (Some x) = refl

found_next : (access : List Stanza) (arrival : Arrival) (at : ℕ) (stanza : Stanza) (s : Bool) → slice_get access at ≡ Some stanza →
    serves stanza.sources arrival.source ≡ s →
    option_map (failed_condition arrival) (find (λ (x : Stanza). serves x.sources arrival.source) (take (at + 1) access))
    ≡ option_or (option_map (failed_condition arrival) (find (λ (x : Stanza). serves x.sources arrival.source) (take at access)))
    (option_map (failed_condition arrival) (if s then Some stanza else None))
found_next access arrival at stanza s is served =
    ap (λ (n : ℕ). option_map (failed_condition arrival) (find (λ (x : Stanza). serves x.sources arrival.source) (take n access))) (add-one at)
    ∙ ap (λ (l : List Stanza). option_map (failed_condition arrival) (find (λ (x : Stanza). serves x.sources arrival.source) l)) (take-item access at stanza is)
    ∙ ap (option_map (failed_condition arrival)) (find-append (λ (x : Stanza). serves x.sources arrival.source) (take at access) (stanza ∷ []))
    ∙ map_or (failed_condition arrival) (find (λ (x : Stanza). serves x.sources arrival.source) (take at access)) (find (λ (x : Stanza). serves x.sources arrival.source) (stanza ∷ []))
    ∙ ap (λ (o : Option Stanza). option_or (option_map (failed_condition arrival) (find (λ (x : Stanza). serves x.sources arrival.source) (take at access))) (option_map (failed_condition arrival) o))
    (find_one stanza arrival s served)

grants_on : (access : List Stanza) (arrival : Arrival) (at : ℕ) (stanza : Stanza) (first : Option Refusal) → IsTrying access arrival at first →
    slice_get access at ≡ Some stanza → granted_by (at + 1) stanza arrival ≡ None →
    first_grant 1 access arrival ≡ first_grant (at + 1 + 1) (drop (at + 1) access) arrival
grants_on access arrival at stanza first before is none =
    before.grant_is ∙ next_grant access arrival at stanza is
    ∙ ap (λ (g : Option Grant). option_or g (first_grant (at + 1 + 1) (drop (suc at) access) arrival)) none
    ∙ ap (λ (n : ℕ). first_grant (at + 1 + 1) (drop n access) arrival) (sym (add-one at))

pub trying_passes : (access : List Stanza) (arrival : Arrival) (at : ℕ) (stanza : Stanza) (first : Option Refusal) → IsTrying access arrival at first →
    slice_get access at ≡ Some stanza → serves stanza.sources arrival.source ≡ false → IsTrying access arrival (at + 1) first
trying_passes access arrival at stanza first before is other = record {
  grant_is = grants_on access arrival at stanza first before is (serves_none (at + 1) stanza arrival other);
  first_is = before.first_is ∙ sym (or_none _) ∙ sym (found_next access arrival at stanza false is other);
}

pub trying_goes_on : (access : List Stanza) (arrival : Arrival) (at : ℕ) (stanza : Stanza) (first next : Option Refusal) (refusal : Refusal) → IsTrying access arrival at first →
    slice_get access at ≡ Some stanza → serves stanza.sources arrival.source ≡ true → first_failed (served_tests stanza arrival) ≡ Some refusal →
    next ≡ option_or first (Some refusal) → IsTrying access arrival (at + 1) next
trying_goes_on access arrival at stanza first next refusal before is served failed next_is =
    let condition : failed_condition arrival stanza ≡ refusal = ap (λ (f : Option Refusal). unwrap_or f NoStanza) failed in
    record {
      grant_is = grants_on access arrival at stanza first before is (served_by (at + 1) stanza arrival (Some refusal) served failed);
      first_is = next_is ∙ ap (λ (f : Option Refusal). option_or f (Some refusal)) before.first_is
          ∙ ap (λ (r : Refusal). option_or (option_map (failed_condition arrival) (find (λ (x : Stanza). serves x.sources arrival.source) (take at access))) (Some r)) (sym condition)
          ∙ sym (found_next access arrival at stanza true is served);
    }

unwrapped : (f : Stanza → Refusal) (found : Option Stanza) → unwrap_or (option_map f found) NoStanza ≡ option_map_or f found NoStanza
unwrapped f None = refl
unwrapped f (Some x) = refl

pub drop-all : {X : Type 0} (xs : List X) (n : ℕ) → length xs ≤ n → drop n xs ≡ []
drop-all [] zero all = refl
drop-all [] (suc n) all = refl
drop-all (x ∷ xs) zero all = absurd (omega arith)
drop-all (x ∷ xs) (suc n) all = drop-all xs n (omega arith)

pub take-whole : {X : Type 0} (xs : List X) (n : ℕ) → length xs ≤ n → take n xs ≡ xs
take-whole [] zero all = refl
take-whole [] (suc n) all = refl
take-whole (x ∷ xs) zero all = absurd (omega arith)
take-whole (x ∷ xs) (suc n) all = ap (λ zs. x ∷ zs) (take-whole xs n (omega arith))

pub trying_ends : (access : List Stanza) (arrival : Arrival) (at : ℕ) (first : Option Refusal) → IsTrying access arrival at first → length access ≤ at →
    shape_fault arrival.datagram ≡ None → admitted access arrival ≡ Err (unwrap_or first NoStanza)
trying_ends access arrival at first before all shape =
    let none : first_grant 1 access arrival ≡ None = before.grant_is ∙ ap (λ (l : List Stanza). first_grant (at + 1) l arrival) (drop-all access at all) in
    let found : first ≡ option_map (failed_condition arrival) (find (λ (x : Stanza). serves x.sources arrival.source) access) =
    before.first_is ∙ ap (λ (l : List Stanza). option_map (failed_condition arrival) (find (λ (x : Stanza). serves x.sources arrival.source) l)) (take-whole access at all) in
    ap (λ f. admitted_by f access arrival) shape ∙ ap (λ (g : Option Grant). ok_or g (why access arrival)) none
    ∙ ap (λ (r : Refusal). Err r) (sym (unwrapped (failed_condition arrival) (find (λ (x : Stanza). serves x.sources arrival.source) access)) ∙ ap (λ (f : Option Refusal). unwrap_or f NoStanza) (sym found))

-- the blocks

pub blocks_next : (access : List Stanza) (arrival : Arrival) (at : ℕ) (stanza : Stanza) → slice_get access at ≡ Some stanza →
    sum_by (blocks_for arrival) (take (at + 1) access) ≡ sum_by (blocks_for arrival) (take at access) + blocks_for arrival stanza
blocks_next access arrival at stanza is =
    ap (λ (n : ℕ). sum_by (blocks_for arrival) (take n access)) (add-one at)
    ∙ ap (sum_by (blocks_for arrival)) (take-item access at stanza is)
    ∙ sum_by-append (blocks_for arrival) (take at access) (stanza ∷ [])
    ∙ omega arith

pub blocks_within : (access : List Stanza) (arrival : Arrival) (n : ℕ) → sum_by (blocks_for arrival) (take n access) ≤ blocks_in_all access arrival
blocks_within access arrival n =
    let parts = sum_by-append (blocks_for arrival) (take n access) (drop n access) in
    let whole = ap (sum_by (blocks_for arrival)) (take-append-drop n access) in
    omega (arith, parts, whole)

pub served_for : (arrival : Arrival) (stanza : Stanza) → serves stanza.sources arrival.source ≡ true → blocks_for arrival stanza ≡ served_blocks arrival stanza
served_for arrival stanza served = ap (λ (s : Bool). if s then served_blocks arrival stanza else 0) served
