-- Which area Head selects, and what a step in one area does to it and to the others.
use Rattle.std.proofs.Common.{◌≡◌, ◌≢◌, ◌⊎◌, ℕ, ◌%◌, ◌==◌, Bool, true, false, List, [], ◌∷◌, refl, inl, inr, ap, ◌∙◌, sym, subst, Option, Some, None}
use Rattle.std.specs.Prelude.{if◌then◌else◌}
use Rattle.fk_host.specs.declared.disk.Area.{Area}
use Rattle.fk_host.specs.declared.disk.Area.TheVariants.{Head, One, Two}
use Rattle.fk_host.specs.Disk.{Areas, Told, IfTold, area_of, InArea}
use Rattle.fk_journal.specs.Head.{area_by, other_area}
use Rattle.fk_journal.specs.Keeps.{selected_area, selected, SameOthers, StandsOn, IsSettled, LeavesOthers}

by_parity : (is_even : Bool) → (if is_even then One else Two) ≡ Head → ⊥
by_parity true is = cc
by_parity false is = cc

-- Head selects an area other than itself
pub never_head : (head : List ℕ) → area_by head ≡ Head → ⊥
never_head [] is = cc
never_head (byte ∷ rest) is = by_parity (byte % 2 == 0) is

pub apart_from : (head : List ℕ) (used : Area) → area_by head ≡ used → Head ≢ used
apart_from head used is same = never_head head (is ∙ sym same)

-- a step in one area is no step in another
pub in_others : (used : Area) (Step : List ℕ → List ℕ → Type 0) (old new : Areas) → InArea used Step old new → SameOthers used old new
in_others Head Step old new step Head apart = absurd (apart refl)
in_others Head Step old new step One apart = step.1
in_others Head Step old new step Two apart = step.2
in_others One Step old new step Head apart = step.0
in_others One Step old new step One apart = absurd (apart refl)
in_others One Step old new step Two apart = step.2
in_others Two Step old new step Head apart = step.0
in_others Two Step old new step One apart = step.1
in_others Two Step old new step Two apart = absurd (apart refl)

pub in_used : (used : Area) (Step : List ℕ → List ℕ → Type 0) (old new : Areas) → InArea used Step old new → Step (area_of used old) (area_of used new)
in_used Head Step old new step = step.0
in_used One Step old new step = step.1
in_used Two Step old new step = step.2

pub bytes_of : (used : Area) (areas : Areas) → selected_area areas ≡ used → selected areas ≡ area_of used areas
bytes_of used areas is = ap (λ (area : Area). area_of area areas) is

-- what is the same in Head selects the same area
pub still_selects : (used : Area) (old new : Areas) → selected_area old ≡ used → SameOthers used old new → selected_area new ≡ used
still_selects used old new is same = ap area_by (same Head (apart_from old.head used is)) ∙ is

-- a step in the selected area is one of what is selected
pub step_selected : (used : Area) (Step : List ℕ → List ℕ → Type 0) (old new : Areas) → selected_area old ≡ used → InArea used Step old new → Step (selected old) (selected new)
step_selected used Step old new is step =
    let after : selected_area new ≡ used = still_selects used old new is (in_others used Step old new step) in
    subst (λ (bytes : List ℕ). Step bytes (selected new)) (sym (bytes_of used old is))
    (subst (λ (bytes : List ℕ). Step (area_of used old) bytes) (sym (bytes_of used new after)) (in_used used Step old new step))

-- the same of an image, which comes by the step from one of a settled disk
pub settled_selects : (used : Area) (images : ℕ → Areas → Type 0) (now : Told) (from : Areas) → selected_area now.areas ≡ used → IsSettled now images → images now.moments from → selected_area from ≡ used
settled_selects used images now from is settled left = ap area_by (settled from left).0 ∙ is

pub image_selected : (used : Area) (Step : List ℕ → List ℕ → Type 0) (images : ℕ → Areas → Type 0) (now : Told) (from image : Areas) → selected_area now.areas ≡ used → IsSettled now images
    → images now.moments from → InArea used Step from image → Step (selected now.areas) (selected image)
image_selected used Step images now from image is settled left step =
    subst (λ (bytes : List ℕ). Step bytes (selected image)) (settled from left).1
    (step_selected used Step from image (settled_selects used images now from is settled left) step)

-- the other area is neither Head nor the one that is selected
pub other_apart : (used : Area) → used ≢ other_area used
other_apart Head same = cc
other_apart One same = cc
other_apart Two same = cc

pub other_not_head : (used : Area) → Head ≢ other_area used
other_not_head Head same = cc
other_not_head One same = cc
other_not_head Two same = cc

-- Head selects this area or the other one
pub one_or_other : (used area : Area) → Head ≢ used → Head ≢ area → (area ≡ used) ⊎ (area ≡ other_area used)
one_or_other Head area apart away = absurd (apart refl)
one_or_other One Head apart away = absurd (away refl)
one_or_other One One apart away = inl refl
one_or_other One Two apart away = inr refl
one_or_other Two Head apart away = absurd (away refl)
one_or_other Two One apart away = inr refl
one_or_other Two Two apart away = inl refl

-- calls that leave the areas that don't stand for the three leave Head, which selects the same area
pub stands_kept : (area : Area) (old new : ℕ → Areas → Type 0) (s t : Option Told) → IfTold s t (LeavesOthers old new) → StandsOn area s → StandsOn area t
stands_kept area old new s None left stands = tt
stands_kept area old new None (Some y) left stands = absurd left
stands_kept area old new (Some x) (Some y) left stands = still_selects (selected_area x.areas) x.areas y.areas refl left.reads ∙ stands
