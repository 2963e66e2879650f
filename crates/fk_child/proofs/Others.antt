-- The areas on which the ledger does not stand are left: by calls that leave all areas, and by calls that adjoin.
use Rattle.std.proofs.Common.{◌≡◌, ℕ, ◌≤◌, Option, Some, None, refl, ap, ◌∙◌, sym, subst, arith, inl, inr}
use Rattle.std.proofs.lemmas.Bool.{cases_lt}
use Rattle.fk_host.specs.declared.disk.Area.{Area}
use Rattle.fk_host.specs.Disk.{Areas, Told, IfTold, KeepsPast, LeavesAreas, area_of}
use Rattle.fk_journal.specs.Keeps.{selected_area, StandsOn, LeavesAllBut, LeavesOthers}
use Rattle.fk_journal.proofs.Areas.{still_selects}
use Rattle.fk_ledger.specs.Book.{Book}
use Rattle.fk_child.specs.View.{View, Moments, StandsOnArea, SelectsTheSame, SparesOthers}

pub others-left : (old new : ℕ → Areas → Type 0) (x y : Told) → LeavesAreas old new x y → LeavesOthers old new x y
others-left old new x y left = record {
  reads = λ area apart. ap (λ (areas : Areas). area_of area areas) left.reads;
  each = λ k image behind upto here. (image, left.each k image behind upto here, λ area apart. refl);
}

others-both : (used : Area) (p q r : ℕ → Areas → Type 0) (x y z : Told) → x.moments ≤ y.moments → KeepsPast x.moments p q → KeepsPast y.moments q r
    → LeavesAllBut used p q x y → LeavesAllBut used q r y z → LeavesAllBut used p r x z
others-both used p q r x y z later before past first second = record {
  reads = λ area apart. second.reads area apart ∙ first.reads area apart;
  each = λ k image behind upto here.
      elim (cases_lt y.moments k) [
        | inr low ↦ first.each k image behind low ((past k image low).0 here)
        | inl high ↦
            let from = second.each k image high upto here in
            elim (cases_lt x.moments y.moments) [
              | inl moved ↦
                  let start = first.each y.moments from.0 moved (omega arith) from.1 in
                  (start.0, start.1, λ area apart. from.2 area apart ∙ start.2 area apart)
              | inr still ↦
                  let same : y.moments ≡ x.moments = omega (arith, still, later) in
                  (from.0, (before x.moments from.0 (omega arith)).0 (subst (λ (n : ℕ). q n from.0) same from.1), from.2)
            ]
      ];
}

-- the first leave Head too, so both use the same area
pub others-then : (p q r : ℕ → Areas → Type 0) (x y z : Told) → x.moments ≤ y.moments → KeepsPast x.moments p q → KeepsPast y.moments q r
    → LeavesOthers p q x y → LeavesOthers q r y z → LeavesOthers p r x z
others-then p q r x y z later before past first second =
    let same : selected_area y.areas ≡ selected_area x.areas = still_selects (selected_area x.areas) x.areas y.areas refl first.reads in
    others-both (selected_area x.areas) p q r x y z later before past first (subst (λ (used : Area). LeavesAllBut used q r y z) same second)

-- the same of calls of which more is told
pub others-told : (First Second : ℕ → ℕ → Areas → Type 0) (m n : ℕ) (p q r : ℕ → Areas → Type 0) (s t u : Option Told) → IfTold s t (Moments First m p q) → IfTold t u (Moments Second n q r)
    → IfTold s t (LeavesOthers p q) → IfTold t u (LeavesOthers q r) → IfTold s u (LeavesOthers p r)
others-told First Second m n p q r s t None a b c d = tt
others-told First Second m n p q r s None (Some z) a b c d = absurd b
others-told First Second m n p q r None (Some y) (Some z) a b c d = absurd a
others-told First Second m n p q r (Some x) (Some y) (Some z) a b c d = others-then p q r x y z a.later a.past b.past c d

-- Head selects the same area where the others are left, since it is one of them
selects-told : (old new : ℕ → Areas → Type 0) (first last : Option Told) → IfTold first last (LeavesOthers old new) → IfTold first last (λ before later. selected_area later.areas ≡ selected_area before.areas)
selects-told old new first None spares = tt
selects-told old new None (Some y) spares = absurd spares
selects-told old new (Some x) (Some y) spares = still_selects (selected_area x.areas) x.areas y.areas refl spares.reads

pub others-select : (old new : View) → SparesOthers old new → SelectsTheSame old new
others-select old new spares = selects-told old.images new.images old.told new.told spares

-- a ledger goes on to stand on its area where the calls leave what Head selects
stands-still : (area : Area) (old new : Option Told) → IfTold old new (λ before later. selected_area later.areas ≡ selected_area before.areas) → StandsOn area old → StandsOn area new
stands-still area old None same stands = tt
stands-still area None (Some y) same stands = absurd same
stands-still area (Some x) (Some y) same stands = same ∙ stands

pub area-kept : (old_book new_book : Book) (old new : View) → new_book.area ≡ old_book.area → SelectsTheSame old new → StandsOnArea old_book.area old → StandsOnArea new_book.area new
area-kept old_book new_book old new same selects stands =
    subst (λ (area : Area). StandsOnArea area new) (sym same) (stands-still old_book.area old.told new.told selects stands)
