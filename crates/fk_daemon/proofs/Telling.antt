-- Facts of what is told before and after calls that adjoin.
use Rattle.std.proofs.Common.{◌≡◌, ℕ, ◌<◌, ◌≤◌, Bool, true, false, List, ◌++◌, Option, Some, None, ap, ◌∙◌, arith}
use Rattle.fk_trace.specs.declared.change.Change.{Change}
use Rattle.fk_trace.specs.Trace.{Item}
use Rattle.fk_host.specs.Disk.{Areas, Told, IfTold}
use Rattle.fk_ledger.specs.Stretch.{IsLedgerOpening}
use Rattle.fk_child.specs.View.{AddsItems}
use Rattle.fk_child.proofs.Pieces.{recursion-weaker}

pub told-join : (a b c : Option Told) (F G H : Told → Told → Type 0) → ((x y z : Told) → F x y → G y z → H x z) → IfTold a b F → IfTold b c G → IfTold a c H
told-join a b None F G H join f g = tt
told-join a None (Some z) F G H join f g = absurd g
told-join None (Some y) (Some z) F G H join f g = absurd f
told-join (Some x) (Some y) (Some z) F G H join f g = join x y z f g

pub told-both : (a b : Option Told) (F G H : Told → Told → Type 0) → ((x y : Told) → F x y → G x y → H x y) → IfTold a b F → IfTold a b G → IfTold a b H
told-both a None F G H join f g = tt
told-both None (Some y) F G H join f g = absurd f
told-both (Some x) (Some y) F G H join f g = join x y f g

pub told-weaker : (a b : Option Told) (F G : Told → Told → Type 0) → ((x y : Told) → F x y → G x y) → IfTold a b F → IfTold a b G
told-weaker a None F G weaker f = tt
told-weaker None (Some y) F G weaker f = absurd f
told-weaker (Some x) (Some y) F G weaker f = weaker x y f

-- items that come behind calls that leave the trace
pub items-behind : (items : List Item) (x y z : Told) → (y.trace ≡ x.trace) × (x.moments ≤ y.moments) → AddsItems items y z → AddsItems items x z
items-behind items x y z same adds =
    let low = same.1 in
    record {
      trace = adds.trace ∙ ap (λ (trace : List Item). trace ++ items) same.0;
      placed = recursion-weaker (λ (item : Item). (y.moments < item.moments) × (item.moments ≤ z.moments)) (λ item. (x.moments < item.moments) × (item.moments ≤ z.moments))
          (λ item h. (let u = h.0 in omega arith, h.1)) items adds.placed;
      rising = adds.rising;
    }

pub opening-later : (ledger : List Change) (whole : Bool) (old new : ℕ → Areas → Type 0) (x y : Told) → IsLedgerOpening ledger whole old new x y → x.moments ≤ y.moments
opening-later ledger whole old new x y opening = let a = opening.first.since in let b = opening.then.later in omega arith

pub opened-then : (ledger : List Change) (old new : ℕ → Areas → Type 0) (x y : Told)
    → (y.trace ≡ x.trace) → IsLedgerOpening ledger true old new x y → (y.trace ≡ x.trace) × (x.moments ≤ y.moments)
opened-then ledger old new x y trace opening = (trace, opening-later ledger true old new x y opening)

-- an opening that was whole, where nothing more is said of its last moment
pub opening-weaker : (ledger : List Change) (old new : ℕ → Areas → Type 0) (x y : Told) → IsLedgerOpening ledger true old new x y → IsLedgerOpening ledger false old new x y
opening-weaker ledger old new x y opening = record {
  past = opening.past;
  unsynced = opening.unsynced;
  first = opening.first;
  then = record { later = opening.then.later; past = opening.then.past; each = opening.then.each; all = λ never. absurd cc };
}
