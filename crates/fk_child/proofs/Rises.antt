-- A crew that is tied to a place is tied to it where the ledger begins anew: the live records, their order and the next number stay.
use Rattle.std.proofs.Common.{◌≡◌, ℕ, List, [], ◌∷◌, ap, ◌∙◌, sym, subst, arith}
use Rattle.std.specs.List.{All, Contains, filter, list_any}
use Rattle.std.specs.Prelude.{map, not, ◌==◌}
use Rattle.fk_trace.specs.declared.change.OpenRecord.{OpenRecord}
use Rattle.fk_trace.specs.declared.change.Change.{Change}
use Rattle.fk_trace.specs.Ledger.{live, next_id, rise, after_one}
use Rattle.fk_trace.proofs.Ledgers.{live-rise, next_id-rise}
use Rattle.fk_run.specs.Place.{Place, changed}
use Rattle.fk_cycle.specs.Stands.{Obligation, Stands}
use Rattle.fk_host.specs.Disk.{Above}
use Rattle.fk_ledger.specs.Book.{live_ids}
use Rattle.fk_child.specs.Crew.{CrewState, IsTied, obligation_of}

pub tied-rise : (crew : CrewState) (above : Above) (place : Place) (floor : ℕ) → IsTied crew above place → IsTied crew above (changed place (rise floor place.ledger ∷ []))
tied-rise crew above place floor tied =
    let lives : live (after_one place.ledger (rise floor place.ledger)) ≡ live place.ledger = live-rise floor place.ledger in
    let ids : live_ids (after_one place.ledger (rise floor place.ledger)) ≡ live_ids place.ledger = ap (λ (items : List OpenRecord). map (λ item. item.id) items) lives in
    record {
      owes = tied.owes ∙ sym ids;
      runs = tied.runs;
      stands = subst (λ (items : List OpenRecord). Stands crew.kept place.past place.ends (map obligation_of (filter (λ item. not (list_any (λ id. id == item.id) crew.unsettled)) items))) (sym lives) tied.stands;
      waits = subst (λ (known : List ℕ). All (Contains known) crew.unsettled) (sym ids) tied.waits;
      once = tied.once;
      unused = λ id next. tied.unused id (let same = next_id-rise floor place.ledger in omega arith);
      known = tied.known;
      below = tied.below;
    }
