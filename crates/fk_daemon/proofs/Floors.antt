-- No Floor is the last change of turns that were served whole.
use Rattle.std.proofs.Common.{◌≡◌, List, [], ◌∷◌, true, false, inl, inr, refl, ap, ◌∙◌}
use Rattle.fk_trace.specs.Ledger.{after, ends_with_floor}
use Rattle.fk_trace.specs.Settled.{settled_in}
use Rattle.fk_trace.specs.Decision.{Rules, answer}
use Rattle.fk_run.specs.Place.{Place}
use Rattle.fk_run.specs.Turn.{TakenTurn, WholeTurn, after_turn}
use Rattle.fk_run.specs.Run.Ending.{AtLimit}
use Rattle.fk_run.specs.Legal.{LegalTurns}
use Rattle.fk_turn.proofs.Making.{ends-joined, ends-dones, recorded-ends}
use Rattle.fk_daemon.proofs.Behind.{changes_in}

ends-whole : (rules : Rules) (place : Place) (taken : TakenTurn) → WholeTurn rules place taken → ends_with_floor taken.changes ≡ false
ends-whole rules place taken whole =
    ap ends_with_floor whole.nothing_else.2
    ∙ ends-joined whole.settled whole.recorded
    (ap ends_with_floor whole.settles_clean_good_ends ∙ ends-dones (settled_in (whole.start ∷ place.past) whole.polled))
    (ap ends_with_floor whole.records_what_is_granted
    ∙ recorded-ends rules (after place.ledger whole.settled) taken.turn (answer rules (after place.ledger whole.settled) taken.turn) refl)

pub ends-turns : (rules : Rules) (place : Place) (turns : List TakenTurn) → LegalTurns rules place AtLimit turns → ends_with_floor (changes_in turns) ≡ false
ends-turns rules place [] legal = refl
ends-turns rules place (taken ∷ later) (inl whole) =
    ends-joined taken.changes (changes_in later) (ends-whole rules place taken whole.0) (ends-turns rules (after_turn place taken) later whole.1)
ends-turns rules place (taken ∷ later) (inr cut) = let never : false ≡ true = cut.0 in cc
