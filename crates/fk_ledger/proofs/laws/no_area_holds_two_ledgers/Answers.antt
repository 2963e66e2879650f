use Rattle.fk_ledger.proofs.LedgerLaws.{one_ledger, held_undamaged, one_damage, one_shown, shown_undamaged, held_shown}
use Rattle.fk_ledger.proofs.laws.no_area_holds_two_ledgers.Goals as goal

pub returns : goal.returns
returns c = record { ledgers = one_ledger; damaged = held_undamaged; places = one_damage; changes = one_shown; sound = shown_undamaged; found = held_shown }
