use Rattle.fk_journal.proofs.Uniqueness.{one_list, not_both, one_place}
use Rattle.fk_journal.proofs.laws.no_area_holds_two_lists.Goals as goal

pub returns : goal.returns
returns c = record { lists = one_list; damaged = not_both; places = one_place }
