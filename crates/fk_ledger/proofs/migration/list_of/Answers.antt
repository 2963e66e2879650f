use Rattle.std.proofs.Common.{ℕ, List, ap, ◌∙◌, arith}
use Rattle.fk_ledger.specs.Anew.{entry_of}
use Rattle.fk_ledger.proofs.OlderLaws.{list_more}
use Rattle.fk_ledger.proofs.migration.list_of.Goals as goal

pub loop-change-preserved : goal.loop-change-preserved
loop-change-preserved c = (
  list_more c.args.changes.now c.loop-change.change-index c.change-item.result (entry_of c.deref.result.now c.write_change-kind.result) c.loop-change.bytes.items c.add_to_list.new.bytes.items c.loop-change-test.true c.change-item.is
      (ap (λ (payload : List ℕ). entry_of payload c.write_change-kind.result) c.deref.ensures.value ∙ c.write_change-kind.ensures.entry) c.loop-change.invariant.0 c.in_ok-add_to_list.ensures,
  (let same = c.write_change-kind.ensures.capacity in let room = c.loop-change.invariant.1 in omega (arith, same, room)),
)
