use Rattle.fk_ledger.proofs.IndexLaws.{indexed_open, indexed_settled, indexed_done, indexed_floor}
use Rattle.fk_ledger.proofs.index.add.Goals as goal

pub returns-in-Open-clause-held : goal.returns-in-Open-clause-held
returns-in-Open-clause-held c = λ ledger before. rw c.in-Open.is (indexed_open c.args.index.now c.insert.new.index ledger before c.in-Open.item c.insert.ensures.held)

pub returns-in-Settled-clause-held : goal.returns-in-Settled-clause-held
returns-in-Settled-clause-held c = λ ledger before.
    rw c.in-Settled.is (indexed_settled c.args.index.now c.insert-in-Settled.new.index ledger before c.in-Settled.id c.in-Settled.stamp c.in-Settled.digest c.insert-in-Settled.ensures.held)

pub returns-in-Done-clause-held : goal.returns-in-Done-clause-held
returns-in-Done-clause-held c = λ ledger before. rw c.in-Done.is (indexed_done c.args.index.now c.args.index.now ledger before c.in-Done.field-0)

pub returns-in-Floor-clause-held : goal.returns-in-Floor-clause-held
returns-in-Floor-clause-held c = λ ledger before. rw c.in-Floor.is (indexed_floor c.args.index.now c.args.index.now ledger before c.in-Floor.floor c.in-Floor.next)
