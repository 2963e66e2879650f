use Rattle.std.proofs.Common.{◌≤◌, length, List, ℕ, sym, subst, arith}
use Rattle.fk_ledger.specs.Payloads.{record_bytes, IsRecord, IsChange}
use Rattle.fk_ledger.proofs.RoomLaws.{short_record}
use Rattle.fk_ledger.proofs.migration.write_change.Goals as goal

pub write_record-requires-clause-room : goal.write_record-requires-clause-room
write_record-requires-clause-room c =
    let is : IsRecord c.in-Open.item = subst IsChange c.in-Open.is c.requires.change in
    let short : length (record_bytes c.in-Open.item) ≤ 12136 = short_record c.in-Open.item is in
    omega (arith, short, c.requires.room)

pub returns-in-Open-clause-bound : goal.returns-in-Open-clause-bound
returns-in-Open-clause-bound c = subst (λ (bytes : List ℕ). length bytes ≤ 12136) (sym c.write_record.ensures.bytes) (short_record c.in-Open.item c.write_record.ensures.values)
