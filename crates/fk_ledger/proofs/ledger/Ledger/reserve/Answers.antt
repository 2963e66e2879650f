use Rattle.std.proofs.Common.{refl, arith}
use Rattle.fk_ledger.specs.declared.ledger.Ledger.TheInside.{Inside}
use Rattle.fk_ledger.proofs.RoomLaws.{order_kept}
use Rattle.fk_ledger.proofs.ledger.Ledger.reserve.Goals as goal

pub invariant_of-self-in_err-reserve-3 : goal.invariant_of-self-in_err-reserve-3
invariant_of-self-in_err-reserve-3 c =
    let other : Inside = record c.self.inside { journal = c.reserve-2.new.self; changes = c.reserve-3.new.self; index = c.self.inside.index; payload = c.reserve.new.self } in
    order_kept c.self.inside other c.self.invariant c.in_ok-reserve-2.ensures.rest c.in_ok-reserve-2.ensures.more c.in_err-reserve-3.ensures.items c.in_err-reserve-3.ensures.capacity (omega (arith, c.in_ok-reserve.ensures.capacity, c.clear.ensures.capacity)) (λ digest. refl) refl refl refl refl

pub invariant_of-self-in_err-widen : goal.invariant_of-self-in_err-widen
invariant_of-self-in_err-widen c =
    let other : Inside = record c.self.inside { journal = c.reserve-2.new.self; changes = c.reserve-3.new.self; index = c.widen.new.index; payload = c.reserve.new.self } in
    order_kept c.self.inside other c.self.invariant c.in_ok-reserve-2.ensures.rest c.in_ok-reserve-2.ensures.more c.in_ok-reserve-3.ensures.items c.in_ok-reserve-3.ensures.capacity (omega (arith, c.in_ok-reserve.ensures.capacity, c.clear.ensures.capacity)) c.in_err-widen.ensures.same refl refl refl refl

pub invariant_of-self-2 : goal.invariant_of-self-2
invariant_of-self-2 c =
    let other : Inside = record c.self.inside { journal = c.reserve-2.new.self; changes = c.reserve-3.new.self; index = c.widen.new.index; payload = c.reserve.new.self } in
    order_kept c.self.inside other c.self.invariant c.in_ok-reserve-2.ensures.rest c.in_ok-reserve-2.ensures.more c.in_ok-reserve-3.ensures.items c.in_ok-reserve-3.ensures.capacity (omega (arith, c.in_ok-reserve.ensures.capacity, c.clear.ensures.capacity)) c.in_ok-widen.ensures.same refl refl refl refl
