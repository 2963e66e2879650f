use Rattle.std.proofs.Common.{Ok, take}
use Rattle.std.specs.List.{flat_map}
use Rattle.fk_log.specs.Private.{Puts, desk}
use Rattle.fk_log.proofs.draft.Draft.put_each.Given as goal

abbrev pub invariant-loop-text : goal.invariant-loop-text
invariant-loop-text g l =
    Puts {T = Unit {0}} (flat_map (λ text. text.now) (take l.text-index l.texts)) (Ok tt)
    (desk l.initial.self (g.K.Sink.written l.initial.out) (g.K.Sink.faults l.initial.out))
    (desk l.self (g.K.Sink.written l.out) (g.K.Sink.faults l.out))
