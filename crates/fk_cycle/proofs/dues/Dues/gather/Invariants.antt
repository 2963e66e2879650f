use Rattle.std.proofs.Common.{◌≡◌, ◌++◌, length, map}
use Rattle.fk_cycle.specs.Private.{IsTimed, HasPassed, entry_of}
use Rattle.fk_cycle.proofs.dues.Dues.gather.Given as goal

abbrev pub invariant-loop : goal.invariant-loop
invariant-loop l =
    record {
      timed : IsTimed (map entry_of l.records.kept) (l.self.come ++ l.self.waiting);
      passed : HasPassed l.self.at l.records.kept l.self.passed l.self.come;
      room : l.self.room ≡ l.initial.self.room;
    }

abbrev pub decreases-loop : goal.decreases-loop
decreases-loop l = length l.self.waiting
