use Rattle.std.proofs.Common.{◌+◌, ◌≤◌}
use Rattle.fk_packet.specs.Pick.{blocks_under_each}
use Rattle.fk_admit.specs.Private.{arrival_of}
use Rattle.fk_admit.proofs.PickedPairs.{IsPicking, front}
use Rattle.fk_admit.proofs.picking.pick_fields.Given as goal

abbrev pub invariant-loop-at : goal.invariant-loop-at
invariant-loop-at g l = record {
  picking : IsPicking l.stanza (arrival_of l.fn.arriving) l.at l.first;
  least : l.fn.steps ≤ l.steps;
  most : l.steps ≤ l.fn.steps + blocks_under_each (front l.stanza (arrival_of l.fn.arriving) l.at) l.fn.arriving.datagram.now;
}
