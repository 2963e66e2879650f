use Rattle.std.proofs.Common.{◌≡◌, ◌<◌, ◌-◌, length, drop}
use Rattle.fk_journal.specs.Entries.{format_byte, contents_of, ArePlacedFrom, BeginsWith, place_behind}
use Rattle.fk_journal.proofs.entry.entries_of.Given as goal

abbrev pub invariant-loop-at : goal.invariant-loop-at
invariant-loop-at l = record {
  inside : l.at < length l.bytes;
  begins : BeginsWith format_byte (contents_of l.entries.items) (drop l.at l.bytes) l.bytes;
  place : l.at ≡ place_behind (contents_of l.entries.items);
  placed : ArePlacedFrom 1 l.entries.items;
}

abbrev pub decreases-loop-at : goal.decreases-loop-at
decreases-loop-at l = length l.bytes - l.at
