use Rattle.std.proofs.Common.{◌≡◌, length, take}
use Rattle.std.specs.List.{flat_map}
use Rattle.fk_ledger.specs.Payloads.{word_bytes}
use Rattle.fk_ledger.proofs.writing.words_len.Given as goal

abbrev pub invariant-loop-at : goal.invariant-loop-at
invariant-loop-at l = l.len ≡ length (flat_map word_bytes (take l.at l.words))
