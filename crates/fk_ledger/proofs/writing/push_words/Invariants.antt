use Rattle.std.proofs.Common.{◌≡◌, ◌++◌, ◌∷◌, length, take, vec_capacity}
use Rattle.std.specs.List.{flat_map}
use Rattle.fk_ledger.specs.Payloads.{word_bytes}
use Rattle.fk_ledger.proofs.writing.push_words.Given as goal

abbrev pub invariant-loop-at : goal.invariant-loop-at
invariant-loop-at l =
    (l.buffer.items ≡ l.fn.buffer.items ++ length l.words ∷ flat_map word_bytes (take l.at l.words)) × (vec_capacity l.buffer ≡ vec_capacity l.fn.buffer)
