-- The texts of lines, joined from their pieces.
use Rattle.std.proofs.Common.{◌≡◌, ℕ, List, [], ◌∷◌, ◌++◌, append_assoc, append-nil}
use Rattle.fk_base.specs.Address.{ip_text}
use Rattle.fk_base.specs.PairText.{pair_text}
use Rattle.fk_trace.specs.declared.change.OpenRecord.{OpenRecord}
use Rattle.fk_log.specs.Line.{number_text, words_text, listed_text}

-- six values with spaces between them
spaced : (a b c d e f : List ℕ)
    → a ++ 32 ∷ (b ++ 32 ∷ (c ++ 32 ∷ (d ++ 32 ∷ (e ++ 32 ∷ (f ++ [])))))
    ≡ (((((((((a ++ 32 ∷ []) ++ b) ++ 32 ∷ []) ++ c) ++ 32 ∷ []) ++ d) ++ 32 ∷ []) ++ e) ++ 32 ∷ []) ++ f
spaced a b c d e f = simp (append_assoc, append-nil)

pub listed_pieces : (item : OpenRecord)
    → number_text item.id ++ 32 ∷ (number_text item.moment ++ 32 ∷ (number_text item.due ++ 32 ∷ (ip_text item.ip ++ 32 ∷ (pair_text item.pair ++ 32 ∷ (words_text item.close ++ [])))))
    ≡ listed_text item
listed_pieces item = spaced (number_text item.id) (number_text item.moment) (number_text item.due) (ip_text item.ip) (pair_text item.pair) (words_text item.close)
