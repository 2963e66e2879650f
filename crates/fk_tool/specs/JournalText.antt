-- The changes that a journal holds, a line for each.
use Rattle.std.specs.Prelude.{◌≡◌, ℕ, List, [], ◌∷◌, codes, take}
use Rattle.std.specs.List.{flat_map}
use Rattle.std.specs.Fmt.{decimal}
use Rattle.hex.specs.Hex.{encode_lower}
use Rattle.fk_base.specs.Address.{ip_text}
use Rattle.fk_base.specs.PairText.{pair_text}
use Rattle.fk_trace.specs.declared.change.Change.{Change}
use Rattle.fk_trace.specs.declared.change.Change.TheVariants.{Done, Floor, Open, Settled}
use Rattle.fk_log.specs.Line.{words_text}
use Rattle.fk_tool.specs.Lines.{line_of_parts}

-- A change by its kind. An open has its number, its digest in lower case hexadecimal, its packet's stamp, when it was granted, when its
-- close is due, whom it lets in where, and the words of its close.
abbrev pub change_text : Change → List ℕ
change_text (Open item) = line_of_parts (
    codes "open" ∷ decimal item.id ∷ encode_lower item.digest.0 ∷ decimal item.stamp ∷ decimal item.moment ∷ decimal item.due
    ∷ ip_text item.ip ∷ pair_text item.pair ∷ words_text item.close ∷ []
    )
change_text (Done id) = line_of_parts (codes "done" ∷ decimal id ∷ [])
change_text (Settled id stamp digest) = line_of_parts (codes "settled" ∷ decimal id ∷ encode_lower digest.0 ∷ decimal stamp ∷ [])
change_text (Floor floor next) = line_of_parts (codes "floor" ∷ decimal floor ∷ decimal next ∷ [])

abbrev pub journal_text : List Change → List ℕ
journal_text ledger = flat_map change_text ledger

-- the text of the first so many changes
abbrev pub AreShown : List Change → ℕ → List ℕ → Type 0
AreShown ledger count text = text ≡ journal_text (take count ledger)
