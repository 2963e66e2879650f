-- What the contracts of this crate's private functions alone speak of. No public contract cites it, so no caller has to
-- believe it.
use Rattle.std.specs.Prelude.{◌≡◌, ℕ, List}
use Rattle.fk_base.specs.Bytes.{IsBytes}
use Rattle.fk_text.specs.Text.{text_of}

-- the text is that of some list of bytes
abbrev pub IsText : List ℕ → Type 0
IsText text = (bytes : List ℕ) × IsBytes bytes × (text ≡ text_of bytes)
