-- What a datagram is: the text of a sealed plaintext without its first ten letters, and behind it the text of the HMAC of that
-- whole text.
use Rattle.std.specs.Prelude.{◌≡◌, ℕ, List, ◌++◌, drop}
use Rattle.fk_base.specs.declared.keys.Keys.{Keys}
use Rattle.fk_text.specs.Text.{text_of}
use Rattle.fk_mac.specs.Hmac.{mac_text}
use Rattle.fk_cbc.specs.Seals.{Seals}
use Rattle.fk_fields.specs.declared.fields.Fields.{Fields}
use Rattle.fk_codec.specs.Spells.{Spells}

-- the datagram of a sealed text: its HMAC is taken over the whole text, and its first ten letters are left out
abbrev pub datagram_of : Keys → List ℕ → List ℕ
datagram_of keys text = drop 10 text ++ mac_text keys.kind keys.mac_key text

-- the datagram is made of the fields' plaintext, sealed with some salt and authenticated under the keys
pub record Packs (keys : Keys) (fields : Fields) (datagram : List ℕ) : Type 0 where
  pub plain : List ℕ
  pub salt : List ℕ
  pub sealed : List ℕ
  pub spells : Spells fields plain
  pub seals : Seals keys.key salt plain sealed
  pub datagram_is : datagram ≡ datagram_of keys (text_of sealed)
