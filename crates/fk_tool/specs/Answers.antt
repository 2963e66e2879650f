-- What is printed for the lines of an input that is to be packed or opened, line by line.
use Rattle.std.specs.Prelude.{◌≡◌, ℕ, ◌<◌, Bool, ◌&&◌, nat_le, IsTrue, IsSome, List, [], ◌∷◌, ◌++◌, Some, codes, length}
use Rattle.std.specs.List.{list_all}
use Rattle.std.specs.Option.{option_or}
use Rattle.fk_fields.specs.declared.fields.Fields.{Fields}
use Rattle.fk_packet.specs.Packs.{Packs}
use Rattle.fk_client.specs.Settle.{ask_of}
use Rattle.fk_client.specs.declared.sealed.Sealing.{Sealing}
use Rattle.fk_tool.specs.DecodedText.{decoded_line}
use Rattle.fk_tool.specs.EncodeLine.{Asked, asked_in}
use Rattle.fk_tool.specs.declared.job.Job.{Job}
use Rattle.fk_tool.specs.declared.job.Job.TheVariants.{Decode, Encode}

-- the fields of what a line asks for: a time that it does not say is the stanza's, and with one the request is timed
abbrev pub fields_of : Sealing → Asked → Fields
fields_of sealing asked = record {
  rand = asked.rand;
  user = asked.user;
  stamp = asked.stamp;
  version = codes "3.0.0";
  ask = ask_of (option_or asked.seconds sealing.seconds) asked.ip asked.pairs;
  kind = sealing.kind;
}

-- a datagram that packs what is asked for, with this salt, and a line feed (10)
pub record IsEncoded (sealing : Sealing) (asked : Asked) (salt line : List ℕ) : Type 0 where
  pub datagram : List ℕ
  pub packs : Packs sealing.keys (fields_of sealing asked) datagram
  pub salt_is : packs.salt ≡ salt
  pub line_is : line ≡ datagram ++ 10 ∷ []

-- a byte that is seen: from 0x21 to 0x7e
abbrev pub is_visible : ℕ → Bool
is_visible byte = nat_le 0x21 byte && nat_le byte 0x7e

-- at least one byte, and each of them is seen
pub record IsVisibleText (text : List ℕ) : Type 0 where
  pub some : 0 < length text
  pub visible : IsTrue (list_all is_visible text)

-- the line is one of the job's input
abbrev pub IsRight : Job → List ℕ → Type 0
IsRight (Encode sealing) line = IsSome (asked_in line)
IsRight (Decode sealing) line = IsVisibleText line

-- what is packed was drawn 8 bytes for, which are its salt
pub record Encodes (sealing : Sealing) (line drawn text : List ℕ) : Type 0 where
  pub salt : length drawn ≡ 8
  pub asked : Asked
  pub reads : asked_in line ≡ Some asked
  pub encoded : IsEncoded sealing asked drawn text

-- what was drawn for a line, and the text that is printed for it
abbrev pub IsAnswer : Job → (line drawn text : List ℕ) → Type 0
IsAnswer (Encode sealing) line drawn text = Encodes sealing line drawn text
IsAnswer (Decode sealing) line drawn text = (drawn ≡ []) × (text ≡ decoded_line sealing.keys line)

-- what was drawn for some lines one behind the other, and what is printed for them
pub data AreAnswers (job : Job) : List (List ℕ) → List ℕ → List ℕ → Type 0 where
  none : AreAnswers job [] [] []
  next : {lines : List (List ℕ)} {drawn text : List ℕ} (line more answer : List ℕ) → AreAnswers job lines drawn text → IsAnswer job line more answer
      → AreAnswers job (lines ++ line ∷ []) (drawn ++ more) (text ++ answer)
