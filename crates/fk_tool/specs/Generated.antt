-- The lines for a trial: each a packet that its number alone makes, from 0 on.
use Rattle.std.specs.Prelude.{◌≡◌, ℕ, ◌+◌, ◌*◌, ◌/◌, ◌%◌, ◌^◌, List, [], ◌∷◌, ◌++◌, codes, map}
use Rattle.std.specs.Fmt.{decimal}
use Rattle.std.specs.Int.{w64, to_be_bytes}
use Rattle.fk_base.specs.Address.{ip_text}
use Rattle.fk_base.specs.declared.address.Ip4.{Ip4}
use Rattle.fk_base.specs.declared.hash_kind.HashKind.TheVariants.{Sha256}
use Rattle.fk_base.specs.declared.keys.Keys.{Keys}
use Rattle.fk_base.specs.declared.pair.Pair.{Pair}
use Rattle.fk_base.specs.declared.pair.Proto.TheVariants.{Tcp}
use Rattle.fk_fields.specs.declared.fields.Ask.TheVariants.{Access}
use Rattle.fk_fields.specs.declared.fields.Fields.{Fields}
use Rattle.fk_packet.specs.Packs.{Packs}
use Rattle.fk_tool.specs.Lines.{line_of_parts}

-- what each of sixteen digits counts, the highest first
abbrev pub units : List ℕ
units =
    10 ^ 15 ∷ 10 ^ 14 ∷ 10 ^ 13 ∷ 10 ^ 12 ∷ 10 ^ 11 ∷ 10 ^ 10 ∷ 10 ^ 9 ∷ 10 ^ 8
    ∷ 10 ^ 7 ∷ 10 ^ 6 ∷ 10 ^ 5 ∷ 10 ^ 4 ∷ 10 ^ 3 ∷ 10 ^ 2 ∷ 10 ∷ 1 ∷ []

-- a number in sixteen decimal digits, with zeros (48) in front
abbrev pub rand_of : ℕ → List ℕ
rand_of number = map (λ unit. 48 + number / unit % 10) units

-- 10.0.0.1 and up, for 65536 addresses
abbrev pub address_of : ℕ → Ip4
address_of number = record { 0 = 10 * 2 ^ 24 + 1 + number % 65536 }

-- when the packet is made and comes
abbrev pub moment_of : ℕ → ℕ
moment_of number = 1000000 + number

-- the fields of a number ask for tcp/22
pub record AreGeneratedFields (number : ℕ) (fields : Fields) : Type 0 where
  pub pair : Pair
  pub proto : pair.proto ≡ Tcp
  pub port : pair.port ≡ 22
  pub are : fields ≡ record {
    rand = rand_of number;
    user = codes "gen";
    stamp = moment_of number;
    version = codes "3.0.0";
    ask = Access (address_of number) (pair ∷ []);
    kind = Sha256;
  }

-- the keys of all packets
pub record AreGeneratedKeys (keys : Keys) : Type 0 where
  pub key : keys.key ≡ codes "generated"
  pub kind : keys.kind ≡ Sha256
  pub mac_key : keys.mac_key ≡ codes "generated-mac"

-- the datagram of a number: its fields under these keys, with the number in eight bytes as its salt, the highest first
pub record IsGeneratedDatagram (number : ℕ) (datagram : List ℕ) : Type 0 where
  pub fields : Fields
  pub says : AreGeneratedFields number fields
  pub keys : Keys
  pub are : AreGeneratedKeys keys
  pub packs : Packs keys fields datagram
  pub salt : packs.salt ≡ to_be_bytes w64 number

-- the line of a number: its moment, its source and its datagram
pub record IsGeneratedLine (number : ℕ) (line : List ℕ) : Type 0 where
  pub datagram : List ℕ
  pub is : IsGeneratedDatagram number datagram
  pub joined : line ≡ line_of_parts (decimal (moment_of number) ∷ ip_text (address_of number) ∷ datagram ∷ [])

-- the text of the first so many lines
pub data IsGeneratedText : ℕ → List ℕ → Type 0 where
  none : IsGeneratedText 0 []
  next : {count : ℕ} {text line : List ℕ} → IsGeneratedText count text → IsGeneratedLine count line → IsGeneratedText (count + 1) (text ++ line)
