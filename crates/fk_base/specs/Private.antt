-- What the contracts of this crate's private functions alone speak of: how a reader goes through a text part by part. No
-- public contract cites it, so no caller has to believe it.
use Rattle.std.specs.Prelude.{◌≡◌, ◌≢◌, ℕ, ◌+◌, ◌-◌, ◌<◌, ◌≤◌, ◌^◌, List, [], ◌∷◌, ◌++◌, codes, length, take, drop, slice_index, ◌==◌, false}
use Rattle.std.specs.List.{All}
use Rattle.std.specs.Fmt.{decimal}
use Rattle.fk_base.specs.declared.pair.Proto.{Proto}
use Rattle.fk_base.specs.PairText.{proto_name}
use Rattle.fk_base.specs.Shape.{IsLongestFront}

-- the part stands in the text from a place on, up to the next
pub record IsPartAt (part text : List ℕ) (from next : ℕ) : Type 0 where
  pub within : next ≤ length text
  pub size : next ≡ from + length part
  pub split : drop from text ≡ part ++ drop next text

-- from a place on the text begins with no right part, and stops being the front of one at another place
pub record IsPartFault (IsRight : List ℕ → Type 0) (text : List ℕ) (from place : ℕ) : Type 0 where
  pub past : from ≤ place
  pub front : IsLongestFront IsRight (drop from text) (place - from)
  pub none : (part rest : List ℕ) → IsRight part → drop from text ≡ part ++ rest → ⊥

-- from a place on the text is not right, and stops being the front of a right one at another place
pub record IsRestFault (IsRight : List ℕ → Type 0) (text : List ℕ) (from place : ℕ) : Type 0 where
  pub past : from ≤ place
  pub front : IsLongestFront IsRight (drop from text) (place - from)
  pub wrong : IsRight (drop from text) → ⊥

-- the two lists have this many first bytes in common
pub record IsCommonFront (text word : List ℕ) (len : ℕ) : Type 0 where
  pub in_text : len ≤ length text
  pub in_word : len ≤ length word
  pub same : take len text ≡ take len word
  pub apart : len < length text → len < length word → slice_index text len ≢ slice_index word len

-- the text is that of a number from `least` to `most`
abbrev pub IsNumberText : ℕ → ℕ → List ℕ → Type 0
IsNumberText least most text = (n : ℕ) × (least ≤ n) × (n ≤ most) × (text ≡ decimal n)

-- the text's longest front that can begin a number from `least` to `most` is the text of such a number
pub record IsNumberFront (least most : ℕ) (text : List ℕ) (value len : ℕ) : Type 0 where
  pub low : least ≤ value
  pub high : value ≤ most
  pub digits : take len text ≡ decimal value
  pub front : IsLongestFront (IsNumberText least most) text len

-- the text is that of a byte and the dot behind it
abbrev pub IsDottedByte : List ℕ → Type 0
IsDottedByte text = (byte : ℕ) × (byte < 2 ^ 8) × (text ≡ decimal byte ++ 46 ∷ [])

-- the text is that of a protocol's name and the slash behind it
abbrev pub IsProtoText : List ℕ → Type 0
IsProtoText text = (proto : Proto) × (text ≡ proto_name proto ++ codes "/")

-- no byte of the text is this one
abbrev pub Lacks : ℕ → List ℕ → Type 0
Lacks byte text = All (λ b. (b == byte) ≡ false) text

-- the first such byte of the text stands at this place
pub record IsFirstAt (byte : ℕ) (text : List ℕ) (at : ℕ) : Type 0 where
  pub within : at < length text
  pub lacks : Lacks byte (take at text)
  pub split : text ≡ take at text ++ byte ∷ drop (at + 1) text
