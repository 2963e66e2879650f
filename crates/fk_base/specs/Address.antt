-- The text of an address: its four bytes in decimal, joined by dots.
use Rattle.std.specs.Prelude.{◌≡◌, ℕ, ◌<◌, ◌^◌, List, [], ◌∷◌, map, Option, Some, None}
use Rattle.std.specs.Int.{w32, from_be_bytes, to_be_bytes}
use Rattle.std.specs.List.{join_with_byte}
use Rattle.std.specs.Fmt.{decimal}
use Rattle.fk_base.specs.declared.address.Ip4.{Ip4}
use Rattle.fk_base.specs.Decimal.{number_in}
use Rattle.fk_base.specs.Parts.{parts_at}

-- the dotted text of an address, high byte first; 46 is '.'
abbrev pub ip_text : Ip4 → List ℕ
ip_text ip = join_with_byte 46 (map decimal (to_be_bytes w32 ip.0))

-- the text is that of an address
abbrev pub IsIpText : List ℕ → Type 0
IsIpText text = (ip : Ip4) × (ip.0 < 2 ^ 32) × (text ≡ ip_text ip)

-- the address of four bytes, the highest first
abbrev pub ip_of : Option ℕ → Option ℕ → Option ℕ → Option ℕ → Option Ip4
ip_of (Some a) (Some b) (Some c) (Some d) = Some (record { 0 = from_be_bytes w32 (a ∷ b ∷ c ∷ d ∷ []) })
ip_of _ _ _ _ = None

-- the address of the parts between dots
abbrev pub ip_of_parts : List (List ℕ) → Option Ip4
ip_of_parts (a ∷ b ∷ c ∷ d ∷ []) = ip_of (number_in 255 a) (number_in 255 b) (number_in 255 c) (number_in 255 d)
ip_of_parts _ = None

-- the address that a text writes: by `addresses_are_found` the one whose text it is
unfoldable pub ip_in : List ℕ → Option Ip4
ip_in text = ip_of_parts (parts_at 46 text)
