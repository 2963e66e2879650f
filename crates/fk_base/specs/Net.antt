-- Nets: all addresses that begin with the same bits.
use Rattle.std.specs.Prelude.{◌≡◌, ℕ, ◌*◌, ◌/◌, ◌-◌, ◌^◌, ◌<◌, ◌==◌, Bool, List, ◌∷◌, ◌++◌, Option, Some, None}
use Rattle.std.specs.Option.{unwrap_or}
use Rattle.std.specs.Fmt.{decimal}
use Rattle.fk_base.specs.declared.address.Ip4.{Ip4}
use Rattle.fk_base.specs.declared.net.Net4.{Net4}
use Rattle.fk_base.specs.Address.{ip_text}

-- the first bits of an address, as one number
abbrev pub first_bits : ℕ → Ip4 → ℕ
first_bits bits ip = ip.0 / 2 ^ (32 - bits)

-- an address with the bits behind its first ones cleared
abbrev pub cleared : ℕ → Ip4 → ℕ
cleared bits ip = first_bits bits ip * 2 ^ (32 - bits)

-- the address begins with the net's bits
abbrev pub covers : Net4 → Ip4 → Bool
covers net ip = first_bits net.bits net.base == first_bits net.bits ip

-- an address, and behind a slash (47) the number of the net's bits where it is given
abbrev pub net_text : Ip4 → Option ℕ → List ℕ
net_text ip None = ip_text ip
net_text ip (Some bits) = ip_text ip ++ 47 ∷ decimal bits

-- a text of the net: of any of its addresses, and of one alone where no bits are given
pub record SpellsNet (text : List ℕ) (net : Net4) : Type 0 where
  pub ip : Ip4
  pub bits : Option ℕ
  pub address : ip.0 < 2 ^ 32
  pub text_is : text ≡ net_text ip bits
  pub bits_are : net.bits ≡ unwrap_or bits 32
  pub base_is : net.base.0 ≡ cleared net.bits ip

-- the text is that of a net
abbrev pub IsNetText : List ℕ → Type 0
IsNetText text = (net : Net4) × SpellsNet text net
