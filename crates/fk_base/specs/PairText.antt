-- The text of a pair: its protocol, a slash and its port, as `tcp/22`.
use Rattle.std.specs.Prelude.{◌≡◌, ℕ, suc, ◌<◌, ◌^◌, List, [], ◌∷◌, ◌++◌, codes, Option, Some, None}
use Rattle.std.proofs.Common.{zero-le, suc-le-suc}
use Rattle.std.specs.List.{find}
use Rattle.std.specs.Str.{bytes_eq}
use Rattle.std.specs.Fmt.{decimal}
use Rattle.fk_base.specs.declared.pair.Proto.{Proto}
use Rattle.fk_base.specs.declared.pair.Proto.TheVariants.{Tcp, Udp}
use Rattle.fk_base.specs.declared.pair.Pair.{Pair}
use Rattle.fk_base.specs.Decimal.{number_in}
use Rattle.fk_base.specs.Parts.{parts_at}

-- the name of a protocol
abbrev pub proto_name : Proto → List ℕ
proto_name Tcp = codes "tcp"
proto_name Udp = codes "udp"

-- the name, a slash, and the port in decimal
abbrev pub pair_text : Pair → List ℕ
pair_text pair = proto_name pair.proto ++ codes "/" ++ decimal pair.port

-- the text is that of a pair
abbrev pub IsPairText : List ℕ → Type 0
IsPairText text = (pair : Pair) × (pair.port < 2 ^ 16) × (text ≡ pair_text pair)

-- the protocol that a word names
abbrev pub proto_in : List ℕ → Option Proto
proto_in word = find (λ proto. bytes_eq word (proto_name proto)) (Tcp ∷ Udp ∷ [])

-- no port is 0
abbrev pub pair_of : Option Proto → Option ℕ → Option Pair
pair_of (Some proto) (Some (suc n)) = Some (record { proto = proto; port = suc n; has_port = suc-le-suc zero-le })
pair_of _ _ = None

-- the pair of the parts round a slash
abbrev pub pair_of_parts : List (List ℕ) → Option Pair
pair_of_parts (proto ∷ port ∷ []) = pair_of (proto_in proto) (number_in 65535 port)
pair_of_parts _ = None

-- the pair that a text writes: by `pairs_are_found` the one whose text it is
unfoldable pub pair_in : List ℕ → Option Pair
pair_in text = pair_of_parts (parts_at 47 text)
