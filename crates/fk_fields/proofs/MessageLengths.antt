-- How long a message is at most.
use Rattle.std.proofs.Common.{◌≡◌, ℕ, ◌+◌, ◌*◌, ◌/◌, ◌%◌, ◌<◌, ◌≤◌, ◌^◌, List, [], ◌∷◌, ◌++◌, length, map, sym, ap, ◌∙◌, arith}
use Rattle.std.specs.List.{All, join_with_byte}
use Rattle.std.specs.Fmt.{decimal}
use Rattle.std.proofs.lemmas.List.{length-append}
use Rattle.std.proofs.lemmas.List.Elements.{All-head, All-tail}
use Rattle.fk_base.specs.declared.address.Ip4.{Ip4}
use Rattle.fk_base.specs.declared.pair.Pair.{Pair}
use Rattle.fk_base.specs.Address.{ip_text}
use Rattle.fk_base.specs.PairText.{pair_text}
use Rattle.fk_base.specs.Pairs.{IsPairs}
use Rattle.fk_base.proofs.DottedBytes.{length-decimal_byte}
use Rattle.fk_base.proofs.PairTexts.{length-decimal_port, length-slashed, slashed}
use Rattle.fk_fields.specs.Message.{message_text}
use Rattle.fk_fields.proofs.MessageParts.{HavePorts}

-- a list of joined parts, one part more
length-join : (c : ℕ) (part next : List ℕ) (parts : List (List ℕ)) →
    length (join_with_byte c (part ∷ next ∷ parts)) ≡ length part + (1 + length (join_with_byte c (next ∷ parts)))
length-join c part next parts =
    omega (arith, length-append part (c ∷ join_with_byte c (next ∷ parts)))

length-pair : (pair : Pair) → pair.port < 2 ^ 16 → length (pair_text pair) ≤ 9
length-pair pair small =
    let digits = length-decimal_port pair.port small in
    let name = length-slashed pair.proto in
    omega (arith, length-append (slashed pair.proto) (decimal pair.port))

length-pairs : (first : List ℕ) (pairs : List Pair) → HavePorts pairs →
    length (join_with_byte 44 (first ∷ map pair_text pairs)) ≤ length first + 10 * length pairs
length-pairs first [] ports = omega arith
length-pairs first (pair ∷ pairs) ports =
    let one = length-pair pair (All-head (λ p. p.port < 2 ^ 16) pair pairs ports) in
    let others = length-pairs (pair_text pair) pairs (All-tail (λ p. p.port < 2 ^ 16) pair pairs ports) in
    let both = length-join 44 first (pair_text pair) (map pair_text pairs) in
    omega arith

length-ip : (ip : Ip4) → length (ip_text ip) ≤ 15
length-ip ip =
    let n = ip.0 in
    let a = length-decimal_byte (n / 16777216 % 256) (omega arith) in
    let b = length-decimal_byte (n / 65536 % 256) (omega arith) in
    let c = length-decimal_byte (n / 256 % 256) (omega arith) in
    let d = length-decimal_byte (n % 256) (omega arith) in
    let one = length-join 46 (decimal (n / 16777216 % 256)) (decimal (n / 65536 % 256)) (decimal (n / 256 % 256) ∷ decimal (n % 256) ∷ []) in
    let two = length-join 46 (decimal (n / 65536 % 256)) (decimal (n / 256 % 256)) (decimal (n % 256) ∷ []) in
    let three = length-join 46 (decimal (n / 256 % 256)) (decimal (n % 256)) [] in
    omega arith

pub length-message : (ip : Ip4) (pairs : List Pair) → IsPairs pairs → length (message_text ip pairs) ≤ 175
length-message ip pairs is =
    let few = is.few in
    let address = length-ip ip in
    let all = length-pairs (ip_text ip) pairs is.ports in
    omega arith
