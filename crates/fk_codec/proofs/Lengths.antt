-- How long a plaintext is.
use Rattle.std.proofs.Common.{◌≡◌, ℕ, ◌+◌, ◌/◌, ◌%◌, ◌≤◌, ◌<◌, ◌^◌, true, List, [], ◌∷◌, length, map, refl, arith}
use Rattle.std.specs.Prelude.{◌==◌, ◌&&◌, nat_le}
use Rattle.std.specs.List.{join_with_byte, list_all}
use Rattle.std.specs.Char.{is_ascii_digit}
use Rattle.std.specs.Fmt.{decimal}
use Rattle.std.proofs.lemmas.Fmt.{decimal_nonempty, length-decimal-le}
use Rattle.std.proofs.lemmas.List.Elements.{All-head}
use Rattle.fk_base.specs.Address.{ip_text}
use Rattle.fk_base.specs.PairText.{pair_text}
use Rattle.fk_base.proofs.PairTexts.{length-slashed, slashed}
use Rattle.std.proofs.lemmas.Bool.{and_parts, eqb-true, leb-true}
use Rattle.std.proofs.lemmas.List.{length-append}
use Rattle.fk_base.specs.declared.address.Ip4.{Ip4}
use Rattle.fk_base.specs.declared.hash_kind.HashKind.{HashKind}
use Rattle.fk_base.specs.declared.hash_kind.HashKind.TheVariants.{Md5, Sha1, Sha256, Sha384, Sha512}
use Rattle.fk_base.specs.declared.pair.Pair.{Pair}
use Rattle.fk_base.specs.HashKind.{text_len}
use Rattle.fk_base.specs.Pairs.{IsPairs}
use Rattle.fk_text.specs.Text.{text_of}
use Rattle.fk_text.proofs.Symbols.{length-text_of}
use Rattle.fk_fields.specs.declared.fields.Ask.{Ask}
use Rattle.fk_fields.specs.declared.fields.Ask.TheVariants.{Access, Timed}
use Rattle.fk_fields.specs.declared.fields.Fields.{Fields}
use Rattle.fk_fields.specs.FieldText.{is_rand, is_version, is_version_byte}
use Rattle.fk_fields.specs.Fields.{IsFields, asked_ip, asked_pairs, has_timeout}
use Rattle.fk_fields.specs.Message.{message_text}
use Rattle.fk_fields.proofs.MessageLengths.{length-message}
use Rattle.fk_codec.specs.Spells.{Spells, digest_text, front_of, spelled, timeout_parts, type_text}
use Rattle.fk_codec.proofs.Digests.{length-digest_text}
use Rattle.fk_codec.proofs.Law.{are_checked}
use Rattle.fk_codec.proofs.Values.{timeout_bounds, user_is}

length-rand : (rand : List ℕ) → is_rand rand ≡ true → length rand ≡ 16
length-rand rand is = eqb-true (length rand) 16 (and_parts (length rand == 16) (list_all is_ascii_digit rand) is).0

length-version : (version : List ℕ) → is_version version ≡ true → (1 ≤ length version) × (length version ≤ 16)
length-version version is =
    let both = and_parts (nat_le 1 (length version) && nat_le (length version) 16) (list_all is_version_byte version) is in
    let counts = and_parts (nat_le 1 (length version)) (nat_le (length version) 16) both.0 in
    (leb-true 1 (length version) counts.0, leb-true (length version) 16 counts.1)

length-kind : (kind : HashKind) → (22 ≤ text_len kind) × (text_len kind ≤ 86)
length-kind Md5 = (omega arith, omega arith)
length-kind Sha1 = (omega arith, omega arith)
length-kind Sha256 = (omega arith, omega arith)
length-kind Sha384 = (omega arith, omega arith)
length-kind Sha512 = (omega arith, omega arith)

length-digits : (n : ℕ) → n ≤ 999999999999 → (1 ≤ length (decimal n)) × (length (decimal n) ≤ 12)
length-digits n fits = (decimal_nonempty n (omega arith), length-decimal-le 12 n (omega arith) (omega arith) (omega arith))

length-seconds : (n : ℕ) → n ≤ 604800 → length (decimal n) ≤ 6
length-seconds n fits = length-decimal-le 6 n (omega arith) (omega arith) (omega arith)

-- the shortest message: an address of four digits and a pair of one

ip_least : (ip : Ip4) → 7 ≤ length (ip_text ip)
ip_least ip =
    let n = ip.0 in
    let a = decimal_nonempty (n / 16777216 % 256) (omega arith) in
    let b = decimal_nonempty (n / 65536 % 256) (omega arith) in
    let c = decimal_nonempty (n / 256 % 256) (omega arith) in
    let d = decimal_nonempty (n % 256) (omega arith) in
    let one = length-append (decimal (n / 16777216 % 256))
    (46 ∷ join_with_byte 46 (decimal (n / 65536 % 256) ∷ decimal (n / 256 % 256) ∷ decimal (n % 256) ∷ [])) in
    let two = length-append (decimal (n / 65536 % 256)) (46 ∷ join_with_byte 46 (decimal (n / 256 % 256) ∷ decimal (n % 256) ∷ [])) in
    let three = length-append (decimal (n / 256 % 256)) (46 ∷ decimal (n % 256)) in
    omega arith

pair_least : (pair : Pair) → pair.port < 2 ^ 16 → 5 ≤ length (pair_text pair)
pair_least pair small =
    let digits = decimal_nonempty pair.port (omega arith) in
    let name = length-slashed pair.proto in
    omega (arith, length-append (slashed pair.proto) (decimal pair.port))

joined_least : (first : List ℕ) (parts : List (List ℕ)) → length first ≤ length (join_with_byte 44 (first ∷ parts))
joined_least first [] = omega arith
joined_least first (next ∷ parts) = omega (arith, length-append first (44 ∷ join_with_byte 44 (next ∷ parts)))

message_least : (ip : Ip4) (pairs : List Pair) → IsPairs pairs → 13 ≤ length (message_text ip pairs)
message_least ip [] is = let some = is.some in absurd (let no : ⊥ = omega arith in no)
message_least ip (pair ∷ pairs) is =
    let address = ip_least ip in
    let one = pair_least pair (All-head (λ p. p.port < 2 ^ 16) pair pairs is.ports) in
    let others = joined_least (pair_text pair) (map pair_text pairs) in
    omega (arith, length-append (ip_text ip) (44 ∷ join_with_byte 44 (pair_text pair ∷ map pair_text pairs)))

-- the part of what is asked for: the seconds and the `:` before them
length-tail : (message : List ℕ) (ask : Ask) → has_timeout ask ≡ true →
    (length message ≤ length (join_with_byte 58 (message ∷ timeout_parts ask))) × (length (join_with_byte 58 (message ∷ timeout_parts ask)) ≤ length message + 7)
length-tail message (Access ip pairs) is = (omega arith, omega arith)
length-tail message (Timed ip pairs seconds) is =
    let most = length-seconds seconds (timeout_bounds seconds is).1 in
    let both = length-append message (58 ∷ decimal seconds) in
    (omega arith, omega arith)

length-type : (ask : Ask) → length (type_text ask) ≡ 1
length-type (Access ip pairs) = refl
length-type (Timed ip pairs seconds) = refl

length-front : (f : Fields) → IsFields f → (44 ≤ length (front_of f)) × (length (front_of f) ≤ 377)
unfolding front_of
length-front f is =
    let checks = are_checked f is.checked in
    let user = user_is f.user checks.user_is in
    let least = user.least in
    let most = user.most in
    let name = length-text_of f.user in
    let rand = length-rand f.rand is.rand in
    let stamp = length-digits f.stamp checks.fits in
    let version = length-version f.version checks.version_is in
    let type = length-type f.ask in
    let said = message_text (asked_ip f.ask) (asked_pairs f.ask) in
    let said_least = message_least (asked_ip f.ask) (asked_pairs f.ask) is.pairs in
    let said_most = length-message (asked_ip f.ask) (asked_pairs f.ask) is.pairs in
    let message = length-text_of said in
    let tail = length-tail (text_of said) f.ask checks.timeout_is in
    let rest = text_of said ∷ timeout_parts f.ask in
    let a = length-append f.rand (58 ∷ join_with_byte 58 (text_of f.user ∷ decimal f.stamp ∷ f.version ∷ type_text f.ask ∷ rest)) in
    let b = length-append (text_of f.user) (58 ∷ join_with_byte 58 (decimal f.stamp ∷ f.version ∷ type_text f.ask ∷ rest)) in
    let c = length-append (decimal f.stamp) (58 ∷ join_with_byte 58 (f.version ∷ type_text f.ask ∷ rest)) in
    let d = length-append f.version (58 ∷ join_with_byte 58 (type_text f.ask ∷ rest)) in
    let e = length-append (type_text f.ask) (58 ∷ join_with_byte 58 rest) in
    (omega arith, omega arith)

pub length-spelled : (f : Fields) → IsFields f → (67 ≤ length (spelled f)) × (length (spelled f) ≤ 464)
unfolding spelled
length-spelled f is =
    let front = length-front f is in
    let kind = length-kind f.kind in
    let digest = length-digest_text f.kind (front_of f) in
    let whole = length-append (front_of f) (58 ∷ digest_text f.kind (front_of f)) in
    (omega arith, omega arith)

pub length-plaintext : (f : Fields) (text : List ℕ) → Spells f text → (67 ≤ length text) × (length text ≤ 464)
length-plaintext f text (is, e) = let size = length-spelled f is in rw e size
