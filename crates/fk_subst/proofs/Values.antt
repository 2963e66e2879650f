-- The values that a grant puts in the place of names: never empty, of few bytes, and short.
use Rattle.std.proofs.Common.{zero, suc, ◌≡◌, ◌≢◌, ℕ, ◌+◌, ◌*◌, ◌/◌, ◌%◌, ◌^◌, ◌<◌, ◌≤◌, Bool, true, false, not, ◌&&◌, List, [], ◌∷◌, ◌++◌, length, get_or, map, Option, Some, None, refl, sym, ◌∙◌, ap, subst, inl, inr, arith, length-append, lit<}
use Rattle.std.specs.Prelude.{◌==◌, codes}
use Rattle.std.specs.List.{All, AllPass, AllByRecursion, find, join_with_byte}
use Rattle.std.specs.Int.{w32, to_be_bytes}
use Rattle.std.specs.Option.{option_map}
use Rattle.std.specs.Str.{bytes_eq}
use Rattle.std.specs.Fmt.{decimal}
use Rattle.std.proofs.lemmas.List.{length-map}
use Rattle.std.proofs.lemmas.List.Elements.{All-from_recursion, recursion_from_All, All-append, All-cons, All-nil, All-push, All-head, All-tail}
use Rattle.std.proofs.lemmas.Bool.{cases_Bool, agree_below_at}
use Rattle.std.proofs.lemmas.Slice.Eq.{bytes_eq-Decides}
use Rattle.std.proofs.lemmas.Fmt.{decimal_by_steps, decimal_nonempty, length-decimal-le}
use Rattle.fk_base.specs.declared.address.Ip4.{Ip4}
use Rattle.fk_base.specs.declared.pair.Pair.{Pair}
use Rattle.fk_base.specs.declared.pair.Proto.{Proto}
use Rattle.fk_base.specs.declared.pair.Proto.TheVariants as proto
use Rattle.fk_base.specs.declared.grant.Grant.{Grant}
use Rattle.fk_base.specs.Address.{ip_text}
use Rattle.fk_base.specs.PairText.{pair_text, proto_name}
use Rattle.fk_base.specs.Pairs.{IsPairs, pairs_text}
use Rattle.fk_subst.specs.declared.variable.Var.{Var}
use Rattle.fk_subst.specs.declared.variable.Var.TheVariants as var
use Rattle.fk_subst.specs.Template.{names, var_named}
use Rattle.fk_subst.specs.Fill.{is_value_byte, of_first, value_text, IsGrant}

-- a text that may stand in the place of a name
pub record IsValue (most : ℕ) (text : List ℕ) : Type 0 where
  pub some : 1 ≤ length text
  pub short : length text ≤ most
  pub bytes : AllPass is_value_byte text

digit_byte : (d : ℕ) → d < 10 → is_value_byte (48 + d) ≡ true
digit_byte d small = agree_below_at (λ k. is_value_byte (48 + k)) (λ _. true) 10 d refl small

abbrev Passes : ℕ → Type 0
Passes byte = is_value_byte byte ≡ true

decimal_bytes : (n : ℕ) → n < 2 ^ 64 → AllPass is_value_byte (decimal n)
decimal_bytes n small =
    decimal_by_steps (λ _ ds. AllPass is_value_byte ds)
    (λ k below. All-cons Passes (48 + k) [] (digit_byte k below) (All-nil Passes))
    (λ k ds large all. All-push Passes ds (48 + k % 10) all (digit_byte (k % 10) (omega arith)))
    n small

pub IsValue-decimal : (digits n : ℕ) → 0 < digits → n < 10 ^ digits → n < 2 ^ 64 → IsValue digits (decimal n)
IsValue-decimal digits n some fits small = record {
  some = decimal_nonempty n small;
  short = length-decimal-le digits n some fits small;
  bytes = decimal_bytes n small;
}

pub IsValue-append : (m n : ℕ) (xs ys : List ℕ) → IsValue m xs → IsValue n ys → IsValue (m + n) (xs ++ ys)
IsValue-append m n xs ys is too = record {
  some = (let some = is.some in omega (arith, length-append xs ys));
  short = (let short = is.short in let other = too.short in omega (arith, length-append xs ys));
  bytes = All-append Passes xs ys is.bytes too.bytes;
}

pub IsValue-longer : (m n : ℕ) (text : List ℕ) → m ≤ n → IsValue m text → IsValue n text
IsValue-longer m n text more is = record { some = is.some; short = (let short = is.short in omega arith); bytes = is.bytes }

-- values, joined
pub IsValue-join : (c m : ℕ) (parts : List (List ℕ)) → is_value_byte c ≡ true → 1 ≤ length parts → AllByRecursion (IsValue m) parts →
    IsValue ((m + 1) * length parts) (join_with_byte c parts)
IsValue-join c m [] passes some all = absurd (omega arith)
IsValue-join c m (x ∷ []) passes some all = IsValue-longer m ((m + 1) * 1) x (omega arith) all.0
IsValue-join c m (x ∷ y ∷ parts) passes some all =
    let rest = IsValue-join c m (y ∷ parts) passes (omega arith) all.1 in
    let comma : IsValue 1 (c ∷ []) = record { some = omega arith; short = omega arith; bytes = All-cons Passes c [] passes (All-nil Passes) } in
    let whole = IsValue-append m (1 + (m + 1) * length (y ∷ parts)) x (c ∷ join_with_byte c (y ∷ parts)) all.0
    (IsValue-append 1 ((m + 1) * length (y ∷ parts)) (c ∷ []) (join_with_byte c (y ∷ parts)) comma rest) in
    IsValue-longer (m + (1 + (m + 1) * length (y ∷ parts))) ((m + 1) * length (x ∷ y ∷ parts)) _ (omega arith) whole

byte_is : (n : ℕ) → IsValue 3 (decimal (n % 256))
byte_is n = IsValue-decimal 3 (n % 256) (omega arith) (omega arith) (omega arith)

pub IsValue-ip : (ip : Ip4) → IsValue 16 (ip_text ip)
IsValue-ip ip =
    IsValue-join 46 3 (map decimal (to_be_bytes w32 ip.0)) refl (omega arith)
    (byte_is (ip.0 / 16777216), (byte_is (ip.0 / 65536), (byte_is (ip.0 / 256), (byte_is ip.0, tt))))

pub IsValue-proto : (p : Proto) → IsValue 3 (proto_name p)
IsValue-proto proto.Tcp = record { some = omega arith; short = omega arith; bytes = All-from_recursion Passes (codes "tcp") (refl, (refl, (refl, tt))) }
IsValue-proto proto.Udp = record { some = omega arith; short = omega arith; bytes = All-from_recursion Passes (codes "udp") (refl, (refl, (refl, tt))) }

slash_is : (p : Proto) → IsValue 4 (proto_name p ++ codes "/")
slash_is proto.Tcp = record { some = omega arith; short = omega arith; bytes = All-from_recursion Passes (codes "tcp/") (refl, (refl, (refl, (refl, tt)))) }
slash_is proto.Udp = record { some = omega arith; short = omega arith; bytes = All-from_recursion Passes (codes "udp/") (refl, (refl, (refl, (refl, tt)))) }

port_is : (port : ℕ) → port < 2 ^ 16 → IsValue 5 (decimal port)
port_is port small = IsValue-decimal 5 port (omega arith) (omega arith) (omega arith)

pairs_are : (pairs : List Pair) → AllByRecursion (λ pair. pair.port < 2 ^ 16) pairs → AllByRecursion (IsValue 9) (map pair_text pairs)
pairs_are [] small = tt
pairs_are (pair ∷ pairs) small = (IsValue-append 4 5 (proto_name pair.proto ++ codes "/") (decimal pair.port) (slash_is pair.proto) (port_is pair.port small.0), pairs_are pairs small.1)

ports_small : (pairs : List Pair) → IsPairs pairs → AllByRecursion (λ pair. pair.port < 2 ^ 16) pairs
ports_small pairs is = recursion_from_All (λ pair. pair.port < 2 ^ 16) pairs is.ports

pub IsValue-pairs : (pairs : List Pair) → IsPairs pairs → IsValue 160 (pairs_text pairs)
IsValue-pairs pairs is =
    let some = is.some in let few = is.few in
    let count = length-map pairs pair_text in
    IsValue-longer (10 * length (map pair_text pairs)) 160 (pairs_text pairs) (omega arith)
    (IsValue-join 44 9 (map pair_text pairs) refl (omega arith) (pairs_are pairs (ports_small pairs is)))

of_first_is : (m : ℕ) (text : Pair → List ℕ) (pairs : List Pair) → 1 ≤ length pairs → AllByRecursion (λ pair. IsValue m (text pair)) pairs →
    IsValue m (of_first text pairs)
of_first_is m text [] some all = absurd (omega arith)
of_first_is m text (pair ∷ pairs) some all = all.0

protos_are : (pairs : List Pair) → AllByRecursion (λ pair. IsValue 3 (proto_name pair.proto)) pairs
protos_are [] = tt
protos_are (pair ∷ pairs) = (IsValue-proto pair.proto, protos_are pairs)

numbers_are : (pairs : List Pair) → AllByRecursion (λ pair. pair.port < 2 ^ 16) pairs → AllByRecursion (λ pair. IsValue 5 (decimal pair.port)) pairs
numbers_are [] small = tt
numbers_are (pair ∷ pairs) small = (port_is pair.port small.0, numbers_are pairs small.1)

-- a list of pairs is the longest value
abbrev pub most : Var → ℕ
most var.Access = 160
most _ = 20

pub IsValue-value_text : (grant : Grant) → IsGrant grant → (name : Var) → IsValue (most name) (value_text grant name)
IsValue-value_text grant is var.Ip = IsValue-longer 16 20 (ip_text grant.ip) (omega arith) (IsValue-ip grant.ip)
IsValue-value_text grant is var.PktSrc = IsValue-longer 16 20 (ip_text grant.src) (omega arith) (IsValue-ip grant.src)
IsValue-value_text grant is var.Port =
    IsValue-longer 5 20 _ (omega arith) (of_first_is 5 (λ pair. decimal pair.port) grant.pairs is.pairs.some (numbers_are grant.pairs (ports_small grant.pairs is.pairs)))
IsValue-value_text grant is var.Proto =
    IsValue-longer 3 20 _ (omega arith) (of_first_is 3 (λ pair. proto_name pair.proto) grant.pairs is.pairs.some (protos_are grant.pairs))
IsValue-value_text grant is var.Timeout =
    let small = is.seconds in
    IsValue-longer 10 20 (decimal grant.seconds) (omega arith) (IsValue-decimal 10 grant.seconds (omega arith) (omega arith) (omega arith))
IsValue-value_text grant is var.Access = IsValue-pairs grant.pairs is.pairs

-- what holds of each entry of a table holds of a name that is found in it
found_in : (P : List ℕ → Var → Type 0) (entries : List (List ℕ × Var)) (name : List ℕ) (v : Var) → AllByRecursion (λ entry. P entry.0 entry.1) entries →
    option_map (λ entry. entry.1) (find (λ entry. bytes_eq name entry.0) entries) ≡ Some v → P name v
found_in P [] name v all found = absurd cc
found_in P (entry ∷ entries) name v all found =
    elim (cases_Bool (bytes_eq name entry.0)) [
      | inl same ↦
          let is : name ≡ entry.0 = (bytes_eq-Decides name entry.0).0 same in
          let here : Some entry.1 ≡ Some v = rw same at found in
          let stands : entry.1 ≡ v = cc in
          subst (λ (l : List ℕ). P l v) (sym is) (subst (λ (w : Var). P entry.0 w) stands all.0)
      | inr other ↦ found_in P entries name v all.1 (rw other at found)
    ]

-- a value is at most 160/7 times as long as its name with the `$`
pub value_by_name : (name : List ℕ) (v : Var) → var_named name ≡ Some v → 7 * most v ≤ 160 * (1 + length name)
value_by_name name v found =
    found_in (λ n w. 7 * most w ≤ 160 * (1 + length n)) names name v
    (omega arith, (omega arith, (omega arith, (omega arith, (omega arith, (omega arith, (omega arith, tt))))))) found
