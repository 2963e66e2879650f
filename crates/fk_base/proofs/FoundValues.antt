-- The number, the address and the pair that a text writes are those whose text it is.
use Rattle.std.proofs.Common.{◌≡◌, ◌↔◌, ℕ, zero, suc, ◌/◌, ◌%◌, ◌<◌, ◌≤◌, ◌^◌, false, not, List, [], ◌∷◌, ◌++◌, Option, Some, None, Result, Ok, Err, refl, sym, ap, ◌∙◌, arith, zero-le, suc-le-suc, inl, inr, lit<}
use Rattle.std.specs.Prelude.{codes, ◌==◌, IfOk, MatchResult}
use Rattle.std.specs.Result.{result_ok}
use Rattle.std.specs.List.{All, join_with_byte}
use Rattle.std.specs.Str.{bytes_eq}
use Rattle.std.specs.Fmt.{decimal}
use Rattle.std.specs.Int.{IsInRange, w32, from_be_bytes}
use Rattle.std.proofs.lemmas.Bool.{cases_Bool, not-true}
use Rattle.std.proofs.lemmas.List.Elements.{All-append, All-from_recursion}
use Rattle.std.proofs.lemmas.Nat.{from_be_bytes-to_be_bytes_4}
use Rattle.std.proofs.lemmas.Option.{same_Some}
use Rattle.std.proofs.lemmas.Slice.Eq.{bytes_eq-Decides}
use Rattle.fk_base.specs.declared.address.Ip4.{Ip4}
use Rattle.fk_base.specs.declared.decimal.NumFault.{NumFault}
use Rattle.fk_base.specs.declared.pair.Pair.{Pair}
use Rattle.fk_base.specs.declared.pair.Proto.{Proto}
use Rattle.fk_base.specs.declared.pair.Proto.TheVariants.{Tcp, Udp}
use Rattle.fk_base.specs.declared.shape.ShapeFault.{ShapeFault}
use Rattle.fk_base.specs.Address.{ip_text, ip_of, ip_of_parts, ip_in}
use Rattle.fk_base.specs.Decimal.{decimal_value, first_num_fault, number_unless, number_in}
use Rattle.fk_base.specs.PairText.{pair_text, proto_name, proto_in, pair_of, pair_of_parts, pair_in}
use Rattle.fk_base.specs.Parts.{parts_at}
use Rattle.fk_base.proofs.Addresses.{ip_text-from_be_bytes}
use Rattle.fk_base.proofs.Joined.{Lacks, parts_at-join, join-parts_at, digit_apart, All-join, All-decimal, Lacks-decimal, Lacks-from_test}
use Rattle.fk_base.proofs.Numerals.{number_text, decimal-decimal_value, decimal_value-decimal, first_num_fault-decimal}

-- a number

unless_some : (fault : Option NumFault) (value n : ℕ) → number_unless fault value ≡ Some n → (fault ≡ None) × (value ≡ n)
unless_some None value n e = (refl, cc)
unless_some (Some fault) value n e = cc

pub number_in_some : (greatest n : ℕ) (text : List ℕ) → greatest < 2 ^ 64 → number_in greatest text ≡ Some n → (text ≡ decimal n) × (n ≤ greatest)
unfolding number_in
number_in_some greatest n text small e =
    let parts = unless_some (first_num_fault greatest text) (decimal_value text) n e in
    let is = number_text greatest text parts.0 in
    let fits = is.fits in
    let value = parts.1 in
    (decimal-decimal_value greatest text small parts.0 ∙ ap decimal parts.1, omega arith)

pub number_in-decimal : (greatest n : ℕ) → greatest < 2 ^ 64 → n ≤ greatest → number_in greatest (decimal n) ≡ Some n
unfolding number_in
number_in-decimal greatest n small fits =
    rw (first_num_fault-decimal greatest n fits (omega arith)) (ap Some (decimal_value-decimal n (omega arith)))

-- the bytes of an address, and their parts
record FourNumbers (a b c d : Option ℕ) (ip : Ip4) : Type 0 where
  first : ℕ
  second : ℕ
  third : ℕ
  fourth : ℕ
  first_is : a ≡ Some first
  second_is : b ≡ Some second
  third_is : c ≡ Some third
  fourth_is : d ≡ Some fourth
  ip_is : record { 0 = from_be_bytes w32 (first ∷ second ∷ third ∷ fourth ∷ []) } ≡ ip

four_numbers : (a b c d : Option ℕ) (ip : Ip4) → ip_of a b c d ≡ Some ip → FourNumbers a b c d ip
four_numbers (Some a) (Some b) (Some c) (Some d) ip e =
    record { first = a; second = b; third = c; fourth = d; first_is = refl; second_is = refl; third_is = refl; fourth_is = refl; ip_is = cc }
four_numbers (Some a) (Some b) (Some c) None ip e = cc
four_numbers (Some a) (Some b) None d ip e = cc
four_numbers (Some a) None c d ip e = cc
four_numbers None b c d ip e = cc

ip_from_numbers : (a b c d : List ℕ) (ip : Ip4) → FourNumbers (number_in 255 a) (number_in 255 b) (number_in 255 c) (number_in 255 d) ip
    → (ip.0 < 2 ^ 32) × (join_with_byte 46 (a ∷ b ∷ c ∷ d ∷ []) ≡ ip_text ip)
ip_from_numbers a b c d ip four =
    let na = number_in_some 255 four.first a (omega arith) four.first_is in
    let nb = number_in_some 255 four.second b (omega arith) four.second_is in
    let nc = number_in_some 255 four.third c (omega arith) four.third_is in
    let nd = number_in_some 255 four.fourth d (omega arith) four.fourth_is in
    let sa = na.1 in
    let sb = nb.1 in
    let sc = nc.1 in
    let sd = nd.1 in
    let is = ip_text-from_be_bytes four.first four.second four.third four.fourth (omega arith) (omega arith) (omega arith) (omega arith)
    (from_be_bytes w32 (four.first ∷ four.second ∷ four.third ∷ four.fourth ∷ [])) refl in
    rw (← four.ip_is, na.0, nb.0, nc.0, nd.0) is

ip_from_parts : (parts : List (List ℕ)) (ip : Ip4) → ip_of_parts parts ≡ Some ip
    → (ip.0 < 2 ^ 32) × (join_with_byte 46 parts ≡ ip_text ip)
ip_from_parts (a ∷ b ∷ c ∷ d ∷ []) ip e = ip_from_numbers a b c d ip (four_numbers _ _ _ _ ip e)
ip_from_parts [] ip e = cc
ip_from_parts (a ∷ []) ip e = cc
ip_from_parts (a ∷ b ∷ []) ip e = cc
ip_from_parts (a ∷ b ∷ c ∷ []) ip e = cc
ip_from_parts (a ∷ b ∷ c ∷ d ∷ f ∷ more) ip e = cc

pub ip_in_some : (text : List ℕ) (ip : Ip4) → ip_in text ≡ Some ip → (ip.0 < 2 ^ 32) × (text ≡ ip_text ip)
unfolding ip_in
ip_in_some text ip e =
    let is = ip_from_parts (parts_at 46 text) ip e in
    (is.0, join-parts_at 46 text (parts_at 46 text) refl ∙ is.1)

four_parts : (n : ℕ) → n < 256 → number_in 255 (decimal n) ≡ Some n
four_parts n lt = number_in-decimal 255 n (omega arith) (omega arith)

pub ip_in-ip_text : (ip : Ip4) → ip.0 < 2 ^ 32 → ip_in (ip_text ip) ≡ Some ip
unfolding ip_in
ip_in-ip_text ip small =
    let n = ip.0 in
    let lacks : (k : ℕ) → k < 256 → Lacks 46 (decimal k) = λ k lt. Lacks-decimal 46 k (inr (omega arith)) (omega arith) in
    let cut = parts_at-join 46 (decimal (n / 16777216 % 256)) (decimal (n / 65536 % 256) ∷ decimal (n / 256 % 256) ∷ decimal (n % 256) ∷ [])
    (lacks _ (omega arith), (lacks _ (omega arith), (lacks _ (omega arith), (lacks _ (omega arith), tt)))) in
    ap ip_of_parts cut
    ∙ rw (four_parts (n / 16777216 % 256) (omega arith), four_parts (n / 65536 % 256) (omega arith), four_parts (n / 256 % 256) (omega arith), four_parts (n % 256) (omega arith))
    (ap (λ (k : ℕ). let i : Ip4 = record { 0 = k } in Some i) (from_be_bytes-to_be_bytes_4 n small))

-- a pair

proto_in_some : (word : List ℕ) (proto : Proto) → proto_in word ≡ Some proto → word ≡ proto_name proto
proto_in_some word proto e = elim (cases_Bool (bytes_eq word (codes "tcp"))) [
  | inl tcp ↦
      let is : Some Tcp ≡ Some proto = rw tcp at e in
      (bytes_eq-Decides word (codes "tcp")).0 tcp ∙ ap proto_name (same_Some Tcp proto is)
  | inr other ↦ elim (cases_Bool (bytes_eq word (codes "udp"))) [
    | inl udp ↦
        let is : Some Udp ≡ Some proto = rw (other, udp) at e in
        (bytes_eq-Decides word (codes "udp")).0 udp ∙ ap proto_name (same_Some Udp proto is)
    | inr neither ↦ absurd (let none : None ≡ Some proto = rw (other, neither) at e in cc)
  ]
]

proto_in-proto_name : (proto : Proto) → proto_in (proto_name proto) ≡ Some proto
proto_in-proto_name Tcp = refl
proto_in-proto_name Udp = refl

name_and_slash : (proto : Proto) (port : List ℕ) → proto_name proto ++ codes "/" ++ port ≡ proto_name proto ++ 47 ∷ port
name_and_slash Tcp port = refl
name_and_slash Udp port = refl

pair_of_some : (proto : Option Proto) (port : Option ℕ) (pair : Pair) → pair_of proto port ≡ Some pair
    → (proto ≡ Some pair.proto) × (port ≡ Some pair.port)
pair_of_some (Some proto) (Some (suc n)) pair e =
    let is = same_Some _ pair e in
    (ap (λ (p : Pair). Some p.proto) is, ap (λ (p : Pair). Some p.port) is)
pair_of_some (Some proto) (Some zero) pair e = cc
pair_of_some (Some proto) None pair e = cc
pair_of_some None port pair e = cc

pair_of-made : (proto : Proto) (n : ℕ) (some : 0 < n) → pair_of (Some proto) (Some n) ≡ Some (record { proto = proto; port = n; has_port = some })
pair_of-made proto zero some = elim some [ ]
pair_of-made proto (suc n) (suc-le-suc zero-le) = refl

pair_from_parts : (parts : List (List ℕ)) (pair : Pair) → pair_of_parts parts ≡ Some pair
    → (pair.port < 2 ^ 16) × (join_with_byte 47 parts ≡ pair_text pair)
pair_from_parts (name ∷ port ∷ []) pair e =
    let both = pair_of_some (proto_in name) (number_in 65535 port) pair e in
    let number = number_in_some 65535 pair.port port (omega arith) both.1 in
    let small = number.1 in
    let named = proto_in_some name pair.proto both.0 in
    (omega arith, rw (named, number.0) (sym (name_and_slash pair.proto (decimal pair.port))))
pair_from_parts [] pair e = cc
pair_from_parts (name ∷ []) pair e = cc
pair_from_parts (name ∷ port ∷ more ∷ others) pair e = cc

pub pair_in_some : (text : List ℕ) (pair : Pair) → pair_in text ≡ Some pair → (pair.port < 2 ^ 16) × (text ≡ pair_text pair)
unfolding pair_in
pair_in_some text pair e =
    let is = pair_from_parts (parts_at 47 text) pair e in
    (is.0, join-parts_at 47 text (parts_at 47 text) refl ∙ is.1)

name_lacks_slash : (proto : Proto) → Lacks 47 (proto_name proto)
name_lacks_slash Tcp = Lacks-from_test 47 (λ x. not (x == 47)) (codes "tcp") (λ x is. not-true (x == 47) is) refl
name_lacks_slash Udp = Lacks-from_test 47 (λ x. not (x == 47)) (codes "udp") (λ x is. not-true (x == 47) is) refl

pub pair_in-pair_text : (pair : Pair) → pair.port < 2 ^ 16 → pair_in (pair_text pair) ≡ Some pair
unfolding pair_in
pair_in-pair_text pair small =
    let port = decimal pair.port in
    let cut = parts_at-join 47 (proto_name pair.proto) (port ∷ [])
    (name_lacks_slash pair.proto, (Lacks-decimal 47 pair.port (inr (omega arith)) (omega arith), tt)) in
    ap (λ t. pair_of_parts (parts_at 47 t)) (name_and_slash pair.proto port)
    ∙ ap pair_of_parts cut
    ∙ rw (proto_in-proto_name pair.proto, number_in-decimal 65535 pair.port (omega arith) (omega arith)) (pair_of-made pair.proto pair.port pair.has_port)

-- each byte of the two texts

pub All-ip_text : (P : ℕ → Type 0) → ((x : ℕ) → IsInRange 48 57 x → P x) → P 46 → (ip : Ip4) → All P (ip_text ip)
All-ip_text P digit dot ip =
    let n = ip.0 in
    let each : (k : ℕ) → k < 256 → All P (decimal k) = λ k lt. All-decimal P digit k (omega arith) in
    All-join P 46 dot (decimal (n / 16777216 % 256) ∷ decimal (n / 65536 % 256) ∷ decimal (n / 256 % 256) ∷ decimal (n % 256) ∷ [])
    (each _ (omega arith), (each _ (omega arith), (each _ (omega arith), (each _ (omega arith), tt))))

pub All-pair_text : (P : ℕ → Type 0) → ((x : ℕ) → IsInRange 48 57 x → P x) → ((proto : Proto) → All P (proto_name proto ++ codes "/"))
    → (pair : Pair) → pair.port < 2 ^ 16 → All P (pair_text pair)
All-pair_text P digit name pair small =
    All-append P (proto_name pair.proto ++ codes "/") (decimal pair.port) (name pair.proto) (All-decimal P digit pair.port (omega arith))

name_lacks_comma : (proto : Proto) → Lacks 44 (proto_name proto ++ codes "/")
name_lacks_comma Tcp = Lacks-from_test 44 (λ x. not (x == 44)) (codes "tcp/") (λ x is. not-true (x == 44) is) refl
name_lacks_comma Udp = Lacks-from_test 44 (λ x. not (x == 44)) (codes "udp/") (λ x is. not-true (x == 44) is) refl

pub Lacks-pair_text : (pair : Pair) → pair.port < 2 ^ 16 → Lacks 44 (pair_text pair)
Lacks-pair_text pair small = All-pair_text (λ x. (x == 44) ≡ false) (λ x is. digit_apart 44 x (inr (omega arith)) is) name_lacks_comma pair small

pub name_in_bytes : (proto : Proto) → All (λ x. x < 256) (proto_name proto ++ codes "/")
name_in_bytes Tcp = All-from_recursion (λ x. x < 256) (codes "tcp/") (lit< tt, (lit< tt, (lit< tt, (lit< tt, tt))))
name_in_bytes Udp = All-from_recursion (λ x. x < 256) (codes "udp/") (lit< tt, (lit< tt, (lit< tt, (lit< tt, tt))))

-- the laws

pub number_in_iff : (greatest n : ℕ) (text : List ℕ) → greatest < 2 ^ 64 → (number_in greatest text ≡ Some n) ↔ ((n ≤ greatest) × (text ≡ decimal n))
number_in_iff greatest n text small = (
  λ is. let h = number_in_some greatest n text small is in (h.1, h.0),
  λ (fits, is). ap (number_in greatest) is ∙ number_in-decimal greatest n small fits,
)

pub ip_in_iff : (text : List ℕ) (ip : Ip4) → (ip_in text ≡ Some ip) ↔ ((ip.0 < 2 ^ 32) × (text ≡ ip_text ip))
ip_in_iff text ip = (ip_in_some text ip, λ (small, is). ap ip_in is ∙ ip_in-ip_text ip small)

pub pair_in_iff : (text : List ℕ) (pair : Pair) → (pair_in text ≡ Some pair) ↔ ((pair.port < 2 ^ 16) × (text ≡ pair_text pair))
pair_in_iff text pair = (pair_in_some text pair, λ (small, is). ap pair_in is ∙ pair_in-pair_text pair small)

-- what a reader has read is what is found

pub none_unless : {A : Type 0} (o : Option A) → ((x : A) → o ≡ Some x → ⊥) → o ≡ None
none_unless None never = refl
none_unless (Some x) never = absurd (never x refl)

pub number_read : (greatest : ℕ) (text : List ℕ) (r : Result ℕ NumFault) → IfOk r (λ n. n ≡ decimal_value text)
    → MatchResult r (λ _. first_num_fault greatest text ≡ None) (λ fault. first_num_fault greatest text ≡ Some fault)
    → result_ok r ≡ number_in greatest text
unfolding number_in
number_read greatest text (Ok n) value fault = rw (fault, value) refl
number_read greatest text (Err f) value fault = rw fault refl

pub ip_read : (text : List ℕ) (r : Result Ip4 ShapeFault) → IfOk r (λ ip. ip.0 < 2 ^ 32) → IfOk r (λ ip. text ≡ ip_text ip)
    → ((ip : Ip4) → ip.0 < 2 ^ 32 → text ≡ ip_text ip → r ≡ Ok ip) → result_ok r ≡ ip_in text
ip_read text (Ok ip) small is every = sym (ap ip_in is ∙ ip_in-ip_text ip small)
ip_read text (Err f) small is every =
    sym (none_unless (ip_in text) (λ ip found. let spelled = ip_in_some text ip found in let ok : Err f ≡ Ok ip = every ip spelled.0 spelled.1 in cc))

pub pair_read : (text : List ℕ) (r : Result Pair ShapeFault) → IfOk r (λ pair. pair.port < 2 ^ 16) → IfOk r (λ pair. text ≡ pair_text pair)
    → ((pair : Pair) → pair.port < 2 ^ 16 → text ≡ pair_text pair → r ≡ Ok pair) → result_ok r ≡ pair_in text
pair_read text (Ok pair) small is every = sym (ap pair_in is ∙ pair_in-pair_text pair small)
pair_read text (Err f) small is every =
    sym (none_unless (pair_in text) (λ pair found. let spelled = pair_in_some text pair found in let ok : Err f ≡ Ok pair = every pair spelled.0 spelled.1 in cc))
