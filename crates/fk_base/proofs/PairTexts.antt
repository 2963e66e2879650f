-- A pair's text as a protocol's name with a slash, and a port.
use Rattle.std.proofs.Math.Bridge.{le_prop}
use Rattle.std.proofs.Common.{◌≡◌, ℕ, ◌-◌, ◌^◌, ◌<◌, ◌≤◌, max, List, [], ◌++◌, codes, length, get_or, take, drop, length-append, inl, inr, refl, sym, ◌∙◌, ap, subst, arith}
use Rattle.std.specs.Fmt.{decimal}
use Rattle.std.proofs.lemmas.Bool.{cases_lt}
use Rattle.std.proofs.lemmas.Fmt.{decimal_injective, length-decimal-le}
use Rattle.std.proofs.lemmas.List.{append_cancel_left, append-nil, take-append-drop, get_or-take, get_or_append_left, length-take-le, take_all, take_at}
use Rattle.fk_base.specs.declared.pair.Proto.{Proto}
use Rattle.fk_base.specs.declared.pair.Proto.TheVariants.{Tcp, Udp}
use Rattle.fk_base.specs.declared.pair.Pair.{Pair}
use Rattle.fk_base.specs.PairText.{IsPairText, pair_text, proto_name}
use Rattle.fk_base.specs.Shape.{CanBegin, IsLongestFront}
use Rattle.fk_base.specs.Private.{IsCommonFront, IsNumberText, IsPartAt, IsPartFault, IsProtoText, IsRestFault}
use Rattle.fk_base.proofs.Fronts.{Then, Then-stop, Then-go, IsLongestFront-same, IsPrefixFree}

-- a word's bytes that a text has are the text's longest front that begins the word
common_longest : (text word : List ℕ) (len : ℕ) → IsCommonFront text word len →
    (more : ℕ) (rest : List ℕ) → more ≤ length text → take more text ++ rest ≡ word → more ≤ len
common_longest text word len f more rest within same = elim (cases_lt len more) [
  | inr fits ↦ fits
  | inl past ↦ absurd (
      let size : length (take more text) ≡ more = length-take-le more text within in
      let both = length-append (take more text) rest in
      let sizes = ap length same in
      f.apart (omega arith) (omega arith)
      (sym (get_or-take more text len 0 past) ∙ sym (get_or_append_left (take more text) rest 0 len (omega arith)) ∙
      ap (λ (x : List ℕ). get_or x len 0) same))
]

common_begins : (text word : List ℕ) (len : ℕ) → IsCommonFront text word len → take len text ++ drop len word ≡ word
common_begins text word len f = ap (λ (x : List ℕ). x ++ drop len word) f.same ∙ take-append-drop len word

-- a word that is not all there does not begin the text
common_short : (text word : List ℕ) (len : ℕ) → IsCommonFront text word len → (len ≡ length word → ⊥) →
    (rest : List ℕ) → text ≡ word ++ rest → ⊥
common_short text word len f short rest whole =
    let both = length-append word rest in
    let sizes = ap length whole in
    let fits : length word ≤ len =
    common_longest text word len f (length word) [] (omega arith)
    (append-nil (take (length word) text) ∙ ap (take (length word)) whole ∙ take_at word rest (length word) refl) in
    let in_word = f.in_word in
    short (omega arith)

-- a protocol's name and the slash behind it
abbrev pub slashed : Proto → List ℕ
slashed proto = proto_name proto ++ codes "/"

proto_longest : (text : List ℕ) (tcp udp : ℕ) → IsCommonFront text (slashed Tcp) tcp →
    IsCommonFront text (slashed Udp) udp → (more : ℕ) (rest : List ℕ) (proto : Proto) → more ≤ length text →
    take more text ++ rest ≡ slashed proto → more ≤ max tcp udp
proto_longest text tcp udp t u more rest Tcp within same =
    let fits = common_longest text (slashed Tcp) tcp t more rest within same in omega arith
proto_longest text tcp udp t u more rest Udp within same =
    let fits = common_longest text (slashed Udp) udp u more rest within same in omega arith

proto_none : (text : List ℕ) (tcp udp : ℕ) → IsCommonFront text (slashed Tcp) tcp → (tcp ≡ 4 → ⊥) →
    IsCommonFront text (slashed Udp) udp → (udp ≡ 4 → ⊥) → (proto : Proto) (rest : List ℕ) →
    text ≡ slashed proto ++ rest → ⊥
proto_none text tcp udp t short_t u short_u Tcp rest whole = common_short text (slashed Tcp) tcp t short_t rest whole
proto_none text tcp udp t short_t u short_u Udp rest whole = common_short text (slashed Udp) udp u short_u rest whole

pub proto_fault : (text : List ℕ) (tcp udp : ℕ) → IsCommonFront text (slashed Tcp) tcp → (tcp ≡ 4 → ⊥) →
    IsCommonFront text (slashed Udp) udp → (udp ≡ 4 → ⊥) → IsPartFault IsProtoText text 0 (max tcp udp)
proto_fault text tcp udp t short_t u short_u =
    let same : max tcp udp - 0 ≡ max tcp udp = omega arith in
    let in_tcp = t.in_text in
    let in_udp = u.in_text in
    record {
      past = omega arith;
      front = subst (λ (n : ℕ). IsLongestFront IsProtoText text n) (sym same) (record {
        inside = omega arith;
        begins = elim (cases_lt tcp udp) [
          | inl below ↦
              let is : max tcp udp ≡ udp = omega arith in
              subst (λ (n : ℕ). CanBegin IsProtoText (take n text)) (sym is)
              (drop udp (slashed Udp), (Udp, common_begins text (slashed Udp) udp u))
          | inr above ↦
              let is : max tcp udp ≡ tcp = omega arith in
              subst (λ (n : ℕ). CanBegin IsProtoText (take n text)) (sym is)
              (drop tcp (slashed Tcp), (Tcp, common_begins text (slashed Tcp) tcp t))
        ];
        longest = λ more within c. proto_longest text tcp udp t u more c.0 c.1.0 within c.1.1;
      });
      none = λ part rest is whole. proto_none text tcp udp t short_t u short_u is.0 rest (whole ∙ ap (λ (x : List ℕ). x ++ rest) is.1);
    }

pub proto_at : (text : List ℕ) (proto : Proto) → length (slashed proto) ≡ 4 → IsCommonFront text (slashed proto) 4 →
    IsPartAt (slashed proto) text 0 4
proto_at text proto four f = record {
  within = f.in_text;
  size = omega arith;
  split = sym (take-append-drop 4 text) ∙
      ap (λ (x : List ℕ). x ++ drop 4 text) (f.same ∙ take_all 4 (slashed proto) (omega arith));
}

apart : (x y : Proto) (u v : List ℕ) → slashed x ++ u ≡ slashed y ++ v → x ≡ y
apart Tcp Tcp u v same = refl
apart Tcp Udp u v same = absurd (let letters = ap (λ (x : List ℕ). get_or x 0 0) same in omega arith)
apart Udp Tcp u v same = absurd (let letters = ap (λ (x : List ℕ). get_or x 0 0) same in omega arith)
apart Udp Udp u v same = refl

-- no protocol's name with its slash is a front of the other
pub protos_apart : IsPrefixFree IsProtoText
protos_apart a b u v is_a is_b same =
    let whole : slashed is_a.0 ++ u ≡ slashed is_b.0 ++ v =
    ap (λ (x : List ℕ). x ++ u) (sym is_a.1) ∙ same ∙ ap (λ (x : List ℕ). x ++ v) is_b.1 in
    is_a.1 ∙ ap slashed (apart is_a.0 is_b.0 u v whole) ∙ sym is_b.1

abbrev pub PairParts : List ℕ → Type 0
PairParts = Then IsProtoText (IsNumberText 1 65535)

pub PairParts-pair : (text : List ℕ) → PairParts text → IsPairText text
PairParts-pair text parts =
    let port = parts.is_second.0 in
    let low = parts.is_second.1 in
    let high = parts.is_second.2 in (
      record { proto = parts.is_first.0; port = port; has_port = low },
      omega arith,
      parts.whole ∙ rw (parts.is_first.1, parts.is_second.3) refl,
    )

pub pair-PairParts : (text : List ℕ) → IsPairText text → PairParts text
pair-PairParts text is = record {
  first = slashed is.0.proto;
  second = decimal is.0.port;
  is_first = (is.0.proto, refl);
  is_second = (is.0.port, is.0.has_port, (let small = is.1 in omega arith), refl);
  whole = is.2;
}

abbrev pair_of : (proto : Proto) (port : ℕ) → 0 < port → Pair
pair_of proto port has_port = record { proto = proto; port = port; has_port = has_port }

-- that a port is not 0 has one proof
same_ports : (proto : Proto) (m n : ℕ) (has_m : 0 < m) (has_n : 0 < n) → m ≡ n → pair_of proto m has_m ≡ pair_of proto n has_n
same_ports proto m n has_m has_n same =
    let P : ℕ → Type 0 = λ k. (has_k : 0 < k) → pair_of proto m has_m ≡ pair_of proto k has_k in
    subst P same (λ has_k. ap (λ h. pair_of proto m h) (le_prop has_m has_k)) has_n

-- a pair is its protocol and its port
pub Pair-same : (x y : Pair) → x.proto ≡ y.proto → x.port ≡ y.port → x ≡ y
Pair-same x y protos ports =
    let P : Proto → Type 0 = λ p. x ≡ pair_of p y.port y.has_port in
    subst P protos (same_ports x.proto x.port y.port x.has_port y.has_port ports)

pub pair_text-injective : (x y : Pair) → x.port < 2 ^ 16 → y.port < 2 ^ 16 → pair_text x ≡ pair_text y → x ≡ y
pair_text-injective x y small_x small_y same =
    let protos : x.proto ≡ y.proto = apart x.proto y.proto (decimal x.port) (decimal y.port) same in
    let ports : decimal x.port ≡ decimal y.port =
    append_cancel_left (slashed x.proto) (decimal x.port) (decimal y.port)
    (same ∙ ap (λ (p : Proto). slashed p ++ decimal y.port) (sym protos)) in
    Pair-same x y protos (decimal_injective x.port y.port (omega arith) (omega arith) ports)

pair_fault : (text : List ℕ) (place : ℕ) → IsRestFault PairParts text 0 place → IsLongestFront IsPairText text place
pair_fault text place f =
    let same : place - 0 ≡ place = omega arith in
    IsLongestFront-same PairParts IsPairText text place PairParts-pair pair-PairParts
    (subst (λ (n : ℕ). IsLongestFront PairParts text n) same f.front)

pub fault_in_proto : (text : List ℕ) (place : ℕ) → IsPartFault IsProtoText text 0 place → IsLongestFront IsPairText text place
fault_in_proto text place f =
    pair_fault text place (Then-stop IsProtoText (IsNumberText 1 65535) (decimal 1) (1, omega arith, omega arith, refl) text 0 place f)

pub fault_in_port : (text : List ℕ) (proto : Proto) (port_at place : ℕ) → IsPartAt (slashed proto) text 0 port_at →
    IsRestFault (IsNumberText 1 65535) text port_at place → IsLongestFront IsPairText text place
fault_in_port text proto port_at place part f =
    pair_fault text place (Then-go IsProtoText (IsNumberText 1 65535) protos_apart (slashed proto) text (proto, refl)
    0 port_at place part.within part.split part.size f)

-- a protocol's name with its slash has four bytes
pub length-slashed : (proto : Proto) → length (slashed proto) ≡ 4
length-slashed Tcp = refl
length-slashed Udp = refl

-- a port has five digits at most
pub length-decimal_port : (n : ℕ) → n < 2 ^ 16 → length (decimal n) ≤ 5
length-decimal_port n small = length-decimal-le 5 n (omega arith) (omega arith) (omega arith)
