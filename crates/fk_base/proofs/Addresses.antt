-- An address's text as three dotted bytes and one more.
use Rattle.std.proofs.Common.{◌≡◌, ℕ, zero, suc, ◌-◌, ◌/◌, ◌%◌, ◌^◌, ◌<◌, List, [], ◌∷◌, ◌++◌, get_or, drop, map, refl, sym, ◌∙◌, ap, subst, arith, append_assoc}
use Rattle.std.specs.Int.{w32, from_be_bytes}
use Rattle.std.specs.List.{join_with_byte}
use Rattle.std.specs.Fmt.{decimal}
use Rattle.std.proofs.lemmas.Fmt.{decimal_injective}
use Rattle.std.proofs.lemmas.List.{append_cancel_left}
use Rattle.std.proofs.lemmas.Nat.{be_bytes_4}
use Rattle.fk_base.specs.declared.address.Ip4.{Ip4}
use Rattle.fk_base.specs.Address.{IsIpText, ip_text}
use Rattle.fk_base.specs.Shape.{IsLongestFront}
use Rattle.fk_base.specs.Private.{IsDottedByte, IsNumberText, IsPartAt, IsPartFault, IsRestFault}
use Rattle.fk_base.proofs.Fronts.{Then, Then-stop, Then-go, IsLongestFront-same}
use Rattle.fk_base.proofs.DottedBytes.{dotted_bytes_apart, same_numbers}

abbrev pub OneByte : List ℕ → Type 0
OneByte = IsNumberText 0 255

abbrev pub TwoBytes : List ℕ → Type 0
TwoBytes = Then IsDottedByte OneByte

abbrev pub ThreeBytes : List ℕ → Type 0
ThreeBytes = Then IsDottedByte TwoBytes

abbrev pub FourBytes : List ℕ → Type 0
FourBytes = Then IsDottedByte ThreeBytes

abbrev pub dotted : ℕ → ℕ → ℕ → ℕ → List ℕ
dotted a b c d = decimal a ++ (46 ∷ (decimal b ++ (46 ∷ (decimal c ++ (46 ∷ decimal d)))))

each : (a b c d : ℕ) → a < 2 ^ 8 → b < 2 ^ 8 → c < 2 ^ 8 → d < 2 ^ 8 → (i : ℕ) → get_or (a ∷ b ∷ c ∷ d ∷ []) i 0 < 256
each a b c d small_a small_b small_c small_d zero = omega arith
each a b c d small_a small_b small_c small_d (suc zero) = omega arith
each a b c d small_a small_b small_c small_d (suc (suc zero)) = omega arith
each a b c d small_a small_b small_c small_d (suc (suc (suc zero))) = omega arith
each a b c d small_a small_b small_c small_d (suc (suc (suc (suc i)))) = omega arith

-- four bytes are those of one address
pub ip_text-from_be_bytes : (a b c d : ℕ) → a < 2 ^ 8 → b < 2 ^ 8 → c < 2 ^ 8 → d < 2 ^ 8 → (n : ℕ) →
    n ≡ from_be_bytes w32 (a ∷ b ∷ c ∷ d ∷ []) → (n < 2 ^ 32) × (dotted a b c d ≡ ip_text (record { 0 = n }))
ip_text-from_be_bytes a b c d small_a small_b small_c small_d n is =
    (omega (arith, is), ap (λ bytes. join_with_byte 46 (map decimal bytes)) (sym (be_bytes_4 (a ∷ b ∷ c ∷ d ∷ []) n refl (each a b c d small_a small_b small_c small_d) is)))

-- four bytes, joined
pub FourBytes-dotted : (text : List ℕ) → (four : FourBytes text) →
    text ≡ dotted four.is_first.0 four.is_second.is_first.0 four.is_second.is_second.is_first.0 four.is_second.is_second.is_second.0
FourBytes-dotted text four =
    let three = four.is_second in
    let two = three.is_second in
    let one = two.is_second in
    let a = four.is_first.0 in let b = three.is_first.0 in let c = two.is_first.0 in
    four.whole ∙
    rw (four.is_first.2, three.whole, three.is_first.2, two.whole, two.is_first.2, one.3) (simp append_assoc)

pub FourBytes-ip : (text : List ℕ) → FourBytes text → IsIpText text
FourBytes-ip text four =
    let three = four.is_second in
    let two = three.is_second in
    let one = two.is_second in
    let high = one.2 in
    let n = from_be_bytes w32 (four.is_first.0 ∷ three.is_first.0 ∷ two.is_first.0 ∷ one.0 ∷ []) in
    let ip = ip_text-from_be_bytes four.is_first.0 three.is_first.0 two.is_first.0 one.0
    four.is_first.1 three.is_first.1 two.is_first.1 (omega arith) n refl in
    (record { 0 = n }, ip.0, FourBytes-dotted text four ∙ ip.1)

pub dotted-FourBytes : (a b c d : ℕ) → a < 2 ^ 8 → b < 2 ^ 8 → c < 2 ^ 8 → d < 2 ^ 8 → FourBytes (dotted a b c d)
dotted-FourBytes a b c d small_a small_b small_c small_d = record {
  first = decimal a ++ (46 ∷ []);
  second = decimal b ++ (46 ∷ (decimal c ++ (46 ∷ decimal d)));
  is_first = (a, small_a, refl);
  is_second = record {
    first = decimal b ++ (46 ∷ []);
    second = decimal c ++ (46 ∷ decimal d);
    is_first = (b, small_b, refl);
    is_second = record {
      first = decimal c ++ (46 ∷ []);
      second = decimal d;
      is_first = (c, small_c, refl);
      is_second = (d, omega arith, omega arith, refl);
      whole = sym (append_assoc (decimal c) (46 ∷ []) (decimal d));
    };
    whole = sym (append_assoc (decimal b) (46 ∷ []) (decimal c ++ (46 ∷ decimal d)));
  };
  whole = sym (append_assoc (decimal a) (46 ∷ []) (decimal b ++ (46 ∷ (decimal c ++ (46 ∷ decimal d)))));
}

pub ip-FourBytes : (text : List ℕ) → IsIpText text → FourBytes text
ip-FourBytes text is =
    let n = is.0.0 in
    subst FourBytes (sym is.2) (dotted-FourBytes (n / 2 ^ 24 % 256) (n / 2 ^ 16 % 256) (n / 2 ^ 8 % 256) (n % 256)
    (omega arith) (omega arith) (omega arith) (omega arith))

-- where four bytes fail, so does an address
pub record IsIpFault (text : List ℕ) (place : ℕ) : Type 0 where
  pub front : IsLongestFront IsIpText text place
  pub wrong : IsIpText text → ⊥

ip_fault : (text : List ℕ) (place : ℕ) → IsRestFault FourBytes text 0 place → IsIpFault text place
ip_fault text place f =
    let same : place - 0 ≡ place = omega arith in
    record {
      front = IsLongestFront-same FourBytes IsIpText text place FourBytes-ip ip-FourBytes
          (subst (λ (n : ℕ). IsLongestFront FourBytes text n) same f.front);
      wrong = λ is. f.wrong (ip-FourBytes text is);
    }

one_byte : OneByte (decimal 0)
one_byte = (0, omega arith, omega arith, refl)

two_bytes : TwoBytes (decimal 0 ++ (46 ∷ []) ++ decimal 0)
two_bytes = record { first = decimal 0 ++ (46 ∷ []); second = decimal 0; is_first = (0, omega arith, refl); is_second = one_byte; whole = refl }

three_bytes : ThreeBytes ((decimal 0 ++ (46 ∷ [])) ++ (decimal 0 ++ (46 ∷ []) ++ decimal 0))
three_bytes = record { first = decimal 0 ++ (46 ∷ []); second = decimal 0 ++ (46 ∷ []) ++ decimal 0; is_first = (0, omega arith, refl); is_second = two_bytes; whole = refl }

-- a dotted byte that stands, and what fails behind it
go : (B : List ℕ → Type 0) (text : List ℕ) (byte from next place : ℕ) → byte < 2 ^ 8 →
    IsPartAt (decimal byte ++ (46 ∷ [])) text from next → IsRestFault B text next place → IsRestFault (Then IsDottedByte B) text from place
go B text byte from next place small part f =
    Then-go IsDottedByte B dotted_bytes_apart (decimal byte ++ (46 ∷ [])) text (byte, small, refl) from next place
    part.within part.split part.size f

pub fault_in_first : (text : List ℕ) (place : ℕ) → IsPartFault IsDottedByte text 0 place → IsIpFault text place
fault_in_first text place f = ip_fault text place (Then-stop IsDottedByte ThreeBytes _ three_bytes text 0 place f)

pub fault_in_second : (text : List ℕ) (a p place : ℕ) → a < 2 ^ 8 → IsPartAt (decimal a ++ (46 ∷ [])) text 0 p →
    IsPartFault IsDottedByte text p place → IsIpFault text place
fault_in_second text a p place small part f =
    ip_fault text place (go ThreeBytes text a 0 p place small part (Then-stop IsDottedByte TwoBytes _ two_bytes text p place f))

pub fault_in_third : (text : List ℕ) (a b p q place : ℕ) → a < 2 ^ 8 → IsPartAt (decimal a ++ (46 ∷ [])) text 0 p →
    b < 2 ^ 8 → IsPartAt (decimal b ++ (46 ∷ [])) text p q → IsPartFault IsDottedByte text q place → IsIpFault text place
fault_in_third text a b p q place small part small' part' f =
    ip_fault text place (go ThreeBytes text a 0 p place small part
    (go TwoBytes text b p q place small' part' (Then-stop IsDottedByte OneByte _ one_byte text q place f)))

pub fault_in_fourth : (text : List ℕ) (a b c p q r place : ℕ) → a < 2 ^ 8 → IsPartAt (decimal a ++ (46 ∷ [])) text 0 p →
    b < 2 ^ 8 → IsPartAt (decimal b ++ (46 ∷ [])) text p q → c < 2 ^ 8 → IsPartAt (decimal c ++ (46 ∷ [])) text q r →
    IsRestFault OneByte text r place → IsIpFault text place
fault_in_fourth text a b c p q r place small part small' part' small'' part'' f =
    ip_fault text place (go ThreeBytes text a 0 p place small part
    (go TwoBytes text b p q place small' part' (go OneByte text c q r place small'' part'' f)))

-- one address has a text
next_number : (m n : ℕ) (u v : List ℕ) → m < 2 ^ 64 → n < 2 ^ 64 → decimal m ++ (46 ∷ u) ≡ decimal n ++ (46 ∷ v) →
    (m ≡ n) × (u ≡ v)
next_number m n u v small small' same =
    let digits = same_numbers m n u v small small' same in
    let rest : 46 ∷ u ≡ 46 ∷ v = append_cancel_left (decimal m) (46 ∷ u) (46 ∷ v) (same ∙ ap (λ (x : List ℕ). x ++ (46 ∷ v)) (sym digits)) in
    (decimal_injective m n small small' digits, cc)

pub ip_text-injective : (x y : Ip4) → x.0 < 2 ^ 32 → y.0 < 2 ^ 32 → ip_text x ≡ ip_text y → x ≡ y
ip_text-injective x y small_x small_y same =
    let m = x.0 in
    let n = y.0 in
    let a = next_number (m / 2 ^ 24 % 256) (n / 2 ^ 24 % 256) _ _ (omega arith) (omega arith) same in
    let b = next_number (m / 2 ^ 16 % 256) (n / 2 ^ 16 % 256) _ _ (omega arith) (omega arith) a.1 in
    let c = next_number (m / 2 ^ 8 % 256) (n / 2 ^ 8 % 256) _ _ (omega arith) (omega arith) b.1 in
    let d = decimal_injective (m % 256) (n % 256) (omega arith) (omega arith) c.1 in
    let numbers : m ≡ n = omega arith in
    ap (λ (k : ℕ). let ip : Ip4 = record { 0 = k } in ip) numbers

-- the parts that were read are the whole
pub dotted_from_parts : (text : List ℕ) (a b c d p q r : ℕ) → IsPartAt (decimal a ++ (46 ∷ [])) text 0 p →
    IsPartAt (decimal b ++ (46 ∷ [])) text p q → IsPartAt (decimal c ++ (46 ∷ [])) text q r → drop r text ≡ decimal d →
    text ≡ dotted a b c d
dotted_from_parts text a b c d p q r first second third fourth =
    let whole : text ≡ (decimal a ++ (46 ∷ [])) ++ drop p text = first.split in
    whole ∙ rw (second.split, third.split, fourth) (simp append_assoc)
