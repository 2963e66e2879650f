-- A text has the parts of a net exactly where it is that of a net.
use Rattle.std.proofs.Common.{◌≡◌, ℕ, ◌<◌, ◌≤◌, ◌^◌, true, false, List, [], ◌∷◌, ◌++◌, Option, Some, None, Result, Ok, Err, refl, sym, subst, ap, ◌∙◌, arith, inr}
use Rattle.std.specs.Prelude.{is_some, IfSome, unwrap_or}
use Rattle.std.specs.List.{join_with_byte}
use Rattle.std.specs.Fmt.{decimal}
use Rattle.std.proofs.lemmas.Bool.{and_parts, false_from_ne_true}
use Rattle.fk_base.specs.declared.address.Ip4.{Ip4}
use Rattle.fk_base.specs.declared.net.Net4.{Net4}
use Rattle.fk_base.specs.declared.shape.ShapeFault.{ShapeFault}
use Rattle.fk_base.specs.Address.{ip_in, ip_text}
use Rattle.fk_base.specs.Decimal.{number_in}
use Rattle.fk_base.specs.Net.{IsNetText, SpellsNet, net_text}
use Rattle.fk_base.specs.Parts.{parts_at}
use Rattle.fk_base.proofs.FoundValues.{ip_in_some, ip_in-ip_text, number_in_some, number_in-decimal}
use Rattle.fk_base.proofs.Joined.{join-parts_at, parts_at-join, Lacks-decimal}
use Rattle.fk_base.proofs.NetTexts.{IsIpText-net, Lacks-ip_text, slashed-IsNetText}
use Rattle.fk_values.specs.Values.{are_net_parts, is_net_text}

some_of : {A : Type 0} (o : Option A) → is_some o ≡ true → (x : A) × (o ≡ Some x)
some_of None is = cc
some_of (Some x) is = (x, refl)

slashed : (address bits : List ℕ) (ip : Ip4) (n : ℕ) → address ≡ ip_text ip → bits ≡ decimal n → ip.0 < 2 ^ 32 → n ≤ 32 → IsNetText (address ++ 47 ∷ bits)
slashed address bits ip n address_is bits_are small few = rw (address_is, bits_are) (slashed-IsNetText ip n small few)

net_from_parts : (parts : List (List ℕ)) → are_net_parts parts ≡ true → IsNetText (join_with_byte 47 parts)
net_from_parts [] is = cc
net_from_parts (address ∷ []) is =
    let found = some_of (ip_in address) is in
    let spelled = ip_in_some address found.0 found.1 in
    IsIpText-net address (found.0, spelled.0, spelled.1)
net_from_parts (address ∷ bits ∷ []) is =
    let both = and_parts (is_some (ip_in address)) (is_some (number_in 32 bits)) is in
    let found = some_of (ip_in address) both.0 in
    let spelled = ip_in_some address found.0 found.1 in
    let number = some_of (number_in 32 bits) both.1 in
    let written = number_in_some 32 number.0 bits (omega arith) number.1 in
    slashed address bits found.0 number.0 spelled.1 written.0 spelled.0 written.1
net_from_parts (address ∷ bits ∷ more ∷ others) is = cc

pub net_is_text : (text : List ℕ) → is_net_text text ≡ true → IsNetText text
net_is_text text is = subst IsNetText (sym (join-parts_at 47 text (parts_at 47 text) refl)) (net_from_parts (parts_at 47 text) is)

text_has_parts : (ip : Ip4) (bits : Option ℕ) → ip.0 < 2 ^ 32 → IfSome bits (λ b. b ≤ 32) → is_net_text (net_text ip bits) ≡ true
text_has_parts ip None small few =
    ap are_net_parts (parts_at-join 47 (ip_text ip) [] (Lacks-ip_text ip, tt)) ∙ ap is_some (ip_in-ip_text ip small)
text_has_parts ip (Some bits) small few =
    ap are_net_parts (parts_at-join 47 (ip_text ip) (decimal bits ∷ []) (Lacks-ip_text ip, (Lacks-decimal 47 bits (inr (omega arith)) (omega arith), tt)))
    ∙ rw (ip_in-ip_text ip small, number_in-decimal 32 bits (omega arith) few) refl

few_bits : (bits : Option ℕ) (n : ℕ) → n ≤ 32 → n ≡ unwrap_or bits 32 → IfSome bits (λ b. b ≤ 32)
few_bits None n few is = tt
few_bits (Some b) n few is = omega arith

pub text_is_net : (text : List ℕ) → IsNetText text → is_net_text text ≡ true
text_is_net text (net, spelled) =
    ap is_net_text spelled.text_is ∙ text_has_parts spelled.ip spelled.bits spelled.address (few_bits spelled.bits net.bits net.few spelled.bits_are)

pub no_net_text : (text : List ℕ) (fault : ShapeFault) (read : Result Net4 ShapeFault) → read ≡ Err fault →
    ((net : Net4) → SpellsNet text net → read ≡ Ok net) → is_net_text text ≡ false
no_net_text text fault read failed every =
    false_from_ne_true (is_net_text text) (λ is. absurd (let found = net_is_text text is in let e = every found.0 found.1 in cc))
