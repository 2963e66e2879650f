-- A net's text: an address without a slash, or an address, a slash and a number.
use Rattle.std.proofs.Common.{◌≡◌, ℕ, suc, ◌+◌, ◌-◌, ◌*◌, ◌/◌, ◌%◌, ◌^◌, ◌<◌, ◌≤◌, false, List, [], ◌∷◌, ◌++◌, length, take, drop, map, Option, Some, None, Result, Ok, Err, inl, inr, refl, sym, ◌∙◌, ap, subst, arith, length-append, append_assoc}
use Rattle.std.specs.Prelude.{◌==◌}
use Rattle.std.specs.List.{All, join_with_byte, position}
use Rattle.std.specs.Fmt.{decimal}
use Rattle.std.specs.Option.{unwrap_or}
use Rattle.std.proofs.Math.Bridge.{le_prop}
use Rattle.std.proofs.Math.Nat.{ℕ_set, mul-mod_left}
use Rattle.std.proofs.lemmas.Bool.{cases_lt}
use Rattle.std.proofs.lemmas.List.{append_cancel_left, append-nil, take-append-drop, length-take-le, take-append-le}
use Rattle.std.proofs.lemmas.List.Elements.{All-append, All-cons}
use Rattle.std.proofs.lemmas.Fmt.{decimal_injective}
use Rattle.fk_base.specs.declared.address.Ip4.{Ip4}
use Rattle.fk_base.specs.declared.net.Net4.{Net4}
use Rattle.fk_base.specs.Address.{IsIpText, ip_text}
use Rattle.fk_base.specs.Net.{IsNetText, SpellsNet, cleared, net_text}
use Rattle.fk_base.specs.Private.{IsFirstAt, IsNumberText, IsRestFault, Lacks}
use Rattle.fk_base.specs.Shape.{CanBegin, IsLongestFront}
use Rattle.fk_base.proofs.Addresses.{ip_text-injective}
use Rattle.fk_base.proofs.Fronts.{Then, Then-go, IsPrefixFree, split_longer, take-append-add}
use Rattle.fk_base.proofs.FirstPlaces.{has_byte, one_split}
use Rattle.fk_base.proofs.Joined.{Lacks-decimal}

-- an address has no slash
pub Lacks-ip_text : (ip : Ip4) → Lacks 47 (ip_text ip)
Lacks-ip_text ip =
    let n = ip.0 in
    let P : ℕ → Type 0 = λ x. (x == 47) ≡ false in
    let each : (k : ℕ) → k < 256 → Lacks 47 (decimal k) = λ k lt. Lacks-decimal 47 k (inr (omega arith)) (omega arith) in
    let dotted : (a : List ℕ) (b : List ℕ) → Lacks 47 a → Lacks 47 b → Lacks 47 (a ++ 46 ∷ b) =
    λ a b la lb. All-append (λ x. (x == 47) ≡ false) a (46 ∷ b) la (All-cons (λ x. (x == 47) ≡ false) 46 b refl lb) in
    dotted (decimal (n / 16777216 % 256)) _ (each _ (omega arith))
    (dotted (decimal (n / 65536 % 256)) _ (each _ (omega arith))
    (dotted (decimal (n / 256 % 256)) _ (each _ (omega arith)) (each (n % 256) (omega arith))))

abbrev net_of : (base bits : ℕ) → bits ≤ 32 → base % 2 ^ (32 - bits) ≡ 0 → Net4
net_of base bits few clear = record { base = record { 0 = base }; bits = bits; few = few; clear = clear }

same_parts : (b c m n : ℕ) → b ≡ c → m ≡ n → (few : m ≤ 32) (few' : n ≤ 32) (clear : b % 2 ^ (32 - m) ≡ 0) (clear' : c % 2 ^ (32 - n) ≡ 0)
    → net_of b m few clear ≡ net_of c n few' clear'
same_parts b c m n bases bits =
    let P : ℕ → Type 0 = λ k. (few : m ≤ 32) (few' : n ≤ 32) (clear : b % 2 ^ (32 - m) ≡ 0) (clear' : k % 2 ^ (32 - n) ≡ 0)
    → net_of b m few clear ≡ net_of k n few' clear' in
    let Q : ℕ → Type 0 = λ k. (few : m ≤ 32) (few' : k ≤ 32) (clear : b % 2 ^ (32 - m) ≡ 0) (clear' : b % 2 ^ (32 - k) ≡ 0)
    → net_of b m few clear ≡ net_of b k few' clear' in
    subst P bases (subst Q bits (λ few few' clear clear'.
    ap (λ f. net_of b m f clear) (le_prop few few') ∙ ap (λ e. net_of b m few' e) (ℕ_set (b % 2 ^ (32 - m)) 0 clear clear')))

-- a net is its base and its bits
pub Net4-same : (x y : Net4) → x.base.0 ≡ y.base.0 → x.bits ≡ y.bits → x ≡ y
Net4-same x y bases bits = same_parts x.base.0 y.base.0 x.bits y.bits bases bits x.few y.few x.clear y.clear

-- the net of an address and a number of bits
pub net_from : (ip : Ip4) (bits : ℕ) → bits ≤ 32 → Net4
net_from ip bits few = net_of (cleared bits ip) bits few (mul-mod_left (ip.0 / 2 ^ (32 - bits)) (2 ^ (32 - bits)))

-- a text without a slash is that of one address
pub whole_net : (text : List ℕ) (net : Net4) → Lacks 47 text → (s : SpellsNet text net) → (text ≡ ip_text s.ip) × (net.bits ≡ 32)
whole_net text net lacks s = by_bits s.bits s.text_is s.bits_are
  where
    by_bits : (bits : Option ℕ) → text ≡ net_text s.ip bits → net.bits ≡ unwrap_or bits 32 → (text ≡ ip_text s.ip) × (net.bits ≡ 32)
    by_bits None is same = (is, same)
    by_bits (Some bits) is same = absurd (has_byte 47 (ip_text s.ip) (decimal bits) (subst (Lacks 47) is lacks))

-- what a text is with a slash behind its first bytes
pub record SlashedNet (front rest : List ℕ) (net : Net4) (ip : Ip4) : Type 0 where
  pub address : front ≡ ip_text ip
  pub digits : rest ≡ decimal net.bits

pub slashed_net : (front rest : List ℕ) (net : Net4) → Lacks 47 front → (s : SpellsNet (front ++ 47 ∷ rest) net) → SlashedNet front rest net s.ip
slashed_net front rest net lacks s = by_bits s.bits s.text_is s.bits_are
  where
    by_bits : (bits : Option ℕ) → front ++ 47 ∷ rest ≡ net_text s.ip bits → net.bits ≡ unwrap_or bits 32 → SlashedNet front rest net s.ip
    by_bits None is same = absurd (has_byte 47 front rest (subst (Lacks 47) (sym is) (Lacks-ip_text s.ip)))
    by_bits (Some bits) is same =
        let parts = one_split 47 front rest (ip_text s.ip) (decimal bits) lacks (Lacks-ip_text s.ip) is in
        record { address = parts.0; digits = parts.1 ∙ ap decimal (sym same) }

pub IsIpText-net : (text : List ℕ) → IsIpText text → IsNetText text
unfolding net_from
IsIpText-net text is = (
  net_from is.0 32 (omega arith),
  record { ip = is.0; bits = None; address = is.1; text_is = is.2; bits_are = refl; base_is = refl },
)

pub slashed-IsNetText : (ip : Ip4) (bits : ℕ) → ip.0 < 2 ^ 32 → bits ≤ 32 → IsNetText (ip_text ip ++ 47 ∷ decimal bits)
unfolding net_from
slashed-IsNetText ip bits small few = (
  net_from ip bits few,
  record { ip = ip; bits = Some bits; address = small; text_is = refl; bits_are = refl; base_is = refl },
)

-- a net's text is that of an address, or one with a slash
by_kind : {P : Type 0} → (text : List ℕ) → IsNetText text → (IsIpText text → P)
    → ((ip : Ip4) (bits : ℕ) → ip.0 < 2 ^ 32 → bits ≤ 32 → text ≡ ip_text ip ++ 47 ∷ decimal bits → P) → P
by_kind {P} text is whole slashed = by_bits is.1.bits is.1.text_is is.1.bits_are
  where
    by_bits : (bits : Option ℕ) → text ≡ net_text is.1.ip bits → is.0.bits ≡ unwrap_or bits 32 → P
    by_bits None same bits = whole (is.1.ip, is.1.address, same)
    by_bits (Some n) same bits = slashed is.1.ip n is.1.address (let few = is.0.few in omega arith) same

-- in an address that goes wrong before a slash, so does the net
pub longest_in_address : (front rest : List ℕ) (k : ℕ) → Lacks 47 front
    → ((more : ℕ) → length front < more → more ≤ length (front ++ rest) → CanBegin IsNetText (take more (front ++ rest)) → ⊥)
    → IsLongestFront IsIpText front k → IsLongestFront IsNetText (front ++ rest) k
longest_in_address front rest k lacks past f =
    let both = length-append front rest in
    let inside = f.inside in
    record {
      inside = omega arith;
      begins = subst (CanBegin IsNetText) (sym (take-append-le k front rest inside)) (f.begins.0, IsIpText-net (take k front ++ f.begins.0) f.begins.1);
      longest = λ more within c. elim (cases_lt (length front) more) [
        | inl longer ↦ absurd (past more longer within c)
        | inr short ↦
            let d : CanBegin IsNetText (take more front) = subst (CanBegin IsNetText) (take-append-le more front rest short) c in
            by_kind (take more front ++ d.0) d.1
            (λ is. f.longest more short (d.0, is))
            (λ ip bits small few same. elim (cases_lt (length (ip_text ip)) (length (take more front))) [
              | inr fits ↦
                  let e = split_longer (take more front) (ip_text ip) d.0 (47 ∷ decimal bits) same fits in
                  f.longest more short (e.0, (ip, small, sym e.1))
              | inl over ↦ absurd (
                  let e = split_longer (ip_text ip) (take more front) (47 ∷ decimal bits) d.0 (sym same) (omega arith) in
                  let whole : front ≡ ip_text ip ++ (e.0 ++ drop more front) =
                  sym (take-append-drop more front) ∙ ap (λ (x : List ℕ). x ++ drop more front) e.1 ∙ append_assoc (ip_text ip) e.0 (drop more front) in
                  begins_with_slash e.0 (ip_text ip) (drop more front) front d.0 (decimal bits) e.2
                  (let sizes = length-append (ip_text ip) e.0 in let same_size = ap length e.1 in omega arith) whole lacks)
            ])
      ];
    }
  where
    begins_with_slash : (d a more front r digits : List ℕ) → 47 ∷ digits ≡ d ++ r → 0 < length d → front ≡ a ++ (d ++ more) → Lacks 47 front → ⊥
    begins_with_slash [] a more front r digits same some whole lacks = omega arith
    begins_with_slash (x ∷ d) a more front r digits same some whole lacks =
        let first : x ≡ 47 = cc in
        has_byte 47 a (d ++ more) (subst (Lacks 47) (whole ∙ ap (λ (y : ℕ). a ++ y ∷ (d ++ more)) first) lacks)

-- a text with a slash and no address before it begins no net's text past its slash
pub no_net_past : (front rest : List ℕ) → Lacks 47 front → (IsIpText front → ⊥) → (more : ℕ) → length front < more
    → more ≤ length (front ++ 47 ∷ rest) → CanBegin IsNetText (take more (front ++ 47 ∷ rest)) → ⊥
no_net_past front rest lacks wrong more longer within c =
    let parts : more ≡ length front + suc (more - length front - 1) = omega arith in
    let cut : take more (front ++ 47 ∷ rest) ≡ front ++ 47 ∷ take (more - length front - 1) rest =
    ap (λ n. take n (front ++ 47 ∷ rest)) parts ∙ take-append-add front (47 ∷ rest) (suc (more - length front - 1)) in
    let whole : take more (front ++ 47 ∷ rest) ++ c.0 ≡ front ++ 47 ∷ (take (more - length front - 1) rest ++ c.0) =
    ap (λ (x : List ℕ). x ++ c.0) cut ∙ append_assoc front (47 ∷ take (more - length front - 1) rest) c.0 in
    let net = slashed_net front (take (more - length front - 1) rest ++ c.0) c.1.0 lacks (subst (λ (x : List ℕ). SpellsNet x c.1.0) whole c.1.1) in
    wrong (c.1.1.ip, c.1.1.address, net.address)

-- an address and a slash
abbrev IsSlashedIp : List ℕ → Type 0
IsSlashedIp text = (ip : Ip4) × (ip.0 < 2 ^ 32) × (text ≡ ip_text ip ++ 47 ∷ [])

slashed_apart : IsPrefixFree IsSlashedIp
slashed_apart a b u v is_a is_b same =
    let whole : ip_text is_a.0 ++ 47 ∷ u ≡ ip_text is_b.0 ++ 47 ∷ v =
    sym (append_assoc (ip_text is_a.0) (47 ∷ []) u) ∙ ap (λ (x : List ℕ). x ++ u) (sym is_a.2) ∙ same ∙ ap (λ (x : List ℕ). x ++ v) is_b.2
    ∙ append_assoc (ip_text is_b.0) (47 ∷ []) v in
    let fronts = one_split 47 (ip_text is_a.0) u (ip_text is_b.0) v (Lacks-ip_text is_a.0) (Lacks-ip_text is_b.0) whole in
    is_a.2 ∙ ap (λ (x : List ℕ). x ++ 47 ∷ []) fronts.0 ∙ sym is_b.2

-- in the bits behind a slash
pub longest_in_bits : (text : List ℕ) (slash place : ℕ) (ip : Ip4) → ip.0 < 2 ^ 32 → IsFirstAt 47 text slash → take slash text ≡ ip_text ip
    → IsRestFault (IsNumberText 0 32) text (slash + 1) place → IsLongestFront IsNetText text place
longest_in_bits text slash place ip small first address f =
    let a = take slash text ++ 47 ∷ [] in
    let cut = length-take-le slash text (let lt = first.within in omega arith) in
    let size : length (take slash text ++ 47 ∷ []) ≡ slash + 1 = length-append (take slash text) (47 ∷ []) ∙ omega arith in
    let split : text ≡ (take slash text ++ 47 ∷ []) ++ drop (slash + 1) text =
    first.split ∙ sym (append_assoc (take slash text) (47 ∷ []) (drop (slash + 1) text)) in
    let within = first.within in
    let rest = Then-go IsSlashedIp (IsNumberText 0 32) slashed_apart (take slash text ++ 47 ∷ []) text
    (ip, small, ap (λ (x : List ℕ). x ++ 47 ∷ []) address) 0 (slash + 1) place (omega arith) split (omega arith) f in
    let same : place - 0 ≡ place = omega arith in
    let g : IsLongestFront (Then IsSlashedIp (IsNumberText 0 32)) text place =
    subst (λ (n : ℕ). IsLongestFront (Then IsSlashedIp (IsNumberText 0 32)) text n) same rest.front in
    let past = f.past in
    record {
      inside = g.inside;
      begins = (g.begins.0, to_net (take place text ++ g.begins.0) g.begins.1);
      longest = λ more within' c. elim (cases_lt (slash + 1) more) [
        | inr short ↦ omega arith
        | inl longer ↦ g.longest more within' (c.0, from_net text slash more first longer c.0 c.1)
      ];
    }
  where
    to_net : (t : List ℕ) → Then IsSlashedIp (IsNumberText 0 32) t → IsNetText t
    to_net t th =
        subst IsNetText
        (sym (th.whole ∙ rw (th.is_first.2, th.is_second.3) (append_assoc (ip_text th.is_first.0) (47 ∷ []) (decimal th.is_second.0))))
        (slashed-IsNetText th.is_first.0 th.is_second.0 th.is_first.1 th.is_second.2)

    from_net : (text : List ℕ) (slash more : ℕ) → IsFirstAt 47 text slash → slash + 1 < more → (r : List ℕ) → IsNetText (take more text ++ r)
        → Then IsSlashedIp (IsNumberText 0 32) (take more text ++ r)
    from_net text slash more first longer r is = by_kind (take more text ++ r) is
        (λ whole. absurd (
        let parts : more ≡ length (take slash text) + suc (more - slash - 1) = (let cut = length-take-le slash text (let lt = first.within in omega arith) in omega arith) in
        let cut : take more text ≡ take slash text ++ 47 ∷ take (more - slash - 1) (drop (slash + 1) text) =
        ap (take more) first.split ∙ ap (λ n. take n (take slash text ++ 47 ∷ drop (slash + 1) text)) parts
        ∙ take-append-add (take slash text) (47 ∷ drop (slash + 1) text) (suc (more - slash - 1)) in
        has_byte 47 (take slash text) (take (more - slash - 1) (drop (slash + 1) text) ++ r)
        (subst (Lacks 47) (sym whole.2 ∙ ap (λ (x : List ℕ). x ++ r) cut ∙ append_assoc (take slash text) (47 ∷ take (more - slash - 1) (drop (slash + 1) text)) r) (Lacks-ip_text whole.0))))
        (λ ip bits small few same. record {
          first = ip_text ip ++ 47 ∷ [];
          second = decimal bits;
          is_first = (ip, small, refl);
          is_second = (bits, omega arith, few, refl);
          whole = same ∙ sym (append_assoc (ip_text ip) (47 ∷ []) (decimal bits));
        })

-- in a text without a slash
pub longest_in_whole : (text : List ℕ) (k : ℕ) → Lacks 47 text → IsLongestFront IsIpText text k → IsLongestFront IsNetText text k
longest_in_whole text k lacks f =
    subst (λ (x : List ℕ). IsLongestFront IsNetText x k) (append-nil text)
    (longest_in_address text [] k lacks
    (λ more longer within c. let same = ap length (append-nil text) in omega arith) f)

-- in the address before a slash
pub longest_before_slash : (text : List ℕ) (slash k : ℕ) → IsFirstAt 47 text slash → (IsIpText (take slash text) → ⊥)
    → IsLongestFront IsIpText (take slash text) k → IsLongestFront IsNetText text k
longest_before_slash text slash k first wrong f =
    subst (λ (x : List ℕ). IsLongestFront IsNetText x k) (sym first.split)
    (longest_in_address (take slash text) (47 ∷ drop (slash + 1) text) k first.lacks
    (no_net_past (take slash text) (drop (slash + 1) text) first.lacks wrong) f)

-- what a text spells whose first slash is known
pub net_behind : (text : List ℕ) (slash : ℕ) (net : Net4) → IsFirstAt 47 text slash → (s : SpellsNet text net)
    → (take slash text ≡ ip_text s.ip) × (drop (slash + 1) text ≡ decimal net.bits)
net_behind text slash net first s =
    let t : SpellsNet (take slash text ++ 47 ∷ drop (slash + 1) text) net =
    record { ip = s.ip; bits = s.bits; address = s.address; text_is = sym first.split ∙ s.text_is; bits_are = s.bits_are; base_is = s.base_is } in
    let both = slashed_net (take slash text) (drop (slash + 1) text) net first.lacks t in
    (both.address, both.digits)
