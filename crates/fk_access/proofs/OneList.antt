-- A text says one list of stanzas at most.
use Rattle.std.proofs.Common.{◌≡◌, ℕ, ◌<◌, ◌≤◌, ◌^◌, List, [], ◌∷◌, length, Option, Some, None, refl, sym, ◌∙◌, ap, subst, inr, arith}
use Rattle.std.proofs.Math.Bridge.{le_prop}
use Rattle.std.specs.Prelude.{IfSome, unwrap_or}
use Rattle.std.specs.List.{AllZip}
use Rattle.std.specs.Fmt.{decimal}
use Rattle.std.proofs.lemmas.Option.{same_Some}
use Rattle.fk_base.specs.Address.{ip_in, ip_text}
use Rattle.fk_base.specs.Decimal.{number_in}
use Rattle.fk_base.specs.Net.{SpellsNet, cleared, net_text}
use Rattle.fk_base.specs.Parts.{parts_at}
use Rattle.fk_base.specs.declared.address.Ip4.{Ip4}
use Rattle.fk_base.specs.declared.hash_kind.HashKind.{HashKind}
use Rattle.fk_base.specs.declared.keys.Keys.{Keys}
use Rattle.fk_base.specs.declared.net.Net4.{Net4}
use Rattle.fk_base.proofs.FoundValues.{ip_in-ip_text, number_in-decimal}
use Rattle.fk_base.proofs.Joined.{parts_at-join, Lacks-decimal}
use Rattle.fk_base.proofs.NetTexts.{Lacks-ip_text, Net4-same}
use Rattle.fk_lines.specs.Lines.{NumberedLine, Setting}
use Rattle.fk_subst.specs.declared.piece.Piece.{Piece}
use Rattle.fk_subst.proofs.Pieces.{one_template}
use Rattle.fk_subst.specs.Template.{words_in}
use Rattle.fk_values.specs.Settings.{settings_of}
use Rattle.fk_access.specs.declared.key_ring.TimedKeys.{TimedKeys}
use Rattle.fk_access.specs.declared.sources.Sources.{Sources}
use Rattle.fk_access.specs.declared.sources.Sources.TheVariants.{Any, Nets}
use Rattle.fk_access.specs.declared.stanza.Stanza.{Stanza}
use Rattle.fk_access.specs.AccessFault.{access_stanzas}
use Rattle.fk_access.specs.KeyPairs.{given_behind, key_pairs}
use Rattle.fk_access.specs.ReadsAccess.{GivesCommand, GivesSources, IsGiven, IsPairOf, IsStanzaOf, ReadsAccess}
use Rattle.fk_access.specs.SourcesOf.{AreSourcesOf}

-- a net

abbrev net_parts : Ip4 → Option ℕ → List (List ℕ)
net_parts ip None = ip_text ip ∷ []
net_parts ip (Some bits) = ip_text ip ∷ decimal bits ∷ []

parts_of_net : (ip : Ip4) (bits : Option ℕ) → IfSome bits (λ b. b ≤ 32) → parts_at 47 (net_text ip bits) ≡ net_parts ip bits
parts_of_net ip None few = parts_at-join 47 (ip_text ip) [] (Lacks-ip_text ip, tt)
parts_of_net ip (Some bits) few = parts_at-join 47 (ip_text ip) (decimal bits ∷ []) (Lacks-ip_text ip, (Lacks-decimal 47 bits (inr (omega arith)) (omega arith), tt))

same_ip : (a b : Ip4) → a.0 < 2 ^ 32 → b.0 < 2 ^ 32 → ip_text a ≡ ip_text b → a ≡ b
same_ip a b small_a small_b same = same_Some a b (sym (ip_in-ip_text a small_a) ∙ ap ip_in same ∙ ip_in-ip_text b small_b)

same_bits : (m n : ℕ) → m ≤ 32 → n ≤ 32 → decimal m ≡ decimal n → m ≡ n
same_bits m n few_m few_n same =
    same_Some m n (sym (number_in-decimal 32 m (omega arith) few_m) ∙ ap (number_in 32) same ∙ number_in-decimal 32 n (omega arith) few_n)

same_net_parts : (a b : Ip4) (m n : Option ℕ) → a.0 < 2 ^ 32 → b.0 < 2 ^ 32 → IfSome m (λ k. k ≤ 32) → IfSome n (λ k. k ≤ 32) →
    net_parts a m ≡ net_parts b n → (a ≡ b) × (unwrap_or m 32 ≡ unwrap_or n 32)
same_net_parts a b None None small_a small_b few_m few_n same =
    let texts : ip_text a ≡ ip_text b = cc in (same_ip a b small_a small_b texts, refl)
same_net_parts a b (Some m) (Some n) small_a small_b few_m few_n same =
    let texts : ip_text a ≡ ip_text b = cc in
    let digits : decimal m ≡ decimal n = cc in
    (same_ip a b small_a small_b texts, same_bits m n few_m few_n digits)
same_net_parts a b None (Some n) small_a small_b few_m few_n same = cc
same_net_parts a b (Some m) None small_a small_b few_m few_n same = cc

few_bits : (bits : Option ℕ) (n : ℕ) → n ≤ 32 → n ≡ unwrap_or bits 32 → IfSome bits (λ b. b ≤ 32)
few_bits None n few is = tt
few_bits (Some b) n few is = omega arith

one_net : (text : List ℕ) (x y : Net4) → SpellsNet text x → SpellsNet text y → x ≡ y
one_net text x y s t =
    let few_s = few_bits s.bits x.bits x.few s.bits_are in
    let few_t = few_bits t.bits y.bits y.few t.bits_are in
    let parts = sym (parts_of_net s.ip s.bits few_s) ∙ ap (parts_at 47) (sym s.text_is ∙ t.text_is) ∙ parts_of_net t.ip t.bits few_t in
    let same = same_net_parts s.ip t.ip s.bits t.bits s.address t.address few_s few_t parts in
    let bits : x.bits ≡ y.bits = s.bits_are ∙ same.1 ∙ sym t.bits_are in
    Net4-same x y (s.base_is ∙ ap (λ (n : ℕ). cleared n s.ip) bits ∙ ap (cleared y.bits) same.0 ∙ sym t.base_is) bits

nets_same : (items : List (List ℕ)) (x y : List Net4) → AllZip SpellsNet items x → AllZip SpellsNet items y → x ≡ y
nets_same [] [] [] s t = refl
nets_same [] [] (b ∷ y) s t = absurd t
nets_same [] (a ∷ x) y s t = absurd s
nets_same (i ∷ items) [] y s t = absurd s
nets_same (i ∷ items) (a ∷ x) [] s t = absurd t
nets_same (i ∷ items) (a ∷ x) (b ∷ y) s t =
    ap (λ (n : Net4). n ∷ x) (one_net i a b s.0 t.0) ∙ ap (λ (l : List Net4). b ∷ l) (nets_same items x y s.1 t.1)

sources_same : (value : List ℕ) (x y : Sources) → AreSourcesOf value x → AreSourcesOf value y → x ≡ y
sources_same value Any Any s t = refl
sources_same value Any (Nets y) s t = let u = t.0 in cc
sources_same value (Nets x) Any s t = let u = s.0 in cc
sources_same value (Nets x) (Nets y) s t = ap Nets (nets_same _ x y s.1 t.1)

given_sources : (given : Option Setting) (x y : Sources) → GivesSources given x → GivesSources given y → x ≡ y
given_sources None x y s t = absurd s
given_sources (Some setting) x y s t = sources_same setting.value x y s t

given_command : (given : Option Setting) (x y : List (List Piece)) → GivesCommand given x → GivesCommand given y → x ≡ y
given_command None x y s t = absurd s
given_command (Some setting) x y s t = one_template x y (words_in setting.value) s.words t.words

-- keys are their three parts

abbrev keys_of : (key : List ℕ) (kind : HashKind) (mac_key : List ℕ) → 1 ≤ length key → length key ≤ 128 → 1 ≤ length mac_key → length mac_key ≤ 128 → Keys
keys_of key kind mac_key a b c d = record { key = key; kind = kind; mac_key = mac_key; has_key = a; short_key = b; has_mac_key = c; short_mac_key = d }

same_keys : (key key' : List ℕ) (kind kind' : HashKind) (mac mac' : List ℕ) → key ≡ key' → kind ≡ kind' → mac ≡ mac' →
    (a : 1 ≤ length key) (b : length key ≤ 128) (c : 1 ≤ length mac) (d : length mac ≤ 128)
    (a' : 1 ≤ length key') (b' : length key' ≤ 128) (c' : 1 ≤ length mac') (d' : length mac' ≤ 128) →
    keys_of key kind mac a b c d ≡ keys_of key' kind' mac' a' b' c' d'
same_keys key key' kind kind' mac mac' keys kinds macs =
    let P : List ℕ → Type 0 = λ k. (a : 1 ≤ length key) (b : length key ≤ 128) (c : 1 ≤ length mac) (d : length mac ≤ 128)
    (a' : 1 ≤ length k) (b' : length k ≤ 128) (c' : 1 ≤ length mac') (d' : length mac' ≤ 128) →
    keys_of key kind mac a b c d ≡ keys_of k kind' mac' a' b' c' d' in
    let Q : List ℕ → Type 0 = λ m. (a : 1 ≤ length key) (b : length key ≤ 128) (c : 1 ≤ length mac) (d : length mac ≤ 128)
    (a' : 1 ≤ length key) (b' : length key ≤ 128) (c' : 1 ≤ length m) (d' : length m ≤ 128) →
    keys_of key kind mac a b c d ≡ keys_of key kind' m a' b' c' d' in
    subst P keys (subst Q macs (λ a b c d a' b' c' d'.
    ap (λ k. keys_of key k mac a b c d) kinds ∙ ap (λ p. keys_of key kind' mac p b c d) (le_prop a a') ∙ ap (λ p. keys_of key kind' mac a' p c d) (le_prop b b')
    ∙ ap (λ p. keys_of key kind' mac a' b' p d) (le_prop c c') ∙ ap (λ p. keys_of key kind' mac a' b' c' p) (le_prop d d')))

keys_same : (x y : Keys) → x.key ≡ y.key → x.kind ≡ y.kind → x.mac_key ≡ y.mac_key → x ≡ y
keys_same x y keys kinds macs =
    same_keys x.key y.key x.kind y.kind x.mac_key y.mac_key keys kinds macs x.has_key x.short_key x.has_mac_key x.short_mac_key
    y.has_key y.short_key y.has_mac_key y.short_mac_key

-- a stanza

one_timed : (settings : List Setting) (x y : TimedKeys) → IsPairOf settings x → IsPairOf settings y → x ≡ y
one_timed settings x y s t =
    let keys = keys_same x.keys y.keys (same_Some x.keys.key y.keys.key (sym s.key ∙ t.key)) (s.kind ∙ sym t.kind)
    (same_Some x.keys.mac_key y.keys.mac_key (sym s.mac_key ∙ t.mac_key)) in
    let until = s.until ∙ sym t.until in
    λ i. record { keys = keys i; until = until i }

one_ring : (pairs : List (List Setting)) (x y : List TimedKeys) → AllZip IsPairOf pairs x → AllZip IsPairOf pairs y → x ≡ y
one_ring [] [] [] s t = refl
one_ring [] [] (b ∷ y) s t = absurd t
one_ring [] (a ∷ x) y s t = absurd s
one_ring (p ∷ pairs) [] y s t = absurd s
one_ring (p ∷ pairs) (a ∷ x) [] s t = absurd t
one_ring (p ∷ pairs) (a ∷ x) (b ∷ y) s t =
    ap (λ (k : TimedKeys). k ∷ x) (one_timed p a b s.0 t.0) ∙ ap (λ (r : List TimedKeys). b ∷ r) (one_ring pairs x y s.1 t.1)

one_stanza : (given : ℕ → Option Setting) (x y : Stanza) → x.line ≡ y.line → x.ring ≡ y.ring → IsGiven given x → IsGiven given y → x ≡ y
one_stanza given x y lines ring s t =
    let sources = given_sources _ x.sources y.sources s.sources t.sources in
    let allowed = s.allowed ∙ sym t.allowed in
    let barred = s.barred ∙ sym t.barred in
    let user = s.user ∙ sym t.user in
    let need = s.need_source ∙ sym t.need_source in
    let expire = s.expire ∙ sym t.expire in
    let opening = given_command _ x.opening y.opening s.opening t.opening in
    let closing = given_command _ x.closing y.closing s.closing t.closing in
    let timer = same_Some x.timer y.timer (sym s.timer ∙ t.timer) in
    λ i. record {
      line = lines i;
      sources = sources i;
      allowed = allowed i;
      barred = barred i;
      ring = ring i;
      user = user i;
      need_source = need i;
      expire = expire i;
      opening = opening i;
      closing = closing i;
      timer = timer i;
    }

stanza_same : (lines : List NumberedLine) (x y : Stanza) → IsStanzaOf lines x → IsStanzaOf lines y → x ≡ y
stanza_same [] x y s t = absurd s
stanza_same (source ∷ lines) x y s t =
    let settings = settings_of (source ∷ lines) in
    one_stanza (given_behind settings) x y (s.0 ∙ sym t.0) (one_ring (key_pairs settings) x.ring y.ring s.1.ring t.1.ring) s.1.fields t.1.fields

stanzas_same : (lines : List (List NumberedLine)) (x y : List Stanza) → AllZip IsStanzaOf lines x → AllZip IsStanzaOf lines y → x ≡ y
stanzas_same [] [] [] s t = refl
stanzas_same [] [] (b ∷ y) s t = absurd t
stanzas_same [] (a ∷ x) y s t = absurd s
stanzas_same (l ∷ lines) [] y s t = absurd s
stanzas_same (l ∷ lines) (a ∷ x) [] s t = absurd t
stanzas_same (l ∷ lines) (a ∷ x) (b ∷ y) s t =
    ap (λ (n : Stanza). n ∷ x) (stanza_same l a b s.0 t.0) ∙ ap (λ (r : List Stanza). b ∷ r) (stanzas_same lines x y s.1 t.1)

pub one_list : (text : List ℕ) (stanzas others : List Stanza) → ReadsAccess text stanzas → ReadsAccess text others → stanzas ≡ others
one_list text stanzas others s t = stanzas_same (access_stanzas text) stanzas others s.each t.each
