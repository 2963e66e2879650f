-- What keys open a datagram to is what it packs.
use Rattle.std.proofs.Common.{◌≡◌, ◌↔◌, ℕ, ◌-◌, ◌≤◌, true, false, List, [], ◌∷◌, ◌++◌, length, take, drop, Option, Some, None, Result, Ok, Err, refl, sym, ap, ◌∙◌, inl, inr, arith, append_assoc, take-append-drop}
use Rattle.std.specs.Prelude.{nat_eq, nat_le}
use Rattle.std.specs.List.{list_all, starts_with}
use Rattle.std.proofs.lemmas.Bool.{cases_Bool, le-leb}
use Rattle.std.proofs.lemmas.List.{drop_at, length-append, length-drop, take_at}
use Rattle.std.proofs.lemmas.List.Elements.{All-append, All-drop}
use Rattle.std.proofs.lemmas.List.Sums.{AllPass-from_list_all, list_all-from_AllPass}
use Rattle.std.proofs.lemmas.Option.{option_and_then_some}
use Rattle.std.proofs.lemmas.Slice.Eq.{bytes_eq-Decides}
use Rattle.fk_base.specs.declared.keys.Keys.{Keys}
use Rattle.fk_base.specs.declared.hash_kind.HashKind.{HashKind}
use Rattle.fk_base.specs.declared.hash_kind.HashKind.TheVariants.{Md5, Sha1, Sha256, Sha384, Sha512}
use Rattle.fk_base.specs.HashKind.{text_len}
use Rattle.fk_text.specs.Found.{bytes_in, is_letter}
use Rattle.fk_text.specs.Text.{text_of}
use Rattle.fk_text.proofs.BytesFound.{bytes_in_iff}
use Rattle.fk_text.proofs.Symbols.{length-text_of}
use Rattle.fk_mac.specs.Hmac.{hmac, mac_text}
use Rattle.fk_mac.proofs.Lengths.{length-hmac, length-text}
use Rattle.fk_cbc.specs.Opens.{opened}
use Rattle.fk_cbc.specs.Seals.{Seals, salt_mark}
use Rattle.fk_cbc.proofs.OpenLemmas.{opened_iff}
use Rattle.fk_cbc.proofs.SealedBytes.{IsBytes-sealed, length-sealed}
use Rattle.fk_fields.specs.declared.fields.Fields.{Fields}
use Rattle.fk_codec.specs.declared.fault.DecodeFault.{DecodeFault}
use Rattle.fk_codec.specs.DecodeFault.{decoded}
use Rattle.fk_codec.proofs.Law.{decoded_iff}
use Rattle.fk_codec.proofs.Lengths.{length-plaintext}
use Rattle.fk_packet.specs.declared.fault.PacketFault.{PacketFault}
use Rattle.fk_packet.specs.declared.fault.PacketFault.TheVariants as fault
use Rattle.fk_packet.specs.Opens.{fields_opened, is_authentic, opened_under, plain_in, read_plain, sealed_text}
use Rattle.fk_packet.specs.Packs.{Packs, datagram_of}
use Rattle.fk_packet.specs.Shape.{prefix, shape_fault}
use Rattle.fk_packet.proofs.TextLetters.{behind_prefix, front_letters, letters_of_text}

length-mac : (keys : Keys) (text : List ℕ) → length (mac_text keys.kind keys.mac_key text) ≡ text_len keys.kind
length-mac keys text = length-text keys.kind (hmac keys.kind keys.mac_key text) (length-hmac keys.kind keys.mac_key text)

-- the parts of a datagram

-- the text of sealed bytes begins with the prefix
pub sealed_begins : (key salt plain sealed : List ℕ) → Seals key salt plain sealed → prefix ++ drop 10 (text_of sealed) ≡ text_of sealed
sealed_begins key salt plain sealed seals =
    let text = text_of sealed in
    let whole : sealed ≡ salt_mark ++ (salt ++ seals.blocks) = seals.sealed_is ∙ append_assoc salt_mark salt seals.blocks in
    let front : take 10 text ≡ prefix = ap (λ (b : List ℕ). take 10 (text_of b)) whole ∙ front_letters (salt ++ seals.blocks) in
    ap (λ (p : List ℕ). p ++ drop 10 text) (sym front) ∙ take-append-drop 10 text

record PartsOf (keys : Keys) (text datagram : List ℕ) : Type 0 where
  letters : take (length datagram - text_len keys.kind) datagram ≡ drop 10 text
  code : drop (length datagram - text_len keys.kind) datagram ≡ mac_text keys.kind keys.mac_key text

parts_of : (keys : Keys) (text datagram : List ℕ) → datagram ≡ datagram_of keys text → PartsOf keys text datagram
parts_of keys text datagram is =
    let front = drop 10 text in
    let code = mac_text keys.kind keys.mac_key text in
    let size = length-mac keys text in
    let both = ap length is ∙ length-append front code in
    let at : length front ≡ length datagram - text_len keys.kind = omega arith in
    record {
      letters = ap (take (length datagram - text_len keys.kind)) is ∙ take_at front code (length datagram - text_len keys.kind) at;
      code = ap (drop (length datagram - text_len keys.kind)) is ∙ drop_at front code (length datagram - text_len keys.kind) at;
    }

-- what is packed is opened

authentic : (keys : Keys) (datagram code text : List ℕ) → drop (length datagram - text_len keys.kind) datagram ≡ code
    → sealed_text keys.kind datagram ≡ text → code ≡ mac_text keys.kind keys.mac_key text → is_authentic keys datagram ≡ true
unfolding is_authentic
authentic keys datagram code text end whole is =
    (bytes_eq-Decides (drop (length datagram - text_len keys.kind) datagram) (mac_text keys.kind keys.mac_key (sealed_text keys.kind datagram))).1
    (end ∙ is ∙ ap (mac_text keys.kind keys.mac_key) (sym whole))

pub plain_found : (key text sealed plain : List ℕ) → bytes_in text ≡ Some sealed → opened key sealed ≡ Some plain → plain_in key text ≡ Some plain
unfolding plain_in
plain_found key text sealed plain found opens = rw found opens

pub opened_packed : (keys : Keys) (f : Fields) (datagram : List ℕ) → Packs keys f datagram → opened_under keys datagram ≡ Ok f
unfolding opened_under
opened_packed keys f datagram packs =
    let text = text_of packs.sealed in
    let parts = parts_of keys text datagram packs.datagram_is in
    let whole : sealed_text keys.kind datagram ≡ text =
    ap (λ (t : List ℕ). prefix ++ t) parts.letters ∙ sealed_begins keys.key packs.salt packs.plain packs.sealed packs.seals in
    let right = authentic keys datagram (mac_text keys.kind keys.mac_key text) text parts.code whole refl in
    let bytes = IsBytes-sealed keys.key packs.salt packs.plain packs.sealed packs.seals in
    let found : bytes_in text ≡ Some packs.sealed = (bytes_in_iff text packs.sealed).1 (bytes, refl) in
    let opens = (opened_iff keys.key packs.plain packs.sealed bytes).1 (packs.salt, packs.seals) in
    let plain : plain_in keys.key (sealed_text keys.kind datagram) ≡ Some packs.plain =
    ap (plain_in keys.key) whole ∙ plain_found keys.key text packs.sealed packs.plain found opens in
    let read = (decoded_iff packs.plain f).1 packs.spells in
    rw (right, plain, read) refl

-- what is opened is packed

some_plain : (o : Option (List ℕ)) (f : Fields) → fields_opened o ≡ Ok f → (plain : List ℕ) × (o ≡ Some plain) × (read_plain (decoded plain) ≡ Ok f)
some_plain (Some plain) f e = (plain, refl, e)
some_plain None f e = cc

plain_read : (r : Result Fields DecodeFault) (f : Fields) → read_plain r ≡ Ok f → r ≡ Ok f
plain_read (Ok g) f e = let is : g ≡ f = cc in ap Ok is
plain_read (Err why) f e = cc

code_is : (keys : Keys) (datagram : List ℕ) → is_authentic keys datagram ≡ true
    → drop (length datagram - text_len keys.kind) datagram ≡ mac_text keys.kind keys.mac_key (sealed_text keys.kind datagram)
unfolding is_authentic
code_is keys datagram right =
    (bytes_eq-Decides (drop (length datagram - text_len keys.kind) datagram) (mac_text keys.kind keys.mac_key (sealed_text keys.kind datagram))).0 right

authentic_packs : (keys : Keys) (f : Fields) (datagram : List ℕ) → is_authentic keys datagram ≡ true
    → fields_opened (plain_in keys.key (sealed_text keys.kind datagram)) ≡ Ok f → Packs keys f datagram
unfolding plain_in
authentic_packs keys f datagram right e =
    let text = sealed_text keys.kind datagram in
    let n = length datagram - text_len keys.kind in
    let plain = some_plain (plain_in keys.key text) f e in
    option_and_then_some (opened keys.key) (bytes_in text) plain.0 plain.1
    (λ sealed found opens.
    let is = (bytes_in_iff text sealed).0 found in
    let sealed_is = (opened_iff keys.key plain.0 sealed is.0).0 opens in
    let front : drop 10 text ≡ take n datagram = drop_at prefix (take n datagram) 10 refl in
    let whole : datagram ≡ datagram_of keys text =
    sym (take-append-drop n datagram) ∙ ap (λ (t : List ℕ). t ++ drop n datagram) (sym front)
    ∙ ap (λ (t : List ℕ). drop 10 text ++ t) (code_is keys datagram right) in
    record {
      plain = plain.0;
      salt = sealed_is.0;
      sealed = sealed;
      spells = (decoded_iff plain.0 f).0 (plain_read (decoded plain.0) f plain.2);
      seals = sealed_is.1;
      datagram_is = whole ∙ ap (datagram_of keys) is.1;
    })

pub opened_packs : (keys : Keys) (f : Fields) (datagram : List ℕ) → opened_under keys datagram ≡ Ok f → Packs keys f datagram
unfolding opened_under
opened_packs keys f datagram e = elim (cases_Bool (is_authentic keys datagram)) [
  | inl right ↦ authentic_packs keys f datagram right (let is : fields_opened (plain_in keys.key (sealed_text keys.kind datagram)) ≡ Ok f = rw right at e in is)
  | inr wrong ↦ absurd (let none : Err fault.Mac ≡ Ok f = rw wrong at e in cc)
]

pub opened_under_iff : (keys : Keys) (f : Fields) (datagram : List ℕ) → (opened_under keys datagram ≡ Ok f) ↔ Packs keys f datagram
opened_under_iff keys f datagram = (opened_packs keys f datagram, opened_packed keys f datagram)

pub one_list : (keys : Keys) (f g : Fields) (datagram : List ℕ) → Packs keys f datagram → Packs keys g datagram → f ≡ g
one_list keys f g datagram pf pg =
    let both : Ok f ≡ Ok g = sym (opened_packed keys f datagram pf) ∙ opened_packed keys g datagram pg in
    let as_answers : Result Fields PacketFault = Ok f in
    cc

-- the shape

pub length-kind : (kind : HashKind) → (22 ≤ text_len kind) × (text_len kind ≤ 86)
length-kind Md5 = (omega arith, omega arith)
length-kind Sha1 = (omega arith, omega arith)
length-kind Sha256 = (omega arith, omega arith)
length-kind Sha384 = (omega arith, omega arith)
length-kind Sha512 = (omega arith, omega arith)

pub length-packed : (keys : Keys) (f : Fields) (datagram : List ℕ) → Packs keys f datagram → (140 ≤ length datagram) × (length datagram ≤ 738)
length-packed keys f datagram packs =
    let plain = length-plaintext f packs.plain packs.spells in
    let sealed = length-sealed keys.key packs.salt packs.plain packs.sealed packs.seals in
    let text = length-text_of packs.sealed in
    let kind = length-kind keys.kind in
    let code = length-mac keys (text_of packs.sealed) in
    let front = length-drop 10 (text_of packs.sealed) in
    let whole = ap length packs.datagram_is ∙ length-append (drop 10 (text_of packs.sealed)) (mac_text keys.kind keys.mac_key (text_of packs.sealed)) in
    (omega arith, omega arith)

letters_packed : (keys : Keys) (text sealed : List ℕ) → text ≡ text_of sealed → list_all is_letter (datagram_of keys text) ≡ true
letters_packed keys text sealed is =
    let P : ℕ → Type 0 = λ c. is_letter c ≡ true in
    let whole : list_all is_letter text ≡ true = ap (list_all is_letter) is ∙ letters_of_text sealed in
    let front = All-drop (λ c. is_letter c ≡ true) 10 text (AllPass-from_list_all is_letter text whole) in
    let code = AllPass-from_list_all is_letter (mac_text keys.kind keys.mac_key text) (letters_of_text (hmac keys.kind keys.mac_key text)) in
    list_all-from_AllPass is_letter (datagram_of keys text) (All-append (λ c. is_letter c ≡ true) (drop 10 text) (mac_text keys.kind keys.mac_key text) front code)

salted_first : (salt rest back : List ℕ) → length salt ≡ 8 → starts_with nat_eq (drop 10 (text_of (salt_mark ++ (salt ++ rest))) ++ back) prefix ≡ false
salted_first [] rest back size = absurd (let no : ⊥ = omega arith in no)
salted_first (s ∷ salt) rest back size = behind_prefix s (salt ++ rest) back

pub shape_packed : (keys : Keys) (f : Fields) (datagram : List ℕ) → Packs keys f datagram → shape_fault datagram ≡ None
shape_packed keys f datagram packs =
    let size = length-packed keys f datagram packs in
    let least : nat_le 140 (length datagram) ≡ true = le-leb 140 (length datagram) size.0 in
    let most : nat_le (length datagram) 1500 ≡ true = le-leb (length datagram) 1500 (let m = size.1 in omega arith) in
    let letters : list_all is_letter datagram ≡ true =
    ap (list_all is_letter) packs.datagram_is ∙ letters_packed keys (text_of packs.sealed) packs.sealed refl in
    let salted : packs.sealed ≡ salt_mark ++ (packs.salt ++ packs.seals.blocks) =
    packs.seals.sealed_is ∙ append_assoc salt_mark packs.salt packs.seals.blocks in
    let code = mac_text keys.kind keys.mac_key (text_of packs.sealed) in
    let other : starts_with nat_eq datagram prefix ≡ false =
    ap (λ (d : List ℕ). starts_with nat_eq d prefix) packs.datagram_is
    ∙ ap (λ (b : List ℕ). starts_with nat_eq (drop 10 (text_of b) ++ code) prefix) salted
    ∙ salted_first packs.salt packs.seals.blocks code packs.seals.salt_is.size in
    rw (least, most, letters, other) refl
