-- What the calls below have answered, put together.
use Rattle.std.proofs.Common.{◌≡◌, ◌≢◌, ◌↔◌, ◌⊎◌, ℕ, ◌+◌, ◌*◌, ◌/◌, ◌%◌, ◌-◌, ◌<◌, ◌≤◌, Bool, true, false, not, List, [], ◌∷◌, ◌++◌, length, take, drop, Option, Some, None, Result, Ok, Err, refl, sym, ap, subst, ◌∙◌, inl, inr, arith}
use Rattle.std.specs.Prelude.{◌&&◌, ◌==◌, nat_eq, nat_le, IfErr, IfOk, IsOk, IsTrue, MatchResult}
use Rattle.std.specs.List.{AllByRecursion, list_all, prefix_len, starts_with}
use Rattle.std.specs.Option.{option_and_then}
use Rattle.std.specs.Str.{bytes_eq}
use Rattle.std.proofs.lemmas.Bool.{and_parts, cases_Bool, eqb-true, leb-true, le-leb}
use Rattle.std.proofs.lemmas.List.{length-take}
use Rattle.std.proofs.lemmas.Option.{option_and_then_some}
use Rattle.std.proofs.lemmas.Slice.Eq.{bytes_eq-Decides}
use Rattle.fk_base.specs.declared.keys.Keys.{Keys}
use Rattle.fk_base.specs.declared.hash_kind.HashKind.{HashKind}
use Rattle.fk_base.specs.FirstFailed.{first_failed}
use Rattle.fk_base.specs.HashKind.{text_len}
use Rattle.fk_base.specs.Parts.{parts_at}
use Rattle.fk_base.specs.Bytes.{IsBytes}
use Rattle.fk_text.specs.Found.{bytes_in, is_letter}
use Rattle.fk_text.specs.Text.{text_of}
use Rattle.fk_text.proofs.BytesFound.{bytes_in_iff}
use Rattle.fk_text.proofs.Symbols.{length-text_of}
use Rattle.fk_mac.specs.Hmac.{hmac, mac_text}
use Rattle.fk_cbc.specs.declared.open_fault.OpenFault.{OpenFault}
use Rattle.fk_cbc.specs.declared.open_fault.OpenFault.TheVariants as open_fault
use Rattle.fk_cbc.specs.OpenFault.{FirstOpenFault, HasBadLength, HasMark}
use Rattle.fk_cbc.specs.Opens.{blocks_opened, is_marked, opened}
use Rattle.fk_cbc.specs.Seals.{Seals, block_count, salt_in, salt_mark}
use Rattle.fk_cbc.proofs.OpenLemmas.{marked_from, opened_iff}
use Rattle.fk_cbc.proofs.SealLemmas.{no_fault}
use Rattle.fk_fields.specs.declared.fields.Fields.{Fields}
use Rattle.fk_codec.specs.declared.fault.DecodeFault.{DecodeFault}
use Rattle.fk_codec.specs.declared.fault.DecodeFault.TheVariants as decode
use Rattle.fk_codec.specs.DecodeFault.{decode_fault, decode_tests, decoded}
use Rattle.fk_codec.specs.Spells.{Spells}
use Rattle.fk_packet.specs.declared.fault.PacketFault.{PacketFault}
use Rattle.fk_packet.specs.declared.fault.PacketFault.TheVariants as fault
use Rattle.fk_packet.specs.declared.packet_shape.PacketShape.{PacketShape}
use Rattle.fk_packet.specs.declared.packet_shape.PacketShape.TheVariants.{Size, Alphabet, Prefix}
use Rattle.fk_packet.specs.Opens.{blocks_in, blocks_under, fields_opened, is_authentic, opened_under, plain_in, read_plain, sealed_text}
use Rattle.fk_packet.specs.Packs.{Packs, datagram_of}
use Rattle.fk_packet.specs.Private.{decode_refusal, open_refusal}
use Rattle.fk_packet.specs.Shape.{prefix, shape_fault}
use Rattle.fk_codec.proofs.Lengths.{length-plaintext}
use Rattle.fk_packet.proofs.Law.{length-kind, length-packed, opened_packed, opened_packs, plain_found, shape_packed}

-- the shape

pub shape_alphabet : (d : List ℕ) (at : ℕ) → 140 ≤ length d → length d ≤ 1500 → (list_all is_letter d ≡ false) × (prefix_len is_letter d ≡ at)
    → shape_fault d ≡ Some (Alphabet at)
shape_alphabet d at least most (other, place) =
    let low : nat_le 140 (length d) ≡ true = le-leb 140 (length d) least in
    let high : nat_le (length d) 1500 ≡ true = le-leb (length d) 1500 most in
    rw (low, high, other, place) refl

pub shape_rest : (d : List ℕ) (begins : Bool) → 140 ≤ length d → length d ≤ 1500 → list_all is_letter d ≡ true → starts_with nat_eq d prefix ≡ begins
    → shape_fault d ≡ first_failed ((not begins, Prefix) ∷ [])
shape_rest d begins least most letters starts =
    let low : nat_le 140 (length d) ≡ true = le-leb 140 (length d) least in
    let high : nat_le (length d) 1500 ≡ true = le-leb (length d) 1500 most in
    rw (low, high, letters, starts) refl

pub shape_sizes : (d : List ℕ) → shape_fault d ≡ None → (140 ≤ length d) × (length d ≤ 1500)
shape_sizes d none = elim (cases_Bool (nat_le 140 (length d) && nat_le (length d) 1500)) [
  | inl sized ↦
      let both = and_parts (nat_le 140 (length d)) (nat_le (length d) 1500) sized in
      (leb-true 140 (length d) both.0, leb-true (length d) 1500 both.1)
  | inr other ↦ absurd (let some : Some Size ≡ None = rw other at none in cc)
]

pub kind_fits : (kind : HashKind) (d : List ℕ) → shape_fault d ≡ None → text_len kind ≤ length d
kind_fits kind d none =
    let size = (shape_sizes d none).0 in
    let small = (length-kind kind).1 in
    omega arith

pub letters_fit : (n : ℕ) (d letters : List ℕ) → shape_fault d ≡ None → letters ≡ take n d → length letters ≤ 1500
letters_fit n d letters none are =
    let size = (shape_sizes d none).1 in
    let same = ap length are in
    omega (arith, length-take n d)

-- the sealed bytes

pub no_bytes : (key text : List ℕ) → bytes_in text ≡ None → (plain_in key text ≡ None) × (blocks_in text ≡ 0)
unfolding plain_in blocks_in
no_bytes key text none = (rw none refl, rw none refl)

blocks_of : (text sealed : List ℕ) → bytes_in text ≡ Some sealed → blocks_in text ≡ blocks_opened sealed
unfolding blocks_in
blocks_of text sealed found = rw found refl

not_opened : (key text sealed : List ℕ) → bytes_in text ≡ Some sealed → opened key sealed ≡ None → plain_in key text ≡ None
unfolding plain_in
not_opened key text sealed found none = ap (option_and_then (opened key)) found ∙ none

none_unless : {A : Type 0} (o : Option A) → ((x : A) → o ≡ Some x → ⊥) → o ≡ None
none_unless None never = refl
none_unless (Some x) never = absurd (never x refl)

-- bytes with a fault are not opened
faulty : (key sealed : List ℕ) (why : OpenFault) → IsBytes sealed → FirstOpenFault key sealed why → opened key sealed ≡ None
faulty key sealed why bytes first =
    none_unless (opened key sealed)
    (λ plain opens. let seals = (opened_iff key plain sealed bytes).0 opens in no_fault key seals.0 plain sealed seals.1 why first)

marked_opened : (key sealed plain : List ℕ) → opened key sealed ≡ Some plain → is_marked sealed ≡ true
unfolding opened
marked_opened key sealed plain opens = elim (cases_Bool (is_marked sealed)) [
  | inl marked ↦ marked
  | inr not_marked ↦ absurd (let none : None ≡ Some plain = rw not_marked at opens in cc)
]

counted : (sealed : List ℕ) → is_marked sealed ≡ true → blocks_opened sealed ≡ block_count sealed
counted sealed marked = rw marked refl

none_counted : (sealed : List ℕ) → is_marked sealed ≡ false → blocks_opened sealed ≡ 0
none_counted sealed marked = rw marked refl

-- what a mark says
record IsMarked (sealed : List ℕ) : Type 0 where
  mark : HasMark sealed
  long : 32 ≤ length sealed
  whole : length sealed % 16 ≡ 0

marked_is : (sealed : List ℕ) → is_marked sealed ≡ true → IsMarked sealed
marked_is sealed marked =
    let both = and_parts (bytes_eq (take 8 sealed) salt_mark && nat_le 32 (length sealed)) (length sealed % 16 == 0) marked in
    let front = and_parts (bytes_eq (take 8 sealed) salt_mark) (nat_le 32 (length sealed)) both.0 in
    record {
      mark = (bytes_eq-Decides (take 8 sealed) salt_mark).0 front.0;
      long = leb-true 32 (length sealed) front.1;
      whole = eqb-true (length sealed % 16) 0 both.1;
    }

some_blocks : (sealed : List ℕ) → is_marked sealed ≡ true → 0 < blocks_opened sealed
some_blocks sealed marked =
    let long = (marked_is sealed marked).long in
    let count = counted sealed marked in
    omega arith

-- whether sealed bytes are marked, from the first thing that is wrong with them
unmarked : (sealed : List ℕ) → (HasMark sealed → HasBadLength sealed → ⊥) → (¬ HasMark sealed → ⊥) → is_marked sealed ≡ true
unmarked sealed right_len mark = elim (cases_Bool (is_marked sealed)) [
  | inl marked ↦ marked
  | inr not_marked ↦
      elim (cases_Bool (bytes_eq (take 8 sealed) salt_mark)) [
        | inl same ↦
            let has : HasMark sealed = (bytes_eq-Decides (take 8 sealed) salt_mark).0 same in
            marked_from sealed has (right_len has)
        | inr other ↦
            absurd (mark (λ has. let holds = (bytes_eq-Decides (take 8 sealed) salt_mark).1 has in let both : true ≡ false = sym holds ∙ other in cc))
      ]
]

no_mark : (sealed : List ℕ) → ¬ HasMark sealed → is_marked sealed ≡ false
no_mark sealed none = elim (cases_Bool (is_marked sealed)) [ inl marked ↦ absurd (none (marked_is sealed marked).mark) | inr not_marked ↦ not_marked ]

bad_length : (sealed : List ℕ) → HasBadLength sealed → is_marked sealed ≡ false
bad_length sealed bad = elim (cases_Bool (is_marked sealed)) [
  | inl marked ↦
      let is = marked_is sealed marked in
      let long = is.long in
      absurd (elim bad [ inl short ↦ (let no : ⊥ = omega arith in no) | inr part ↦ part is.whole ])
  | inr not_marked ↦ not_marked
]

-- what `open` answers, as its clauses say it

pub opens : (key text sealed seen plain : List ℕ) (old new : ℕ) → bytes_in text ≡ Some sealed → seen ≡ sealed → Seals key (salt_in seen) plain seen
    → new ≡ old + block_count seen → (plain_in key text ≡ Some plain) × (new ≡ old + blocks_in text)
opens key text sealed seen plain old new found is seals steps =
    let bytes = ((bytes_in_iff text sealed).0 found).0 in
    let same : Seals key (salt_in sealed) plain sealed = subst (λ s. Seals key (salt_in s) plain s) is seals in
    let open' = (opened_iff key plain sealed bytes).1 (salt_in sealed, same) in
    let count = counted sealed (marked_opened key sealed plain open') in
    let blocks = blocks_of text sealed found ∙ count in
    (plain_found key text sealed plain found open', steps ∙ ap (λ (s : List ℕ). old + block_count s) is ∙ ap (λ (n : ℕ). old + n) (sym blocks))

-- the clauses of `open` where it answers a fault
pub record Refused (key seen : List ℕ) (why : OpenFault) (old new : ℕ) : Type 0 where
  pub cause : (why ≡ open_fault.NoMemory) ⊎ FirstOpenFault key seen why
  pub first : (e : OpenFault) → FirstOpenFault key seen e → (why ≡ e) ⊎ ((why ≡ open_fault.NoMemory) × (e ≡ open_fault.BadPadding))
  pub no_steps : (why ≡ open_fault.NotSalted) ⊎ (why ≡ open_fault.BadLength) → new ≡ old
  pub padding_steps : why ≡ open_fault.BadPadding → new ≡ old + block_count seen
  pub memory_steps : why ≡ open_fault.NoMemory → new ≡ old

-- what follows for the letters of a datagram
pub record LettersRefused (key text : List ℕ) (why : PacketFault) (old new : ℕ) : Type 0 where
  pub plain : ((why ≡ fault.Cipher) × (plain_in key text ≡ None)) ⊎ ((why ≡ fault.NoMemory) × (0 < blocks_in text))
  pub steps : why ≢ fault.NoMemory → new ≡ old + blocks_in text
  pub memory_steps : why ≡ fault.NoMemory → new ≡ old

first_of : (key seen : List ℕ) (why : OpenFault) → (why ≡ open_fault.NoMemory → ⊥) → (why ≡ open_fault.NoMemory) ⊎ FirstOpenFault key seen why
    → FirstOpenFault key seen why
first_of key seen why never cause = elim cause [ inl memory ↦ absurd (never memory) | inr first ↦ first ]

refused_at : (key text sealed : List ℕ) (why : OpenFault) (old new : ℕ) → bytes_in text ≡ Some sealed → Refused key sealed why old new
    → LettersRefused key text (open_refusal why) old new
refused_at key text sealed open_fault.NotSalted old new found is =
    let bytes = ((bytes_in_iff text sealed).0 found).0 in
    let first = first_of key sealed open_fault.NotSalted (λ e. cc) is.cause in
    let blocks : blocks_in text ≡ 0 = blocks_of text sealed found ∙ none_counted sealed (no_mark sealed first) in
    let same = is.no_steps (inl refl) in
    record {
      plain = inl (refl, not_opened key text sealed found (faulty key sealed open_fault.NotSalted bytes first));
      steps = λ _. omega arith;
      memory_steps = λ e. cc;
    }
refused_at key text sealed open_fault.BadLength old new found is =
    let bytes = ((bytes_in_iff text sealed).0 found).0 in
    let first = first_of key sealed open_fault.BadLength (λ e. cc) is.cause in
    let blocks : blocks_in text ≡ 0 = blocks_of text sealed found ∙ none_counted sealed (bad_length sealed first.1) in
    let same = is.no_steps (inr refl) in
    record {
      plain = inl (refl, not_opened key text sealed found (faulty key sealed open_fault.BadLength bytes first));
      steps = λ _. omega arith;
      memory_steps = λ e. cc;
    }
refused_at key text sealed open_fault.BadPadding old new found is =
    let bytes = ((bytes_in_iff text sealed).0 found).0 in
    let first = first_of key sealed open_fault.BadPadding (λ e. cc) is.cause in
    let blocks : blocks_in text ≡ block_count sealed = blocks_of text sealed found ∙ counted sealed (marked_from sealed first.0 first.1) in
    let same = is.padding_steps refl in
    record {
      plain = inl (refl, not_opened key text sealed found (faulty key sealed open_fault.BadPadding bytes first));
      steps = λ _. same ∙ ap (λ (n : ℕ). old + n) (sym blocks);
      memory_steps = λ e. cc;
    }
refused_at key text sealed open_fault.NoMemory old new found is =
    let none_of : (e : OpenFault) → (e ≡ open_fault.BadPadding → ⊥) → (open_fault.NoMemory ≡ e → ⊥) → FirstOpenFault key sealed e → ⊥ =
    λ e not_padding not_memory first. elim (is.first e first) [ inl same ↦ not_memory same | inr other ↦ not_padding other.1 ] in
    let marked = unmarked sealed (λ has bad. none_of open_fault.BadLength (λ e. cc) (λ e. cc) (has, bad)) (λ none. none_of open_fault.NotSalted (λ e. cc) (λ e. cc) none) in
    let blocks = some_blocks sealed marked in
    let count = blocks_of text sealed found in
    record {
      plain = inr (refl, omega arith);
      steps = λ never. absurd (never refl);
      memory_steps = λ _. is.memory_steps refl;
    }

pub refused : (key text sealed seen : List ℕ) (why : OpenFault) (old new : ℕ) → bytes_in text ≡ Some sealed → seen ≡ sealed → Refused key seen why old new
    → LettersRefused key text (open_refusal why) old new
refused key text sealed seen why old new found is clauses =
    refused_at key text sealed why old new found (subst (λ s. Refused key s why old new) is clauses)

-- the clauses of `open`, of its result

pub refused_result : {T : Type 0} (key seen : List ℕ) (why : OpenFault) (old new : ℕ) (r : Result T OpenFault) → r ≡ Err why
    → IfErr r (λ e. (e ≡ open_fault.NoMemory) ⊎ FirstOpenFault key seen e)
    → ((e : OpenFault) → FirstOpenFault key seen e → (r ≡ Err e) ⊎ ((r ≡ Err open_fault.NoMemory) × (e ≡ open_fault.BadPadding)))
    → ((r ≡ Err open_fault.NotSalted) ⊎ (r ≡ Err open_fault.BadLength) → new ≡ old)
    → (r ≡ Err open_fault.BadPadding → new ≡ old + block_count seen) → (r ≡ Err open_fault.NoMemory → new ≡ old)
    → Refused key seen why old new
refused_result key seen why old new (Ok x) is cause first no_steps padding memory = cc
refused_result key seen why old new (Err e) is cause first no_steps padding memory =
    let same : e ≡ why = cc in
    record {
      cause = subst (λ w. (w ≡ open_fault.NoMemory) ⊎ FirstOpenFault key seen w) same cause;
      first = λ f holds. elim (first f holds) [
        | inl other ↦ inl (let s : why ≡ f = cc in s)
        | inr both ↦ inr ((let m : why ≡ open_fault.NoMemory = cc in m), both.1)
      ];
      no_steps = λ w. no_steps (elim w [ inl a ↦ inl (is ∙ ap Err a) | inr b ↦ inr (is ∙ ap Err b) ]);
      padding_steps = λ w. padding (is ∙ ap Err w);
      memory_steps = λ w. memory (is ∙ ap Err w);
    }

-- the same of the letters

pub letters_result : (key text : List ℕ) (why : PacketFault) (old new : ℕ) (r : Result (List ℕ) PacketFault) → r ≡ Err why
    → MatchResult r (λ plain. plain_in key text ≡ Some plain) (λ e. ((e ≡ fault.Cipher) × (plain_in key text ≡ None)) ⊎ ((e ≡ fault.NoMemory) × (0 < blocks_in text)))
    → (r ≢ Err fault.NoMemory → new ≡ old + blocks_in text) → (r ≡ Err fault.NoMemory → new ≡ old) → LettersRefused key text why old new
letters_result key text why old new (Ok x) is plain steps memory = cc
letters_result key text why old new (Err e) is plain steps memory =
    let same : e ≡ why = cc in
    record {
      plain = subst (λ w. ((w ≡ fault.Cipher) × (plain_in key text ≡ None)) ⊎ ((w ≡ fault.NoMemory) × (0 < blocks_in text))) same plain;
      steps = λ never. steps (λ memory'. never (let m : why ≡ fault.NoMemory = cc in m));
      memory_steps = λ w. memory (is ∙ ap Err w);
    }

-- what the exit by `?` returns, by the fault that it is made of

pub not_the : {T : Type 0} (r : Result T PacketFault) (why y : PacketFault) → r ≡ Err y → y ≡ why → (r ≢ Err fault.NoMemory) → why ≢ fault.NoMemory
not_the r why y is same never e = never (is ∙ ap Err (same ∙ e))

pub the_memory : {T : Type 0} (r : Result T PacketFault) (why y : PacketFault) → r ≡ Err y → y ≡ why → r ≡ Err fault.NoMemory → why ≡ fault.NoMemory
the_memory r why y is same e = let both : Err y ≡ Err fault.NoMemory = sym is ∙ e in let m : y ≡ fault.NoMemory = cc in sym same ∙ m

-- the HMAC

pub tested : (keys : Keys) (datagram letters code : List ℕ) (right : Bool)
    → letters ≡ take (length datagram - text_len keys.kind) datagram → code ≡ drop (length datagram - text_len keys.kind) datagram
    → IsTrue right ↔ (code ≡ mac_text keys.kind keys.mac_key (prefix ++ letters)) → is_authentic keys datagram ≡ right
unfolding is_authentic
tested keys datagram letters code right front end verified =
    let n = length datagram - text_len keys.kind in
    let text : mac_text keys.kind keys.mac_key (prefix ++ letters) ≡ mac_text keys.kind keys.mac_key (sealed_text keys.kind datagram) =
    ap (λ (l : List ℕ). mac_text keys.kind keys.mac_key (prefix ++ l)) front in
    let decides = bytes_eq-Decides (drop n datagram) (mac_text keys.kind keys.mac_key (sealed_text keys.kind datagram)) in
    elim (cases_Bool right) [
      | inl holds ↦ decides.1 (sym end ∙ verified.0 holds ∙ text) ∙ sym holds
      | inr fails ↦ elim (cases_Bool (bytes_eq (drop n datagram) (mac_text keys.kind keys.mac_key (sealed_text keys.kind datagram)))) [
        | inl same ↦
            let is : right ≡ true = verified.1 (end ∙ decides.0 same ∙ sym text) in
            absurd (let both : true ≡ false = sym is ∙ fails in cc)
        | inr other ↦ other ∙ sym fails
      ]
    ]

-- without a right HMAC

pub refused_mac : (keys : Keys) (datagram : List ℕ) → is_authentic keys datagram ≡ false → opened_under keys datagram ≡ Err fault.Mac
unfolding opened_under
refused_mac keys datagram wrong = rw wrong refl

pub no_blocks : (keys : Keys) (datagram : List ℕ) → is_authentic keys datagram ≡ false → blocks_under keys datagram ≡ 0
no_blocks keys datagram wrong = rw wrong refl

pub same_blocks : (keys : Keys) (datagram letters : List ℕ) → is_authentic keys datagram ≡ true
    → letters ≡ take (length datagram - text_len keys.kind) datagram → blocks_in (prefix ++ letters) ≡ blocks_under keys datagram
same_blocks keys datagram letters right front = rw right (ap (λ (l : List ℕ). blocks_in (prefix ++ l)) front)

-- what is answered with a right HMAC, by the plaintext that the key opens

opened_is : (keys : Keys) (datagram letters : List ℕ) (o : Option (List ℕ)) → is_authentic keys datagram ≡ true
    → letters ≡ take (length datagram - text_len keys.kind) datagram → plain_in keys.key (prefix ++ letters) ≡ o
    → opened_under keys datagram ≡ fields_opened o
unfolding opened_under
opened_is keys datagram letters o right front is =
    rw right (ap (λ (l : List ℕ). fields_opened (plain_in keys.key (prefix ++ l))) (sym front) ∙ ap fields_opened is)

-- the clauses that follow for the datagram where it is refused
pub record DatagramRefused (keys : Keys) (datagram : List ℕ) (why : PacketFault) (old new : ℕ) : Type 0 where
  pub answer : (opened_under keys datagram ≡ Err why) ⊎ ((why ≡ fault.NoMemory) × (0 < blocks_under keys datagram))
  pub steps : why ≢ fault.NoMemory → new ≡ old + blocks_under keys datagram
  pub memory_steps : why ≡ fault.NoMemory → (new ≡ old) ⊎ ((new ≡ old + blocks_under keys datagram) × IsOk (opened_under keys datagram))

pub cipher_refused : (keys : Keys) (datagram key letters : List ℕ) (why : PacketFault) (old new : ℕ) → is_authentic keys datagram ≡ true → key ≡ keys.key
    → letters ≡ take (length datagram - text_len keys.kind) datagram → LettersRefused key (prefix ++ letters) why old new
    → DatagramRefused keys datagram why old new
cipher_refused keys datagram key letters why old new right key_is front refused' =
    let blocks = same_blocks keys datagram letters right front in
    record {
      answer =
          elim refused'.plain [
            | inl cipher ↦
                inl (opened_is keys datagram letters None right front (ap (λ (k : List ℕ). plain_in k (prefix ++ letters)) (sym key_is) ∙ cipher.1)
                ∙ ap Err (sym cipher.0))
            | inr memory ↦ inr (memory.0, let some = memory.1 in omega arith)
          ];
      steps = λ never. refused'.steps never ∙ ap (λ (n : ℕ). old + n) blocks;
      memory_steps = λ memory. inl (refused'.memory_steps memory);
    }

-- no test of a plaintext is one of memory
never_memory : (tests : List (Bool × DecodeFault)) → AllByRecursion (λ t. t.1 ≡ decode.NoMemory → ⊥) tests
    → first_failed tests ≡ Some decode.NoMemory → ⊥
never_memory [] all is = cc
never_memory ((true, why) ∷ tests) all is = never_memory tests all.1 is
never_memory ((false, why) ∷ tests) all is = all.0 (let same : why ≡ decode.NoMemory = cc in same)

no_memory_test : (text : List ℕ) → decode_fault text ≡ Some decode.NoMemory → ⊥
unfolding decode_fault
no_memory_test text is =
    never_memory (decode_tests (parts_at 58 text))
    (λ e. cc, (λ e. cc, (λ e. cc, (λ e. cc, (λ e. cc, (λ e. cc, (λ e. cc, (λ e. cc, (λ e. cc, (λ e. cc, (λ e. cc, (λ e. cc, (λ e. cc, tt))))))))))))) is

not_decoded : (text : List ℕ) (why : DecodeFault) → decode_fault text ≡ Some why → decoded text ≡ Err why
unfolding decoded
not_decoded text why is = rw is refl

decoded_well : (text : List ℕ) → decode_fault text ≡ None → IsOk (decoded text)
unfolding decoded
decoded_well text none = rw none cc

plain_well : (read : Result Fields DecodeFault) → IsOk read → IsOk (read_plain read)
plain_well (Ok fields) is = is
plain_well (Err why) is = absurd (let never : false ≡ true = is in cc)

refused_plain : (why : DecodeFault) → (why ≡ decode.NoMemory → ⊥) → decode_refusal why ≡ fault.Plain why
refused_plain (decode.Missing n) never = refl
refused_plain (decode.Bad n) never = refl
refused_plain (decode.KindOut type) never = refl
refused_plain decode.DigestLength never = refl
refused_plain decode.DigestDiffers never = refl
refused_plain decode.NoMemory never = absurd (never refl)

-- a plaintext was opened from one block or more
plain_blocks : (key text plain : List ℕ) → plain_in key text ≡ Some plain → 0 < blocks_in text
unfolding plain_in
plain_blocks key text plain e =
    option_and_then_some (opened key) (bytes_in text) plain e
    (λ sealed found opens'.
    let some = some_blocks sealed (marked_opened key sealed plain opens') in
    let count = blocks_of text sealed found in
    omega arith)

pub plain_refused : (keys : Keys) (datagram key letters plain seen : List ℕ) (why : DecodeFault) (old new : ℕ) → is_authentic keys datagram ≡ true
    → key ≡ keys.key → letters ≡ take (length datagram - text_len keys.kind) datagram → plain_in key (prefix ++ letters) ≡ Some plain
    → new ≡ old + blocks_in (prefix ++ letters) → seen ≡ plain
    → (decode_fault seen ≡ Some why) ⊎ ((why ≡ decode.NoMemory) × (decode_fault seen ≡ None)) → DatagramRefused keys datagram (decode_refusal why) old new
plain_refused keys datagram key letters plain seen why old new right key_is front open' counted' seen_is because =
    let blocks = same_blocks keys datagram letters right front in
    let some = plain_blocks key (prefix ++ letters) plain open' in
    let all : new ≡ old + blocks_under keys datagram = omega arith in
    let opens_to = opened_is keys datagram letters (Some plain) right front (ap (λ (k : List ℕ). plain_in k (prefix ++ letters)) (sym key_is) ∙ open') in
    record {
      answer =
          elim because [
            | inl fails ↦
                let never : why ≡ decode.NoMemory → ⊥ = λ e. no_memory_test seen (fails ∙ ap Some e) in
                let reads : decoded plain ≡ Err why = ap decoded (sym seen_is) ∙ not_decoded seen why fails in
                inl (opens_to ∙ ap read_plain reads ∙ ap Err (sym (refused_plain why never)))
            | inr memory ↦ inr (ap decode_refusal memory.0, omega arith)
          ];
      steps = λ _. all;
      memory_steps = λ memory.
          elim because [
            | inl fails ↦
                let never : why ≡ decode.NoMemory → ⊥ = λ e. no_memory_test seen (fails ∙ ap Some e) in
                let other : fault.Plain why ≡ fault.NoMemory = sym (refused_plain why never) ∙ memory in
                absurd cc
            | inr none ↦
                let reads : IsOk (decoded plain) = subst (λ (t : List ℕ). IsOk (decoded t)) seen_is (decoded_well seen none.1) in
                inr (all, subst IsOk (sym opens_to) (plain_well (decoded plain) reads))
          ];
    }

pub plain_fields : (keys : Keys) (datagram key letters plain seen : List ℕ) (f : Fields) → is_authentic keys datagram ≡ true
    → key ≡ keys.key → letters ≡ take (length datagram - text_len keys.kind) datagram → plain_in key (prefix ++ letters) ≡ Some plain
    → seen ≡ plain → decoded seen ≡ Ok f → opened_under keys datagram ≡ Ok f
plain_fields keys datagram key letters plain seen f right key_is front open' seen_is reads =
    opened_is keys datagram letters (Some plain) right front (ap (λ (k : List ℕ). plain_in k (prefix ++ letters)) (sym key_is) ∙ open')
    ∙ ap (λ (t : List ℕ). read_plain (decoded t)) (sym seen_is) ∙ ap read_plain reads

-- the whole

pub unpacked_packs : (keys : Keys) (f : Fields) (datagram : List ℕ) → shape_fault datagram ≡ None → opened_under keys datagram ≡ Ok f → Packs keys f datagram
unpacked_packs keys f datagram none e = opened_packs keys f datagram e

pub no_shape : (keys : Keys) (f : Fields) (datagram : List ℕ) (why : PacketShape) → shape_fault datagram ≡ Some why → Packs keys f datagram → ⊥
no_shape keys f datagram why fails packs = let both : None ≡ Some why = sym (shape_packed keys f datagram packs) ∙ fails in cc

pub packed_fields : (keys : Keys) (datagram : List ℕ) (r : Result Fields PacketFault) → MatchResult r (λ f. opened_under keys datagram ≡ Ok f)
    (λ e. (opened_under keys datagram ≡ Err e) ⊎ ((e ≡ fault.NoMemory) × (0 < blocks_under keys datagram))) → IfOk r (λ f. Packs keys f datagram)
packed_fields keys datagram (Ok f) is = opened_packs keys f datagram is
packed_fields keys datagram (Err e) is = tt

pub every_field : (keys : Keys) (g : Fields) (datagram : List ℕ) (r : Result Fields PacketFault) → MatchResult r (λ f. opened_under keys datagram ≡ Ok f)
    (λ e. (opened_under keys datagram ≡ Err e) ⊎ ((e ≡ fault.NoMemory) × (0 < blocks_under keys datagram)))
    → Packs keys g datagram → MatchResult r (λ f. f ≡ g) (λ e. e ≡ fault.NoMemory)
every_field keys g datagram (Ok f) is packs = let both : Ok f ≡ Ok g = sym is ∙ opened_packed keys g datagram packs in let a : Result Fields PacketFault = Ok f in cc
every_field keys g datagram (Err e) is packs = elim is [
  | inl other ↦ absurd (let both : Err e ≡ Ok g = sym other ∙ opened_packed keys g datagram packs in cc)
  | inr memory ↦ memory.0
]

-- what is packed

pub text_long : (n : ℕ) (sealed seen text u : List ℕ) → seen ≡ sealed → text ≡ text_of seen → u ≡ text → length sealed ≡ 32 + n → 10 ≤ length u
text_long n sealed seen text u s t v size =
    let whole : length u ≡ (8 * length sealed + 5) / 6 = ap length (v ∙ t ∙ ap text_of s) ∙ length-text_of sealed in
    omega arith

-- sealed bytes have a text for which there is room
pub text_short : (f : Fields) (plain seen sealed read : List ℕ) → Spells f plain → seen ≡ plain → length sealed ≡ 32 + length seen / 16 * 16 → read ≡ sealed
    → length read ≤ 1132
text_short f plain seen sealed read spells s size r =
    let most = (length-plaintext f plain spells).1 in
    let same : length seen ≡ length plain = ap length s in
    let sealed_is : length read ≡ length sealed = ap length r in
    omega arith

pub packs_made : (keys : Keys) (f : Fields) (key salt plain seen sealed read text u d : List ℕ) → Spells f plain → key ≡ keys.key → seen ≡ plain
    → Seals key salt seen sealed → read ≡ sealed → text ≡ text_of read → u ≡ text → d ≡ datagram_of keys u → (packs : Packs keys f d) × (packs.salt ≡ salt)
packs_made keys f key salt plain seen sealed read text u d spells key_is plain_is seals read_is text_is u_is d_is = (
  record {
    plain = plain;
    salt = salt;
    sealed = sealed;
    spells = spells;
    seals = subst (λ k. Seals k salt plain sealed) key_is (subst (λ p. Seals key salt p sealed) plain_is seals);
    datagram_is = d_is ∙ ap (datagram_of keys) (u_is ∙ text_is ∙ ap text_of read_is);
  },
  refl,
)

pub packs_len : (keys : Keys) (f : Fields) (d : List ℕ) → Packs keys f d → (140 ≤ length d) × (length d ≤ 1500)
packs_len keys f d packs =
    let size = length-packed keys f d packs in
    let least = size.0 in
    let most = size.1 in
    (omega arith, omega arith)

pub datagram_made : (keys : Keys) (key text rest code none front datagram : List ℕ) → key ≡ keys.mac_key → rest ≡ drop 10 text
    → code ≡ hmac keys.kind key text → none ≡ [] → front ≡ none ++ rest → datagram ≡ front ++ text_of code → datagram ≡ datagram_of keys text
datagram_made keys key text rest code none front datagram k r m n f d = rw (d, f, n, m, k, r) refl
