-- What the parts of a message say of it.
use Rattle.std.proofs.Common.{◌≡◌, ◌↔◌, ℕ, ◌+◌, ◌%◌, ◌⊎◌, ◌<◌, ◌≤◌, ◌^◌, Bool, true, false, List, [], ◌∷◌, ◌++◌, length, map, take, get_or, Option, Some, None, Result, Ok, Err, refl, sym, ap, subst, ◌∙◌, inl, inr, arith}
use Rattle.std.specs.Prelude.{◌==◌, if◌then◌else◌, IfOk, MatchResult, is_some, is_none, nat_le, nat_lt}
use Rattle.std.specs.Prelude.{slice_index}
use Rattle.std.specs.Char.{is_ascii_digit}
use Rattle.fk_fields.specs.FieldText.{is_rand}
use Rattle.std.specs.List.{All, AllByRecursion, join_with_byte, list_all, prefix_len}
use Rattle.std.proofs.lemmas.Bool.{and_from, eq-eqb, le-leb, lt-ltb, leb-true, ltb-true, lt-leb}
use Rattle.std.proofs.lemmas.List.{append_assoc, take_all, take_at, length-map, length-take, length-append, get_or-take, map-append}
use Rattle.std.proofs.lemmas.Option.{same_Some}
use Rattle.std.proofs.lemmas.Grind.{same_number_lists}
use Rattle.std.proofs.lemmas.List.{get_or-map}
use Rattle.std.proofs.Math.Seq.{get_or-append_seam}
use Rattle.std.proofs.lemmas.List.Elements.{All-head, All-tail, All-cons, All-nil}
use Rattle.std.proofs.lemmas.List.Folds.{list_all_at, list_all-map}
use Rattle.fk_base.specs.declared.address.Ip4.{Ip4}
use Rattle.fk_base.specs.declared.pair.Pair.{Pair}
use Rattle.fk_base.specs.FirstFailed.{first_failed}
use Rattle.fk_base.specs.Parts.{parts_at}
use Rattle.fk_base.specs.Address.{ip_text, ip_in}
use Rattle.fk_base.specs.PairText.{pair_text, pair_in}
use Rattle.fk_base.specs.Pairs.{IsPairs}
use Rattle.fk_base.proofs.Joined.{Lacks, parts_at-join, join-parts_at, digit_apart}
use Rattle.fk_base.proofs.FoundValues.{ip_in_iff, ip_in_some, pair_in_iff, pair_in_some, All-ip_text, Lacks-pair_text}
use Rattle.fk_fields.specs.declared.message.MessageFault.{MessageFault}
use Rattle.fk_fields.specs.declared.message.MessageFault.TheVariants.{BadAddress, BadPair, NoPair, TooMany}
use Rattle.fk_fields.specs.Message.{is_pair_text, pairs_tests, parts_fault, message_fault, message_in, message_text, pair_before, pairs_of_parts, asked_of, asked_of_parts}

-- a value that is there only without a fault
unless_fault : {E A : Type 0} (fault : Option E) (o : Option A) (x : A) → (if is_none fault then o else None) ≡ Some x → (fault ≡ None) × (o ≡ Some x)
unless_fault None o x e = (refl, e)
unless_fault (Some f) o x e = cc

-- each port has 16 bits
abbrev pub HavePorts : List Pair → Type 0
HavePorts pairs = All (λ pair. pair.port < 2 ^ 16) pairs

some_pair : (pair : Pair) → pair.port < 2 ^ 16 → pair_in (pair_text pair) ≡ Some pair
some_pair pair small = (pair_in_iff (pair_text pair) pair).1 (small, refl)

is_pair : (pair : Pair) → pair.port < 2 ^ 16 → is_pair_text (pair_text pair) ≡ true
is_pair pair small = ap is_some (some_pair pair small)

-- the texts of pairs are pairs
pub pairs_pass : (pairs : List Pair) → HavePorts pairs → list_all is_pair_text (map pair_text pairs) ≡ true
pairs_pass [] ports = refl
pairs_pass (pair ∷ pairs) ports =
    rw (is_pair pair (All-head (λ p. p.port < 2 ^ 16) pair pairs ports), pairs_pass pairs (All-tail (λ p. p.port < 2 ^ 16) pair pairs ports)) refl

pub pairs_of_texts : (pairs : List Pair) → HavePorts pairs → pairs_of_parts (map pair_text pairs) ≡ Some pairs
pairs_of_texts [] ports = refl
pairs_of_texts (pair ∷ pairs) ports =
    rw (some_pair pair (All-head (λ p. p.port < 2 ^ 16) pair pairs ports), pairs_of_texts pairs (All-tail (λ p. p.port < 2 ^ 16) pair pairs ports)) refl

-- pairs before a part that is none
prefix_pairs : (pairs : List Pair) (part : List ℕ) (rest : List (List ℕ)) → HavePorts pairs → is_pair_text part ≡ false →
    prefix_len is_pair_text (map pair_text pairs ++ part ∷ rest) ≡ length pairs
prefix_pairs [] part rest ports bad = rw bad refl
prefix_pairs (pair ∷ pairs) part rest ports bad =
    let others = prefix_pairs pairs part rest (All-tail (λ p. p.port < 2 ^ 16) pair pairs ports) bad in
    rw (is_pair pair (All-head (λ p. p.port < 2 ^ 16) pair pairs ports)) (omega arith)

-- the tests of the pairs, where some fail and none
pub no_pair : (parts : List (List ℕ)) → parts ≡ [] → first_failed (pairs_tests parts) ≡ Some NoPair
no_pair parts none = rw none refl

pub bad_pair : (parts : List (List ℕ)) (pairs : List Pair) (part : List ℕ) (rest : List (List ℕ)) → HavePorts pairs → length pairs < 16
    → pair_in part ≡ None → parts ≡ map pair_text pairs ++ part ∷ rest → first_failed (pairs_tests parts) ≡ Some (BadPair (length pairs + 1))
bad_pair parts pairs part rest ports few bad are =
    let whole = map pair_text pairs ++ part ∷ rest in
    let size = length-map pairs pair_text in
    let both = length-append (map pair_text pairs) (part ∷ rest) in
    let some : nat_lt 0 (length whole) ≡ true = lt-ltb 0 (length whole) (omega arith) in
    let wrong : is_pair_text part ≡ false = rw bad refl in
    let at : get_or (take 16 whole) (length pairs) [] ≡ part =
    get_or-take 16 whole (length pairs) [] few ∙ ap (λ k. get_or whole k []) (sym size) ∙ get_or-append_seam (map pair_text pairs) part rest [] in
    let fails : list_all is_pair_text (take 16 whole) ≡ false =
    list_all_at is_pair_text (take 16 whole) (length pairs) [] (omega (arith, length-take 16 whole)) (ap is_pair_text at ∙ wrong) in
    rw (are, some, fails, prefix_pairs pairs part rest ports wrong) refl

pub too_many : (parts : List (List ℕ)) (pairs : List Pair) (part : List ℕ) (rest : List (List ℕ)) → HavePorts pairs → length pairs ≡ 16
    → parts ≡ map pair_text pairs ++ part ∷ rest → first_failed (pairs_tests parts) ≡ Some TooMany
too_many parts pairs part rest ports full are =
    let whole = map pair_text pairs ++ part ∷ rest in
    let size = length-map pairs pair_text in
    let both = length-append (map pair_text pairs) (part ∷ rest) in
    let some : nat_lt 0 (length whole) ≡ true = lt-ltb 0 (length whole) (omega arith) in
    let front : take 16 whole ≡ map pair_text pairs = take_at (map pair_text pairs) (part ∷ rest) 16 (omega arith) in
    let many : nat_le (length whole) 16 ≡ false = lt-leb (length whole) 16 (omega arith) in
    rw (are, some, front, pairs_pass pairs ports, many) refl

pub all_pairs : (parts : List (List ℕ)) (pairs : List Pair) → IsPairs pairs → parts ≡ map pair_text pairs → first_failed (pairs_tests parts) ≡ None
all_pairs parts pairs is are =
    let size = length-map pairs pair_text in
    let least = is.some in
    let most = is.few in
    let some : nat_lt 0 (length (map pair_text pairs)) ≡ true = lt-ltb 0 (length (map pair_text pairs)) (omega arith) in
    let whole : take 16 (map pair_text pairs) ≡ map pair_text pairs = take_all 16 (map pair_text pairs) (omega arith) in
    let few : nat_le (length (map pair_text pairs)) 16 ≡ true = le-leb (length (map pair_text pairs)) 16 (omega arith) in
    rw (are, some, whole, pairs_pass pairs is.ports, few) refl

-- the parts as a whole

pub no_address : (parts : List (List ℕ)) (address : List ℕ) (rest : List (List ℕ)) → parts ≡ address ∷ rest → ip_in address ≡ None
    → parts_fault parts ≡ Some BadAddress
no_address parts address rest are none = rw (are, none) refl

pub fault_behind : (parts : List (List ℕ)) (address : List ℕ) (rest : List (List ℕ)) (ip : Ip4) (fault : MessageFault) → parts ≡ address ∷ rest
    → ip_in address ≡ Some ip → first_failed (pairs_tests rest) ≡ Some fault → parts_fault parts ≡ Some fault
fault_behind parts address rest ip fault are some fails = rw (are, some) fails

pub right_parts : (parts : List (List ℕ)) (address : List ℕ) (rest : List (List ℕ)) (ip : Ip4) (pairs : List Pair) → parts ≡ address ∷ rest
    → ip_in address ≡ Some ip → IsPairs pairs → rest ≡ map pair_text pairs
    → (parts_fault parts ≡ None) × (asked_of_parts parts ≡ Some (ip, pairs))
right_parts parts address rest ip pairs are some is texts =
    let passes : first_failed (pairs_tests rest) ≡ None = all_pairs rest pairs is texts in
    (rw (are, some) passes, rw (are, some, texts, pairs_of_texts pairs is.ports) refl)

pub no_parts : (parts : List (List ℕ)) → parts ≡ [] → parts_fault parts ≡ Some BadAddress
no_parts parts none = rw none refl

-- one more pair
pub pairs_more : (parts : List (List ℕ)) (pairs : List Pair) (part : List ℕ) (rest : List (List ℕ)) (pair : Pair) → pair_in part ≡ Some pair
    → parts ≡ map pair_text pairs ++ part ∷ rest → parts ≡ map pair_text (pairs ++ pair ∷ []) ++ rest
pairs_more parts pairs part rest pair is are =
    let text = (pair_in_some part pair is).1 in
    are ∙ ap (λ (t : List ℕ). map pair_text pairs ++ t ∷ rest) text
    ∙ sym (append_assoc (map pair_text pairs) (pair_text pair ∷ []) rest)
    ∙ ap (λ (t : List (List ℕ)). t ++ rest) (sym (map-append pair_text pairs (pair ∷ [])))

-- the law

pair_before_some : (pair : Option Pair) (others : Option (List Pair)) (pairs : List Pair) → pair_before pair others ≡ Some pairs
    → (p : Pair) × (ps : List Pair) × (pair ≡ Some p) × (others ≡ Some ps) × (pairs ≡ p ∷ ps)
pair_before_some (Some p) (Some ps) pairs e = (p, ps, refl, refl, sym (same_Some (p ∷ ps) pairs e))
pair_before_some (Some p) None pairs e = cc
pair_before_some None others pairs e = cc

texts_of_pairs : (parts : List (List ℕ)) (pairs : List Pair) → pairs_of_parts parts ≡ Some pairs → (parts ≡ map pair_text pairs) × HavePorts pairs
texts_of_pairs [] pairs e =
    let is = same_Some [] pairs e in
    (ap (map pair_text) is, subst HavePorts is (All-nil (λ p. p.port < 2 ^ 16)))
texts_of_pairs (part ∷ parts) pairs e =
    let both = pair_before_some (pair_in part) (pairs_of_parts parts) pairs e in
    let first = pair_in_some part both.0 both.2 in
    let others = texts_of_pairs parts both.1 both.3 in (
      ap (λ (t : List ℕ). t ∷ parts) first.1 ∙ ap (λ (t : List (List ℕ)). pair_text both.0 ∷ t) others.0 ∙ ap (map pair_text) (sym both.4),
      subst HavePorts (sym both.4) (All-cons (λ p. p.port < 2 ^ 16) both.0 both.1 first.0 others.1),
    )

asked_of_some : (ip : Option Ip4) (pairs : Option (List Pair)) (a : Ip4) (ps : List Pair) → asked_of ip pairs ≡ Some (a, ps)
    → (ip ≡ Some a) × (pairs ≡ Some ps)
asked_of_some (Some ip) (Some pairs) a ps e =
    let is = same_Some _ (a, ps) e in
    (ap (λ (x : Ip4 × List Pair). Some x.0) is, ap (λ (x : Ip4 × List Pair). Some x.1) is)
asked_of_some (Some ip) None a ps e = cc
asked_of_some None pairs a ps e = cc

-- tests that all hold
first_holds : {E : Type 0} (holds : Bool) (fault : E) (tests : List (Bool × E)) → first_failed ((holds, fault) ∷ tests) ≡ None
    → (holds ≡ true) × (first_failed tests ≡ None)
first_holds true fault tests e = (refl, e)
first_holds false fault tests e = cc

counts_hold : (parts : List (List ℕ)) → first_failed (pairs_tests parts) ≡ None → (1 ≤ length parts) × (length parts ≤ 16)
counts_hold parts none =
    let last : List (Bool × MessageFault) = (nat_le (length parts) 16, TooMany) ∷ [] in
    let bad : MessageFault = BadPair (prefix_len is_pair_text parts + 1) in
    let one = first_holds (nat_lt 0 (length parts)) NoPair ((list_all is_pair_text (take 16 parts), bad) ∷ last) none in
    let two = first_holds (list_all is_pair_text (take 16 parts)) bad last one.1 in
    let three = first_holds (nat_le (length parts) 16) TooMany [] two.1 in
    let some = ltb-true 0 (length parts) one.0 in
    let few = leb-true (length parts) 16 three.0 in
    (omega arith, omega arith)

asked_parts : (parts : List (List ℕ)) (ip : Ip4) (pairs : List Pair) → parts_fault parts ≡ None → asked_of_parts parts ≡ Some (ip, pairs)
    → (ip.0 < 2 ^ 32) × IsPairs pairs × (join_with_byte 44 parts ≡ message_text ip pairs)
asked_parts [] ip pairs none e = cc
asked_parts (address ∷ parts) ip pairs none e =
    let tests = first_holds (is_some (ip_in address)) BadAddress (pairs_tests parts) none in
    let counts = counts_hold parts tests.1 in
    let least = counts.0 in
    let most = counts.1 in
    let both = asked_of_some (ip_in address) (pairs_of_parts parts) ip pairs e in
    let first = ip_in_some address ip both.0 in
    let texts = texts_of_pairs parts pairs both.1 in
    let size = ap length texts.0 ∙ length-map pairs pair_text in (
      first.0,
      record { some = omega arith; few = omega arith; ports = texts.1 },
      ap (λ (t : List ℕ). join_with_byte 44 (t ∷ parts)) first.1 ∙ ap (λ (t : List (List ℕ)). join_with_byte 44 (ip_text ip ∷ t)) texts.0,
    )

pub message_in_some : (text : List ℕ) (ip : Ip4) (pairs : List Pair) → message_in text ≡ Some (ip, pairs)
    → (ip.0 < 2 ^ 32) × IsPairs pairs × (text ≡ message_text ip pairs)
unfolding message_in message_fault
message_in_some text ip pairs e =
    let both = unless_fault (parts_fault (parts_at 44 text)) (asked_of_parts (parts_at 44 text)) (ip, pairs) e in
    let is = asked_parts (parts_at 44 text) ip pairs both.0 both.1 in
    (is.0, is.1, join-parts_at 44 text (parts_at 44 text) refl ∙ is.2)

parts_lack : (pairs : List Pair) → HavePorts pairs → AllByRecursion (Lacks 44) (map pair_text pairs)
parts_lack [] ports = tt
parts_lack (pair ∷ pairs) ports =
    (Lacks-pair_text pair (All-head (λ p. p.port < 2 ^ 16) pair pairs ports), parts_lack pairs (All-tail (λ p. p.port < 2 ^ 16) pair pairs ports))

pub parts_of_message : (ip : Ip4) (pairs : List Pair) → IsPairs pairs → parts_at 44 (message_text ip pairs) ≡ ip_text ip ∷ map pair_text pairs
parts_of_message ip pairs is =
    parts_at-join 44 (ip_text ip) (map pair_text pairs)
    (All-ip_text (λ x. (x == 44) ≡ false) (λ x in'. digit_apart 44 x (inr (omega arith)) in') refl ip, parts_lack pairs is.ports)

-- a message without a fault is found
pub found_in_parts : (text : List ℕ) (ip : Ip4) (pairs : List Pair) → parts_fault (parts_at 44 text) ≡ None
    → asked_of_parts (parts_at 44 text) ≡ Some (ip, pairs) → message_in text ≡ Some (ip, pairs)
unfolding message_in message_fault
found_in_parts text ip pairs none some = rw (none) some

pub message_in-message_text : (ip : Ip4) (pairs : List Pair) → ip.0 < 2 ^ 32 → IsPairs pairs → message_in (message_text ip pairs) ≡ Some (ip, pairs)
message_in-message_text ip pairs small is =
    let right = right_parts (parts_at 44 (message_text ip pairs)) (ip_text ip) (map pair_text pairs) ip pairs (parts_of_message ip pairs is)
    ((ip_in_iff (ip_text ip) ip).1 (small, refl)) is refl in
    found_in_parts (message_text ip pairs) ip pairs right.0 right.1

pub message_in_iff : (text : List ℕ) (ip : Ip4) (pairs : List Pair) → (message_in text ≡ Some (ip, pairs))
    ↔ ((ip.0 < 2 ^ 32) × IsPairs pairs × (text ≡ message_text ip pairs))
message_in_iff text ip pairs = (message_in_some text ip pairs, λ (small, is, e). ap message_in e ∙ message_in-message_text ip pairs small is)

-- a fault and a message exclude each other
pub found_has_no_fault : (text : List ℕ) (asked : Ip4 × List Pair) → message_in text ≡ Some asked → message_fault text ≡ None
unfolding message_in
found_has_no_fault text asked e = (unless_fault (message_fault text) (asked_of_parts (parts_at 44 text)) asked e).0

pub none_with_fault : (text : List ℕ) (fault : MessageFault) → message_fault text ≡ Some fault → message_in text ≡ None
unfolding message_in
none_with_fault text fault e = rw e refl

-- what the reader answers

pub text_read : (text : List ℕ) (r : Result (Ip4 × List Pair) MessageFault)
    → MatchResult r (λ asked. (parts_fault (parts_at 44 text) ≡ None) × (asked_of_parts (parts_at 44 text) ≡ Some asked)) (λ e. parts_fault (parts_at 44 text) ≡ Some e)
    → MatchResult r (λ asked. message_in text ≡ Some asked) (λ e. message_fault text ≡ Some e)
unfolding message_fault
text_read text (Ok (ip, pairs)) is = found_in_parts text ip pairs is.0 is.1
text_read text (Err e) is = is

pub message_read : (text : List ℕ) (r : Result (Ip4 × List Pair) MessageFault)
    → MatchResult r (λ asked. message_in text ≡ Some asked) (λ e. message_fault text ≡ Some e)
    → IfOk r (λ asked. text ≡ message_text asked.0 asked.1)
message_read text (Ok (ip, pairs)) is = (message_in_some text ip pairs is).2
message_read text (Err e) is = tt

pub every_message : (text : List ℕ) (r : Result (Ip4 × List Pair) MessageFault)
    → MatchResult r (λ asked. message_in text ≡ Some asked) (λ e. message_fault text ≡ Some e)
    → (ip : Ip4) (pairs : List Pair) → ip.0 < 2 ^ 32 → IsPairs pairs → text ≡ message_text ip pairs → r ≡ Ok (ip, pairs)
every_message text (Ok asked) is ip pairs small are e =
    let found = (message_in_iff text ip pairs).1 (small, are, e) in
    ap Ok (same_Some asked (ip, pairs) (sym is ∙ found))
every_message text (Err fault) is ip pairs small are e =
    let found = (message_in_iff text ip pairs).1 (small, are, e) in
    let none = found_has_no_fault text (ip, pairs) found in
    let both : None ≡ Some fault = sym none ∙ is in
    cc

-- the first pair

pub pairs_first : (parts : List (List ℕ)) (part : List ℕ) (rest : List (List ℕ)) (pair : Pair) (pairs : List Pair) → Some pair ≡ pair_in part
    → parts ≡ part ∷ rest → pairs ≡ pair ∷ [] → parts ≡ map pair_text pairs ++ rest
pairs_first parts part rest pair pairs is are one =
    are ∙ ap (λ (t : List ℕ). t ∷ rest) (pair_in_some part pair (sym is)).1 ∙ ap (λ (ps : List Pair). map pair_text ps ++ rest) (sym one)

pub first_bad : (parts : List (List ℕ)) (part : List ℕ) (rest : List (List ℕ)) → pair_in part ≡ None → parts ≡ part ∷ rest
    → first_failed (pairs_tests parts) ≡ Some (BadPair 1)
first_bad parts part rest none are = bad_pair parts [] part rest (All-nil (λ p. p.port < 2 ^ 16)) (omega arith) none are

pub pairs_next : (parts : List (List ℕ)) (pairs new : List Pair) (part : List ℕ) (rest now : List (List ℕ)) → now ≡ part ∷ rest
    → (pair : Pair) × (Some pair ≡ pair_in part) × (new ≡ pairs ++ pair ∷ [])
    → parts ≡ map pair_text pairs ++ now → parts ≡ map pair_text new ++ rest
pairs_next parts pairs new part rest now is (pair, found, more) are =
    pairs_more parts pairs part rest pair (sym found) (are ∙ ap (λ (t : List (List ℕ)). map pair_text pairs ++ t) is)
    ∙ ap (λ (ps : List Pair). map pair_text ps ++ rest) (sym more)

pub part_fault : (parts : List (List ℕ)) (pairs : List Pair) (part : List ℕ) (rest now : List (List ℕ)) (fault : MessageFault) → IsPairs pairs
    → now ≡ part ∷ rest → ((fault ≡ TooMany) × (length pairs ≡ 16)) ⊎ ((fault ≡ BadPair (length pairs + 1)) × (length pairs < 16) × (pair_in part ≡ None))
    → parts ≡ map pair_text pairs ++ now → first_failed (pairs_tests parts) ≡ Some fault
part_fault parts pairs part rest now fault is next why are =
    let whole = are ∙ ap (λ (t : List (List ℕ)). map pair_text pairs ++ t) next in
    elim why [
      | inl full ↦ too_many parts pairs part rest is.ports full.1 whole ∙ ap Some (sym full.0)
      | inr bad ↦ bad_pair parts pairs part rest is.ports bad.1 bad.2 whole ∙ ap Some (sym bad.0)
    ]

-- the digits

digit_is : (byte : ℕ) → is_ascii_digit (48 + byte % 10) ≡ true
digit_is byte = and_from (nat_le 48 (48 + byte % 10)) (nat_le (48 + byte % 10) 57) (le-leb 48 (48 + byte % 10) (omega arith)) (le-leb (48 + byte % 10) 57 (omega arith))

all_digits : (bytes : List ℕ) → list_all (λ byte. is_ascii_digit (48 + byte % 10)) bytes ≡ true
all_digits [] = refl
all_digits (byte ∷ bytes) =
    let one : is_ascii_digit (48 + byte % 10) ≡ true = digit_is byte in
    rw (one, all_digits bytes) refl

pub digit_places : (bytes digits : List ℕ) → length bytes ≡ 16 → length digits ≡ 16
    → ((k : ℕ) → k < 16 → slice_index digits k ≡ 48 + slice_index bytes k % 10) → digits ≡ map (λ byte. 48 + byte % 10) bytes
digit_places bytes digits lb ld places =
    let lm = length-map bytes (λ byte. 48 + byte % 10) in
    same_number_lists digits (map (λ byte. 48 + byte % 10) bytes) (omega arith)
    (λ k lt. places k (omega arith) ∙ sym (get_or-map (λ byte. 48 + byte % 10) bytes k 0 0 (omega arith)))

pub digits_are : (digits : List ℕ) (bytes : List ℕ) → length digits ≡ 16 → digits ≡ map (λ byte. 48 + byte % 10) bytes → is_rand digits ≡ true
digits_are digits bytes size is =
    let each : list_all is_ascii_digit digits ≡ true = rw is (list_all-map is_ascii_digit (λ byte. 48 + byte % 10) bytes ∙ all_digits bytes) in
    rw (eq-eqb (length digits) 16 size, each) refl
