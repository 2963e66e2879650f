-- What the words that read one part say of it.
use Rattle.std.proofs.Common.{◌≡◌, ℕ, ◌+◌, ◌*◌, ◌/◌, ◌<◌, ◌≤◌, ◌^◌, true, false, List, [], ◌∷◌, length, get_or, Option, Some, None, Result, Ok, Err, refl, sym, ap, ◌∙◌, inl, inr, arith}
use Rattle.std.specs.Prelude.{◌&&◌, nat_le, IsTrue, MatchResult, map}
use Rattle.std.specs.Result.{result_ok}
use Rattle.std.specs.List.{All, AllByRecursion, list_all}
use Rattle.std.specs.Fmt.{decimal}
use Rattle.std.specs.Option.{option_and_then}
use Rattle.std.proofs.lemmas.Bool.{and_parts, cases_lt, leb-true, le-leb}
use Rattle.std.proofs.lemmas.List.{get_or_past}
use Rattle.std.proofs.lemmas.List.Elements.{All-head, All-tail}
use Rattle.std.proofs.lemmas.List.Sums.{AllPass-from_list_all}
use Rattle.std.proofs.lemmas.Option.{option_and_then_some, cond_some, same_Some}
use Rattle.fk_base.specs.Bytes.{IsBytes}
use Rattle.fk_base.specs.Decimal.{decimal_value, first_num_fault, number_unless, number_in}
use Rattle.fk_base.specs.declared.address.Ip4.{Ip4}
use Rattle.fk_base.specs.declared.decimal.NumFault.{NumFault}
use Rattle.fk_base.specs.declared.pair.Pair.{Pair}
use Rattle.fk_base.specs.Address.{ip_text}
use Rattle.fk_base.specs.PairText.{pair_text}
use Rattle.fk_base.specs.Pairs.{IsPairs}
use Rattle.fk_base.proofs.FoundValues.{All-ip_text, All-pair_text, name_in_bytes, none_unless, number_in_iff}
use Rattle.fk_base.proofs.Joined.{All-join}
use Rattle.fk_text.specs.Found.{bytes_in}
use Rattle.fk_text.specs.Text.{text_of}
use Rattle.fk_text.proofs.BytesFound.{bytes_in_iff}
use Rattle.fk_text.proofs.Symbols.{length-text_of}
use Rattle.fk_fields.specs.FieldText.{is_printable, is_timeout, is_user}
use Rattle.fk_fields.specs.declared.message.MessageFault.{MessageFault}
use Rattle.fk_fields.specs.Message.{message_fault, message_in, message_text}
use Rattle.fk_fields.proofs.MessageParts.{HavePorts, message_in_iff, none_with_fault}
use Rattle.fk_fields.proofs.MessageLengths.{length-message}
use Rattle.fk_codec.specs.DecodeFault.{asked_in, passing, seconds_in, user_in}

-- a number

unless_value : (fault : Option NumFault) (value n : ℕ) → number_unless fault value ≡ Some n → value ≡ n
unless_value None value n e = same_Some value n e
unless_value (Some fault) value n e = cc

-- the number that is found is the value of the digits
pub number_value : (greatest n : ℕ) (text : List ℕ) → number_in greatest text ≡ Some n → decimal_value text ≡ n
unfolding number_in
number_value greatest n text e = unless_value (first_num_fault greatest text) (decimal_value text) n e

-- lists of bytes

pub IsBytes-All : (bytes : List ℕ) → All (λ b. b < 256) bytes → IsBytes bytes
IsBytes-All bytes all i = elim (cases_lt i (length bytes)) [
  | inl in' ↦ all i 0 in'
  | inr past ↦ rw (get_or_past bytes i 0 past) (omega arith)
]

printable_small : (b : ℕ) → is_printable b ≡ true → b < 256
printable_small b is = let high = leb-true b 0x7e (and_parts (nat_le 0x20 b) (nat_le b 0x7e) is).1 in omega arith

-- what a user is
pub record IsUser (user : List ℕ) : Type 0 where
  pub least : 1 ≤ length user
  pub most : length user ≤ 64
  pub bytes : IsBytes user

pub user_is : (user : List ℕ) → is_user user ≡ true → IsUser user
user_is user is =
    let both = and_parts (nat_le 1 (length user) && nat_le (length user) 64) (list_all is_printable user) is in
    let counts = and_parts (nat_le 1 (length user)) (nat_le (length user) 64) both.0 in
    let all = AllPass-from_list_all is_printable user both.1 in
    record {
      least = leb-true 1 (length user) counts.0;
      most = leb-true (length user) 64 counts.1;
      bytes = IsBytes-All user (λ i d lt. printable_small (get_or user i d) (all i d lt));
    }

pairs_in_bytes : (pairs : List Pair) → HavePorts pairs → AllByRecursion (All (λ x. x < 256)) (map pair_text pairs)
pairs_in_bytes [] ports = tt
pairs_in_bytes (pair ∷ pairs) ports = (
  All-pair_text (λ x. x < 256) (λ x is. omega arith) name_in_bytes pair (All-head (λ p. p.port < 2 ^ 16) pair pairs ports),
  pairs_in_bytes pairs (All-tail (λ p. p.port < 2 ^ 16) pair pairs ports),
)

pub IsBytes-message : (ip : Ip4) (pairs : List Pair) → IsPairs pairs → IsBytes (message_text ip pairs)
IsBytes-message ip pairs is =
    let address : All (λ x. x < 256) (ip_text ip) = All-ip_text (λ x. x < 256) (λ x in'. omega arith) (omega arith) ip in
    IsBytes-All (message_text ip pairs)
    (All-join (λ x. x < 256) 44 (omega arith) (ip_text ip ∷ map pair_text pairs) (address, pairs_in_bytes pairs is.ports))

-- the user

pub user_in_some : (part user : List ℕ) → user_in part ≡ Some user → IsTrue (is_user user) × (part ≡ text_of user)
unfolding user_in
user_in_some part user e =
    option_and_then_some (passing is_user) (bytes_in part) user e
    (λ bytes got test.
    let passed = cond_some (is_user bytes) bytes user test in
    let found = (bytes_in_iff part bytes).0 got in
    (ap is_user (sym passed.1) ∙ passed.0, found.1 ∙ ap text_of passed.1))

pub user_in-text_of : (user : List ℕ) → IsTrue (is_user user) → user_in (text_of user) ≡ Some user
unfolding user_in
user_in-text_of user is =
    let found : bytes_in (text_of user) ≡ Some user = (bytes_in_iff (text_of user) user).1 ((user_is user is).bytes, refl) in
    rw (found, is) refl

pub user_too_long : (part : List ℕ) → 256 < length part → user_in part ≡ None
user_too_long part long =
    none_unless (user_in part)
    (λ user e.
    let is = user_in_some part user e in
    let most = (user_is user is.0).most in
    let size : length part ≡ (8 * length user + 5) / 6 = ap length is.1 ∙ length-text_of user in
    omega arith)

pub user_none : (part : List ℕ) → bytes_in part ≡ None → user_in part ≡ None
unfolding user_in
user_none part e = rw e refl

pub user_read : (part bytes : List ℕ) → bytes_in part ≡ Some bytes → is_user bytes ≡ true → user_in part ≡ Some bytes
unfolding user_in
user_read part bytes e is = rw (e, is) refl

pub user_refused : (part bytes : List ℕ) → bytes_in part ≡ Some bytes → is_user bytes ≡ false → user_in part ≡ None
unfolding user_in
user_refused part bytes e is = rw (e, is) refl

-- the message

pub asked_in_some : (part : List ℕ) (ip : Ip4) (pairs : List Pair) → asked_in part ≡ Some (ip, pairs)
    → (ip.0 < 2 ^ 32) × IsPairs pairs × (part ≡ text_of (message_text ip pairs))
unfolding asked_in
asked_in_some part ip pairs e =
    option_and_then_some message_in (bytes_in part) (ip, pairs) e
    (λ message got test.
    let is = (message_in_iff message ip pairs).0 test in
    (is.0, is.1, ((bytes_in_iff part message).0 got).1 ∙ ap text_of is.2))

pub asked_in-text_of : (ip : Ip4) (pairs : List Pair) → ip.0 < 2 ^ 32 → IsPairs pairs → asked_in (text_of (message_text ip pairs)) ≡ Some (ip, pairs)
unfolding asked_in
asked_in-text_of ip pairs small is =
    let message = message_text ip pairs in
    let found : bytes_in (text_of message) ≡ Some message = (bytes_in_iff (text_of message) message).1 (IsBytes-message ip pairs is, refl) in
    ap (option_and_then message_in) found ∙ (message_in_iff message ip pairs).1 (small, is, refl)

pub asked_too_long : (part : List ℕ) → 256 < length part → asked_in part ≡ None
asked_too_long part long =
    none_unless (asked_in part)
    (λ (ip, pairs) e.
    let is = asked_in_some part ip pairs e in
    let most = length-message ip pairs is.1 in
    let size : length part ≡ (8 * length (message_text ip pairs) + 5) / 6 = ap length is.2 ∙ length-text_of (message_text ip pairs) in
    omega arith)

pub asked_none : (part : List ℕ) → bytes_in part ≡ None → asked_in part ≡ None
unfolding asked_in
asked_none part e = rw e refl

pub asked_read : (part bytes : List ℕ) → bytes_in part ≡ Some bytes → asked_in part ≡ message_in bytes
unfolding asked_in
asked_read part bytes e = rw e refl

pub message_found : (text : List ℕ) (r : Result (Ip4 × List Pair) MessageFault)
    → MatchResult r (λ asked. message_in text ≡ Some asked) (λ fault. message_fault text ≡ Some fault) → result_ok r ≡ message_in text
message_found text (Ok asked) is = sym is
message_found text (Err fault) is = sym (none_with_fault text fault is)

-- the seconds

pub seconds_in_some : (part : List ℕ) (n : ℕ) → seconds_in part ≡ Some n → IsTrue (is_timeout n) × (part ≡ decimal n)
unfolding seconds_in
seconds_in_some part n e =
    option_and_then_some (passing is_timeout) (number_in 604800 part) n e
    (λ m got test.
    let passed = cond_some (is_timeout m) m n test in
    let found = (number_in_iff 604800 m part (omega arith)).0 got in
    (ap is_timeout (sym passed.1) ∙ passed.0, found.1 ∙ ap decimal passed.1))

-- the seconds that are found are the value of the digits
pub seconds_value : (part : List ℕ) (n : ℕ) → seconds_in part ≡ Some n → decimal_value part ≡ n
unfolding seconds_in
seconds_value part n e =
    option_and_then_some (passing is_timeout) (number_in 604800 part) n e
    (λ m got test. number_value 604800 m part got ∙ (cond_some (is_timeout m) m n test).1)

pub timeout_bounds : (n : ℕ) → is_timeout n ≡ true → (1 ≤ n) × (n ≤ 604800)
timeout_bounds n is =
    let both = and_parts (nat_le 1 n) (nat_le n 604800) is in
    (leb-true 1 n both.0, leb-true n 604800 both.1)

pub seconds_in-decimal : (n : ℕ) → IsTrue (is_timeout n) → seconds_in (decimal n) ≡ Some n
unfolding seconds_in
seconds_in-decimal n is =
    let found : number_in 604800 (decimal n) ≡ Some n = (number_in_iff 604800 n (decimal n) (omega arith)).1 ((timeout_bounds n is).1, refl) in
    rw (found, is) refl

pub seconds_none : (part : List ℕ) → number_in 604800 part ≡ None → seconds_in part ≡ None
unfolding seconds_in
seconds_none part e = rw e refl

pub seconds_read : (part : List ℕ) (n : ℕ) → number_in 604800 part ≡ Some n → 1 ≤ n → n ≤ 604800 → seconds_in part ≡ Some n
unfolding seconds_in
seconds_read part n e least most =
    let is : is_timeout n ≡ true = rw (le-leb 1 n least, le-leb n 604800 most) refl in
    rw (e, is) refl

pub seconds_refused : (part : List ℕ) (n : ℕ) → number_in 604800 part ≡ Some n → n < 1 → seconds_in part ≡ None
unfolding seconds_in
seconds_refused part n e none =
    let zero' : n ≡ 0 = omega arith in
    rw (e, zero') refl
