-- The conditions of a stanza that one pair of keys decides, and the fields that the keys open.
use Rattle.std.specs.Prelude.{ℕ, Bool, true, false, List, [], ◌∷◌, Option, Result, Ok, Err, is_ok, is_some, unwrap_or}
use Rattle.std.specs.Option.{option_map_or, option_and_then}
use Rattle.std.specs.Result.{result_ok}
use Rattle.fk_base.specs.FirstFailed.{first_failed}
use Rattle.fk_base.specs.declared.keys.Keys.{Keys}
use Rattle.fk_fields.specs.declared.fields.Fields.{Fields}
use Rattle.fk_codec.specs.declared.fault.DecodeFault.{DecodeFault}
use Rattle.fk_codec.specs.declared.fault.DecodeFault.TheVariants.{KindOut}
use Rattle.fk_codec.specs.DecodeFault.{decoded}
use Rattle.fk_packet.specs.Opens.{is_authentic}
use Rattle.fk_packet.specs.Pick.{first_authentic, picked_of, plain_under}
use Rattle.fk_admit.specs.declared.refusal.Refusal.{Refusal}
use Rattle.fk_admit.specs.declared.refusal.Refusal.TheVariants.{Mac, Cipher, Plain}

-- what is read is fields, or right but for its type
abbrev pub is_right_but_for_type : Result Fields DecodeFault → Bool
is_right_but_for_type (Ok fields) = true
is_right_but_for_type (Err (KindOut type)) = true
is_right_but_for_type (Err why) = false

-- the text is a plaintext, of whichever type
abbrev pub is_plaintext : List ℕ → Bool
is_plaintext text = is_right_but_for_type (decoded text)

-- The conditions that a datagram meets under one pair of keys, 3 to 5, in the order of their tests: the HMAC at its end, then what
-- the key opens, then that this is a plaintext.
abbrev pub key_tests : Keys → List ℕ → List (Bool × Refusal)
key_tests keys datagram =
    (is_authentic keys datagram, Mac) ∷ (is_some (plain_under keys datagram), Cipher)
    ∷ (option_map_or is_plaintext (plain_under keys datagram) false, Plain) ∷ []

-- which of them fails first
abbrev pub key_refusal : List ℕ → Keys → Refusal
key_refusal datagram keys = unwrap_or (first_failed (key_tests keys datagram)) Mac

-- the first of several pairs of keys under which all three hold
abbrev pub picked : List Keys → List ℕ → Option Keys
picked keys datagram = picked_of is_plaintext keys datagram

-- Where there is none: the HMAC where it is right under none of them, else what fails under the first under which it is.
abbrev pub ring_refusal : List Keys → List ℕ → Refusal
ring_refusal keys datagram = option_map_or (key_refusal datagram) (first_authentic keys datagram) Mac

-- the type is one that is served
abbrev pub is_served_type : Keys → List ℕ → Bool
is_served_type keys datagram = option_map_or (λ text. is_ok (decoded text)) (plain_under keys datagram) false

-- the fields of the plaintext that the keys open
abbrev pub fields_under : Keys → List ℕ → Option Fields
fields_under keys datagram = option_and_then (λ text. result_ok (decoded text)) (plain_under keys datagram)
