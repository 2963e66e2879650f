-- The message of a packet: an address and 1 to 16 pairs, joined by commas, as `10.0.0.7,tcp/22,udp/53`; 44 is ','.
use Rattle.std.specs.Prelude.{ℕ, ◌+◌, nat_le, nat_lt, Bool, is_some, is_none, List, [], ◌∷◌, length, map, take, Option, Some, None, if◌then◌else◌}
use Rattle.std.specs.List.{join_with_byte, list_all, prefix_len}
use Rattle.fk_base.specs.FirstFailed.{first_failed}
use Rattle.fk_base.specs.Parts.{parts_at}
use Rattle.fk_base.specs.Address.{ip_text, ip_in}
use Rattle.fk_base.specs.PairText.{pair_text, pair_in}
use Rattle.fk_base.specs.declared.address.Ip4.{Ip4}
use Rattle.fk_base.specs.declared.pair.Pair.{Pair}
use Rattle.fk_fields.specs.declared.message.MessageFault.{MessageFault}
use Rattle.fk_fields.specs.declared.message.MessageFault.TheVariants.{BadAddress, BadPair, NoPair, TooMany}

-- the text of an address and pairs
abbrev pub message_text : Ip4 → List Pair → List ℕ
message_text ip pairs = join_with_byte 44 (ip_text ip ∷ map pair_text pairs)

abbrev pub is_pair_text : List ℕ → Bool
is_pair_text part = is_some (pair_in part)

-- The tests of the parts behind the address: that there is one, of the first 16 that each is a pair, that no other follows. Pairs
-- are counted from 1.
abbrev pub pairs_tests : List (List ℕ) → List (Bool × MessageFault)
pairs_tests parts =
    (nat_lt 0 (length parts), NoPair) ∷ (list_all is_pair_text (take 16 parts), BadPair (prefix_len is_pair_text parts + 1))
    ∷ (nat_le (length parts) 16, TooMany) ∷ []

-- the first test that the parts round the commas fail
abbrev pub parts_fault : List (List ℕ) → Option MessageFault
parts_fault [] = Some BadAddress
parts_fault (address ∷ parts) = first_failed ((is_some (ip_in address), BadAddress) ∷ pairs_tests parts)

-- the first test that a message fails
unfoldable pub message_fault : List ℕ → Option MessageFault
message_fault text = parts_fault (parts_at 44 text)

-- a pair before others, where there are all
abbrev pub pair_before : Option Pair → Option (List Pair) → Option (List Pair)
pair_before (Some pair) (Some pairs) = Some (pair ∷ pairs)
pair_before _ _ = None

-- the pairs of the parts, where each is one
abbrev pub pairs_of_parts : List (List ℕ) → Option (List Pair)
pairs_of_parts [] = Some []
pairs_of_parts (part ∷ parts) = pair_before (pair_in part) (pairs_of_parts parts)

-- an address and pairs, where there are both
abbrev pub asked_of : Option Ip4 → Option (List Pair) → Option (Ip4 × List Pair)
asked_of (Some ip) (Some pairs) = Some (ip, pairs)
asked_of _ _ = None

-- what the parts ask for
abbrev pub asked_of_parts : List (List ℕ) → Option (Ip4 × List Pair)
asked_of_parts [] = None
asked_of_parts (address ∷ parts) = asked_of (ip_in address) (pairs_of_parts parts)

-- the address and the pairs of a message without a fault: by `messages_are_found` those whose text it is
unfoldable pub message_in : List ℕ → Option (Ip4 × List Pair)
message_in text = if is_none (message_fault text) then asked_of_parts (parts_at 44 text) else None
