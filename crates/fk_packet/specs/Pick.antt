-- Which of several pairs of keys opens a datagram. What a plaintext has to be is left open: whoever asks for one says it.
use Rattle.std.specs.Prelude.{ℕ, Bool, false, ◌&&◌, List, find, Option}
use Rattle.std.specs.List.{sum_by}
use Rattle.std.specs.Option.{option_map_or}
use Rattle.fk_base.specs.declared.keys.Keys.{Keys}
use Rattle.fk_packet.specs.Opens.{blocks_under, is_authentic, plain_in, sealed_text}

-- the plaintext that the keys open from a datagram
abbrev pub plain_under : Keys → List ℕ → Option (List ℕ)
plain_under keys datagram = plain_in keys.key (sealed_text keys.kind datagram)

-- the datagram ends in its HMAC under the keys, they open a plaintext from it, and this passes the test
abbrev pub fits : (List ℕ → Bool) → List ℕ → Keys → Bool
fits is_plain datagram keys = is_authentic keys datagram && option_map_or is_plain (plain_under keys datagram) false

-- the first keys that a datagram fits
abbrev pub picked_of : (List ℕ → Bool) → List Keys → List ℕ → Option Keys
picked_of is_plain keys datagram = find (fits is_plain datagram) keys

-- the first keys under which its HMAC is right
abbrev pub first_authentic : List Keys → List ℕ → Option Keys
first_authentic keys datagram = find (λ k. is_authentic k datagram) keys

-- how many blocks all of them may cost to open: none for keys under which its HMAC is not right
abbrev pub blocks_under_each : List Keys → List ℕ → ℕ
blocks_under_each keys datagram = sum_by (λ k. blocks_under k datagram) keys
