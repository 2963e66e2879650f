-- What is granted for a datagram that arrives, or why nothing is.
use Rattle.std.specs.Prelude.{ℕ, ◌+◌, ◌==◌, is_none, List, [], ◌∷◌, find, Option, Some, None, Result, Err, unwrap_or, if◌then◌else◌}
use Rattle.std.specs.List.{sum_by}
use Rattle.std.specs.Option.{option_and_then, option_map, option_map_or, option_or, ok_or}
use Rattle.fk_base.specs.FirstFailed.{first_failed}
use Rattle.fk_base.specs.declared.address.Ip4.{Ip4}
use Rattle.fk_base.specs.declared.grant.Grant.{Grant}
use Rattle.fk_fields.specs.declared.fields.Ask.{Ask}
use Rattle.fk_fields.specs.declared.fields.Ask.TheVariants as ask
use Rattle.fk_fields.specs.declared.fields.Fields.{Fields}
use Rattle.fk_fields.specs.Fields.{asked_ip, asked_pairs}
use Rattle.fk_packet.specs.Pick.{blocks_under_each}
use Rattle.fk_packet.specs.Shape.{shape_fault}
use Rattle.fk_packet.specs.declared.packet_shape.PacketShape.{PacketShape}
use Rattle.fk_packet.specs.declared.packet_shape.PacketShape.TheVariants as shape
use Rattle.fk_access.specs.declared.stanza.Stanza.{Stanza}
use Rattle.fk_admit.specs.Arrival.{Arrival}
use Rattle.fk_admit.specs.Conditions.{is_open_at, keys_at, picked_by, serves, served_tests, tests}
use Rattle.fk_admit.specs.KeyConditions.{fields_under}
use Rattle.fk_admit.specs.declared.refusal.Refusal.{Refusal}
use Rattle.fk_admit.specs.declared.refusal.Refusal.TheVariants.{Shape, Prefix, NoStanza}

-- the address that is let in: the one that the packet asks for, or its source where that is 0.0.0.0
abbrev pub let_in : Ip4 → Ip4 → Ip4
let_in asked source = if asked.0 == 0 then source else asked

-- for how long: as a timed request says, else as the stanza does
abbrev pub open_seconds : Stanza → Ask → ℕ
open_seconds stanza (ask.Access ip pairs) = stanza.timer
open_seconds stanza (ask.Timed ip pairs seconds) = seconds

-- what the stanza with this number grants for fields
abbrev pub grant_of : ℕ → Stanza → Arrival → Fields → Grant
grant_of number stanza arrival fields = record {
  stanza = number;
  ip = let_in (asked_ip fields.ask) arrival.source;
  src = arrival.source;
  pairs = asked_pairs fields.ask;
  seconds = open_seconds stanza fields.ask;
  stamp = fields.stamp;
}

-- the fields that the picked keys of a stanza open
abbrev pub fields_by : Stanza → Arrival → Option Fields
fields_by stanza arrival = option_and_then (λ keys. fields_under keys arrival.datagram) (picked_by stanza arrival)

-- what a stanza grants: something where all ten conditions hold
abbrev pub granted_by : ℕ → Stanza → Arrival → Option Grant
granted_by number stanza arrival =
    if is_none (first_failed (tests stanza arrival)) then option_map (grant_of number stanza arrival) (fields_by stanza arrival) else None

-- what stanzas grant, which are numbered from here: what the first of them does that grants something
abbrev pub first_grant : ℕ → List Stanza → Arrival → Option Grant
first_grant number [] arrival = None
first_grant number (stanza ∷ stanzas) arrival = option_or (granted_by number stanza arrival) (first_grant (number + 1) stanzas arrival)

-- the first condition that a stanza fails which serves the source
abbrev pub failed_condition : Arrival → Stanza → Refusal
failed_condition arrival stanza = unwrap_or (first_failed (served_tests stanza arrival)) NoStanza

-- Why no stanza grants: the first condition that the first stanza fails which serves the source, or that none serves it.
abbrev pub why : List Stanza → Arrival → Refusal
why access arrival =
    option_map_or (failed_condition arrival) (find (λ stanza. serves stanza.sources arrival.source) access) NoStanza

-- the refusal of a datagram that has not the right shape
abbrev pub refusal_of_shape : PacketShape → Refusal
refusal_of_shape shape.Size = Shape
refusal_of_shape (shape.Alphabet place) = Shape
refusal_of_shape shape.Prefix = Prefix

-- the answer to a datagram by its shape, and then by the stanzas
abbrev pub admitted_by : Option PacketShape → List Stanza → Arrival → Result Grant Refusal
admitted_by (Some fault) access arrival = Err (refusal_of_shape fault)
admitted_by None access arrival = ok_or (first_grant 1 access arrival) (why access arrival)

-- what is granted for a datagram that arrives, or why nothing is: stanzas are numbered from 1
abbrev pub admitted : List Stanza → Arrival → Result Grant Refusal
admitted access arrival = admitted_by (shape_fault arrival.datagram) access arrival

-- How many blocks a stanza that serves the source may cost to open: none where it is over, and those of the datagram for each pair
-- of keys in use under which its HMAC is right.
abbrev pub served_blocks : Arrival → Stanza → ℕ
served_blocks arrival stanza =
    if is_open_at stanza.expire arrival.moment then blocks_under_each (keys_at stanza arrival) arrival.datagram else 0

-- how many a stanza may cost
abbrev pub blocks_for : Arrival → Stanza → ℕ
blocks_for arrival stanza = if serves stanza.sources arrival.source then served_blocks arrival stanza else 0

-- how many all stanzas together may cost
abbrev pub blocks_in_all : List Stanza → Arrival → ℕ
blocks_in_all access arrival = sum_by (blocks_for arrival) access
