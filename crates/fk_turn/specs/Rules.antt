-- The rules of a daemon with its configuration and its stanzas, as a run takes them.
use Rattle.std.specs.Prelude.{◌≡◌, ◌⊎◌, ℕ, ◌-◌, ◌<◌, List, [], ◌∷◌, slice_get, Option, Some, None, Result, Ok, Err}
use Rattle.std.specs.Option.{option_map}
use Rattle.std.proofs.Common.{lit<}
use Rattle.fk_base.specs.declared.address.Ip4.{Ip4}
use Rattle.fk_base.specs.declared.grant.Grant.{Grant}
use Rattle.fk_base.specs.declared.pair.Pair.{Pair}
use Rattle.fk_base.specs.declared.pair.Proto.TheVariants.{Tcp}
use Rattle.fk_trace.specs.declared.refusal.LogWhy.{LogWhy}
use Rattle.fk_trace.specs.declared.refusal.LogWhy.TheVariants as why
use Rattle.fk_trace.specs.Decision.{FeedTurn, Input, Permit, Verdict, Rules}
use Rattle.fk_trace.specs.Decision.Input.{Quiet as QuietInput, Datagram as DatagramInput}
use Rattle.fk_trace.specs.Decision.Verdict.{Granted, Refused}
use Rattle.fk_mac.specs.Hmac.{packet_digest}
use Rattle.fk_packet.specs.Shape.{shape_fault}
use Rattle.fk_subst.specs.declared.piece.Piece.{Piece}
use Rattle.fk_subst.specs.Fill.{filled}
use Rattle.fk_conf.specs.declared.conf.Conf.{Conf}
use Rattle.fk_access.specs.declared.stanza.Stanza.{Stanza}
use Rattle.fk_admit.specs.declared.refusal.Refusal.{Refusal}
use Rattle.fk_admit.specs.declared.refusal.Refusal.TheVariants as refusal
use Rattle.fk_admit.specs.Admit.{admitted, blocks_in_all, refusal_of_shape}
use Rattle.fk_admit.specs.Arrival.{arrival}
use Rattle.fk_ledger.specs.Book.{room_within}
use Rattle.fk_turn.specs.declared.feed_turn.FeedTurn.{FeedTurn as GivenTurn}
use Rattle.fk_turn.specs.declared.feed_turn.FeedInput.{FeedInput}
use Rattle.fk_turn.specs.declared.feed_turn.FeedInput.TheVariants.{Quiet, Datagram}
use Rattle.fk_turn.specs.declared.policy.Policy.{Policy}

-- why a datagram is not admitted, as the log says it
abbrev pub why_of : Refusal → LogWhy
why_of refusal.Shape = why.Shape
why_of refusal.Prefix = why.Prefix
why_of refusal.NoStanza = why.NoStanza
why_of refusal.Expired = why.Expired
why_of refusal.Mac = why.Mac
why_of refusal.Cipher = why.Cipher
why_of refusal.Plain = why.Plain
why_of refusal.Kind = why.Kind
why_of refusal.Age = why.Age
why_of refusal.User = why.User
why_of refusal.Source = why.Source
why_of refusal.Port = why.Port

-- the words of a command of a grant's stanza, whose template is filled with the grant; no grant is without a stanza
abbrev pub command_words : (Stanza → List (List Piece)) → Option Stanza → Grant → List (List ℕ)
command_words template None grant = []
command_words template (Some stanza) grant = filled (template stanza) grant

-- the pair that is asked for first; no grant is without one
abbrev pub first_pair : List Pair → Pair
first_pair [] = record { proto = Tcp; port = 1; has_port = lit< tt }
first_pair (pair ∷ pairs) = pair

-- the stanza that grants; stanzas are counted from 1
abbrev pub granting : List Stanza → Grant → Option Stanza
granting stanzas grant = slice_get stanzas (grant.stanza - 1)

-- what a grant permits
abbrev pub permit_of : List Stanza → Grant → Permit
permit_of stanzas grant = record {
  stanza = grant.stanza;
  stamp = grant.stamp;
  seconds = grant.seconds;
  ip = grant.ip;
  pair = first_pair grant.pairs;
  opening = command_words (λ stanza. stanza.opening) (granting stanzas grant) grant;
  closing = command_words (λ stanza. stanza.closing) (granting stanzas grant) grant;
}

abbrev pub verdict_of : List Stanza → Result Grant Refusal → Verdict
verdict_of stanzas (Ok grant) = Granted (permit_of stanzas grant)
verdict_of stanzas (Err refusal) = Refused (why_of refusal)

-- the rules of a daemon with this configuration and these stanzas
abbrev pub rules_of : Conf → List Stanza → Rules
rules_of conf stanzas = record {
  misshapen = λ datagram. option_map (λ fault. why_of (refusal_of_shape fault)) (shape_fault datagram);
  digest = packet_digest;
  admit = λ moment source datagram. verdict_of stanzas (admitted stanzas (arrival conf.age source datagram moment));
  room = room_within conf.room conf.live conf.keep;
}

-- the same, from what a turn is served by
abbrev pub rules_by : Policy → Rules
rules_by policy = rules_of policy.conf.now policy.access.now

abbrev pub input_of : FeedInput → Input
input_of Quiet = QuietInput
input_of (Datagram source bytes) = DatagramInput source bytes.now

-- a turn, as a run takes it
abbrev pub turn_of : GivenTurn → FeedTurn
turn_of turn = record { moment = turn.moment; input = input_of turn.input }

-- the datagram has the HMAC of a stanza that serves its source; as one that is granted has, too
abbrev pub HasRightCode : Policy → ℕ → Ip4 → List ℕ → Type 0
HasRightCode policy moment source datagram =
    (0 < blocks_in_all policy.access.now (arrival policy.conf.now.age source datagram moment))
    ⊎ ((permit : Permit) × ((rules_by policy).admit moment source datagram ≡ Granted permit))

-- the turn has brought such a datagram
abbrev pub BringsRightCode : Policy → FeedTurn → Type 0
BringsRightCode policy turn =
    (source : Ip4) × (datagram : List ℕ) × (turn.input ≡ DatagramInput source datagram) × HasRightCode policy turn.moment source datagram
