-- Which requests a stanza permits, said of what is asked for and not of the tests of a datagram.
use Rattle.std.specs.Prelude.{◌≡◌, ◌≢◌, ◌<◌, ◌≤◌, ℕ, true, List, All, Any, Contains, IfSome, Some, slice_get}
use Rattle.fk_base.specs.Net.{covers}
use Rattle.fk_base.specs.declared.address.Ip4.{Ip4}
use Rattle.fk_base.specs.declared.keys.Keys.{Keys}
use Rattle.fk_base.specs.declared.pair.Pair.{Pair}
use Rattle.fk_fields.specs.Fields.{asked_ip, asked_pairs}
use Rattle.fk_packet.specs.Pick.{fits}
use Rattle.fk_access.specs.declared.key_ring.TimedKeys.{TimedKeys}
use Rattle.fk_access.specs.declared.sources.Sources.{Sources}
use Rattle.fk_access.specs.declared.sources.Sources.TheVariants.{Any as AnySource, Nets}
use Rattle.fk_access.specs.declared.stanza.Stanza.{Stanza}
use Rattle.fk_admit.specs.Arrival.{Arrival}
use Rattle.fk_admit.specs.KeyConditions.{is_plaintext}
use Rattle.fk_exchange.specs.Request.{Request}

-- a packet from this address may use the stanza: it is from anywhere, or one of the nets covers it
abbrev pub IsAmong : Sources → Ip4 → Type 0
IsAmong AnySource source = Unit {0}
IsAmong (Nets nets) source = Any (λ net. covers net source ≡ true) nets

-- the pair is one of those that may be asked for, where the stanza lists them, and none of those that may not
pub record IsOpenTo (stanza : Stanza) (pair : Pair) : Type 0 where
  pub allowed : IfSome stanza.allowed (λ pairs. Contains pairs pair)
  pub not_barred : IfSome stanza.barred (λ pairs. ¬ Contains pairs pair)

-- the pair of keys is used at this moment: it has no last one, or that is not over
abbrev pub IsInUse : ℕ → TimedKeys → Type 0
IsInUse moment timed = IfSome timed.until (λ last. moment ≤ last)

-- A pair has these keys and is in use when the datagram arrives, and no earlier pair that is in use then fits the datagram: its HMAC
-- is another, or it opens no plaintext.
pub record HasFirst (ring : List TimedKeys) (keys : Keys) (arrival : Arrival) : Type 0 where
  pub place : ℕ
  pub timed : TimedKeys
  pub here : slice_get ring place ≡ Some timed
  pub keys_are : timed.keys ≡ keys
  pub in_use : IsInUse arrival.moment timed
  pub no_earlier : (earlier : ℕ) (other : TimedKeys) → earlier < place → slice_get ring earlier ≡ Some other
      → IsInUse arrival.moment other → ¬ (fits is_plaintext arrival.datagram other.keys ≡ true)

-- the stanza has the keys of the request, and lets it in as it arrives
pub record Permits (stanza : Stanza) (request : Request) (arrival : Arrival) : Type 0 where
  pub keys : HasFirst stanza.ring request.settings.keys arrival
  pub source : IsAmong stanza.sources arrival.source
  -- it is not over
  pub last : IfSome stanza.expire (λ last. arrival.moment ≤ last)
  -- the user is the one that it requires
  pub user : IfSome stanza.user (λ user. request.settings.user ≡ user)
  -- an address is named, where it requires one
  pub address : stanza.need_source ≡ true → (asked_ip request.settings.ask).0 ≢ 0
  pub pairs : All (IsOpenTo stanza) (asked_pairs request.settings.ask)
