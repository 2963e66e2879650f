-- What is granted for a request.
use Rattle.std.specs.Prelude.{◌≡◌, ℕ, ◌≤◌, List, Ok}
use Rattle.fk_base.specs.declared.address.Ip4.{Ip4}
use Rattle.fk_base.specs.declared.grant.Grant.{Grant}
use Rattle.fk_fields.specs.Fields.{asked_ip, asked_pairs}
use Rattle.fk_access.specs.declared.stanza.Stanza.{Stanza}
use Rattle.fk_admit.specs.Admit.{admitted, let_in, open_seconds}
use Rattle.fk_admit.specs.Arrival.{Arrival}
use Rattle.fk_admit.specs.FirstGrant.{IsFirstGrant}
use Rattle.fk_exchange.specs.Request.{Request}

-- What a stanza of this number grants for a request from this source: the address that is asked for, or the source in place of
-- 0.0.0.0; the pairs; the seconds of a timed request, or the stanza's; and as its stamp the moment of the request.
abbrev pub grant_for : ℕ → Stanza → Request → Ip4 → Grant
grant_for number stanza request source = record {
  stanza = number;
  ip = let_in (asked_ip request.settings.ask) source;
  src = source;
  pairs = asked_pairs request.settings.ask;
  seconds = open_seconds stanza request.settings.ask;
  stamp = request.moment;
}

-- something is granted: by the first stanza of the file that grants anything, which is at this place or before it
pub record IsLetIn (access : List Stanza) (place : ℕ) (arrival : Arrival) : Type 0 where
  pub grant : Grant
  pub granted : admitted access arrival ≡ Ok grant
  pub first : IsFirstGrant access arrival grant
  pub no_later : first.at ≤ place
