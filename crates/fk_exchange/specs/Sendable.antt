-- The requests that a client can make.
use Rattle.std.specs.Prelude.{◌<◌, ◌≤◌, ◌^◌}
use Rattle.fk_base.specs.Bytes.{HasBytes}
use Rattle.fk_base.specs.Pairs.{IsPairs}
use Rattle.fk_base.specs.declared.moment.TheConstants.{GREATEST_MOMENT}
use Rattle.fk_fields.specs.Fields.{asked_ip, asked_pairs}
use Rattle.fk_client.specs.declared.settled.Settings.{Settings}
use Rattle.fk_exchange.specs.Request.{Request}

-- settings ask for an address of 32 bits and for 1 to 16 pairs
pub record AreWithin (settings : Settings) : Type 0 where
  pub address : (asked_ip settings.ask).0 < 2 ^ 32
  pub pairs : IsPairs (asked_pairs settings.ask)

-- such settings, a moment that a plaintext can write, and 24 bytes
pub record IsSendable (request : Request) : Type 0 where
  pub settings : AreWithin request.settings
  pub moment : request.moment ≤ GREATEST_MOMENT
  pub drawn : HasBytes 24 request.drawn
