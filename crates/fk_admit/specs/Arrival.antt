-- A datagram as it arrives.
use Rattle.std.specs.Prelude.{ℕ, List}
use Rattle.fk_base.specs.declared.address.Ip4.{Ip4}

pub record Arrival : Type 0 where
  -- how many seconds its stamp may lie from the moment, on either side
  pub age : ℕ
  -- where it comes from
  pub source : Ip4
  pub datagram : List ℕ
  -- when it comes, in seconds since the start of 1970
  pub moment : ℕ

-- a datagram that arrives so
abbrev pub arrival : ℕ → Ip4 → List ℕ → ℕ → Arrival
arrival age source datagram moment = record { age = age; source = source; datagram = datagram; moment = moment }
