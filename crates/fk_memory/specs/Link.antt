-- A link in memory.
use Rattle.std.specs.Prelude.{ℕ, ◌==◌, ◌||◌, nat_lt, Bool, List, length}
use Rattle.fk_memory.specs.declared.link.TheConstants.{GREATEST_DATAGRAM, GREATEST_SERVER}
use Rattle.fk_host.specs.Link.{Sendings}

-- where a link in memory stands
pub record LinkState : Type 0 where
  -- what it has sent; at first the last datagram and server are empty and the port is 0
  pub sent : Sendings
  -- how often it has failed
  pub faults : ℕ

-- a send of this datagram to this server is a fault: either is too long, or it was the last that can be counted
abbrev pub fails_to_send : LinkState → List ℕ → List ℕ → Bool
fails_to_send link server datagram =
    nat_lt GREATEST_DATAGRAM (length datagram) || nat_lt GREATEST_SERVER (length server) || link.sent.count == 18446744073709551615
