-- A request as a client sends it, and as its datagram arrives.
use Rattle.std.specs.Prelude.{ℕ, ◌+◌, ◌≤◌, List}
use Rattle.fk_admit.specs.Arrival.{Arrival}
use Rattle.fk_client.specs.Sent.{IsSent}
use Rattle.fk_client.specs.declared.settled.Settings.{Settings}

-- what a client makes one datagram of
pub record Request : Type 0 where
  pub settings : Settings
  -- when it makes it, in seconds since the start of 1970
  pub moment : ℕ
  -- the random bytes that it has drawn
  pub drawn : List ℕ

-- the datagram is that of the request
abbrev pub IsDatagramOf : Request → List ℕ → Type 0
IsDatagramOf request datagram = IsSent request.settings request.moment request.drawn datagram

-- the datagram of the request arrives, and between the two moments, whichever is the later, is at most the age
pub record Arrives (request : Request) (arrival : Arrival) : Type 0 where
  pub sent : IsDatagramOf request arrival.datagram
  pub not_late : arrival.moment ≤ request.moment + arrival.age
  pub not_early : request.moment ≤ arrival.moment + arrival.age
