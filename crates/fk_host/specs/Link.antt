-- Links: the datagrams that they have sent, where they tell.
use Rattle.std.specs.Prelude.{◌≡◌, ℕ, ◌+◌, List, Option, Some, IfSome}

-- what a link says of itself, where it tells
pub record Sendings : Type 0 where
  -- how many datagrams it has sent
  pub count : ℕ
  -- the last of them, and where it went
  pub datagram : List ℕ
  pub server : List ℕ
  pub port : ℕ

-- One datagram was sent, to this server and port. A link that doesn't tell claims nothing.
abbrev pub Sends : List ℕ → ℕ → List ℕ → Option Sendings → Option Sendings → Type 0
Sends server port datagram old new =
    IfSome old (λ sent. new ≡ Some (record { count = sent.count + 1; datagram = datagram; server = server; port = port }))
