-- A worked row, written by hand from the rules: a client whose stanza `web` asks for tcp/22 and tcp/443 from 10.0.0.7, and the
-- first stanza of an access file under the same keys, which opens these two to whoever names an address.
use Rattle.std.proofs.Common.{◌≡◌, ℕ, ◌<◌, true, List, [], ◌∷◌, Some, None, refl, arith, lit≤}
use Rattle.std.specs.Prelude.{codes, All}
use Rattle.std.specs.Fmt.{digits}
use Rattle.std.specs.List.{range_with_len}
use Rattle.std.proofs.lemmas.List.Elements.{All-from_recursion}
use Rattle.fk_base.specs.declared.address.Ip4.{Ip4}
use Rattle.fk_base.specs.declared.hash_kind.HashKind.TheVariants.{Sha256}
use Rattle.fk_base.specs.declared.keys.Keys.{Keys}
use Rattle.fk_base.specs.declared.pair.Pair.{Pair}
use Rattle.fk_base.specs.declared.pair.Proto.TheVariants.{Tcp}
use Rattle.fk_fields.specs.declared.fields.Ask.TheVariants.{Access}
use Rattle.fk_subst.specs.Fill.{filled}
use Rattle.fk_subst.specs.declared.piece.Piece.{Piece}
use Rattle.fk_subst.specs.declared.piece.Piece.TheVariants.{Plain, Name}
use Rattle.fk_subst.specs.declared.variable.Var.TheVariants.{Ip, Access as Asked}
use Rattle.fk_access.specs.declared.sources.Sources.TheVariants.{Any as AnySource}
use Rattle.fk_access.specs.declared.stanza.Stanza.{Stanza}
use Rattle.fk_admit.specs.Admit.{granted_by}
use Rattle.fk_admit.specs.Arrival.{Arrival}
use Rattle.fk_client.specs.declared.settled.Settings.{Settings}
use Rattle.fk_exchange.specs.Granted.{grant_for}
use Rattle.fk_exchange.specs.Permits.{IsOpenTo, Permits}
use Rattle.fk_exchange.specs.Request.{Arrives, Request}
use Rattle.fk_exchange.proofs.Granted.{granted}

abbrev keys : Keys
keys = record {
  key = range_with_len 0 32;
  kind = Sha256;
  mac_key = range_with_len 0 64;
  has_key = lit≤ tt;
  short_key = lit≤ tt;
  has_mac_key = lit≤ tt;
  short_mac_key = lit≤ tt;
}

-- 10.0.0.7
abbrev client : Ip4
client = record { 0 = 167772167 }

abbrev pair : (port : ℕ) → 0 < port → Pair
pair port has_port = record { proto = Tcp; port = port; has_port = has_port }

abbrev pairs : List Pair
pairs = pair 22 (lit≤ tt) ∷ pair 443 (lit≤ tt) ∷ []

abbrev settings : Settings
settings = record {
  server = codes "192.0.2.1";
  port = 62201;
  ask = Access client pairs;
  keys = keys;
  kind = Sha256;
  user = codes "fwknop";
  user_is_right = refl;
  ask_is_right = refl;
}

abbrev request : ℕ → List ℕ → Request
request moment drawn = record { settings = settings; moment = moment; drawn = drawn }

-- a command with the two names
abbrev command : List ℕ → List (List Piece)
command program = (Plain program ∷ []) ∷ (Name Ip ∷ []) ∷ (Name Asked ∷ []) ∷ []

abbrev stanza : Stanza
stanza = record {
  line = 2;
  sources = AnySource;
  allowed = Some pairs;
  barred = None;
  ring = record { keys = keys; until = None } ∷ [];
  user = None;
  need_source = true;
  expire = None;
  opening = command (codes "/usr/local/bin/allow");
  closing = command (codes "/usr/local/bin/deny");
  timer = 30;
}

both_open : All (IsOpenTo stanza) pairs
both_open = All-from_recursion (IsOpenTo stanza) pairs (
  record { allowed = (0, lit≤ tt, refl); not_barred = tt },
  (record { allowed = (1, lit≤ tt, refl); not_barred = tt }, tt),
)

permits : (moment : ℕ) (drawn : List ℕ) (arrival : Arrival) → Permits stanza (request moment drawn) arrival
permits moment drawn arrival = record {
  keys = record {
    place = 0;
    timed = record { keys = keys; until = None };
    here = refl;
    keys_are = refl;
    in_use = tt;
    no_earlier = λ earlier other lt is. absurd (let wrong : ⊥ = omega arith in wrong);
  };
  source = tt;
  last = tt;
  user = tt;
  address = λ need none. absurd (let no : ⊥ = omega arith in no);
  pairs = both_open;
}

-- whenever it is sent, wherever it comes from and whenever it arrives within the age, it is granted for 30 seconds
granted_row : (moment : ℕ) (drawn : List ℕ) (arrival : Arrival) → Arrives (request moment drawn) arrival →
    granted_by 1 stanza arrival ≡ Some (record { stanza = 1; ip = client; src = arrival.source; pairs = pairs; seconds = 30; stamp = moment })
granted_row moment drawn arrival arrives = granted (request moment drawn) arrival stanza arrives (permits moment drawn arrival) 1

-- and these are the words of the two commands
opening_row : (moment : ℕ) (drawn : List ℕ) (source : Ip4) →
    filled stanza.opening (grant_for 1 stanza (request moment drawn) source)
    ≡ codes "/usr/local/bin/allow" ∷ codes "10.0.0.7" ∷ codes "tcp/22,tcp/443" ∷ []
unfolding digits
opening_row moment drawn source = refl

closing_row : (moment : ℕ) (drawn : List ℕ) (source : Ip4) →
    filled stanza.closing (grant_for 1 stanza (request moment drawn) source)
    ≡ codes "/usr/local/bin/deny" ∷ codes "10.0.0.7" ∷ codes "tcp/22,tcp/443" ∷ []
unfolding digits
closing_row moment drawn source = refl
