-- Worked rows: the bytes of a record and of a floor, and how many a ledger uses and needs.
use Rattle.std.proofs.Common.{◌≡◌, ℕ, List, [], ◌∷◌, ◌++◌, take, drop, replicate, Some, None, refl, arith}
use Rattle.fk_base.specs.declared.pair.Proto.TheVariants.{Tcp}
use Rattle.fk_trace.specs.declared.change.OpenRecord.{OpenRecord}
use Rattle.fk_trace.specs.declared.change.Change.{Change}
use Rattle.fk_trace.specs.declared.change.Change.TheVariants.{Open, Done, Settled, Floor}
use Rattle.fk_trace.specs.Decision.{making}
use Rattle.fk_journal.specs.Entries.{area_bytes}
use Rattle.fk_ledger.specs.Book.{used, room_within}
use Rattle.fk_ledger.specs.Payloads.{ledger_contents}

-- a record of 10.0.0.7 and tcp/22, whose close has the words `/bin/c` and `10.0.0.7`
abbrev recorded : ℕ → ℕ → OpenRecord
recorded id digest = record {
  id = id;
  digest = record { 0 = replicate 32 digest };
  stamp = 1700000000;
  moment = 1700000000;
  due = 1700000030;
  ip = record { 0 = 167772167 };
  pair = record { proto = Tcp; port = 22; has_port = omega arith };
  close = (47 ∷ 98 ∷ 105 ∷ 110 ∷ 47 ∷ 99 ∷ []) ∷ (49 ∷ 48 ∷ 46 ∷ 48 ∷ 46 ∷ 48 ∷ 46 ∷ 55 ∷ []) ∷ [];
}

abbrev first : List Change
first = Open (recorded 1 170) ∷ []

-- `02`, a gate, the length 90, the kind and the number; and behind the digest the stamp, the moment, the due and the address
front_row : take 15 (area_bytes (ledger_contents first)) ≡ 2 ∷ 1 ∷ 0 ∷ 0 ∷ 0 ∷ 90 ∷ 1 ∷ 0 ∷ 0 ∷ 0 ∷ 0 ∷ 0 ∷ 0 ∷ 0 ∷ 1 ∷ []
front_row = refl

times_row : take 28 (drop 47 (area_bytes (ledger_contents first)))
    ≡ 0 ∷ 0 ∷ 0 ∷ 0 ∷ 101 ∷ 83 ∷ 241 ∷ 0 ∷ 0 ∷ 0 ∷ 0 ∷ 0 ∷ 101 ∷ 83 ∷ 241 ∷ 0 ∷ 0 ∷ 0 ∷ 0 ∷ 0 ∷ 101 ∷ 83 ∷ 241 ∷ 30 ∷ 10 ∷ 0 ∷ 0 ∷ 7 ∷ []
times_row = refl

-- the record leaves 98 bytes, and its Done 112
recorded_row : used first ≡ 98
recorded_row = refl

settled_row : used (first ++ Done 1 ∷ []) ≡ 112
settled_row = refl

-- so a room of 112 bytes takes it, and one of 111 does not
room_row : making (room_within 112 1 86400) 1700000000 [] (Open (recorded 1 170)) ≡ Some first
room_row = refl

full_row : making (room_within 111 1 86400) 1700000000 [] (Open (recorded 1 170)) ≡ None
full_row = refl

-- one that may live is enough, and none is not
limit_row : making (room_within 112 0 86400) 1700000000 [] (Open (recorded 1 170)) ≡ None
limit_row = refl

-- the floor 1700013600 with the next number 2
floor_row : area_bytes (ledger_contents (Floor 1700013600 2 ∷ []))
    ≡ 2 ∷ 1 ∷ 0 ∷ 0 ∷ 0 ∷ 16 ∷ 4 ∷ 0 ∷ 0 ∷ 0 ∷ 0 ∷ 101 ∷ 84 ∷ 38 ∷ 32 ∷ 0 ∷ 0 ∷ 0 ∷ 0 ∷ 0 ∷ 0 ∷ 0 ∷ 2 ∷ 0 ∷ []
floor_row = refl

-- a floor, what refuses the datagram of a settled record, and another record
begun_row : used (Floor 1699913600 2 ∷ Settled 1 1700000000 (record { 0 = replicate 32 170 }) ∷ Open (recorded 2 187) ∷ []) ≡ 174
begun_row = refl
