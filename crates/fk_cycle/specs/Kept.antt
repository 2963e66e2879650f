-- What a machine keeps for each record whose close is owed, and what each call of the machine notes there.
use Rattle.std.specs.Prelude.{ℕ, Bool, true, false, not, ◌==◌, ◌&&◌, nat_le, List, Option, Some, None, is_some, is_none, if◌then◌else◌}
use Rattle.std.specs.List.{list_any}
use Rattle.fk_base.specs.declared.purpose.Purpose.{Purpose}
use Rattle.fk_base.specs.declared.purpose.Purpose.TheVariants.{Open, Close}
use Rattle.fk_trace.specs.Idle.{End, ended_well, rests}

-- what is kept for one record
pub record Kept : Type 0 where
  pub id : ℕ
  -- the second at which its close is due
  pub due : ℕ
  -- its open runs
  pub open_runs : Bool
  -- None where no close of it runs, and otherwise whether the one that runs is clean
  pub close : Option Bool
  -- how and when the close of it that ended last has ended
  pub last_close : Option End
  -- a close of it was attempted since the last turn began
  pub tried : Bool

-- a machine as contracts see it: what it keeps, and how many further records fit without memory
pub record Register : Type 0 where
  pub kept : List Kept
  pub room : ℕ

-- a record of which nothing was attempted yet
abbrev pub fresh : ℕ → ℕ → Kept
fresh id due =
    record { id = id; due = due; open_runs = false; close = None; last_close = None; tried = false }

-- a turn began
abbrev pub noted_turn : Kept → Kept
noted_turn kept = record kept { tried = false }

-- a child began: a close is clean where no open of its record runs
abbrev pub noted_begun : Purpose → Kept → Kept
noted_begun (Open id) kept = if id == kept.id then record kept { open_runs = true } else kept
noted_begun (Close id) kept = if id == kept.id then record kept { close = Some (not kept.open_runs); tried = true } else kept

-- no child began: nothing is noted of an open, and a close was tried
abbrev pub noted_not_begun : Purpose → Kept → Kept
noted_not_begun (Open id) kept = kept
noted_not_begun (Close id) kept = if id == kept.id then record kept { tried = true } else kept

-- a child ended
abbrev pub noted_ended : Purpose → Bool → ℕ → Kept → Kept
noted_ended (Open id) good moment kept = if id == kept.id then record kept { open_runs = false } else kept
noted_ended (Close id) good moment kept =
    if id == kept.id then record kept { close = None; last_close = Some (record { good = good; moment = moment }) } else kept

-- a child for this purpose may begin: an open where neither an open nor a close of the record runs, a close where no
-- close of it runs
abbrev pub may_begin : Purpose → Kept → Bool
may_begin (Open id) kept = id == kept.id && not kept.open_runs && is_none kept.close
may_begin (Close id) kept = id == kept.id && is_none kept.close

-- a child for this purpose runs
abbrev pub has_running : Purpose → Kept → Bool
has_running (Open id) kept = id == kept.id && kept.open_runs
has_running (Close id) kept = id == kept.id && is_some kept.close

-- a close of the record may be attempted at the moment
abbrev pub is_ready : ℕ → Kept → Bool
is_ready moment kept =
    is_none kept.close && not (kept.open_runs && ended_well kept.last_close) && not (rests kept.last_close moment) && nat_le kept.due moment && not kept.tried

-- something is kept for the record
abbrev pub is_kept : ℕ → List Kept → Bool
is_kept id machine = list_any (λ kept. kept.id == id) machine
