-- What is true of every trace that a host tells: its children are told apart.
use Rattle.std.specs.Prelude.{ℕ, Bool, false, ◌<◌, ◌≢◌, ◌||◌, List, Option, Some, None}
use Rattle.std.specs.List.{AllPairs, list_any}
use Rattle.fk_base.specs.declared.purpose.Purpose.{Purpose}
use Rattle.fk_trace.specs.Trace.{Item, Attempt, attempt_of, children, running, is_open_of, is_close_of}

-- children are numbered by rising number, and no two that run have one purpose
pub record IsOrderly (past : List Item) : Type 0 where
  pub numbered : AllPairs (λ a b. a.number < b.number) (children past)
  pub apart : AllPairs (λ a b. a.purpose ≢ b.purpose) (running past)

-- the purpose is an open or a close of the record
abbrev pub is_of_record : ℕ → Purpose → Bool
is_of_record id purpose = is_open_of id purpose || is_close_of id purpose

abbrev pub is_attempt_for : ℕ → Option Attempt → Bool
is_attempt_for id None = false
is_attempt_for id (Some attempt) = is_of_record id attempt.purpose

-- an open or a close of the record was attempted before the place
abbrev pub is_attempted : List Item → ℕ → Bool
is_attempted past id = list_any (λ item. is_attempt_for id (attempt_of item.event)) past
