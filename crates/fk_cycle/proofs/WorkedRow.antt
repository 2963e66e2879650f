-- A worked row: a record is opened, its close waits for its open, and a second, clean close settles it.
use Rattle.std.proofs.Common.{◌≡◌, true, false, List, [], ◌∷◌, Some, None, refl}
use Rattle.fk_base.specs.declared.purpose.Purpose.TheVariants.{Open, Close}
use Rattle.fk_trace.specs.Trace.{Event, Item}
use Rattle.fk_trace.specs.Trace.Event.{Turn, Began, StartFailed, Ended}
use Rattle.fk_cycle.specs.declared.act.Act.TheVariants.{Nothing, Wait, Settle}
use Rattle.fk_cycle.specs.Stands.{Obligation, kept_of, is_due}
use Rattle.fk_cycle.specs.Acts.{act_at}

abbrev after : Event → List Item → List Item
after event past = record { event = event; moments = 0; faults = 0 } ∷ past

abbrev owed : Obligation
owed = record { id = 1; due = 1700000030 }

abbrev opened : List Item
opened = after (Turn 2) (after (Began 1 (Open 1) []) (after (Turn 1) []))

abbrev closing : List Item
closing = after (Turn 3) (after (Began 2 (Close 1) []) opened)

abbrev waiting : List Item
waiting = after (Ended 2 true) closing

abbrev idle : List Item
idle = after (Ended 1 true) waiting

abbrev closing_again : List Item
closing_again = after (Turn 4) (after (Began 3 (Close 1) []) idle)

-- due at its second and no second before
due_at : is_due opened [] 1700000030 owed ≡ true
due_at = refl

not_before : is_due opened [] 1700000029 owed ≡ false
not_before = refl

-- its close, begun while the open runs, is not clean
kept_closing : kept_of closing [] owed ≡ record { id = 1; due = 1700000030; open_runs = true; close = Some false; last_close = None; tried = false }
kept_closing = refl

waits : act_at closing 2 (Close 1) true ≡ Wait
waits = refl

not_while_it_waits : is_due waiting (1700000031 ∷ []) 1700000031 owed ≡ false
not_while_it_waits = refl

idle_again : is_due idle (1700000031 ∷ 1700000031 ∷ []) 1700000031 owed ≡ true
idle_again = refl

not_twice_in_a_turn : is_due (after (Began 3 (Close 1) []) idle) (1700000031 ∷ 1700000031 ∷ []) 1700000031 owed ≡ false
not_twice_in_a_turn = refl

-- a close whose start failed counts as tried in its turn, and no more in the next
failed_start_is_tried : is_due (after (StartFailed (Close 1) []) opened) [] 1700000030 owed ≡ false
failed_start_is_tried = refl

tried_in_the_next_turn : is_due (after (Turn 3) (after (StartFailed (Close 1) []) opened)) [] 1700000030 owed ≡ true
tried_in_the_next_turn = refl

settles : act_at closing_again 3 (Close 1) true ≡ Settle 1
settles = refl

-- a bad end settles nothing, and the record rests ten seconds, but not where the clock stands before that end
bad : act_at closing_again 3 (Close 1) false ≡ Nothing
bad = refl

rests : is_due (after (Ended 3 false) closing_again) (1700000040 ∷ 1700000031 ∷ 1700000031 ∷ []) 1700000049 owed ≡ false
rests = refl

rested : is_due (after (Ended 3 false) closing_again) (1700000040 ∷ 1700000031 ∷ 1700000031 ∷ []) 1700000050 owed ≡ true
rested = refl

goes_back : is_due (after (Ended 3 false) closing_again) (1700000040 ∷ 1700000031 ∷ 1700000031 ∷ []) 1700000039 owed ≡ true
goes_back = refl
