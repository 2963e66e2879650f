-- What follows from the end of a child.
use Rattle.std.specs.Prelude.{ℕ, Bool, not, ◌==◌, List, Option, Some, None, if◌then◌else◌}
use Rattle.std.specs.List.{find, filter}
use Rattle.std.specs.Option.{option_map_or}
use Rattle.fk_base.specs.declared.purpose.Purpose.{Purpose}
use Rattle.fk_base.specs.declared.purpose.Purpose.TheVariants.{Open, Close}
use Rattle.fk_trace.specs.Trace.{Item, open_runs}
use Rattle.fk_trace.specs.Idle.{is_clean}
use Rattle.fk_cycle.specs.declared.act.Act.{Act}
use Rattle.fk_cycle.specs.declared.act.Act.TheVariants.{Nothing, Wait, Settle}
use Rattle.fk_cycle.specs.Kept.{Kept}
use Rattle.fk_cycle.specs.Stands.{Obligation, without}

-- a clean close that ended well settles its record; one that ended well while the record's open runs waits for that open;
-- nothing follows from any other end
abbrev pub act_at : List Item → ℕ → Purpose → Bool → Act
act_at past number (Open id) good = Nothing
act_at past number (Close id) good =
    if good then (if is_clean past number id then Settle id else (if open_runs past id then Wait else Nothing)) else Nothing

-- the records whose close is still owed after that
abbrev pub owed_after : Act → List Obligation → List Obligation
owed_after Nothing live = live
owed_after Wait live = live
owed_after (Settle id) live = without id live

-- the same, read off what is kept for the record
abbrev pub act_for_close : ℕ → Bool → Option Bool → Act
act_for_close id open_runs None = Nothing
act_for_close id open_runs (Some clean) = if clean then Settle id else (if open_runs then Wait else Nothing)

abbrev pub act_by : List Kept → Purpose → Bool → Act
act_by machine (Open id) good = Nothing
act_by machine (Close id) good =
    if good then option_map_or (λ kept. act_for_close kept.id kept.open_runs kept.close) (find (λ kept. kept.id == id) machine) Nothing else Nothing

-- what is kept after that
abbrev pub kept_after : Act → List Kept → List Kept
kept_after Nothing machine = machine
kept_after Wait machine = machine
kept_after (Settle id) machine = filter (λ kept. not (kept.id == id)) machine
