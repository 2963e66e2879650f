-- The lines of a list, one change after another.
use Rattle.std.proofs.Common.{◌≡◌, ℕ, ◌+◌, ◌<◌, ◌==◌, Bool, true, false, not, ◌||◌, List, [], ◌∷◌, ◌++◌, length, map, take, get_or, refl, ap, ◌∙◌, sym, subst}
use Rattle.std.specs.List.{filter, list_any}
use Rattle.std.proofs.lemmas.List.{map-append, take_more}
use Rattle.std.proofs.lemmas.List.Elements.{filter-append, filter_agree}
use Rattle.fk_trace.specs.declared.change.Change.{Change}
use Rattle.fk_trace.specs.declared.change.Change.TheVariants.{Open, Done, Settled, Floor}
use Rattle.fk_trace.specs.declared.change.OpenRecord.{OpenRecord}
use Rattle.fk_trace.specs.Ledger.{opens, dones, live}
use Rattle.fk_trace.proofs.Ledgers.{opens-append}
use Rattle.fk_log.specs.declared.verbosity.Verbosity.TheVariants.{Normal}
use Rattle.fk_log.specs.Line.{Line, text_of_lines}
use Rattle.fk_log.specs.Line.Line.{ListedLine}
use Rattle.fk_log.specs.Printing.{SinkView, Prints}
use Rattle.fk_log.specs.Shown.{shown_text, shows}
use Rattle.fk_log.specs.Tally.{blank_tally}
use Rattle.fk_log.specs.Writing.{LogState, Logs, Writes, Output, output}
use Rattle.fk_serve.specs.Listing.{list_text}
use Rattle.fk_serve.specs.Private.{is_live, listed_lines, settles}

-- each line of a list is printed
shown-listed : (items : List OpenRecord) → filter (shows Normal) (map ListedLine items) ≡ map ListedLine items
shown-listed [] = refl
shown-listed (item ∷ items) = ap (λ (lines : List Line). ListedLine item ∷ lines) (shown-listed items)

any-done : (ledger : List Change) (id : ℕ) → list_any (settles id) ledger ≡ list_any (λ done. done == id) (dones ledger)
any-done [] id = refl
any-done (Open item ∷ ledger) id = any-done ledger id
any-done (Done done ∷ ledger) id = ap (λ b. done == id || b) (any-done ledger id)
any-done (Settled number stamp digest ∷ ledger) id = any-done ledger id
any-done (Floor floor next ∷ ledger) id = any-done ledger id

listed-append : (ledger : List Change) (a b : List OpenRecord) → map ListedLine (filter (is_live ledger) (a ++ b))
    ≡ map ListedLine (filter (is_live ledger) a) ++ map ListedLine (filter (is_live ledger) b)
listed-append ledger a b =
    ap (map ListedLine) (filter-append (is_live ledger) a b) ∙ map-append ListedLine (filter (is_live ledger) a) (filter (is_live ledger) b)

-- the lines of one change more
pub listed_step : (ledger : List Change) (i : ℕ) (change : Change) → i < length ledger → change ≡ get_or ledger i change
    → listed_lines ledger (take (i + 1) ledger) ≡ listed_lines ledger (take i ledger) ++ listed_lines ledger (change ∷ [])
listed_step ledger i change within at =
    let next : take (i + 1) ledger ≡ take i ledger ++ change ∷ [] = take_more ledger i change within ∙ ap (λ x. take i ledger ++ x ∷ []) (sym at) in
    ap (listed_lines ledger) next
    ∙ ap (λ items. map ListedLine (filter (is_live ledger) items)) (opens-append (take i ledger) (change ∷ []))
    ∙ listed-append ledger (opens (take i ledger)) (opens (change ∷ []))

-- the lines of all changes are those of the live records
pub listed_all : (ledger : List Change) → listed_lines ledger ledger ≡ map ListedLine (live ledger)
listed_all ledger =
    ap (map ListedLine) (filter_agree (is_live ledger) (λ (item : OpenRecord). not (list_any (λ done. done == item.id) (dones ledger)))
    (λ item. ap not (any-done ledger item.id)) (opens ledger))

writes-prints : (is_broken : Bool) (text : List ℕ) (old new : Output) → Writes false is_broken text old new
    → Prints text is_broken (record { written = old.written; faults = old.faults }) (record { written = new.written; faults = new.faults })
writes-prints false text old new writes = writes
writes-prints true text old new writes = writes

-- a log that has no line yet
abbrev pub blank_log : LogState
blank_log = record { verbosity = Normal; tally = blank_tally; is_broken = false }

-- what a log of all changes has printed
pub printed_all : (ledger front : List Change) (old new : SinkView) (log : LogState) → front ≡ ledger
    → Logs (listed_lines ledger front) (output blank_log old.written old.faults) (output log new.written new.faults) → Prints (list_text ledger) log.is_broken old new
printed_all ledger front old new log same logs =
    let lines : listed_lines ledger front ≡ map ListedLine (live ledger) = ap (listed_lines ledger) same ∙ listed_all ledger in
    let text : shown_text Normal (listed_lines ledger front) ≡ list_text ledger = ap (shown_text Normal) lines ∙ ap text_of_lines (shown-listed (live ledger)) in
    subst (λ (t : List ℕ). Prints t log.is_broken old new) text
    (writes-prints log.is_broken (shown_text Normal (listed_lines ledger front)) (output blank_log old.written old.faults) (output log new.written new.faults) logs.written)
