-- How a crew takes up a record that was just made.
use Rattle.std.proofs.Common.{◌≡◌, ℕ, Bool, false, List, [], ◌∷◌, ◌++◌, map, Ok, Err, Result, sym, ap, ◌∙◌, subst, arith}
use Rattle.std.proofs.lemmas.List.{map-append}
use Rattle.std.proofs.lemmas.Bool.{false_from_ne_true}
use Rattle.fk_base.specs.declared.memory.NoMemory.{NoMemory}
use Rattle.fk_base.specs.declared.purpose.Purpose.{Purpose}
use Rattle.fk_trace.specs.declared.change.OpenRecord.{OpenRecord}
use Rattle.fk_trace.specs.Trace.{Item}
use Rattle.fk_trace.specs.Orderly.{is_attempted}
use Rattle.fk_trace.specs.Ledger.{live, next_id}
use Rattle.fk_trace.proofs.Ledgers.{next_id-push_open}
use Rattle.fk_run.specs.Place.{Place}
use Rattle.fk_cycle.specs.Kept.{is_kept}
use Rattle.fk_cycle.specs.Stands.{Obligation, Stands, is_owed}
use Rattle.fk_cycle.proofs.StandsLemmas.{is_kept-owed}
use Rattle.fk_ledger.specs.Book.{live_ids}
use Rattle.fk_child.specs.View.{View}
use Rattle.fk_child.specs.Crew.{CrewState, CrewHost, StandsAt, obligation_of, obligations_but}
use Rattle.fk_child.specs.Calls.{Goes, Attempts, AwaitsOpen, recorded}
use Rattle.fk_child.proofs.Records.{live-below, owed-live, live-recorded, owed-recorded}
use Rattle.fk_child.proofs.Ties.{with_host}

module _ (id due : ℕ) (item : OpenRecord) (place : Place) (crew : CrewState) (host : View) (awaits : AwaitsOpen id due item place (with_host crew host)) where
  next-id : id ≡ next_id place.ledger
  next-id = sym awaits.numbered ∙ awaits.next

  -- nothing is kept for it
  pub unknown-next : is_kept id crew.kept ≡ false
  unknown-next =
      is_kept-owed crew.kept place.past place.ends (obligations_but crew.unsettled place.ledger) awaits.tied.stands id
      ∙ false_from_ne_true (is_owed (obligations_but crew.unsettled place.ledger) id) (λ owed.
      let at = owed-live crew.unsettled place.ledger id owed in
      let low = live-below place.ledger at.0 at.1 in
      let same = at.2 in
      let next = next-id in
      absurd (omega arith))

  -- nothing was attempted for it
  pub untried-next : is_attempted place.past id ≡ false
  untried-next = awaits.tied.unused id (let next = next-id in omega arith)

  obligation : obligation_of item ≡ record { id = id; due = due }
  obligation = ap (λ (n : ℕ). let owed : Obligation = record { id = n; due = item.due } in owed) awaits.numbered ∙ ap (λ (n : ℕ). let owed : Obligation = record { id = id; due = n } in owed) awaits.until

  pub stands-recorded : (crew' : CrewState) → crew.unsettled ≡ [] → crew'.owed ≡ crew.owed ++ id ∷ [] → crew'.children ≡ crew.children → crew'.unsettled ≡ crew.unsettled
      → Stands crew'.kept place.past place.ends (obligations_but crew.unsettled place.ledger ++ record { id = id; due = due } ∷ [])
      → StandsAt (with_host crew' host) (recorded place item)
  stands-recorded crew' settled owes holds waits tells =
      let follow = awaits.keeps.follow in
      let lives = live-recorded place.ledger item follow awaits.next in
      let number : OpenRecord → ℕ = λ r. r.id in
      let ids : live_ids (recorded place item).ledger ≡ live_ids place.ledger ++ id ∷ [] =
      ap (map number) lives ∙ map-append number (live place.ledger) (item ∷ []) ∙ ap (λ (n : ℕ). live_ids place.ledger ++ n ∷ []) awaits.numbered in
      let none : crew'.unsettled ≡ [] = waits ∙ settled in
      let owed : obligations_but [] place.ledger ++ record { id = id; due = due } ∷ [] ≡ obligations_but [] (recorded place item).ledger =
      ap (λ (o : Obligation). obligations_but [] place.ledger ++ o ∷ []) (sym obligation) ∙ sym (owed-recorded place.ledger item follow awaits.next) in
      record {
        tied = record {
          owes = owes ∙ ap (λ (ns : List ℕ). ns ++ id ∷ []) awaits.tied.owes ∙ sym ids;
          runs = holds ∙ awaits.tied.runs;
          stands = rw none (subst (λ (l : List Obligation). Stands crew'.kept place.past place.ends l) owed (subst (λ (u : List ℕ). Stands crew'.kept place.past place.ends (obligations_but u place.ledger ++ record { id = id; due = due } ∷ [])) settled tells));
          waits = rw none (λ k d l. absurd (omega arith));
          once = rw none (λ i j d l m. absurd (omega arith));
          unused = λ other above. awaits.tied.unused other (let more = next_id-push_open place.ledger item awaits.next in omega arith);
          known = awaits.tied.known;
          below = awaits.tied.below;
        };
        keeps = awaits.keeps;
      }

-- what is said of an attempt speaks of the crew after it, and of the host before it
goes-from : (count moment : ℕ) (place : Place) (items : List Item) (crew crew0 : CrewState) (host : View) (new : CrewHost) → Goes count moment place items (with_host crew host) new
    → Goes count moment place items (with_host crew0 host) new
goes-from count moment place items crew crew0 host new goes = record { calls = goes.calls; adds = goes.adds; selects = goes.selects; disk = goes.disk; stands = goes.stands }

pub attempts-from : (purpose : Purpose) (words : List (List ℕ)) (result : Result Bool NoMemory) (place : Place) (crew crew0 : CrewState) (host : View) (new : CrewHost)
    → Attempts purpose words result place (with_host crew host) new → Attempts purpose words result place (with_host crew0 host) new
attempts-from purpose words (Ok begun) place crew crew0 host new attempts =
    (attempts.0, attempts.1, attempts.2, λ moment. goes-from 1 moment place (attempts.0 ∷ []) crew crew0 host new (attempts.3 moment))
attempts-from purpose words (Err error) place crew crew0 host new attempts = λ moment. goes-from 1 moment place [] crew crew0 host new (attempts moment)
