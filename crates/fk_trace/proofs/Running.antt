-- Lemmas on the children of a trace.
use Rattle.std.proofs.Common.{◌≡◌, ◌≢◌, ℕ, ◌<◌, Bool, true, not, ◌==◌, List, [], ◌∷◌, Some, refl, ap, arith, inl, inr, get_or}
use Rattle.std.specs.List.{All, Contains}
use Rattle.std.proofs.lemmas.List.{append-nil}
use Rattle.std.proofs.lemmas.List.Elements.{Contains-append_right, Contains-append_left, Contains-append_cases, Contains-get_or}
use Rattle.std.proofs.lemmas.List.Kept.{AllPairs-filter}
use Rattle.std.proofs.lemmas.List.Quantifiers.{all_pairs_push}
use Rattle.std.proofs.lemmas.Bool.{eqb-true, eq-eqb}
use Rattle.fk_base.specs.declared.purpose.Purpose.{Purpose}
use Rattle.fk_base.specs.declared.purpose.Purpose.TheVariants.{Open, Close}
use Rattle.fk_trace.specs.Trace.{Event, Item, Child, children, running, still_running, begun_by, is_open_of, is_close_of}
use Rattle.fk_trace.specs.Trace.Event.{Turn, Began, StartFailed, Ended, Runs, PollFailed}
use Rattle.fk_trace.specs.Idle.{child_numbered}
use Rattle.fk_trace.specs.Orderly.{IsOrderly}
use Rattle.fk_trace.proofs.Lists.{Contains-filter, find-only, same_by_key}

still_running-Contains : (event : Event) (cs : List Child) (x : Child) → Contains (still_running event cs) x → Contains cs x
still_running-Contains (Turn number) cs x h = h
still_running-Contains (Began number purpose words) cs x h = h
still_running-Contains (StartFailed purpose words) cs x h = h
still_running-Contains (Ended number good) cs x h = Contains-filter (λ child. not (child.number == number)) cs x h
still_running-Contains (Runs number) cs x h = h
still_running-Contains (PollFailed number) cs x h = h

-- a child that runs has begun
pub running-children : (past : List Item) (x : Child) → Contains (running past) x → Contains (children past) x
running-children [] x h = h
running-children (item ∷ past) x h =
    elim (Contains-append_cases (still_running item.event (running past)) (begun_by item.event) x h) [
      | inl m ↦ Contains-append_left (children past) (begun_by item.event) x (running-children past x (still_running-Contains item.event (running past) x m))
      | inr m ↦ Contains-append_right (children past) (begun_by item.event) x m
    ]

-- two children of one number are one
pub same_by_number : (past : List Item) → IsOrderly past → (a b : Child) → Contains (children past) a → Contains (children past) b → a.number ≡ b.number → a ≡ b
same_by_number past orderly a b m n e =
    same_by_key (λ (child : Child). child.number) (children past) (λ i j d l k. let lt = orderly.numbered i j d l k in λ same. absurd (omega arith)) a b m n e

-- two children that run and have one purpose are one
pub same_by_purpose : (past : List Item) → IsOrderly past → (a b : Child) → Contains (running past) a → Contains (running past) b → a.purpose ≡ b.purpose → a ≡ b
same_by_purpose past orderly a b m n e = same_by_key (λ (child : Child). child.purpose) (running past) orderly.apart a b m n e

pub child_numbered-running : (past : List Item) → IsOrderly past → (c : Child) → Contains (running past) c → child_numbered c.number past ≡ Some c
child_numbered-running past orderly c m =
    let began = running-children past c m in
    find-only (λ child. child.number == c.number) (children past) c began (eq-eqb c.number c.number refl)
    (λ x n t. same_by_number past orderly x c n began (eqb-true x.number c.number t))

-- a purpose that is a close of a record is that close, and likewise for an open
pub close-purpose : (id : ℕ) (purpose : Purpose) → is_close_of id purpose ≡ true → purpose ≡ Close id
close-purpose id (Open other) e = absurd cc
close-purpose id (Close other) e = ap Close (eqb-true other id e)

pub open-purpose : (id : ℕ) (purpose : Purpose) → is_open_of id purpose ≡ true → purpose ≡ Open id
open-purpose id (Open other) e = ap Open (eqb-true other id e)
open-purpose id (Close other) e = absurd cc

-- an item that begins and ends nothing leaves what runs
pub orderly-quiet : (past : List Item) (item : Item) → children (item ∷ past) ≡ children past → running (item ∷ past) ≡ running past → IsOrderly past → IsOrderly (item ∷ past)
orderly-quiet past item c r orderly =
    record {
      numbered = rw c orderly.numbered;
      apart = rw r orderly.apart;
    }

-- a child of a new number, for a purpose for which none runs
pub orderly-began : (past : List Item) (number : ℕ) (purpose : Purpose) (words : List (List ℕ)) (moments faults : ℕ) → All (λ child. child.number < number) (children past) → ((c : Child) → Contains (running past) c → c.purpose ≢ purpose) → IsOrderly past → IsOrderly (record { event = Began number purpose words; moments = moments; faults = faults } ∷ past)
orderly-began past number purpose words moments faults below other orderly =
    record {
      numbered = all_pairs_push (λ a b. a.number < b.number) (children past) (record { number = number; purpose = purpose }) orderly.numbered below;
      apart = all_pairs_push (λ a b. a.purpose ≢ b.purpose) (running past) (record { number = number; purpose = purpose }) orderly.apart
          (λ k d l. other (get_or (running past) k d) (Contains-get_or (running past) k d l));
    }

pub orderly-ended : (past : List Item) (number : ℕ) (good : Bool) (moments faults : ℕ) → IsOrderly past → IsOrderly (record { event = Ended number good; moments = moments; faults = faults } ∷ past)
orderly-ended past number good moments faults orderly =
    record {
      numbered = rw append-nil orderly.numbered;
      apart = rw append-nil (AllPairs-filter (λ a b. a.purpose ≢ b.purpose) (λ child. not (child.number == number)) (running past) orderly.apart);
    }
