-- The children of a host in memory, after an event.
use Rattle.std.proofs.Common.{◌≡◌, ℕ, ◌+◌, ◌≤◌, ◌==◌, true, false, not, List, [], ◌∷◌, ◌++◌, map, refl, ap, ◌∙◌, sym, subst, arith, append-nil, if◌then◌else◌}
use Rattle.std.specs.List.{filter}
use Rattle.std.proofs.lemmas.List.{map-append}
use Rattle.fk_trace.specs.Trace.{Event, Child}
use Rattle.fk_trace.specs.Trace.Event.{Turn, Began, StartFailed, Ended, Runs, PollFailed}
use Rattle.fk_memory.specs.declared.children.MemChildren.{MemChildren}
use Rattle.fk_memory.specs.declared.children.HeldChild.{HeldChild}
use Rattle.fk_host.specs.Disk.{Above}
use Rattle.fk_host.specs.Host.{above_after, last_child_after}
use Rattle.fk_memory.specs.Children.{Children, children_after, above_children, child_of}
use Rattle.fk_memory.specs.HostRecord.{CountsWithin, children_of}

pub counts_later : (kept : MemChildren) (most later : ℕ) → most ≤ later → CountsWithin kept most → CountsWithin kept later
counts_later kept most later le within = record { turns = omega (arith, within.turns); begun = omega (arith, within.begun); polls = omega (arith, within.polls) }

-- one event adds one call at most
pub counts_next : (old new : MemChildren) (event : Event) (most : ℕ) → children_of new ≡ children_after event (children_of old) → CountsWithin old most → CountsWithin new (most + 1)
counts_next old new event most is within =
    let turns : new.turns ≡ (children_after event (children_of old)).turns = ap (λ c. c.turns) is in
    let begun : new.begun ≡ (children_after event (children_of old)).begun = ap (λ c. c.begun) is in
    let polls : new.polls ≡ (children_after event (children_of old)).polls = ap (λ c. c.polls) is in
    let le = counts event (children_of old) most within.turns within.begun within.polls in
    record { turns = subst (λ (n : ℕ). n ≤ most + 1) (sym turns) le.0; begun = subst (λ (n : ℕ). n ≤ most + 1) (sym begun) le.1; polls = subst (λ (n : ℕ). n ≤ most + 1) (sym polls) le.2 }
  where
    counts : (event : Event) (c : Children) (most : ℕ) → c.turns ≤ most → c.begun ≤ most → c.polls ≤ most
        → ((children_after event c).turns ≤ most + 1) × ((children_after event c).begun ≤ most + 1) × ((children_after event c).polls ≤ most + 1)
    counts (Turn number) c most a b p = (omega arith, omega arith, omega arith)
    counts (Began number purpose words) c most a b p = (omega arith, omega arith, omega arith)
    counts (StartFailed purpose words) c most a b p = (omega arith, omega arith, omega arith)
    counts (Ended number good) c most a b p = (omega arith, omega arith, omega arith)
    counts (Runs number) c most a b p = (omega arith, omega arith, omega arith)
    counts (PollFailed number) c most a b p = (omega arith, omega arith, omega arith)

-- the children that are left after an end, with their scripts and without them
filter-child_of : (number : ℕ) (held : List HeldChild)
    → map child_of (filter (λ h. not (h.number == number)) held) ≡ filter (λ child. not (child.number == number)) (map child_of held)
filter-child_of number [] = refl
filter-child_of number (h ∷ held) =
    elim (not (h.number == number)) as (λ b. map child_of (if b then h ∷ filter (λ h. not (h.number == number)) held else filter (λ h. not (h.number == number)) held)
    ≡ (if b then child_of h ∷ filter (λ child. not (child.number == number)) (map child_of held) else filter (λ child. not (child.number == number)) (map child_of held))) [
      | true ↦ ap (λ cs. child_of h ∷ cs) (filter-child_of number held)
      | false ↦ filter-child_of number held
    ]

-- where no child ended or began
same_above : (c : Children) (faults last : ℕ) → last ≡ c.begun
    → ◌≡◌ {A = Above} (record { running = map child_of c.running; faults = faults; last_child = last }) (record { running = map child_of c.running ++ []; faults = faults; last_child = c.begun })
same_above c faults last is =
    let of : List Child → ℕ → Above = λ running last. record { running = running; faults = faults; last_child = last } in
    ap (λ n. of (map child_of c.running) n) is ∙ ap (λ cs. of cs c.begun) (sym (append-nil (map child_of c.running)))

-- what is said of the children after an event is said after it
pub above_next : (event : Event) (c : Children) → last_child_after event c.begun ≡ (children_after event c).begun
    → above_children (children_after event c) ≡ above_after event (above_children c)
above_next (Turn number) c last = same_above c c.faults c.begun refl
above_next (Began number purpose words) c last =
    let of : List Child → ℕ → Above = λ running last. record { running = running; faults = c.faults; last_child = last } in
    ap (λ cs. of cs (c.begun + 1)) (map-append child_of c.running (record { number = number; purpose = purpose; script = _; turn = c.turns } ∷ []))
    ∙ ap (λ n. of (map child_of c.running ++ record { number = number; purpose = purpose } ∷ []) n) (sym last)
above_next (StartFailed purpose words) c last = same_above c _ c.begun refl
above_next (Ended number good) c last =
    let of : List Child → Above = λ running. record { running = running; faults = c.faults; last_child = c.begun } in
    ap of (filter-child_of number c.running ∙ sym (append-nil _))
above_next (Runs number) c last = same_above c c.faults c.begun refl
above_next (PollFailed number) c last = same_above c _ c.begun refl
