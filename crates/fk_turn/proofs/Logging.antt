-- Lines that are added to a log: none, and those of a list so far.
use Rattle.std.proofs.Common.{◌≡◌, ℕ, ◌+◌, ◌<◌, Bool, true, false, List, [], ◌∷◌, ◌++◌, map, length, take, get_or, Option, Some, None, refl, sym, ap, subst, ◌∙◌, append-nil, arith}
use Rattle.std.proofs.lemmas.List.{take_more, map-append}
use Rattle.fk_host.specs.Stream.{Gives}
use Rattle.fk_child.specs.declared.items.EndItem.{EndItem}
use Rattle.fk_log.specs.declared.tally.Tally.{Tally}
use Rattle.fk_log.specs.Line.{Line}
use Rattle.fk_log.specs.Tally.{counted_on, tallied}
use Rattle.fk_log.specs.Writing.{Output, Writes, Logs}
use Rattle.fk_log.proofs.Logged.{Logs-append}

gives-nothing : (a : Option (List ℕ)) → Gives [] a a
gives-nothing None = tt
gives-nothing (Some bytes) = ap (λ (x : List ℕ). Some x) (sym (append-nil bytes))

writes-nothing : (x : Bool) (a : Output) → Writes x x [] a a
writes-nothing false a = (gives-nothing a.written, refl)
writes-nothing true a = (refl, refl)

counted-none : (n : ℕ) → n ≡ counted_on n 0
counted-none n = omega arith

tallied-none : (t : Tally) → t ≡ tallied t []
tallied-none t =
    let a = counted-none t.opens in
    let b = counted-none t.closes in
    let c = counted-none t.settled in
    let d = counted-none t.refused in
    let same : record { opens = t.opens; closes = t.closes; settled = t.settled; refused = t.refused } ≡ tallied t [] = cc in
    same

pub logs-nothing : (a : Output) → Logs [] a a
logs-nothing a = record { kept = refl; counted = tallied-none a.log.tally; written = writes-nothing a.log.is_broken a }

-- the line of one element more
pub told-more : (f : EndItem → Line) (ends : List EndItem) (i : ℕ) (d : EndItem) (line : Line) (a b c : Output) → i < length ends → line ≡ f (get_or ends i d)
    → Logs (map f (take i ends)) a b → Logs (line ∷ []) b c → Logs (map f (take (i + 1) ends)) a c
told-more f ends i d line a b c within is g h =
    subst (λ (xs : List Line). Logs xs a c)
    (ap (λ (x : Line). map f (take i ends) ++ x ∷ []) is ∙ sym (ap (map f) (take_more ends i d within) ∙ map-append f (take i ends) (get_or ends i d ∷ [])))
    (Logs-append (map f (take i ends)) (line ∷ []) a b c g h)
