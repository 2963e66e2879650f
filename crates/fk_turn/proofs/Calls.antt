-- The calls of a turn: its beginning is the first of them.
use Rattle.std.proofs.Common.{◌≡◌, ℕ, ◌+◌, ◌<◌, ◌≤◌, suc, List, [], ◌∷◌, length, Option, Some, None, arith}
use Rattle.std.specs.List.{AllPairs, AllByRecursion}
use Rattle.fk_trace.specs.Trace.{Item}
use Rattle.fk_host.specs.Disk.{Told, IfTold}
use Rattle.fk_child.specs.View.{View, MakesCalls, AddsItems}

-- items that rise have as many moments as they are
rising-fits : (low top : ℕ) (x : Item) (xs : List Item) → AllPairs (λ a b. a.moments < b.moments) (x ∷ xs)
    → AllByRecursion (λ item. (low < item.moments) × (item.moments ≤ top)) (x ∷ xs) → x.moments + length xs ≤ top
rising-fits low top x [] rising placed = let high = placed.0.1 in omega (arith, high)
rising-fits low top x (y ∷ ys) rising placed =
    let next : x.moments < y.moments = rising 0 1 x (omega arith) (omega arith) in
    let rest = rising-fits low top y ys (λ i j d l m. rising (suc i) (suc j) d (omega arith) (omega arith)) placed.1 in
    omega (arith, next, rest)

-- the item stands at the moment of the first call
abbrev pub IsFirst : Item → View → View → Type 0
IsFirst start old new = IfTold old.told new.told (λ before later. start.moments ≡ before.moments + 1)

first-told : (start : Item) (items : List Item) (n : ℕ) → n ≡ length items + 1 → (old new : Option Told) → IfTold old new (AddsItems (start ∷ items))
    → IfTold old new (λ before later. later.moments ≡ before.moments + n) → IfTold old new (λ before later. start.moments ≡ before.moments + 1)
first-told start items n same old None adds calls = tt
first-told start items n same None (Some y) adds calls = absurd calls
first-told start items n same (Some x) (Some y) adds calls =
    let fits = rising-fits x.moments y.moments start items adds.rising adds.placed in
    let behind = adds.placed.0.0 in
    omega (arith, same, calls, fits, behind)

-- the first of the items that as many calls have brought
pub first-brought : (start : Item) (items : List Item) (n : ℕ) (old new : View) → n ≡ length items + 1 → IfTold old.told new.told (AddsItems (start ∷ items))
    → MakesCalls n old new → IsFirst start old new
first-brought start items n old new same adds calls = first-told start items n same old.told new.told adds calls

then-told : (start : Item) (n : ℕ) (old mid new : Option Told) → IfTold old mid (λ before later. start.moments ≡ before.moments + 1)
    → IfTold mid new (λ before later. later.moments ≡ before.moments + n) → IfTold old new (λ before later. start.moments ≡ before.moments + 1)
then-told start n old mid None first calls = tt
then-told start n old None (Some z) first calls = absurd calls
then-told start n None (Some y) (Some z) first calls = absurd first
then-told start n (Some x) (Some y) (Some z) first calls = first

-- it is the first of all calls, where others follow
pub first-then : (start : Item) (n : ℕ) (old mid new : View) → IsFirst start old mid → MakesCalls n mid new → IsFirst start old new
first-then start n old mid new first calls = then-told start n old.told mid.told new.told first calls
