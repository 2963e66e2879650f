-- The numbers of the children of a trial, item by item.
use Rattle.std.proofs.Common.{◌≡◌, ℕ, zero, suc, ◌+◌, List, [], ◌∷◌, ◌++◌, length, map, refl, sym, ap, ◌∙◌, subst, append_assoc, append-nil, length-append, arith}
use Rattle.std.specs.List.{range_with_len}
use Rattle.fk_trace.specs.Trace.{Event, Item, Child, begun_by, children, past_after}
use Rattle.fk_trace.specs.Trace.Event.{Turn, Began, StartFailed, Ended, Runs, PollFailed}
use Rattle.fk_trial.specs.Trace.{child_numbers}
use Rattle.fk_trial.proofs.Alike.{Alike}

-- a child that begins behind so many others has the next number
abbrev pub IsNext : ℕ → Event → Type 0
IsNext n (Turn number) = Unit {0}
IsNext n (Began number purpose words) = number ≡ n + 1
IsNext n (StartFailed purpose words) = Unit {0}
IsNext n (Ended number good) = Unit {0}
IsNext n (Runs number) = Unit {0}
IsNext n (PollFailed number) = Unit {0}

abbrev pub next : ℕ → Event → ℕ
next n (Turn number) = n
next n (Began number purpose words) = n + 1
next n (StartFailed purpose words) = n
next n (Ended number good) = n
next n (Runs number) = n
next n (PollFailed number) = n

abbrev pub AreCounted : ℕ → List Item → Type 0
AreCounted n [] = Unit {0}
AreCounted n (item ∷ items) = IsNext n item.event × AreCounted (next n item.event) items

abbrev pub counted_to : ℕ → List Item → ℕ
counted_to n [] = n
counted_to n (item ∷ items) = counted_to (next n item.event) items

pub counted-front : (n : ℕ) (xs ys : List Item) → AreCounted n (xs ++ ys) → AreCounted n xs
counted-front n [] ys counted = tt
counted-front n (x ∷ xs) ys counted = (counted.0, counted-front (next n x.event) xs ys counted.1)

pub counted-behind : (n : ℕ) (xs ys : List Item) → AreCounted n (xs ++ ys) → AreCounted (counted_to n xs) ys
counted-behind n [] ys counted = counted
counted-behind n (x ∷ xs) ys counted = counted-behind (next n x.event) xs ys counted.1

pub same-count : (n : ℕ) (a b : List Item) → Alike a b → counted_to n a ≡ counted_to n b
same-count n [] [] alike = refl
same-count n [] (y ∷ b) alike = absurd alike
same-count n (x ∷ a) [] alike = absurd alike
same-count n (x ∷ a) (y ∷ b) alike = ap (λ (event : Event). counted_to (next n event) a) alike.0 ∙ same-count (next n y.event) a b alike.1

-- the child behind these has the next number of a range
number-at : (a k : ℕ) (xs : List Child) (child : Child) (more : List Child) → map (λ child. child.number) ((xs ++ child ∷ []) ++ more) ≡ range_with_len a k → child.number ≡ a + length xs
number-at a zero [] child more is = absurd cc
number-at a (suc k) [] child more is = let first : child.number ≡ a = cc in omega arith
number-at a zero (x ∷ xs) child more is = absurd cc
number-at a (suc k) (x ∷ xs) child more is =
    let rest : map (λ (c : Child). c.number) ((xs ++ child ∷ []) ++ more) ≡ range_with_len (a + 1) k = cc in
    let later = number-at (a + 1) k xs child more rest in
    omega arith

-- the children behind these items are those before them and more
front : (past items : List Item) → (more : List Child) × (children (past_after past items) ≡ children past ++ more)
front past [] = ([], sym (append-nil (children past)))
front past (item ∷ items) =
    let rest = front (item ∷ past) items in
    (begun_by item.event ++ rest.0, rest.1 ∙ append_assoc (children past) (begun_by item.event) rest.0)

next-is : (event : Event) (past : List Child) (more : List Child) (k : ℕ) → map (λ child. child.number) ((past ++ begun_by event) ++ more) ≡ range_with_len 1 k → IsNext (length past) event
next-is (Turn number) past more k is = tt
next-is (Began number purpose words) past more k is = let at = number-at 1 k past (record { number = number; purpose = purpose }) more is in omega arith
next-is (StartFailed purpose words) past more k is = tt
next-is (Ended number good) past more k is = tt
next-is (Runs number) past more k is = tt
next-is (PollFailed number) past more k is = tt

next-length : (event : Event) (past : List Child) → length (past ++ begun_by event) ≡ next (length past) event
next-length (Turn number) past = ap length (append-nil past)
next-length (Began number purpose words) past = length-append past (record { number = number; purpose = purpose } ∷ [])
next-length (StartFailed purpose words) past = ap length (append-nil past)
next-length (Ended number good) past = ap length (append-nil past)
next-length (Runs number) past = ap length (append-nil past)
next-length (PollFailed number) past = ap length (append-nil past)

counted-from : (past items : List Item) (k : ℕ) → map (λ child. child.number) (children (past_after past items)) ≡ range_with_len 1 k → AreCounted (length (children past)) items
counted-from past [] k is = tt
counted-from past (item ∷ items) k is =
    let more = front (item ∷ past) items in
    let here : map (λ (child : Child). child.number) ((children past ++ begun_by item.event) ++ more.0) ≡ range_with_len 1 k =
    ap (map (λ (child : Child). child.number)) (sym more.1) ∙ is in (
      next-is item.event (children past) more.0 k here,
      subst (λ (n : ℕ). AreCounted n items) (next-length item.event (children past)) (counted-from (item ∷ past) items k is),
    )

-- a trace whose children are numbered from 1
pub counted-trace : (trace : List Item) (k : ℕ) → child_numbers trace ≡ range_with_len 1 k → AreCounted 0 trace
counted-trace trace k is = counted-from [] trace k is
