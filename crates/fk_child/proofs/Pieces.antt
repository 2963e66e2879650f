-- Lemmas on pieces of lists.
use Rattle.std.proofs.Common.{◌≡◌, ◌≢◌, ℕ, ◌<◌, zero, suc, Bool, true, false, not, eqb, List, [], ◌∷◌, ◌++◌, length, get_or, Some, refl, sym, ap, ◌∙◌, subst, arith}
use Rattle.std.specs.Prelude.{slice_get}
use Rattle.std.specs.List.{filter, All, AllPairs, AllByRecursion, Contains, remove, insert}
use Rattle.std.proofs.lemmas.List.Elements.{All-head, All-tail, All-cons, All-nil, All-contains, filter-append, Contains-append_right}
use Rattle.std.proofs.lemmas.Bool.{eq-eqb, ne_eqb}
use Rattle.fk_trace.proofs.Lists.{Contains-head, Contains-tail}

pub pairs-head : {X : Type 0} (R : X → X → Type 0) (x : X) (xs : List X) → AllPairs R (x ∷ xs) → All (R x) xs
pairs-head R x xs h = λ k d l. h 0 (suc k) d (omega arith) (omega arith)

pub pairs-tail : {X : Type 0} (R : X → X → Type 0) (x : X) (xs : List X) → AllPairs R (x ∷ xs) → AllPairs R xs
pairs-tail R x xs h = λ i j d l m. h (suc i) (suc j) d (omega arith) (omega arith)

-- what stands before an element, and what stands behind it
pub pairs-before : {X : Type 0} (R : X → X → Type 0) (a : List X) (c : X) (b : List X) → AllPairs R (a ++ c ∷ b) → All (λ x. R x c) a
pairs-before R [] c b h = All-nil (λ x. R x c)
pairs-before R (x ∷ a) c b h =
    All-cons (λ y. R y c) x a (All-contains (R x) (a ++ c ∷ b) c (pairs-head R x (a ++ c ∷ b) h) (Contains-append_right a (c ∷ b) c (Contains-head c b)))
    (pairs-before R a c b (pairs-tail R x (a ++ c ∷ b) h))

pub pairs-behind : {X : Type 0} (R : X → X → Type 0) (a : List X) (c : X) (b : List X) → AllPairs R (a ++ c ∷ b) → All (R c) b
pairs-behind R [] c b h = pairs-head R c b h
pairs-behind R (x ∷ a) c b h = pairs-behind R a c b (pairs-tail R x (a ++ c ∷ b) h)

-- a filter that all pass
pub filter-all : {X : Type 0} (p : X → Bool) (xs : List X) → All (λ x. p x ≡ true) xs → filter p xs ≡ xs
filter-all p [] all = refl
filter-all p (x ∷ xs) all =
    rw (All-head (λ y. p y ≡ true) x xs all) (ap (λ ys. x ∷ ys) (filter-all p xs (All-tail (λ y. p y ≡ true) x xs all)))

-- a filter that all pass but one
pub filter-but : {X : Type 0} (p : X → Bool) (a : List X) (c : X) (b : List X) → All (λ x. p x ≡ true) a → p c ≡ false → All (λ x. p x ≡ true) b → filter p (a ++ c ∷ b) ≡ a ++ b
filter-but p a c b before here behind =
    filter-append p a (c ∷ b) ∙ ap (λ ys. ys ++ filter p (c ∷ b)) (filter-all p a before)
    ∙ ap (λ ys. a ++ ys) (let skipped : filter p (c ∷ b) ≡ filter p b = rw here refl in skipped ∙ filter-all p b behind)

-- what stands at a place is one of the list
pub found-at : (ys : List ℕ) (k n : ℕ) → slice_get ys k ≡ Some n → Contains ys n
found-at [] k n e = absurd cc
found-at (y ∷ ys) zero n e = let same : y ≡ n = cc in subst (λ m. Contains (y ∷ ys) m) same (Contains-head y ys)
found-at (y ∷ ys) (suc k) n e = Contains-tail y ys n (found-at ys k n e)

-- to take out the element at a place, where no two are one, is to take out what equals it
pub remove-distinct : (xs : List ℕ) (i id : ℕ) → AllPairs (λ a b. a ≢ b) xs → slice_get xs i ≡ Some id → remove xs i ≡ filter (λ x. not (eqb id x)) xs
remove-distinct [] i id apart at = absurd cc
remove-distinct (x ∷ xs) zero id apart at =
    let same : x ≡ id = cc in
    let gone : eqb id x ≡ true = eq-eqb id x (sym same) in
    let others : All (λ y. not (eqb id y) ≡ true) xs = λ k d l. ap not (ne_eqb id (get_or xs k d) (λ e. pairs-head (λ a b. a ≢ b) x xs apart k d l (same ∙ e))) in
    rw gone (sym (filter-all (λ y. not (eqb id y)) xs others))
remove-distinct (x ∷ xs) (suc i) id apart at =
    let among = found-at xs i id at in
    let other : eqb id x ≡ false = ne_eqb id x (λ e. All-contains (λ y. x ≢ y) xs id (pairs-head (λ a b. a ≢ b) x xs apart) among (sym e)) in
    rw other (ap (λ ys. x ∷ ys) (remove-distinct xs i id (pairs-tail (λ a b. a ≢ b) x xs apart) at))

-- what was taken out and is put back at its place
pub insert-removed : {X : Type 0} (xs : List X) (i : ℕ) (x : X) → slice_get xs i ≡ Some x → insert (remove xs i) i x ≡ xs
insert-removed [] i x at = absurd cc
insert-removed (y ∷ xs) zero x at = let same : y ≡ x = cc in ap (λ z. z ∷ xs) (sym same)
insert-removed (y ∷ xs) (suc i) x at = ap (λ zs. y ∷ zs) (insert-removed xs i x at)

-- a place that is read is one of the list
pub slice_get-within : {X : Type 0} (xs : List X) (i : ℕ) (x : X) → slice_get xs i ≡ Some x → i < length xs
slice_get-within [] i x at = absurd cc
slice_get-within (y ∷ xs) zero x at = omega arith
slice_get-within (y ∷ xs) (suc i) x at = let rest = slice_get-within xs i x at in omega arith

pub recursion-weaker : {X : Type 0} (P Q : X → Type 0) → ((x : X) → P x → Q x) → (xs : List X) → AllByRecursion P xs → AllByRecursion Q xs
recursion-weaker P Q f [] h = tt
recursion-weaker P Q f (x ∷ xs) h = (f x h.0, recursion-weaker P Q f xs h.1)
