-- The arguments of a command, which are its words but the first.
use Rattle.std.proofs.Common.{◌≡◌, ℕ, ◌+◌, ◌<◌, ◌≤◌, List, [], ◌∷◌, ◌++◌, length, take, drop, Some, refl, ap, ◌∙◌, arith, slice_get}
use Rattle.std.proofs.lemmas.List.{take_more, length-take-le}
use Rattle.std.proofs.lemmas.Option.{slice_get_within, get_or_from_slice_get}

drop_first : {X : Type 0} (xs ys : List X) → 1 ≤ length xs → drop 1 (xs ++ ys) ≡ drop 1 xs ++ ys
drop_first [] ys some = absurd (omega (arith, some))
drop_first (x ∷ xs) ys some = refl

-- one word more is one argument more
pub next_argument : {X : Type 0} (words : List X) (at : ℕ) (word : X) → 1 ≤ at → slice_get words at ≡ Some word → drop 1 (take (at + 1) words) ≡ drop 1 (take at words) ++ word ∷ []
next_argument words at word some is =
    let inside : at < length words = slice_get_within words at word is in
    let more : take (at + 1) words ≡ take at words ++ word ∷ [] = take_more words at word inside ∙ ap (λ x. take at words ++ x ∷ []) (get_or_from_slice_get words at word word is) in
    let size : length (take at words) ≡ at = length-take-le at words (omega (arith, inside)) in
    ap (drop 1) more ∙ drop_first (take at words) (word ∷ []) (omega (arith, size, some))

-- the first word alone is no argument
pub no_argument : {X : Type 0} (words : List X) → drop 1 (take 1 words) ≡ []
no_argument [] = refl
no_argument (word ∷ words) = refl
