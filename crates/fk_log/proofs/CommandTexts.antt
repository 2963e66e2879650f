-- A command's words joined, one word after another.
use Rattle.std.proofs.Common.{◌≡◌, ℕ, zero, suc, ◌+◌, ◌<◌, List, [], ◌∷◌, ◌++◌, Some, take, drop, refl, sym, ap, ◌∙◌, append_assoc, append-nil, arith, slice_get}
use Rattle.std.specs.List.{flat_map}
use Rattle.std.proofs.lemmas.Grind.{flat_map-append}
use Rattle.std.proofs.lemmas.List.{take_more, take-append-drop}
use Rattle.std.proofs.lemmas.Option.{get_or_from_slice_get, slice_get_within}
use Rattle.fk_log.specs.Line.{words_text}

-- these words, each with a space before it
abbrev pub spaced : List (List ℕ) → List ℕ
spaced words = flat_map (λ word. 32 ∷ word) words

join-spaced : (x : List ℕ) (xs : List (List ℕ)) → words_text (x ∷ xs) ≡ x ++ spaced xs
join-spaced x [] = sym (append-nil x)
join-spaced x (y ∷ ys) = ap (λ t. x ++ 32 ∷ t) (join-spaced y ys)

spaced-append : (xs ys : List (List ℕ)) → spaced (xs ++ ys) ≡ spaced xs ++ spaced ys
spaced-append xs ys = flat_map-append (λ word. 32 ∷ word) xs ys

-- the words from a place on stand behind those before it
pub words_text-front : (ws : List (List ℕ)) (i : ℕ) → 0 < i → words_text ws ≡ words_text (take i ws) ++ spaced (drop i ws)
words_text-front ws zero above = absurd (omega arith)
words_text-front [] (suc i) above = refl
words_text-front (x ∷ xs) (suc i) above =
    let cut : spaced xs ≡ spaced (take i xs) ++ spaced (drop i xs) = ap spaced (sym (take-append-drop i xs)) ∙ spaced-append (take i xs) (drop i xs) in
    join-spaced x xs ∙ ap (λ t. x ++ t) cut ∙ sym (append_assoc x (spaced (take i xs)) (spaced (drop i xs)))
    ∙ ap (λ t. t ++ spaced (drop i xs)) (sym (join-spaced x (take i xs)))

pub words_text-first : (ws : List (List ℕ)) (w : List ℕ) → slice_get ws 0 ≡ Some w → words_text (take 1 ws) ≡ w
words_text-first [] w is = cc
words_text-first (x ∷ xs) w is = cc

-- the first word, and the others behind it
pub words_text-others : (ws : List (List ℕ)) (w : List ℕ) → slice_get ws 0 ≡ Some w → words_text ws ≡ w ++ spaced (drop 1 ws)
words_text-others ws w is = words_text-front ws 1 (omega arith) ∙ ap (λ t. t ++ spaced (drop 1 ws)) (words_text-first ws w is)

-- the next word with a space before it
pub words_text-next : (ws : List (List ℕ)) (i : ℕ) (w : List ℕ) → 0 < i → slice_get ws i ≡ Some w → words_text (take (i + 1) ws) ≡ words_text (take i ws) ++ 32 ∷ w
words_text-next [] i w above is = cc
words_text-next (x ∷ xs) zero w above is = absurd (omega arith)
words_text-next (x ∷ xs) (suc i) w above is =
    let within = slice_get_within (x ∷ xs) (suc i) w is in
    let more = take_more (x ∷ xs) (suc i) w within in
    let last = get_or_from_slice_get (x ∷ xs) (suc i) w w is in
    ap words_text (more ∙ ap (λ v. take (suc i) (x ∷ xs) ++ v ∷ []) last) ∙ join-spaced x (take i xs ++ w ∷ [])
    ∙ ap (λ t. x ++ t) (spaced-append (take i xs) (w ∷ [])) ∙ sym (append_assoc x (spaced (take i xs)) (spaced (w ∷ [])))
    ∙ ap (λ t. t ++ spaced (w ∷ [])) (sym (join-spaced x (take i xs))) ∙ ap (λ t. words_text (take (suc i) (x ∷ xs)) ++ 32 ∷ t) (append-nil w)
