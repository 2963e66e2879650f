-- The text of a list of pairs, built pair by pair.
use Rattle.std.proofs.Common.{◌≡◌, ℕ, ◌+◌, ◌<◌, List, [], ◌∷◌, ◌++◌, length, take, map, Some, refl, sym, ap, ◌∙◌, arith}
use Rattle.std.specs.List.{join_with_byte, slice_get}
use Rattle.std.proofs.lemmas.List.{append_assoc, take_more, length-take-le, map-append, length-map}
use Rattle.std.proofs.lemmas.Option.{slice_get_within, get_or_from_slice_get}
use Rattle.fk_base.specs.declared.pair.Pair.{Pair}
use Rattle.fk_base.specs.PairText.{pair_text}
use Rattle.fk_base.specs.Pairs.{pairs_text}

-- one more part behind others
pub join_more : (c : ℕ) (parts : List (List ℕ)) (part : List ℕ) → 0 < length parts →
    join_with_byte c (parts ++ part ∷ []) ≡ join_with_byte c parts ++ (c ∷ part)
join_more c [] part some = absurd (omega arith)
join_more c (x ∷ []) part some = refl
join_more c (x ∷ y ∷ parts) part some =
    ap (λ v. x ++ (c ∷ v)) (join_more c (y ∷ parts) part (omega arith))
    ∙ sym (append_assoc x (c ∷ join_with_byte c (y ∷ parts)) (c ∷ part))

take_next : (pairs : List Pair) (at : ℕ) (pair : Pair) → slice_get pairs at ≡ Some pair →
    take (at + 1) pairs ≡ take at pairs ++ pair ∷ []
take_next pairs at pair is =
    take_more pairs at pair (slice_get_within pairs at pair is)
    ∙ ap (λ (p : Pair). take at pairs ++ p ∷ []) (get_or_from_slice_get pairs at pair pair is)

-- each further pair has a comma before it
pub pairs_text-next : (pairs : List Pair) (at : ℕ) (pair : Pair) (text : List ℕ) → 0 < at → slice_get pairs at ≡ Some pair →
    text ≡ pairs_text (take at pairs) → (text ++ 44 ∷ []) ++ pair_text pair ≡ pairs_text (take (at + 1) pairs)
pairs_text-next pairs at pair text some is so_far =
    let within = slice_get_within pairs at pair is in
    append_assoc text (44 ∷ []) (pair_text pair)
    ∙ ap (λ (t : List ℕ). t ++ (44 ∷ pair_text pair)) so_far
    ∙ sym (join_more 44 (map pair_text (take at pairs)) (pair_text pair)
    (omega (arith, length-map (take at pairs) pair_text, length-take-le at pairs (omega arith))))
    ∙ sym (ap (join_with_byte 44) (map-append pair_text (take at pairs) (pair ∷ [])))
    ∙ sym (ap pairs_text (take_next pairs at pair is))
