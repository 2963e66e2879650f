-- Reading texts one after the other, as a loop does.
use Rattle.std.proofs.Common.{◌≡◌, ℕ, suc, ◌-◌, ◌+◌, ◌≤◌, ◌<◌, List, [], ◌∷◌, ◌++◌, Option, Some, None, refl, sym, ap, ◌∙◌, append_assoc, arith}
use Rattle.std.proofs.lemmas.List.{append-nil}
use Rattle.fk_ledger.specs.Reading.{◌>>=◌, word_at, texts_at}

-- what was read before, and what is still read
abbrev pub with_front : List (List ℕ) → Option (List (List ℕ) × List ℕ) → Option (List (List ℕ) × List ℕ)
with_front front read = read >>= λ x. Some (front ++ x.0, x.1)

regroup : (front : List (List ℕ)) (word : List ℕ) (read : Option (List (List ℕ) × List ℕ)) → with_front front (read >>= λ x. Some (word ∷ x.0, x.1)) ≡ with_front (front ++ word ∷ []) read
regroup front word (Some x) = ap (λ (words : List (List ℕ)). Some (words, x.1)) (simp append_assoc)
regroup front word None = refl

pub goes_on : (front : List (List ℕ)) (count i : ℕ) (bytes : List ℕ) (word after : List ℕ) (total : Option (List (List ℕ) × List ℕ)) → i < count → Some (word, after) ≡ word_at bytes
    → with_front front (texts_at (count - i) bytes) ≡ total → with_front (front ++ word ∷ []) (texts_at (count - (i + 1)) after) ≡ total
unfolding texts_at
goes_on front count i bytes word after total lt h so_far =
    let k : count - i ≡ suc (count - (i + 1)) = omega arith in
    let one : with_front front (texts_at (count - i) bytes) ≡ with_front (front ++ word ∷ []) (texts_at (count - (i + 1)) after) = rw (k, sym h) (regroup front word (texts_at (count - (i + 1)) after)) in
    sym one ∙ so_far

pub stops : (front : List (List ℕ)) (count i : ℕ) (bytes : List ℕ) (total : Option (List (List ℕ) × List ℕ)) → i < count → None ≡ word_at bytes
    → with_front front (texts_at (count - i) bytes) ≡ total → total ≡ None
unfolding texts_at
stops front count i bytes total lt h so_far =
    let k : count - i ≡ suc (count - (i + 1)) = omega arith in
    let one : with_front front (texts_at (count - i) bytes) ≡ None = rw (k, sym h) refl in
    sym so_far ∙ one

pub is_done : (front : List (List ℕ)) (count i : ℕ) (bytes : List ℕ) (total : Option (List (List ℕ) × List ℕ)) → count ≤ i → with_front front (texts_at (count - i) bytes) ≡ total → total ≡ Some (front, bytes)
unfolding texts_at
is_done front count i bytes total le so_far =
    let k : count - i ≡ 0 = omega arith in
    let one : with_front front (texts_at (count - i) bytes) ≡ Some (front, bytes) = rw k (ap (λ (words : List (List ℕ)). Some (words, bytes)) (append-nil front)) in
    sym so_far ∙ one
