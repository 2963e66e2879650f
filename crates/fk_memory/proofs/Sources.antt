-- What a read of a source in memory takes.
use Rattle.std.proofs.Common.{◌≡◌, ◌<◌, ◌≤◌, ◌+◌, ◌-◌, min, List, [], ◌++◌, ℕ, length, take, drop, sym, ap, subst, ◌∙◌, arith}
use Rattle.std.proofs.lemmas.List.{nil_from_length, take_rest, drop-drop, take-append-drop, length-take-le}
use Rattle.std.proofs.Math.Seq.{take-append_seam}

-- a read that copies n bytes to the front of the buffer gives these and leaves the others
pub copied-taken : (bytes buf copied : List ℕ) (at n : ℕ)
    → copied ≡ take n (take (length bytes - at) (drop at bytes))
    → n ≤ length (take (length bytes - at) (drop at bytes))
    → drop at bytes ≡ take n (copied ++ drop n buf) ++ drop (at + n) bytes
copied-taken bytes buf copied at n is fits =
    let from : take (length bytes - at) (drop at bytes) ≡ drop at bytes = take_rest bytes at in
    let front : copied ≡ take n (drop at bytes) = is ∙ ap (take n) from in
    let short : n ≤ length (drop at bytes) = subst (λ (v : List ℕ). n ≤ length v) from fits in
    let len : length copied ≡ n = ap length front ∙ length-take-le n (drop at bytes) short in
    let head : take n (copied ++ drop n buf) ≡ copied
    = subst (λ (m : ℕ). take m (copied ++ drop n buf) ≡ copied) len (take-append_seam copied (drop n buf)) in
    sym (take-append-drop n (drop at bytes)) ∙ ap (λ v. v ++ drop n (drop at bytes)) (sym (head ∙ front)) ∙ ap (λ v. take n (copied ++ drop n buf) ++ v) (drop-drop n at bytes)

-- a read that has room and gives nothing has nothing left
pub none_left : (bytes : List ℕ) (at room n : ℕ)
    → n ≡ min room (length (take (length bytes - at) (drop at bytes)))
    → 0 < room → n ≡ 0 → drop at bytes ≡ []
none_left bytes at room n is some none =
    sym (take_rest bytes at) ∙ nil_from_length (take (length bytes - at) (drop at bytes)) (omega arith)
