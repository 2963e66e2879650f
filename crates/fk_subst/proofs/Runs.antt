-- The longest front of a text whose bytes pass a test.
use Rattle.std.proofs.Common.{◌≡◌, ◌≢◌, ℕ, ◌+◌, ◌<◌, ◌≤◌, Bool, true, false, not, cond, List, [], ◌∷◌, ◌++◌, length, get_or, take, drop, refl, sym, ◌∙◌, ap, subst, inl, inr, arith}
use Rattle.std.specs.List.{prefix_len, AllPass}
use Rattle.std.proofs.lemmas.List.{take-append-drop, length-take, length-drop, length-append, get_or-take, get_or-drop, get_or_append_left, get_or-append-add, take_at, drop_at}
use Rattle.std.proofs.lemmas.List.Sums.{prefix_len-le-length, prefix_len_passes, prefix_len_stops, prefix_len_is}
use Rattle.fk_subst.specs.Template.{IsRun}

-- a text has such a front
pub IsRun-prefix_len : (test : ℕ → Bool) (text : List ℕ) →
    IsRun test text (take (prefix_len test text) text) (drop (prefix_len test text) text)
IsRun-prefix_len test text =
    let n = prefix_len test text in
    let fits : n ≤ length text = prefix_len-le-length test text in
    record {
      joined = sym (take-append-drop n text);
      passes = λ k d within.
          let below : k < n = omega (arith, length-take n text, within) in
          rw (get_or-take n text k d below) (prefix_len_passes test text k d below);
      ends = λ byte more is.
          let size : length (drop n text) ≡ length (byte ∷ more) = ap (λ (l : List ℕ). length l) is in
          let inside : n < length text = omega (arith, length-drop n text, size) in
          let at : get_or (drop n text) 0 byte ≡ get_or text (n + 0) byte = get_or-drop n text 0 byte in
          let head : get_or (drop n text) 0 byte ≡ byte = ap (λ (l : List ℕ). get_or l 0 byte) is in
          let stops : test (get_or text n byte) ≡ false = prefix_len_stops test text byte inside in
          let same : n + 0 ≡ n = omega arith in
          ap test (sym head ∙ at ∙ ap (λ k. get_or text k byte) same) ∙ stops;
    }

-- and only one: that of the first bytes that pass
pub prefix_len-IsRun : (test : ℕ → Bool) (text front rest : List ℕ) → IsRun test text front rest → prefix_len test text ≡ length front
prefix_len-IsRun test text front [] run =
    prefix_len_is test text (length front) 0
    (rw run.joined (omega (arith, length-append front [])))
    (λ k below. rw run.joined (rw (get_or_append_left front [] 0 k below) (run.passes k 0 below)))
    (λ below. absurd (let whole = ap (λ (l : List ℕ). length l) run.joined in omega (arith, length-append front [], whole)))
prefix_len-IsRun test text front (byte ∷ more) run =
    prefix_len_is test text (length front) 0
    (rw run.joined (omega (arith, length-append front (byte ∷ more))))
    (λ k below. rw run.joined (rw (get_or_append_left front (byte ∷ more) 0 k below) (run.passes k 0 below)))
    (λ below.
    let at : get_or (front ++ byte ∷ more) (length front + 0) 0 ≡ byte = get_or-append-add front (byte ∷ more) 0 0 in
    let same : length front + 0 ≡ length front = omega arith in
    ap test (ap (λ (l : List ℕ). get_or l (length front) 0) run.joined ∙ sym (ap (λ k. get_or (front ++ byte ∷ more) k 0) same) ∙ at) ∙ run.ends byte more refl)

pub IsRun-front : (test : ℕ → Bool) (text front rest : List ℕ) → IsRun test text front rest → take (prefix_len test text) text ≡ front
IsRun-front test text front rest run =
    rw (prefix_len-IsRun test text front rest run) (ap (λ (l : List ℕ). take (length front) l) run.joined ∙ take_at front rest (length front) refl)

pub IsRun-rest : (test : ℕ → Bool) (text front rest : List ℕ) → IsRun test text front rest → drop (prefix_len test text) text ≡ rest
IsRun-rest test text front rest run =
    rw (prefix_len-IsRun test text front rest run) (ap (λ (l : List ℕ). drop (length front) l) run.joined ∙ drop_at front rest (length front) refl)

pub same_front : (test : ℕ → Bool) (text front rest other left : List ℕ) → IsRun test text front rest → IsRun test text other left →
    (front ≡ other) × (rest ≡ left)
same_front test text front rest other left run too = (
  sym (IsRun-front test text front rest run) ∙ IsRun-front test text other left too,
  sym (IsRun-rest test text front rest run) ∙ IsRun-rest test text other left too,
)

-- a text of which at least the first byte passes
pub first_passes : (test : ℕ → Bool) (byte : ℕ) (more : List ℕ) → test byte ≡ true → prefix_len test (byte ∷ more) ≡ 1 + prefix_len test more
first_passes test byte more passes = rw passes refl
