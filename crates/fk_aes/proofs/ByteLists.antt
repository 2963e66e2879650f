-- Lists of bytes: their elements one by one, their sums, and that they stay lists of bytes.
use Rattle.std.proofs.Common.{◌≡◌, ℕ, zero, suc, ◌+◌, ◌<◌, ◌≤◌, List, [], ◌∷◌, ◌++◌, length, get_or, map, refl, sym, ap, ◌∙◌, arith, inl, inr}
use Rattle.std.proofs.lemmas.Bool.{cases_lt}
use Rattle.std.proofs.lemmas.List.{length-append, length-map, get_or-map, get_or_past, get_or_append_left, get_or-append_right}
use Rattle.fk_base.specs.Bytes.{HasBytes}
use Rattle.fk_aes.specs.Field.{◌⊕◌, xor_bytes}
use Rattle.fk_aes.proofs.FieldLemmas.{xor-below, xor-twice}

-- n elements of a list from place i on, each read by its place
abbrev pub elements : List ℕ → ℕ → ℕ → List ℕ
elements s i zero = []
elements s i (suc n) = get_or s i 0 ∷ elements s (suc i) n

elements-cons : (x : ℕ) (s : List ℕ) (i n : ℕ) → elements (x ∷ s) (suc i) n ≡ elements s i n
elements-cons x s i zero = refl
elements-cons x s i (suc n) = ap (λ r. get_or s i 0 ∷ r) (elements-cons x s (suc i) n)

-- a list is its elements
pub list-elements : (s : List ℕ) (n : ℕ) → length s ≡ n → s ≡ elements s 0 n
list-elements [] zero h = refl
list-elements [] (suc n) h = absurd (omega arith)
list-elements (x ∷ s) zero h = absurd (omega arith)
list-elements (x ∷ s) (suc n) h =
    let rest : length s ≡ n = omega arith in
    ap (λ r. x ∷ r) (list-elements s n rest ∙ sym (elements-cons x s 0 n))

-- each element of a written-out list is a byte
abbrev pub AllBytes : List ℕ → Type 0
AllBytes [] = Unit {0}
AllBytes (x ∷ xs) = (x < 256) × AllBytes xs

pub byte_in : (xs : List ℕ) → AllBytes xs → (k : ℕ) → get_or xs k 0 < 256
byte_in [] h k = omega arith
byte_in (x ∷ xs) h zero = h.0
byte_in (x ∷ xs) h (suc k) = byte_in xs h.1 k

pub written_out : (n : ℕ) (xs : List ℕ) → length xs ≡ n → AllBytes xs → HasBytes n xs
written_out n xs l h = record { size = l; each = byte_in xs h }

pub HasBytes-map : (f : ℕ → ℕ) (n : ℕ) (xs : List ℕ) → ((b : ℕ) → b < 256 → f b < 256) → HasBytes n xs → HasBytes n (map f xs)
HasBytes-map f n xs fits h = record {
  size = length-map xs f ∙ h.size;
  each = λ k. elim (cases_lt k (length xs)) [
    | inl lt ↦ rw (get_or-map f xs k 0 0 lt) (fits (get_or xs k 0) (h.each k))
    | inr ge ↦
        let past : length (map f xs) ≤ k = omega (arith, length-map xs f) in
        rw (get_or_past (map f xs) k 0 past) (omega arith)
  ];
}

pub HasBytes-append : (m n t : ℕ) (xs ys : List ℕ) → m + n ≡ t → HasBytes m xs → HasBytes n ys → HasBytes t (xs ++ ys)
HasBytes-append m n t xs ys e hx hy = record {
  size = omega (arith, length-append xs ys, hx.size, hy.size);
  each = λ k. elim (cases_lt k (length xs)) [
    | inl lt ↦ rw (get_or_append_left xs ys 0 k lt) (hx.each k)
    | inr ge ↦ rw (get_or-append_right xs ys (length xs) k 0 refl ge) (hy.each _)
  ];
}

pub length-xor_bytes : (xs ys : List ℕ) → length xs ≡ length ys → length (xor_bytes xs ys) ≡ length xs
unfolding xor_bytes
length-xor_bytes [] ys h = refl
length-xor_bytes (x ∷ xs) [] h = absurd (omega arith)
length-xor_bytes (x ∷ xs) (y ∷ ys) h =
    let rest : length xs ≡ length ys = omega arith in
    ap suc (length-xor_bytes xs ys rest)

pub get_or-xor_bytes : (xs ys : List ℕ) (k : ℕ) → length xs ≡ length ys → get_or (xor_bytes xs ys) k 0 ≡ get_or xs k 0 ⊕ get_or ys k 0
unfolding xor_bytes
get_or-xor_bytes [] [] k h = refl
get_or-xor_bytes [] (y ∷ ys) k h = absurd (omega arith)
get_or-xor_bytes (x ∷ xs) [] k h = absurd (omega arith)
get_or-xor_bytes (x ∷ xs) (y ∷ ys) zero h = refl
get_or-xor_bytes (x ∷ xs) (y ∷ ys) (suc k) h =
    let rest : length xs ≡ length ys = omega arith in
    get_or-xor_bytes xs ys k rest

pub HasBytes-xor_bytes : (n : ℕ) (xs ys : List ℕ) → HasBytes n xs → HasBytes n ys → HasBytes n (xor_bytes xs ys)
HasBytes-xor_bytes n xs ys hx hy =
    let same : length xs ≡ length ys = hx.size ∙ sym hy.size in
    record {
      size = length-xor_bytes xs ys same ∙ hx.size;
      each = λ k. rw (get_or-xor_bytes xs ys k same) (xor-below _ _ (hx.each k) (hy.each k));
    }

-- what is added twice is gone
pub xor_bytes-twice : (xs ys : List ℕ) → length xs ≡ length ys → xor_bytes (xor_bytes xs ys) ys ≡ xs
unfolding xor_bytes
xor_bytes-twice [] ys h = refl
xor_bytes-twice (x ∷ xs) [] h = absurd (omega arith)
xor_bytes-twice (x ∷ xs) (y ∷ ys) h =
    let rest : length xs ≡ length ys = omega arith in
    λ i. xor-twice x y i ∷ xor_bytes-twice xs ys rest i

-- a sum of lists, from its elements
pub xor_bytes-from_elements : (zs xs ys : List ℕ) → length zs ≡ length xs → length xs ≡ length ys
    → ((k : ℕ) → k < length zs → get_or zs k 0 ≡ get_or xs k 0 ⊕ get_or ys k 0) → zs ≡ xor_bytes xs ys
unfolding xor_bytes
xor_bytes-from_elements [] [] ys lz lx h = refl
xor_bytes-from_elements [] (x ∷ xs) ys lz lx h = absurd (omega arith)
xor_bytes-from_elements (z ∷ zs) [] ys lz lx h = absurd (omega arith)
xor_bytes-from_elements (z ∷ zs) (x ∷ xs) [] lz lx h = absurd (omega arith)
xor_bytes-from_elements (z ∷ zs) (x ∷ xs) (y ∷ ys) lz lx h =
    let first : z ≡ x ⊕ y = h 0 (omega arith) in
    let rest : zs ≡ xor_bytes xs ys =
    xor_bytes-from_elements zs xs ys (omega arith) (omega arith) (λ k l. h (suc k) (omega arith)) in
    λ i. first i ∷ rest i
