-- The matrices of MixColumns and InvMixColumns undo each other, column by column.
use Rattle.std.proofs.Common.{◌≡◌, ℕ, ◌<◌, [], ◌∷◌, refl, sym, ap, ◌∙◌, arith}
use lib.Bits.{xor_zero_r}
use Rattle.fk_base.specs.Bytes.{HasBytes}
use Rattle.fk_aes.specs.Field.{◌⊕◌, ◌•◌, xtime, product_by_bits, xor_bytes}
use Rattle.fk_aes.specs.State.{row_times, mix_column, inv_mix_column}
use Rattle.fk_aes.proofs.ByteLists.{written_out}
use Rattle.fk_aes.proofs.FieldLemmas.{product-xor, product-below, same_at, xor-below, xor-interchange}

-- the sum of four
abbrev sum4 : (p q r s : ℕ) → ℕ
sum4 p q r s = p ⊕ q ⊕ r ⊕ s

-- a row k times a column m of another matrix, at the byte x
unfoldable row_column : (k0 k1 k2 k3 m0 m1 m2 m3 x : ℕ) → ℕ
row_column k0 k1 k2 k3 m0 m1 m2 m3 x = sum4 (k0 • (m0 • x)) (k1 • (m1 • x)) (k2 • (m2 • x)) (k3 • (m3 • x))

-- a factor times a row times a column
product-row_times : (k m0 m1 m2 m3 a b c d : ℕ) → k • row_times m0 m1 m2 m3 a b c d ≡ sum4 (k • (m0 • a)) (k • (m1 • b)) (k • (m2 • c)) (k • (m3 • d))
unfolding row_times
product-row_times k m0 m1 m2 m3 a b c d =
    product-xor k (m0 • a ⊕ m1 • b ⊕ m2 • c) (m3 • d)
    ∙ ap (λ (y : ℕ). y ⊕ k • (m3 • d)) (product-xor k (m0 • a ⊕ m1 • b) (m2 • c)
    ∙ ap (λ (y : ℕ). y ⊕ k • (m2 • c)) (product-xor k (m0 • a) (m1 • b)))

-- two sums of four, added place by place
sum4-sum4 : (p q r s t u v w : ℕ) → sum4 p q r s ⊕ sum4 t u v w ≡ sum4 (p ⊕ t) (q ⊕ u) (r ⊕ v) (s ⊕ w)
sum4-sum4 p q r s t u v w =
    xor-interchange (p ⊕ q ⊕ r) s (t ⊕ u ⊕ v) w
    ∙ ap (λ (y : ℕ). y ⊕ (s ⊕ w)) (xor-interchange (p ⊕ q) r (t ⊕ u) v
    ∙ ap (λ (y : ℕ). y ⊕ (r ⊕ v)) (xor-interchange p q t u))

-- the sum of four rows of four is the sum of their columns
sum4-transposed : (a0 b0 c0 d0 a1 b1 c1 d1 a2 b2 c2 d2 a3 b3 c3 d3 : ℕ)
    → sum4 (sum4 a0 b0 c0 d0) (sum4 a1 b1 c1 d1) (sum4 a2 b2 c2 d2) (sum4 a3 b3 c3 d3)
    ≡ sum4 (sum4 a0 a1 a2 a3) (sum4 b0 b1 b2 b3) (sum4 c0 c1 c2 c3) (sum4 d0 d1 d2 d3)
sum4-transposed a0 b0 c0 d0 a1 b1 c1 d1 a2 b2 c2 d2 a3 b3 c3 d3 =
    ap (λ (y : ℕ). y ⊕ sum4 a2 b2 c2 d2 ⊕ sum4 a3 b3 c3 d3) (sum4-sum4 a0 b0 c0 d0 a1 b1 c1 d1)
    ∙ ap (λ (y : ℕ). y ⊕ sum4 a3 b3 c3 d3) (sum4-sum4 (a0 ⊕ a1) (b0 ⊕ b1) (c0 ⊕ c1) (d0 ⊕ d1) a2 b2 c2 d2)
    ∙ sum4-sum4 (a0 ⊕ a1 ⊕ a2) (b0 ⊕ b1 ⊕ b2) (c0 ⊕ c1 ⊕ c2) (d0 ⊕ d1 ⊕ d2) a3 b3 c3 d3

row_times-is : (k0 k1 k2 k3 p q r s : ℕ) → row_times k0 k1 k2 k3 p q r s ≡ sum4 (k0 • p) (k1 • q) (k2 • r) (k3 • s)
unfolding row_times
row_times-is k0 k1 k2 k3 p q r s = refl

-- a row of a matrix times the product of a matrix m and a column
row_times-product : (k0 k1 k2 k3 m00 m01 m02 m03 m10 m11 m12 m13 m20 m21 m22 m23 m30 m31 m32 m33 a b c d : ℕ)
    → row_times k0 k1 k2 k3 (row_times m00 m01 m02 m03 a b c d) (row_times m10 m11 m12 m13 a b c d)
    (row_times m20 m21 m22 m23 a b c d) (row_times m30 m31 m32 m33 a b c d)
    ≡ sum4 (row_column k0 k1 k2 k3 m00 m10 m20 m30 a) (row_column k0 k1 k2 k3 m01 m11 m21 m31 b)
    (row_column k0 k1 k2 k3 m02 m12 m22 m32 c) (row_column k0 k1 k2 k3 m03 m13 m23 m33 d)
unfolding row_column
row_times-product k0 k1 k2 k3 m00 m01 m02 m03 m10 m11 m12 m13 m20 m21 m22 m23 m30 m31 m32 m33 a b c d =
    row_times-is k0 k1 k2 k3 _ _ _ _
    ∙ (λ i. sum4 (product-row_times k0 m00 m01 m02 m03 a b c d i) (product-row_times k1 m10 m11 m12 m13 a b c d i)
    (product-row_times k2 m20 m21 m22 m23 a b c d i) (product-row_times k3 m30 m31 m32 m33 a b c d i))
    ∙ sum4-transposed (k0 • (m00 • a)) (k0 • (m01 • b)) (k0 • (m02 • c)) (k0 • (m03 • d))
    (k1 • (m10 • a)) (k1 • (m11 • b)) (k1 • (m12 • c)) (k1 • (m13 • d))
    (k2 • (m20 • a)) (k2 • (m21 • b)) (k2 • (m22 • c)) (k2 • (m23 • d))
    (k3 • (m30 • a)) (k3 • (m31 • b)) (k3 • (m32 • c)) (k3 • (m33 • d))

-- row 0 of InvMixColumns times MixColumns, at each byte
inv_mix_row_0 : (x : ℕ) → x < 256 → (row_column 14 11 13 9 2 1 1 3 x ≡ x) × (row_column 14 11 13 9 3 2 1 1 x ≡ 0) × (row_column 14 11 13 9 1 3 2 1 x ≡ 0) × (row_column 14 11 13 9 1 1 3 2 x ≡ 0)
unfolding row_column ◌•◌ product_by_bits xtime
inv_mix_row_0 x l = (
  same_at (λ y. row_column 14 11 13 9 2 1 1 3 y) (λ y. y) refl x l,
  same_at (λ y. row_column 14 11 13 9 3 2 1 1 y) (λ y. 0) refl x l,
  same_at (λ y. row_column 14 11 13 9 1 3 2 1 y) (λ y. 0) refl x l,
  same_at (λ y. row_column 14 11 13 9 1 1 3 2 y) (λ y. 0) refl x l,
)

-- row 1 of InvMixColumns times MixColumns, at each byte
inv_mix_row_1 : (x : ℕ) → x < 256 → (row_column 9 14 11 13 2 1 1 3 x ≡ 0) × (row_column 9 14 11 13 3 2 1 1 x ≡ x) × (row_column 9 14 11 13 1 3 2 1 x ≡ 0) × (row_column 9 14 11 13 1 1 3 2 x ≡ 0)
unfolding row_column ◌•◌ product_by_bits xtime
inv_mix_row_1 x l = (
  same_at (λ y. row_column 9 14 11 13 2 1 1 3 y) (λ y. 0) refl x l,
  same_at (λ y. row_column 9 14 11 13 3 2 1 1 y) (λ y. y) refl x l,
  same_at (λ y. row_column 9 14 11 13 1 3 2 1 y) (λ y. 0) refl x l,
  same_at (λ y. row_column 9 14 11 13 1 1 3 2 y) (λ y. 0) refl x l,
)

-- row 2 of InvMixColumns times MixColumns, at each byte
inv_mix_row_2 : (x : ℕ) → x < 256 → (row_column 13 9 14 11 2 1 1 3 x ≡ 0) × (row_column 13 9 14 11 3 2 1 1 x ≡ 0) × (row_column 13 9 14 11 1 3 2 1 x ≡ x) × (row_column 13 9 14 11 1 1 3 2 x ≡ 0)
unfolding row_column ◌•◌ product_by_bits xtime
inv_mix_row_2 x l = (
  same_at (λ y. row_column 13 9 14 11 2 1 1 3 y) (λ y. 0) refl x l,
  same_at (λ y. row_column 13 9 14 11 3 2 1 1 y) (λ y. 0) refl x l,
  same_at (λ y. row_column 13 9 14 11 1 3 2 1 y) (λ y. y) refl x l,
  same_at (λ y. row_column 13 9 14 11 1 1 3 2 y) (λ y. 0) refl x l,
)

-- row 3 of InvMixColumns times MixColumns, at each byte
inv_mix_row_3 : (x : ℕ) → x < 256 → (row_column 11 13 9 14 2 1 1 3 x ≡ 0) × (row_column 11 13 9 14 3 2 1 1 x ≡ 0) × (row_column 11 13 9 14 1 3 2 1 x ≡ 0) × (row_column 11 13 9 14 1 1 3 2 x ≡ x)
unfolding row_column ◌•◌ product_by_bits xtime
inv_mix_row_3 x l = (
  same_at (λ y. row_column 11 13 9 14 2 1 1 3 y) (λ y. 0) refl x l,
  same_at (λ y. row_column 11 13 9 14 3 2 1 1 y) (λ y. 0) refl x l,
  same_at (λ y. row_column 11 13 9 14 1 3 2 1 y) (λ y. 0) refl x l,
  same_at (λ y. row_column 11 13 9 14 1 1 3 2 y) (λ y. y) refl x l,
)

-- row 0 of MixColumns times InvMixColumns, at each byte
mix_inv_row_0 : (x : ℕ) → x < 256 → (row_column 2 3 1 1 14 9 13 11 x ≡ x) × (row_column 2 3 1 1 11 14 9 13 x ≡ 0) × (row_column 2 3 1 1 13 11 14 9 x ≡ 0) × (row_column 2 3 1 1 9 13 11 14 x ≡ 0)
unfolding row_column ◌•◌ product_by_bits xtime
mix_inv_row_0 x l = (
  same_at (λ y. row_column 2 3 1 1 14 9 13 11 y) (λ y. y) refl x l,
  same_at (λ y. row_column 2 3 1 1 11 14 9 13 y) (λ y. 0) refl x l,
  same_at (λ y. row_column 2 3 1 1 13 11 14 9 y) (λ y. 0) refl x l,
  same_at (λ y. row_column 2 3 1 1 9 13 11 14 y) (λ y. 0) refl x l,
)

-- row 1 of MixColumns times InvMixColumns, at each byte
mix_inv_row_1 : (x : ℕ) → x < 256 → (row_column 1 2 3 1 14 9 13 11 x ≡ 0) × (row_column 1 2 3 1 11 14 9 13 x ≡ x) × (row_column 1 2 3 1 13 11 14 9 x ≡ 0) × (row_column 1 2 3 1 9 13 11 14 x ≡ 0)
unfolding row_column ◌•◌ product_by_bits xtime
mix_inv_row_1 x l = (
  same_at (λ y. row_column 1 2 3 1 14 9 13 11 y) (λ y. 0) refl x l,
  same_at (λ y. row_column 1 2 3 1 11 14 9 13 y) (λ y. y) refl x l,
  same_at (λ y. row_column 1 2 3 1 13 11 14 9 y) (λ y. 0) refl x l,
  same_at (λ y. row_column 1 2 3 1 9 13 11 14 y) (λ y. 0) refl x l,
)

-- row 2 of MixColumns times InvMixColumns, at each byte
mix_inv_row_2 : (x : ℕ) → x < 256 → (row_column 1 1 2 3 14 9 13 11 x ≡ 0) × (row_column 1 1 2 3 11 14 9 13 x ≡ 0) × (row_column 1 1 2 3 13 11 14 9 x ≡ x) × (row_column 1 1 2 3 9 13 11 14 x ≡ 0)
unfolding row_column ◌•◌ product_by_bits xtime
mix_inv_row_2 x l = (
  same_at (λ y. row_column 1 1 2 3 14 9 13 11 y) (λ y. 0) refl x l,
  same_at (λ y. row_column 1 1 2 3 11 14 9 13 y) (λ y. 0) refl x l,
  same_at (λ y. row_column 1 1 2 3 13 11 14 9 y) (λ y. y) refl x l,
  same_at (λ y. row_column 1 1 2 3 9 13 11 14 y) (λ y. 0) refl x l,
)

-- row 3 of MixColumns times InvMixColumns, at each byte
mix_inv_row_3 : (x : ℕ) → x < 256 → (row_column 3 1 1 2 14 9 13 11 x ≡ 0) × (row_column 3 1 1 2 11 14 9 13 x ≡ 0) × (row_column 3 1 1 2 13 11 14 9 x ≡ 0) × (row_column 3 1 1 2 9 13 11 14 x ≡ x)
unfolding row_column ◌•◌ product_by_bits xtime
mix_inv_row_3 x l = (
  same_at (λ y. row_column 3 1 1 2 14 9 13 11 y) (λ y. 0) refl x l,
  same_at (λ y. row_column 3 1 1 2 11 14 9 13 y) (λ y. 0) refl x l,
  same_at (λ y. row_column 3 1 1 2 13 11 14 9 y) (λ y. 0) refl x l,
  same_at (λ y. row_column 3 1 1 2 9 13 11 14 y) (λ y. y) refl x l,
)

zeros_after : (x : ℕ) → x ⊕ 0 ⊕ 0 ≡ x
zeros_after x = xor_zero_r (x ⊕ 0) ∙ xor_zero_r x

-- InvMixColumns undoes MixColumns at each column
pub inv_mix_column-mix_column : (a b c d : ℕ) → a < 256 → b < 256 → c < 256 → d < 256
    → inv_mix_column (row_times 2 3 1 1 a b c d) (row_times 1 2 3 1 a b c d) (row_times 1 1 2 3 a b c d) (row_times 3 1 1 2 a b c d) ≡ a ∷ b ∷ c ∷ d ∷ []
unfolding inv_mix_column
inv_mix_column-mix_column a b c d la lb lc ld =
    let e0 : row_times 14 11 13 9 (row_times 2 3 1 1 a b c d) (row_times 1 2 3 1 a b c d) (row_times 1 1 2 3 a b c d) (row_times 3 1 1 2 a b c d) ≡ a =
    row_times-product 14 11 13 9 2 3 1 1 1 2 3 1 1 1 2 3 3 1 1 2 a b c d
    ∙ (λ i. sum4 ((inv_mix_row_0 a la).0 i) ((inv_mix_row_0 b lb).1 i) ((inv_mix_row_0 c lc).2 i) ((inv_mix_row_0 d ld).3 i))
    ∙ xor_zero_r (a ⊕ 0 ⊕ 0) ∙ zeros_after a in
    let e1 : row_times 9 14 11 13 (row_times 2 3 1 1 a b c d) (row_times 1 2 3 1 a b c d) (row_times 1 1 2 3 a b c d) (row_times 3 1 1 2 a b c d) ≡ b =
    row_times-product 9 14 11 13 2 3 1 1 1 2 3 1 1 1 2 3 3 1 1 2 a b c d
    ∙ (λ i. sum4 ((inv_mix_row_1 a la).0 i) ((inv_mix_row_1 b lb).1 i) ((inv_mix_row_1 c lc).2 i) ((inv_mix_row_1 d ld).3 i))
    ∙ zeros_after b in
    let e2 : row_times 13 9 14 11 (row_times 2 3 1 1 a b c d) (row_times 1 2 3 1 a b c d) (row_times 1 1 2 3 a b c d) (row_times 3 1 1 2 a b c d) ≡ c =
    row_times-product 13 9 14 11 2 3 1 1 1 2 3 1 1 1 2 3 3 1 1 2 a b c d
    ∙ (λ i. sum4 ((inv_mix_row_2 a la).0 i) ((inv_mix_row_2 b lb).1 i) ((inv_mix_row_2 c lc).2 i) ((inv_mix_row_2 d ld).3 i))
    ∙ xor_zero_r c in
    let e3 : row_times 11 13 9 14 (row_times 2 3 1 1 a b c d) (row_times 1 2 3 1 a b c d) (row_times 1 1 2 3 a b c d) (row_times 3 1 1 2 a b c d) ≡ d =
    row_times-product 11 13 9 14 2 3 1 1 1 2 3 1 1 1 2 3 3 1 1 2 a b c d
    ∙ (λ i. sum4 ((inv_mix_row_3 a la).0 i) ((inv_mix_row_3 b lb).1 i) ((inv_mix_row_3 c lc).2 i) ((inv_mix_row_3 d ld).3 i))
    in
    λ i. e0 i ∷ e1 i ∷ e2 i ∷ e3 i ∷ []

-- MixColumns undoes InvMixColumns at each column
pub mix_column-inv_mix_column : (a b c d : ℕ) → a < 256 → b < 256 → c < 256 → d < 256
    → mix_column (row_times 14 11 13 9 a b c d) (row_times 9 14 11 13 a b c d) (row_times 13 9 14 11 a b c d) (row_times 11 13 9 14 a b c d) ≡ a ∷ b ∷ c ∷ d ∷ []
unfolding mix_column
mix_column-inv_mix_column a b c d la lb lc ld =
    let e0 : row_times 2 3 1 1 (row_times 14 11 13 9 a b c d) (row_times 9 14 11 13 a b c d) (row_times 13 9 14 11 a b c d) (row_times 11 13 9 14 a b c d) ≡ a =
    row_times-product 2 3 1 1 14 11 13 9 9 14 11 13 13 9 14 11 11 13 9 14 a b c d
    ∙ (λ i. sum4 ((mix_inv_row_0 a la).0 i) ((mix_inv_row_0 b lb).1 i) ((mix_inv_row_0 c lc).2 i) ((mix_inv_row_0 d ld).3 i))
    ∙ xor_zero_r (a ⊕ 0 ⊕ 0) ∙ zeros_after a in
    let e1 : row_times 1 2 3 1 (row_times 14 11 13 9 a b c d) (row_times 9 14 11 13 a b c d) (row_times 13 9 14 11 a b c d) (row_times 11 13 9 14 a b c d) ≡ b =
    row_times-product 1 2 3 1 14 11 13 9 9 14 11 13 13 9 14 11 11 13 9 14 a b c d
    ∙ (λ i. sum4 ((mix_inv_row_1 a la).0 i) ((mix_inv_row_1 b lb).1 i) ((mix_inv_row_1 c lc).2 i) ((mix_inv_row_1 d ld).3 i))
    ∙ zeros_after b in
    let e2 : row_times 1 1 2 3 (row_times 14 11 13 9 a b c d) (row_times 9 14 11 13 a b c d) (row_times 13 9 14 11 a b c d) (row_times 11 13 9 14 a b c d) ≡ c =
    row_times-product 1 1 2 3 14 11 13 9 9 14 11 13 13 9 14 11 11 13 9 14 a b c d
    ∙ (λ i. sum4 ((mix_inv_row_2 a la).0 i) ((mix_inv_row_2 b lb).1 i) ((mix_inv_row_2 c lc).2 i) ((mix_inv_row_2 d ld).3 i))
    ∙ xor_zero_r c in
    let e3 : row_times 3 1 1 2 (row_times 14 11 13 9 a b c d) (row_times 9 14 11 13 a b c d) (row_times 13 9 14 11 a b c d) (row_times 11 13 9 14 a b c d) ≡ d =
    row_times-product 3 1 1 2 14 11 13 9 9 14 11 13 13 9 14 11 11 13 9 14 a b c d
    ∙ (λ i. sum4 ((mix_inv_row_3 a la).0 i) ((mix_inv_row_3 b lb).1 i) ((mix_inv_row_3 c lc).2 i) ((mix_inv_row_3 d ld).3 i))
    in
    λ i. e0 i ∷ e1 i ∷ e2 i ∷ e3 i ∷ []

row_times-below : (k0 k1 k2 k3 a b c d : ℕ) → k0 < 256 → k1 < 256 → k2 < 256 → k3 < 256 → row_times k0 k1 k2 k3 a b c d < 256
unfolding row_times
row_times-below k0 k1 k2 k3 a b c d l0 l1 l2 l3 =
    xor-below (k0 • a ⊕ k1 • b ⊕ k2 • c) (k3 • d)
    (xor-below (k0 • a ⊕ k1 • b) (k2 • c) (xor-below (k0 • a) (k1 • b) (product-below k0 a l0) (product-below k1 b l1)) (product-below k2 c l2))
    (product-below k3 d l3)

pub HasBytes-mix_column : (a b c d : ℕ) → HasBytes 4 (mix_column a b c d)
unfolding mix_column
HasBytes-mix_column a b c d =
    written_out 4 _ refl (
      row_times-below 2 3 1 1 a b c d (omega arith) (omega arith) (omega arith) (omega arith),
      (
        row_times-below 1 2 3 1 a b c d (omega arith) (omega arith) (omega arith) (omega arith),
        (
          row_times-below 1 1 2 3 a b c d (omega arith) (omega arith) (omega arith) (omega arith),
          (
            row_times-below 3 1 1 2 a b c d (omega arith) (omega arith) (omega arith) (omega arith),
            tt,
          ),
        ),
      ),
    )

pub HasBytes-inv_mix_column : (a b c d : ℕ) → HasBytes 4 (inv_mix_column a b c d)
unfolding inv_mix_column
HasBytes-inv_mix_column a b c d =
    written_out 4 _ refl (
      row_times-below 14 11 13 9 a b c d (omega arith) (omega arith) (omega arith) (omega arith),
      (
        row_times-below 9 14 11 13 a b c d (omega arith) (omega arith) (omega arith) (omega arith),
        (
          row_times-below 13 9 14 11 a b c d (omega arith) (omega arith) (omega arith) (omega arith),
          (
            row_times-below 11 13 9 14 a b c d (omega arith) (omega arith) (omega arith) (omega arith),
            tt,
          ),
        ),
      ),
    )

-- a row of a matrix times a sum of columns
row_times-xor : (k0 k1 k2 k3 a b c d p q r t : ℕ)
    → row_times k0 k1 k2 k3 (a ⊕ p) (b ⊕ q) (c ⊕ r) (d ⊕ t) ≡ row_times k0 k1 k2 k3 a b c d ⊕ row_times k0 k1 k2 k3 p q r t
unfolding row_times
row_times-xor k0 k1 k2 k3 a b c d p q r t =
    (λ i. sum4 (product-xor k0 a p i) (product-xor k1 b q i) (product-xor k2 c r i) (product-xor k3 d t i))
    ∙ sym (sum4-sum4 (k0 • a) (k1 • b) (k2 • c) (k3 • d) (k0 • p) (k1 • q) (k2 • r) (k3 • t))

-- InvMixColumns of a sum of two columns
pub inv_mix_column-xor : (a b c d p q r t : ℕ)
    → inv_mix_column (a ⊕ p) (b ⊕ q) (c ⊕ r) (d ⊕ t) ≡ xor_bytes (inv_mix_column a b c d) (inv_mix_column p q r t)
unfolding inv_mix_column xor_bytes
inv_mix_column-xor a b c d p q r t =
    let row = λ (k0 k1 k2 k3 : ℕ). row_times-xor k0 k1 k2 k3 a b c d p q r t in
    λ i. row 14 11 13 9 i ∷ row 9 14 11 13 i ∷ row 13 9 14 11 i ∷ row 11 13 9 14 i ∷ []
