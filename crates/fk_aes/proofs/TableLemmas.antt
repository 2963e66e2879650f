-- Each entry of the tables of the code is the standard's product of the substituted byte, and four of them make a column.
use Rattle.std.proofs.Common.{◌≡◌, ℕ, ◌<◌, ◌==◌, List, [], ◌∷◌, slice_index, true, refl, ap, ◌∙◌, arith}
use Rattle.std.specs.Int.{from_be_bytes, to_be_bytes, w32}
use Rattle.fk_aes.specs.declared.tables.TheConstants.{SUBSTITUTION, INVERSE_SUBSTITUTION, SUB_MIX_0, SUB_MIX_1, SUB_MIX_2, SUB_MIX_3, INV_SUB_MIX_0, INV_SUB_MIX_1, INV_SUB_MIX_2, INV_SUB_MIX_3}
use Rattle.fk_aes.specs.Field.{◌⊕◌, ◌•◌, xtime, product_by_bits, xor_bytes}
use Rattle.fk_aes.specs.State.{inv_mix_column, mix_column, row_times}
use Rattle.fk_aes.specs.Substitution.{inv_sub_byte, sub_byte}
use Rattle.fk_aes.specs.Words.{inv_mixed_byte, mixed_byte}
use Rattle.fk_aes.proofs.FieldLemmas.{of_each_byte, product-below, same_at}
use Rattle.fk_aes.proofs.SubstitutionLemmas.{inverse_substitution-entry, substitution-entry}
use Rattle.fk_aes.proofs.WordLemmas.{word-xor, word_of_bytes}

-- four products of a byte
abbrev products : (k0 k1 k2 k3 b : ℕ) → List ℕ
products k0 k1 k2 k3 b = (k0 • b) ∷ (k1 • b) ∷ (k2 • b) ∷ (k3 • b) ∷ []

-- the table has at each byte the word of four products of that byte's entry in the table of a substitution
abbrev HasProducts : (k0 k1 k2 k3 : ℕ) → List ℕ → List ℕ → Type 0
HasProducts k0 k1 k2 k3 table substitution =
    of_each_byte (λ b. slice_index table b == from_be_bytes w32 (products k0 k1 k2 k3 (slice_index substitution b))) ≡ true

-- such a table has at each byte the products of the substituted byte
entry : (k0 k1 k2 k3 : ℕ) (table substitution : List ℕ) (s : ℕ → ℕ) → k0 < 256 → k1 < 256 → k2 < 256 → k3 < 256
    → HasProducts k0 k1 k2 k3 table substitution → ((b : ℕ) → b < 256 → slice_index substitution b ≡ s b)
    → (b : ℕ) → b < 256 → to_be_bytes w32 (slice_index table b) ≡ products k0 k1 k2 k3 (s b)
entry k0 k1 k2 k3 table substitution s l0 l1 l2 l3 test is b l =
    word_of_bytes (products k0 k1 k2 k3 (s b)) (slice_index table b) refl
    (product-below k0 (s b) l0, (product-below k1 (s b) l1, (product-below k2 (s b) l2, (product-below k3 (s b) l3, tt))))
    (same_at (λ x. slice_index table x) (λ x. from_be_bytes w32 (products k0 k1 k2 k3 (slice_index substitution x))) test b l
    ∙ ap (λ (x : ℕ). from_be_bytes w32 (products k0 k1 k2 k3 x)) (is b l))

-- ---- the tables

sub_mix_0-test : HasProducts 2 1 1 3 SUB_MIX_0 SUBSTITUTION
unfolding ◌•◌ product_by_bits xtime
sub_mix_0-test = refl

pub sub_mix_0-entry : (b : ℕ) → b < 256 → to_be_bytes w32 (slice_index SUB_MIX_0 b) ≡ mixed_byte 0 (sub_byte b)
sub_mix_0-entry = entry 2 1 1 3 SUB_MIX_0 SUBSTITUTION sub_byte (omega arith) (omega arith) (omega arith) (omega arith) sub_mix_0-test substitution-entry

sub_mix_1-test : HasProducts 3 2 1 1 SUB_MIX_1 SUBSTITUTION
unfolding ◌•◌ product_by_bits xtime
sub_mix_1-test = refl

pub sub_mix_1-entry : (b : ℕ) → b < 256 → to_be_bytes w32 (slice_index SUB_MIX_1 b) ≡ mixed_byte 1 (sub_byte b)
sub_mix_1-entry = entry 3 2 1 1 SUB_MIX_1 SUBSTITUTION sub_byte (omega arith) (omega arith) (omega arith) (omega arith) sub_mix_1-test substitution-entry

sub_mix_2-test : HasProducts 1 3 2 1 SUB_MIX_2 SUBSTITUTION
unfolding ◌•◌ product_by_bits xtime
sub_mix_2-test = refl

pub sub_mix_2-entry : (b : ℕ) → b < 256 → to_be_bytes w32 (slice_index SUB_MIX_2 b) ≡ mixed_byte 2 (sub_byte b)
sub_mix_2-entry = entry 1 3 2 1 SUB_MIX_2 SUBSTITUTION sub_byte (omega arith) (omega arith) (omega arith) (omega arith) sub_mix_2-test substitution-entry

sub_mix_3-test : HasProducts 1 1 3 2 SUB_MIX_3 SUBSTITUTION
unfolding ◌•◌ product_by_bits xtime
sub_mix_3-test = refl

pub sub_mix_3-entry : (b : ℕ) → b < 256 → to_be_bytes w32 (slice_index SUB_MIX_3 b) ≡ mixed_byte 3 (sub_byte b)
sub_mix_3-entry = entry 1 1 3 2 SUB_MIX_3 SUBSTITUTION sub_byte (omega arith) (omega arith) (omega arith) (omega arith) sub_mix_3-test substitution-entry

inv_sub_mix_0-test : HasProducts 14 9 13 11 INV_SUB_MIX_0 INVERSE_SUBSTITUTION
unfolding ◌•◌ product_by_bits xtime
inv_sub_mix_0-test = refl

pub inv_sub_mix_0-entry : (b : ℕ) → b < 256 → to_be_bytes w32 (slice_index INV_SUB_MIX_0 b) ≡ inv_mixed_byte 0 (inv_sub_byte b)
inv_sub_mix_0-entry = entry 14 9 13 11 INV_SUB_MIX_0 INVERSE_SUBSTITUTION inv_sub_byte (omega arith) (omega arith) (omega arith) (omega arith) inv_sub_mix_0-test inverse_substitution-entry

inv_sub_mix_1-test : HasProducts 11 14 9 13 INV_SUB_MIX_1 INVERSE_SUBSTITUTION
unfolding ◌•◌ product_by_bits xtime
inv_sub_mix_1-test = refl

pub inv_sub_mix_1-entry : (b : ℕ) → b < 256 → to_be_bytes w32 (slice_index INV_SUB_MIX_1 b) ≡ inv_mixed_byte 1 (inv_sub_byte b)
inv_sub_mix_1-entry = entry 11 14 9 13 INV_SUB_MIX_1 INVERSE_SUBSTITUTION inv_sub_byte (omega arith) (omega arith) (omega arith) (omega arith) inv_sub_mix_1-test inverse_substitution-entry

inv_sub_mix_2-test : HasProducts 13 11 14 9 INV_SUB_MIX_2 INVERSE_SUBSTITUTION
unfolding ◌•◌ product_by_bits xtime
inv_sub_mix_2-test = refl

pub inv_sub_mix_2-entry : (b : ℕ) → b < 256 → to_be_bytes w32 (slice_index INV_SUB_MIX_2 b) ≡ inv_mixed_byte 2 (inv_sub_byte b)
inv_sub_mix_2-entry = entry 13 11 14 9 INV_SUB_MIX_2 INVERSE_SUBSTITUTION inv_sub_byte (omega arith) (omega arith) (omega arith) (omega arith) inv_sub_mix_2-test inverse_substitution-entry

inv_sub_mix_3-test : HasProducts 9 13 11 14 INV_SUB_MIX_3 INVERSE_SUBSTITUTION
unfolding ◌•◌ product_by_bits xtime
inv_sub_mix_3-test = refl

pub inv_sub_mix_3-entry : (b : ℕ) → b < 256 → to_be_bytes w32 (slice_index INV_SUB_MIX_3 b) ≡ inv_mixed_byte 3 (inv_sub_byte b)
inv_sub_mix_3-entry = entry 9 13 11 14 INV_SUB_MIX_3 INVERSE_SUBSTITUTION inv_sub_byte (omega arith) (omega arith) (omega arith) (omega arith) inv_sub_mix_3-test inverse_substitution-entry

-- ---- a column

-- the sum of four words
word-sum4 : (t u v w : ℕ) (p q r s : List ℕ) → to_be_bytes w32 t ≡ p → to_be_bytes w32 u ≡ q → to_be_bytes w32 v ≡ r → to_be_bytes w32 w ≡ s
    → to_be_bytes w32 (t ⊕ u ⊕ v ⊕ w) ≡ xor_bytes (xor_bytes (xor_bytes p q) r) s
word-sum4 t u v w p q r s et eu ev ew =
    word-xor (t ⊕ u ⊕ v) w
    ∙ ap (λ (l : List ℕ). xor_bytes l (to_be_bytes w32 w)) (word-xor (t ⊕ u) v ∙ ap (λ (l : List ℕ). xor_bytes l (to_be_bytes w32 v)) (word-xor t u))
    ∙ (λ i. xor_bytes (xor_bytes (xor_bytes (et i) (eu i)) (ev i)) (ew i))

pub mixed_column : (t u v w a b c d : ℕ) → to_be_bytes w32 t ≡ mixed_byte 0 a → to_be_bytes w32 u ≡ mixed_byte 1 b
    → to_be_bytes w32 v ≡ mixed_byte 2 c → to_be_bytes w32 w ≡ mixed_byte 3 d
    → to_be_bytes w32 (t ⊕ u ⊕ v ⊕ w) ≡ mix_column a b c d
unfolding mix_column row_times xor_bytes
mixed_column t u v w a b c d et eu ev ew = word-sum4 t u v w (mixed_byte 0 a) (mixed_byte 1 b) (mixed_byte 2 c) (mixed_byte 3 d) et eu ev ew

pub inv_mixed_column : (t u v w a b c d : ℕ) → to_be_bytes w32 t ≡ inv_mixed_byte 0 a → to_be_bytes w32 u ≡ inv_mixed_byte 1 b
    → to_be_bytes w32 v ≡ inv_mixed_byte 2 c → to_be_bytes w32 w ≡ inv_mixed_byte 3 d
    → to_be_bytes w32 (t ⊕ u ⊕ v ⊕ w) ≡ inv_mix_column a b c d
unfolding inv_mix_column row_times xor_bytes
inv_mixed_column t u v w a b c d et eu ev ew =
    word-sum4 t u v w (inv_mixed_byte 0 a) (inv_mixed_byte 1 b) (inv_mixed_byte 2 c) (inv_mixed_byte 3 d) et eu ev ew
