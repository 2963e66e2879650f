-- The tables of the code hold the values of the substitution and of its inverse, and each undoes the other.
use Rattle.std.proofs.Common.{◌≡◌, ℕ, ◌<◌, slice_index, refl, sym, ap, ◌∙◌}
use Rattle.fk_aes.specs.declared.tables.TheConstants.{SUBSTITUTION, INVERSE_SUBSTITUTION}
use Rattle.fk_aes.specs.Field.{◌•◌, xtime, product_by_bits, inverse, last_below}
use Rattle.fk_aes.specs.Substitution.{affine, affine_bits, inverse_affine, sub_byte, inv_sub_byte}
use Rattle.fk_aes.proofs.FieldLemmas.{byte_at_each, same_at}

-- the affine map takes a byte's inverse image to it
pub affine-inverse_affine : (b : ℕ) → b < 256 → affine (inverse_affine b) ≡ b
unfolding inverse_affine affine affine_bits last_below
affine-inverse_affine = same_at (λ b. affine (inverse_affine b)) (λ b. b) refl

-- the entry of each byte in the table is its substitution
pub substitution-entry : (b : ℕ) → b < 256 → slice_index SUBSTITUTION b ≡ sub_byte b
unfolding sub_byte affine affine_bits inverse last_below ◌•◌ product_by_bits xtime
substitution-entry = same_at (λ b. slice_index SUBSTITUTION b) (λ b. sub_byte b) refl

-- the entry of each byte in the table is its inverse substitution
pub inverse_substitution-entry : (b : ℕ) → b < 256 → slice_index INVERSE_SUBSTITUTION b ≡ inv_sub_byte b
unfolding inv_sub_byte inverse_affine affine affine_bits inverse last_below ◌•◌ product_by_bits xtime
inverse_substitution-entry = same_at (λ b. slice_index INVERSE_SUBSTITUTION b) (λ b. inv_sub_byte b) refl

pub sub_byte-below : (b : ℕ) → b < 256 → sub_byte b < 256
sub_byte-below b l = rw (← substitution-entry b l) (byte_at_each (λ x. slice_index SUBSTITUTION x) refl b l)

pub inv_sub_byte-below : (b : ℕ) → b < 256 → inv_sub_byte b < 256
inv_sub_byte-below b l = rw (← inverse_substitution-entry b l) (byte_at_each (λ x. slice_index INVERSE_SUBSTITUTION x) refl b l)

pub inv_sub_byte-sub_byte : (b : ℕ) → b < 256 → inv_sub_byte (sub_byte b) ≡ b
inv_sub_byte-sub_byte b l =
    sym (inverse_substitution-entry (sub_byte b) (sub_byte-below b l))
    ∙ ap (λ (x : ℕ). slice_index INVERSE_SUBSTITUTION x) (sym (substitution-entry b l))
    ∙ same_at (λ x. slice_index INVERSE_SUBSTITUTION (slice_index SUBSTITUTION x)) (λ x. x) refl b l

pub sub_byte-inv_sub_byte : (b : ℕ) → b < 256 → sub_byte (inv_sub_byte b) ≡ b
sub_byte-inv_sub_byte b l =
    sym (substitution-entry (inv_sub_byte b) (inv_sub_byte-below b l))
    ∙ ap (λ (x : ℕ). slice_index SUBSTITUTION x) (sym (inverse_substitution-entry b l))
    ∙ same_at (λ x. slice_index SUBSTITUTION (slice_index INVERSE_SUBSTITUTION x)) (λ x. x) refl b l
