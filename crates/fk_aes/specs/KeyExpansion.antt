-- The key expansion for keys of 8 words and 14 rounds (FIPS 197, section 5.2). A word is the list of its 4 bytes, and a
-- schedule is the list of the bytes of its words, so word i is at the places 4 i to 4 i + 3.
use Rattle.std.specs.Prelude.{ℕ, zero, suc, ◌+◌, ◌-◌, ◌*◌, ◌/◌, ◌%◌, ◌==◌, List, [], ◌∷◌, ◌++◌, map, slice_index, if◌then◌else◌}
use Rattle.fk_aes.specs.Field.{xtime, xor_bytes}
use Rattle.fk_aes.specs.Substitution.{sub_byte}

-- word i of a schedule
abbrev pub word_at : List ℕ → ℕ → List ℕ
word_at w i = slice_index w (4 * i) ∷ slice_index w (4 * i + 1) ∷ slice_index w (4 * i + 2) ∷ slice_index w (4 * i + 3) ∷ []

-- RotWord: [a0, a1, a2, a3] becomes [a1, a2, a3, a0] (5.2)
abbrev pub rot_word : List ℕ → List ℕ
rot_word a = slice_index a 1 ∷ slice_index a 2 ∷ slice_index a 3 ∷ slice_index a 0 ∷ []

-- SubWord: the substitution at each byte (5.2)
abbrev pub sub_word : List ℕ → List ℕ
sub_word a = map sub_byte a

-- x^n in the field
unfoldable pub power_of_x : ℕ → ℕ
power_of_x zero = 1
power_of_x (suc n) = xtime (power_of_x n)

-- Rcon[j]: the word [x^(j-1), 0, 0, 0] (5.2)
abbrev pub round_constant : ℕ → List ℕ
round_constant j = power_of_x (j - 1) ∷ 0 ∷ 0 ∷ 0 ∷ []

-- what is added to word i - 8, from word i - 1: the variable temp of the standard (5.2)
unfoldable pub addend : ℕ → List ℕ → List ℕ
addend i temp =
    if i % 8 == 0 then xor_bytes (sub_word (rot_word temp)) (round_constant (i / 8))
    else (if i % 8 == 4 then sub_word temp else temp)

-- word i of the schedule w, from those before it (5.2)
unfoldable pub next_word : List ℕ → ℕ → List ℕ
next_word w i = xor_bytes (word_at w (i - 8)) (addend i (word_at w (i - 1)))

-- the first 8 + n words: the key itself, then each from those before it (5.2)
unfoldable pub first_words : List ℕ → ℕ → List ℕ
first_words key zero = key
first_words key (suc n) = first_words key n ++ next_word (first_words key n) (8 + n)

-- KeyExpansion: the 60 words (5.2)
unfoldable pub key_expansion : List ℕ → List ℕ
key_expansion key = first_words key 52
