-- Each transformation of the state keeps lists of 16 bytes, and is undone by its inverse.
use Rattle.std.proofs.Common.{◌≡◌, ℕ, suc, ◌+◌, ◌*◌, ◌<◌, ◌≤◌, List, [], ◌∷◌, ◌++◌, length, get_or, map, drop, refl, sym, ◌∙◌, arith, inl, inr}
use Rattle.std.proofs.lemmas.Bool.{cases_lt}
use Rattle.std.proofs.lemmas.List.{length-take, length-drop, get_or-take, get_or-drop, get_or_past}
use Rattle.fk_base.specs.Bytes.{HasBytes}
use Rattle.fk_aes.specs.State.{add_round_key, inv_mix_column, inv_mix_columns, inv_shift_rows, inv_sub_bytes, mix_column, mix_columns, round_key, shift_rows, sub_bytes}
use Rattle.fk_aes.specs.Substitution.{sub_byte, inv_sub_byte}
use Rattle.fk_aes.proofs.ByteLists.{HasBytes-append, HasBytes-map, HasBytes-xor_bytes, list-elements, written_out, xor_bytes-twice}
use Rattle.fk_aes.proofs.Columns.{HasBytes-inv_mix_column, HasBytes-mix_column, inv_mix_column-mix_column, mix_column-inv_mix_column}
use Rattle.fk_aes.proofs.SubstitutionLemmas.{inv_sub_byte-below, inv_sub_byte-sub_byte, sub_byte-below, sub_byte-inv_sub_byte}

-- ---- SubBytes

pub HasBytes-sub_bytes : (s : List ℕ) → HasBytes 16 s → HasBytes 16 (sub_bytes s)
unfolding sub_bytes
HasBytes-sub_bytes s h = HasBytes-map sub_byte 16 s sub_byte-below h

pub HasBytes-inv_sub_bytes : (s : List ℕ) → HasBytes 16 s → HasBytes 16 (inv_sub_bytes s)
unfolding inv_sub_bytes
HasBytes-inv_sub_bytes s h = HasBytes-map inv_sub_byte 16 s inv_sub_byte-below h

-- a map of bytes that another undoes
map_undone : (f g : ℕ → ℕ) (s : List ℕ) → ((b : ℕ) → b < 256 → g (f b) ≡ b) → ((k : ℕ) → get_or s k 0 < 256) → map g (map f s) ≡ s
map_undone f g [] u h = refl
map_undone f g (x ∷ s) u h = λ i. u x (h 0) i ∷ map_undone f g s u (λ k. h (suc k)) i

pub inv_sub_bytes-sub_bytes : (s : List ℕ) → HasBytes 16 s → inv_sub_bytes (sub_bytes s) ≡ s
unfolding sub_bytes inv_sub_bytes
inv_sub_bytes-sub_bytes s h = map_undone sub_byte inv_sub_byte s inv_sub_byte-sub_byte h.each

pub sub_bytes-inv_sub_bytes : (s : List ℕ) → HasBytes 16 s → sub_bytes (inv_sub_bytes s) ≡ s
unfolding sub_bytes inv_sub_bytes
sub_bytes-inv_sub_bytes s h = map_undone inv_sub_byte sub_byte s sub_byte-inv_sub_byte h.each

-- ---- ShiftRows

pub HasBytes-shift_rows : (s : List ℕ) → HasBytes 16 s → HasBytes 16 (shift_rows s)
unfolding shift_rows
HasBytes-shift_rows s h =
    let e = h.each in
    written_out 16 _ refl
    (e 0, (e 5, (e 10, (e 15, (e 4, (e 9, (e 14, (e 3, (e 8, (e 13, (e 2, (e 7, (e 12, (e 1, (e 6, (e 11, tt))))))))))))))))

pub HasBytes-inv_shift_rows : (s : List ℕ) → HasBytes 16 s → HasBytes 16 (inv_shift_rows s)
unfolding inv_shift_rows
HasBytes-inv_shift_rows s h =
    let e = h.each in
    written_out 16 _ refl
    (e 0, (e 13, (e 10, (e 7, (e 4, (e 1, (e 14, (e 11, (e 8, (e 5, (e 2, (e 15, (e 12, (e 9, (e 6, (e 3, tt))))))))))))))))

pub inv_shift_rows-shift_rows : (s : List ℕ) → HasBytes 16 s → inv_shift_rows (shift_rows s) ≡ s
unfolding shift_rows inv_shift_rows
inv_shift_rows-shift_rows s h = sym (list-elements s 16 h.size)

pub shift_rows-inv_shift_rows : (s : List ℕ) → HasBytes 16 s → shift_rows (inv_shift_rows s) ≡ s
unfolding shift_rows inv_shift_rows
shift_rows-inv_shift_rows s h = sym (list-elements s 16 h.size)

-- ---- MixColumns

-- four lists of four bytes
four_columns : (a b c d : List ℕ) → HasBytes 4 a → HasBytes 4 b → HasBytes 4 c → HasBytes 4 d → HasBytes 16 (a ++ b ++ c ++ d)
four_columns a b c d ha hb hc hd =
    HasBytes-append 12 4 16 (a ++ b ++ c) d refl (HasBytes-append 8 4 12 (a ++ b) c refl (HasBytes-append 4 4 8 a b refl ha hb) hc) hd

pub HasBytes-mix_columns : (s : List ℕ) → HasBytes 16 (mix_columns s)
unfolding mix_columns
HasBytes-mix_columns s =
    four_columns _ _ _ _ (HasBytes-mix_column _ _ _ _) (HasBytes-mix_column _ _ _ _) (HasBytes-mix_column _ _ _ _) (HasBytes-mix_column _ _ _ _)

pub HasBytes-inv_mix_columns : (s : List ℕ) → HasBytes 16 (inv_mix_columns s)
unfolding inv_mix_columns
HasBytes-inv_mix_columns s =
    four_columns _ _ _ _ (HasBytes-inv_mix_column _ _ _ _) (HasBytes-inv_mix_column _ _ _ _) (HasBytes-inv_mix_column _ _ _ _) (HasBytes-inv_mix_column _ _ _ _)

pub inv_mix_columns-mix_columns : (s : List ℕ) → HasBytes 16 s → inv_mix_columns (mix_columns s) ≡ s
unfolding mix_columns inv_mix_columns mix_column
inv_mix_columns-mix_columns s h =
    let at = λ (k : ℕ). get_or s k 0 in
    let column = λ (i j k l : ℕ). inv_mix_column-mix_column (at i) (at j) (at k) (at l) (h.each i) (h.each j) (h.each k) (h.each l) in
    (λ i. column 0 1 2 3 i ++ column 4 5 6 7 i ++ column 8 9 10 11 i ++ column 12 13 14 15 i)
    ∙ sym (list-elements s 16 h.size)

pub mix_columns-inv_mix_columns : (s : List ℕ) → HasBytes 16 s → mix_columns (inv_mix_columns s) ≡ s
unfolding mix_columns inv_mix_columns inv_mix_column
mix_columns-inv_mix_columns s h =
    let at = λ (k : ℕ). get_or s k 0 in
    let column = λ (i j k l : ℕ). mix_column-inv_mix_column (at i) (at j) (at k) (at l) (h.each i) (h.each j) (h.each k) (h.each l) in
    (λ i. column 0 1 2 3 i ++ column 4 5 6 7 i ++ column 8 9 10 11 i ++ column 12 13 14 15 i)
    ∙ sym (list-elements s 16 h.size)

-- ---- AddRoundKey

pub length-round_key : (w : List ℕ) (n : ℕ) → n < 15 → length w ≡ 240 → length (round_key w n) ≡ 16
length-round_key w n l h = omega (arith, length-take 16 (drop (16 * n) w), length-drop (16 * n) w)

HasBytes-round_key : (w : List ℕ) (n : ℕ) → n < 15 → HasBytes 240 w → HasBytes 16 (round_key w n)
HasBytes-round_key w n l h = record {
  size = length-round_key w n l h.size;
  each = λ k. elim (cases_lt k 16) [
    | inl lt ↦ rw (get_or-take 16 (drop (16 * n) w) k 0 lt, get_or-drop (16 * n) w k 0) (h.each (16 * n + k))
    | inr ge ↦
        let past : length (round_key w n) ≤ k = omega (arith, length-round_key w n l h.size) in
        rw (get_or_past (round_key w n) k 0 past) (omega arith)
  ];
}

pub HasBytes-add_round_key : (s w : List ℕ) (n : ℕ) → n < 15 → HasBytes 240 w → HasBytes 16 s → HasBytes 16 (add_round_key s w n)
unfolding add_round_key
HasBytes-add_round_key s w n l hw hs = HasBytes-xor_bytes 16 s (round_key w n) hs (HasBytes-round_key w n l hw)

pub add_round_key-twice : (s w : List ℕ) (n : ℕ) → n < 15 → HasBytes 240 w → HasBytes 16 s → add_round_key (add_round_key s w n) w n ≡ s
unfolding add_round_key
add_round_key-twice s w n l hw hs =
    xor_bytes-twice s (round_key w n) (hs.size ∙ sym (length-round_key w n l hw.size))
