-- The bytes of a line's value are bytes of the line.
use Rattle.std.proofs.Common.{◌≡◌, ℕ, ◌-◌, Bool, true, List, length, take, drop, reverse, inl, inr}
use Rattle.std.specs.Prelude.{◌==◌, slice_index}
use Rattle.std.specs.List.{list_all, position_or_len}
use Rattle.std.proofs.lemmas.Bool.{cases_Bool}
use Rattle.std.proofs.lemmas.List.Elements.{All-take, All-drop}
use Rattle.std.proofs.lemmas.List.Sums.{AllPass-from_list_all, list_all-from_AllPass}
use Rattle.fk_base.specs.Characters.{is_blank, is_line_byte}
use Rattle.fk_lines.specs.Lines.{bracketed_setting, is_bracketed, is_no_blank, plain_setting, setting_of, trim_back, trim_front, trimmed, without_last}

pass_take : (p : ℕ → Bool) (n : ℕ) (xs : List ℕ) → list_all p xs ≡ true → list_all p (take n xs) ≡ true
pass_take p n xs h = list_all-from_AllPass p (take n xs) (All-take (λ x. p x ≡ true) n xs (AllPass-from_list_all p xs h))

pass_drop : (p : ℕ → Bool) (n : ℕ) (xs : List ℕ) → list_all p xs ≡ true → list_all p (drop n xs) ≡ true
pass_drop p n xs h = list_all-from_AllPass p (drop n xs) (All-drop (λ x. p x ≡ true) n xs (AllPass-from_list_all p xs h))

pass_trimmed : (p : ℕ → Bool) (xs : List ℕ) → list_all p xs ≡ true → list_all p (trimmed xs) ≡ true
pass_trimmed p xs h = pass_take p _ (trim_front xs) (pass_drop p _ xs h)

pass_without : (p : ℕ → Bool) (byte : ℕ) (xs : List ℕ) → list_all p xs ≡ true → list_all p (without_last byte xs) ≡ true
pass_without p byte xs h = elim (cases_Bool (slice_index xs (length xs - 1) == byte)) [
  | inl holds ↦ rw holds (pass_take p (length xs - 1) xs h)
  | inr fails ↦ rw fails h
]

pub value_bytes : (line : List ℕ) → list_all is_line_byte line ≡ true → list_all is_line_byte (setting_of line).value ≡ true
value_bytes line h = elim (cases_Bool (is_bracketed line)) [
  | inl holds ↦ rw holds (pass_trimmed is_line_byte (drop 1 (take (length line - 1) line)) (pass_drop is_line_byte 1 (take (length line - 1) line) (pass_take is_line_byte (length line - 1) line h)))
  | inr fails ↦
      let rest = drop (position_or_len is_blank line) line in
      let bare = trimmed rest in
      let cut = without_last 59 bare in
      rw fails (pass_take is_line_byte (length cut - position_or_len is_no_blank (reverse cut)) cut
      (pass_without is_line_byte 59 bare (pass_trimmed is_line_byte rest (pass_drop is_line_byte (position_or_len is_blank line) line h))))
]
