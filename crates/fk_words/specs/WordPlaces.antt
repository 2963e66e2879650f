-- Where words stand in a command line.
use Rattle.std.specs.Prelude.{ℕ, Bool, false, List, [], ◌∷◌, Option, Some, None, is_some, slice_get, unwrap_or, if◌then◌else◌}
use Rattle.std.specs.Option.{option_and_then}
use Rattle.std.specs.Str.{bytes_eq}

-- the word at a place, counted from 0
abbrev pub word_at : List (List ℕ) → ℕ → List ℕ
word_at words at = unwrap_or (slice_get words at) []

-- the words behind the first such word, where there is one
abbrev pub words_behind : List ℕ → List (List ℕ) → Option (List (List ℕ))
words_behind text [] = None
words_behind text (word ∷ words) = if bytes_eq word text then Some words else words_behind text words

-- such a word is there
abbrev pub is_word : List ℕ → List (List ℕ) → Bool
is_word text words = is_some (words_behind text words)

-- the word behind the first such word
abbrev pub word_behind : List ℕ → List (List ℕ) → Option (List ℕ)
word_behind text words = option_and_then (λ behind. slice_get behind 0) (words_behind text words)

-- there is one word, this one
abbrev pub is_only : List ℕ → List (List ℕ) → Bool
is_only text [] = false
is_only text (word ∷ []) = bytes_eq word text
is_only text (word ∷ other ∷ words) = false
