-- The lines of an input, as its bytes say.
use Rattle.std.specs.Prelude.{◌≡◌, ◌⊎◌, ℕ, ◌+◌, ◌<◌, ◌≤◌, ◌==◌, ◌||◌, nat_lt, min, Bool, IsTrue, true, false, if◌then◌else◌, List, [], ◌∷◌, length, Option, Some, None}
use Rattle.std.specs.List.{onto_first}
use Rattle.fk_input.specs.declared.fault.Fault.{Fault}
use Rattle.fk_input.specs.declared.fault.LineFault.TheVariants.{BadLine, TooLong}

-- the most bytes of a line, its line feed left out
abbrev pub line_limit : ℕ
line_limit = 1600

-- the most bytes of an input
abbrev pub input_limit : ℕ
input_limit = 67108864

-- The bytes, cut behind each line feed. What follows the last line feed is a piece too; where nothing does, there is none.
abbrev pub pieces : List ℕ → List (List ℕ)
pieces [] = []
pieces (b ∷ bs) = if b == 10 then (b ∷ []) ∷ pieces bs else onto_first b (pieces bs)

-- the bytes are one piece: they are not empty, and have no line feed but at their end
abbrev pub IsPiece : List ℕ → Type 0
IsPiece bytes = pieces bytes ≡ bytes ∷ []

-- a line feed is among the bytes; in a piece it is the last byte
abbrev pub is_fed : List ℕ → Bool
is_fed [] = false
is_fed (b ∷ bs) = b == 10 || is_fed bs

-- the line of a piece: its bytes without the line feed
abbrev pub content : List ℕ → List ℕ
content [] = []
content (b ∷ bs) = if b == 10 then [] else b ∷ content bs

-- The input passes its limit in the piece that begins at this offset. Of a line above the limit only the bytes up to
-- the one that is too many count, since the earlier fault decides.
abbrev pub passes_limit : ℕ → List ℕ → Bool
passes_limit offset piece = nat_lt input_limit (offset + min (length piece) (line_limit + 1))

-- What the pieces of an input say, from this offset and this number of a line on: the values of the lines, one behind
-- the other, up to the first fault. IsLine says which values a line has.
pub data Reads {T : Type 0} (IsLine : List ℕ → T → Type 0) : ℕ → ℕ → List (List ℕ) → List T → Option Fault → Type 0 where
  end : {offset number : ℕ} → Reads IsLine offset number [] [] None
  line : {offset number : ℕ} {piece : List ℕ} {value : T} {pieces : List (List ℕ)} {values : List T} {fault : Option Fault}
      → passes_limit offset piece ≡ false
      → length (content piece) ≤ line_limit
      → IsLine (content piece) value
      → Reads IsLine (offset + length piece) (number + 1) pieces values fault
      → Reads IsLine offset number (piece ∷ pieces) (value ∷ values) fault
  bad : {offset number : ℕ} {piece : List ℕ} {pieces : List (List ℕ)}
      → passes_limit offset piece ≡ false
      → (line_limit < length (content piece)) ⊎ ((value : T) → IsLine (content piece) value → ⊥)
      → Reads IsLine offset number (piece ∷ pieces) [] (Some (record { line = number; what = BadLine }))
  long : {offset number : ℕ} {piece : List ℕ} {pieces : List (List ℕ)}
      → passes_limit offset piece ≡ true
      → Reads IsLine offset number (piece ∷ pieces) [] (Some (record { line = number; what = TooLong }))

-- each line has one value at most
abbrev pub HaveOneValue : {T : Type 0} → (List ℕ → T → Bool) → Type 0
HaveOneValue {T} is_line = (line : List ℕ) (a b : T) → IsTrue (is_line line a) → IsTrue (is_line line b) → a ≡ b

-- what a whole input says
abbrev pub ReadsText : {T : Type 0} → (List ℕ → T → Bool) → List ℕ → List T → Option Fault → Type 0
ReadsText is_line text values fault = Reads (λ line value. IsTrue (is_line line value)) 0 1 (pieces text) values fault
