-- How a payload is read from left to right: what stands at the front, and the bytes behind it. The contracts of private functions
-- alone speak of it.
use Rattle.std.specs.Prelude.{◌≡◌, ℕ, zero, suc, List, [], ◌∷◌, length, take, drop, Option, Some, None, Result, Ok, Err, nat_lt, ◌==◌, if◌then◌else◌}
use Rattle.std.specs.Int.{Width, w16, w32, w64, byte_len, from_be_bytes}
use Rattle.fk_ledger.specs.declared.reading.PayloadErr.{PayloadErr}
use Rattle.fk_ledger.specs.declared.reading.PayloadErr.TheVariants.{Malformed, NoMemory}
use Rattle.fk_ledger.specs.declared.reading.Head.{Head}

infixl 10 ◌>>=◌
abbrev pub ◌>>=◌ : {A B : Type 0} → Option A → (A → Option B) → Option B
None >>= f = None
(Some x) >>= f = f x

-- what a function returned is what reading gives, unless memory ran out
abbrev pub Fails : {Y : Type 0} → PayloadErr → Option Y → Type 0
Fails NoMemory read = Unit {0}
Fails Malformed read = read ≡ None

abbrev pub Gives : {X Y : Type 0} → (X → Y) → Result X PayloadErr → Option Y → Type 0
Gives view (Ok x) read = read ≡ Some (view x)
Gives view (Err e) read = Fails e read

abbrev pub number_at : Width → List ℕ → Option (ℕ × List ℕ)
number_at w bytes = if nat_lt (length bytes) (byte_len w) then None else Some (from_be_bytes w (take (byte_len w) bytes), drop (byte_len w) bytes)

abbrev pub piece_at : ℕ → List ℕ → Option (List ℕ × List ℕ)
piece_at n bytes = if nat_lt (length bytes) n then None else Some (take n bytes, drop n bytes)

unfoldable pub byte_at : List ℕ → Option (ℕ × List ℕ)
byte_at [] = None
byte_at (byte ∷ rest) = Some (byte, rest)

unfoldable pub word_at : List ℕ → Option (List ℕ × List ℕ)
word_at bytes = do
  size ← number_at w16 bytes
  piece_at size.0 size.1

unfoldable pub texts_at : ℕ → List ℕ → Option (List (List ℕ) × List ℕ)
texts_at zero bytes = Some ([], bytes)
texts_at (suc n) bytes = do
  first ← word_at bytes
  others ← texts_at n first.1
  Some (first.0 ∷ others.0, others.1)

-- all of the bytes
unfoldable pub words_in : List ℕ → Option (List (List ℕ))
words_in bytes = do
  count ← byte_at bytes
  words ← texts_at count.0 count.1
  if length words.1 == 0 then Some words.0 else None

unfoldable pub head_at : List ℕ → Option (Head × List ℕ)
head_at bytes = do
  id ← number_at w64 bytes
  digest ← piece_at 32 id.1
  stamp ← number_at w64 digest.1
  moment ← number_at w64 stamp.1
  due ← number_at w64 moment.1
  ip ← number_at w32 due.1
  proto ← byte_at ip.1
  port ← number_at w16 proto.1
  Some (record { id = id.0; digest = digest.0; stamp = stamp.0; moment = moment.0; due = due.0; ip = ip.0; proto = proto.0; port = port.0 }, port.1)

-- two numbers
unfoldable pub pair_at : List ℕ → Option ((ℕ × ℕ) × List ℕ)
pair_at bytes = do
  first ← number_at w64 bytes
  second ← number_at w64 first.1
  Some ((first.0, second.0), second.1)
