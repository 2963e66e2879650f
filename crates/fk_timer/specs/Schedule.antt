-- What waits for its moment, and in which order it falls due.
use Rattle.std.specs.Prelude.{◌≡◌, ℕ, ◌≤◌, ◌==◌, ◌&&◌, ◌||◌, nat_lt, not, Bool, true, false, List, [], ◌∷◌, filter, insert, All}
use Rattle.std.specs.List.{list_any, position_or_len}

-- a number, and the moment at which it falls due
pub record Entry : Type 0 where
  pub id : ℕ
  pub moment : ℕ

-- where a timer stands
pub record Schedule : Type 0 where
  -- what waits, in the order in which it falls due
  pub entries : List Entry
  -- how many more it has memory for, before it has to grow
  pub room : ℕ

-- the entry falls due before the other: at an earlier moment, or at the same one with a lower number
abbrev pub precedes : Entry → Entry → Bool
precedes entry other = nat_lt entry.moment other.moment || (entry.moment == other.moment && nat_lt entry.id other.id)

-- an entry has this number
abbrev pub holds : ℕ → List Entry → Bool
holds id entries = list_any (λ entry. entry.id == id) entries

-- the entries with one more, which stands in front of the first that it precedes
abbrev pub with_entry : Entry → List Entry → List Entry
with_entry entry entries = insert entries (position_or_len (λ other. precedes entry other) entries) entry

-- the entries of other numbers
abbrev pub without : ℕ → List Entry → List Entry
without id entries = filter (λ entry. not (entry.id == id)) entries

-- an entry of this number was taken out that is due at the moment and precedes every other, none of which has its number
pub record IsTakenFirst (moment id : ℕ) (old new : List Entry) : Type 0 where
  pub entry : Entry
  pub number : entry.id ≡ id
  pub due : entry.moment ≤ moment
  pub taken : old ≡ entry ∷ new
  pub first : All (λ other. precedes entry other ≡ true) new
  pub once : holds id new ≡ false

-- each entry precedes all behind it, none of which has its number
abbrev pub IsInOrder : List Entry → Type 0
IsInOrder [] = Unit {0}
IsInOrder (entry ∷ entries) = All (λ other. precedes entry other ≡ true) entries × (holds entry.id entries ≡ false) × IsInOrder entries
