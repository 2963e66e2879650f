-- A worked row: of three bytes, all of them on the disk, a write of two at the third goes one past the end. Before its sync a
-- crash leaves the first two as they were and any byte behind them, or any two; after it, the four bytes that a read gives.
use Rattle.std.proofs.Common.{◌≡◌, ◌⊎◌, ℕ, zero, suc, get_or, ◌<◌, ◌≤◌, true, false, List, [], ◌∷◌, refl, inl, inr, arith}
use Rattle.fk_memory.specs.Area.{AreaState, at_rest, MayHold, after_write, after_cut, after_sync}

abbrev written : AreaState
written = after_write 2 (120 ∷ 121 ∷ []) false 0 (at_rest (97 ∷ 98 ∷ 99 ∷ []))

reads : written.reads ≡ 97 ∷ 98 ∷ 120 ∷ 121 ∷ []
reads = refl

-- where the write fails with one byte done, a read gives this byte; with none, or with more than there are, none or both of them
abbrev failed : ℕ → AreaState
failed done = after_write 2 (120 ∷ 121 ∷ []) true done (at_rest (97 ∷ 98 ∷ 99 ∷ []))

one_is_done : (failed 1).reads ≡ 97 ∷ 98 ∷ 120 ∷ []
one_is_done = refl

none_is_done : (failed 0).reads ≡ 97 ∷ 98 ∷ 99 ∷ []
none_is_done = refl

both_are_done : (failed 7).reads ≡ 97 ∷ 98 ∷ 120 ∷ 121 ∷ []
both_are_done = refl

-- a crash then leaves what it leaves where the write did not fail
same_images : (done : ℕ) (image : List ℕ) → MayHold (failed done) image → MayHold written image
same_images done image held = record { no_shorter = held.no_shorter; no_longer = held.no_longer; kept = held.kept }

-- a cut of three bytes to one takes two away; where it fails with one done, it takes the last
abbrev cut : ℕ → AreaState
cut done = after_cut 1 true done (at_rest (97 ∷ 98 ∷ 99 ∷ []))

last_is_taken : (cut 1).reads ≡ 97 ∷ 98 ∷ []
last_is_taken = refl

none_is_taken : (cut 0).reads ≡ 97 ∷ 98 ∷ 99 ∷ []
none_is_taken = refl

two_are_taken : (cut 7).reads ≡ 97 ∷ []
two_are_taken = refl

-- every image, and no other
abbrev Images : List ℕ → Type 0
Images image = ((a : ℕ) × (image ≡ 97 ∷ 98 ∷ a ∷ [])) ⊎ ((a : ℕ) × (b : ℕ) × (image ≡ 97 ∷ 98 ∷ a ∷ b ∷ []))

every : (image : List ℕ) → MayHold written image → Images image
every [] held = absurd (omega (arith, held.no_shorter))
every (x ∷ []) held = absurd (omega (arith, held.no_shorter))
every (x ∷ y ∷ []) held = absurd (omega (arith, held.no_shorter))
every (x ∷ y ∷ a ∷ []) held =
    let first : x ≡ 97 = held.kept 0 (omega arith) (omega arith) (inl (omega arith), tt) in
    let second : y ≡ 98 = held.kept 1 (omega arith) (omega arith) (inl (omega arith), tt) in
    inl (a, rw (first, second) refl)
every (x ∷ y ∷ a ∷ b ∷ []) held =
    let first : x ≡ 97 = held.kept 0 (omega arith) (omega arith) (inl (omega arith), tt) in
    let second : y ≡ 98 = held.kept 1 (omega arith) (omega arith) (inl (omega arith), tt) in
    inr (a, b, rw (first, second) refl)
every (x ∷ y ∷ a ∷ b ∷ c ∷ more) held = absurd (omega (arith, held.no_longer))

-- after the sync there is one
after : after_sync false written ≡ at_rest (97 ∷ 98 ∷ 120 ∷ 121 ∷ [])
after = refl

-- and each of those may be left
kept : (a : ℕ) (more : List ℕ) (i : ℕ) → i < 3 → (i < 2) ⊎ (4 ≤ i) → get_or (97 ∷ 98 ∷ a ∷ more) i 0 ≡ get_or (97 ∷ 98 ∷ 99 ∷ []) i 0
kept a more zero below out = refl
kept a more (suc zero) below out = refl
kept a more (suc (suc i)) below out = elim out [ inl low ↦ absurd (omega arith) | inr high ↦ absurd (omega arith) ]

each_of_three : (a : ℕ) → MayHold written (97 ∷ 98 ∷ a ∷ [])
each_of_three a = record { no_shorter = omega arith; no_longer = omega arith; kept = λ i inside below out. kept a [] i below out.0 }

each_of_four : (a b : ℕ) → MayHold written (97 ∷ 98 ∷ a ∷ b ∷ [])
each_of_four a b = record { no_shorter = omega arith; no_longer = omega arith; kept = λ i inside below out. kept a (b ∷ []) i below out.0 }
