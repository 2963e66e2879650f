-- An area is cut into entries in one way.
use Rattle.std.proofs.Common.{◌≡◌, ◌⊎◌, ℕ, ◌<◌, List, [], ◌∷◌, ◌++◌, length, take, drop, get_or, refl, inl, inr, ap, ◌∙◌, sym, subst, arith}
use Rattle.std.specs.List.{AllByRecursion}
use Rattle.std.specs.Int.{w32, to_be_bytes, from_be_bytes}
use Rattle.std.proofs.lemmas.Nat.{from_be_bytes-to_be_bytes_4}
use Rattle.std.proofs.lemmas.List.{append_assoc, append_cancel_left, length-append, take_at, drop_at}
use Rattle.fk_journal.specs.Entries.{Content, IsContent, body, entry_bytes, entries_bytes, place_behind, IsClosedBehind, HoldsEntries, IsDamagedAt}
use Rattle.fk_journal.specs.Keeps.{SameEntries}
use Rattle.fk_journal.proofs.Tails.{front, length_4}
use Rattle.fk_journal.proofs.Contents.{NoContent}

same_content : (c d : Content) → c.kind ≡ d.kind → c.payload ≡ d.payload → c ≡ d
same_content c d kind payload =
    let of : ℕ → List ℕ → Content = λ k p. record { kind = k; payload = p } in
    ap (λ k. of k c.payload) kind ∙ ap (of d.kind) payload

-- one entry in front of two rests
one_entry : (c d : Content) (x y : List ℕ) → IsContent c → IsContent d → body c ++ x ≡ body d ++ y → (c ≡ d) × (x ≡ y)
one_entry c d x y c_is d_is same =
    let head : Content → List ℕ = λ e. to_be_bytes w32 (length e.payload) in
    let left : head c ++ (c.kind ∷ c.payload ++ x) ≡ head d ++ (d.kind ∷ d.payload ++ y) =
    sym (append_assoc (head c) (c.kind ∷ c.payload) x) ∙ same ∙ append_assoc (head d) (d.kind ∷ d.payload) y in
    let heads : head c ≡ head d =
    sym (take_at (head c) (c.kind ∷ c.payload ++ x) 4 (length_4 (length c.payload))) ∙ ap (take 4) left ∙ take_at (head d) (d.kind ∷ d.payload ++ y) 4 (length_4 (length d.payload)) in
    let tails : c.kind ∷ c.payload ++ x ≡ d.kind ∷ d.payload ++ y =
    sym (drop_at (head c) (c.kind ∷ c.payload ++ x) 4 (length_4 (length c.payload))) ∙ ap (drop 4) left ∙ drop_at (head d) (d.kind ∷ d.payload ++ y) 4 (length_4 (length d.payload)) in
    let sizes : length c.payload ≡ length d.payload =
    sym (from_be_bytes-to_be_bytes_4 (length c.payload) c_is.size) ∙ ap (from_be_bytes w32) heads ∙ from_be_bytes-to_be_bytes_4 (length d.payload) d_is.size in
    let kinds : c.kind ≡ d.kind = cc in
    let rests : c.payload ++ x ≡ d.payload ++ y = cc in
    let payloads : c.payload ≡ d.payload =
    sym (take_at c.payload x (length d.payload) sizes) ∙ ap (take (length d.payload)) rests ∙ take_at d.payload y (length d.payload) refl in
    (same_content c d kinds payloads, append_cancel_left d.payload x y (ap (λ p. p ++ x) (sym payloads) ∙ rests))

-- the first begins with an entry, and ends with the second
pub record Entered (t u : List ℕ) : Type 0 where
  pub content : Content
  pub others : List Content
  pub is : IsContent content
  pub bytes : t ≡ entry_bytes content ++ (entries_bytes others ++ u)

-- Two lists of entries in front of two rests: they are the same, or one rest goes on with an entry.
pub two_lists : (a b : List Content) (t u : List ℕ) → AllByRecursion IsContent a → AllByRecursion IsContent b → entries_bytes a ++ t ≡ entries_bytes b ++ u
    → ((a ≡ b) × (t ≡ u)) ⊎ (Entered t u ⊎ Entered u t)
two_lists [] [] t u all_a all_b same = inl (refl, same)
two_lists [] (d ∷ ds) t u all_a all_b same =
    inr (inl (record { content = d; others = ds; is = all_b.0; bytes = same ∙ append_assoc (entry_bytes d) (entries_bytes ds) u }))
two_lists (c ∷ cs) [] t u all_a all_b same =
    inr (inr (record { content = c; others = cs; is = all_a.0; bytes = sym same ∙ append_assoc (entry_bytes c) (entries_bytes cs) t }))
two_lists (c ∷ cs) (d ∷ ds) t u all_a all_b same =
    let left : entry_bytes c ++ (entries_bytes cs ++ t) ≡ entry_bytes d ++ (entries_bytes ds ++ u) =
    sym (append_assoc (entry_bytes c) (entries_bytes cs) t) ∙ same ∙ append_assoc (entry_bytes d) (entries_bytes ds) u in
    let behind : body c ++ (entries_bytes cs ++ t) ≡ body d ++ (entries_bytes ds ++ u) = ap (drop 1) left in
    let r = one_entry c d (entries_bytes cs ++ t) (entries_bytes ds ++ u) all_a.0 all_b.0 behind in
    elim (two_lists cs ds t u all_a.1 all_b.1 r.1) [
      | inl both ↦ inl (ap (λ e. e ∷ cs) r.0 ∙ ap (λ es. d ∷ es) both.0, both.1)
      | inr goes_on ↦ inr goes_on
    ]

-- a gate that isn't open begins no entry
closed_enters : (gate : ℕ) (rest u : List ℕ) → (gate ≡ 1 → ⊥) → Entered (gate ∷ rest) u → ⊥
closed_enters gate rest u closed enters =
    closed (ap (λ bytes. get_or bytes 0 0) enters.bytes)

starts : (others : List Content) (h : ℕ) (s : List ℕ) → (gate : ℕ) × (more : List ℕ) × (entries_bytes others ++ h ∷ s ≡ gate ∷ more)
starts [] h s = (h, s, refl)
starts (c ∷ cs) h s = (1, (body c ++ entries_bytes cs) ++ h ∷ s, refl)

-- neither does one behind which no entry stands
broken_enters : (rest : List ℕ) (h : ℕ) (s : List ℕ) → NoContent rest → Entered (1 ∷ rest) (h ∷ s) → ⊥
broken_enters rest h s none enters =
    let next = starts enters.others h s in
    none enters.content next.0 next.1 enters.is (ap (drop 1) enters.bytes ∙ ap (λ r. body enters.content ++ r) next.2)

behind_format : (a b : List Content) (t u area : List ℕ) → area ≡ front a ++ t → area ≡ front b ++ u → entries_bytes a ++ t ≡ entries_bytes b ++ u
behind_format a b t u area first second = ap (drop 1) (sym first ∙ second)

-- an area of less than three bytes has no entry
short_empty : (contents : List Content) (area : List ℕ) → length area < 3 → IsClosedBehind contents area → contents ≡ []
short_empty [] area short held = refl
short_empty (c ∷ cs) area short held =
    absurd (omega (
      arith,
      short,
      ap length held.3.bytes,
      length-append (front (c ∷ cs)) (held.0 ∷ held.1),
      length-append (entry_bytes c) (entries_bytes cs),
      length-append (to_be_bytes w32 (length c.payload)) (c.kind ∷ c.payload),
      length_4 (length c.payload),
    ))

pub one_list : (area : List ℕ) (a b : List Content) → HoldsEntries area a → HoldsEntries area b → a ≡ b
one_list area a b (inl x) (inl y) = x.1 ∙ sym y.1
one_list area a b (inl x) (inr y) = x.1 ∙ sym (short_empty b area x.0 y)
one_list area a b (inr x) (inl y) = short_empty a area y.0 x ∙ sym y.1
one_list area a b (inr x) (inr y) =
    elim (two_lists a b (x.0 ∷ x.1) (y.0 ∷ y.1) x.3.each y.3.each (behind_format a b (x.0 ∷ x.1) (y.0 ∷ y.1) area x.3.bytes y.3.bytes)) [
      | inl both ↦ both.0
      | inr goes_on ↦ elim goes_on [
        | inl left ↦ absurd (closed_enters x.0 x.1 (y.0 ∷ y.1) x.2 left)
        | inr right ↦ absurd (closed_enters y.0 y.1 (x.0 ∷ x.1) y.2 right)
      ]
    ]

pub not_both : (area : List ℕ) (contents : List Content) (place : ℕ) → HoldsEntries area contents → IsDamagedAt area place → ⊥
not_both area contents place (inl x) (long, wrong) = omega (arith, x.0, long)
not_both area contents place (inr x) (long, inl format) = format.0 (ap (λ bytes. get_or bytes 0 0) x.3.bytes)
not_both area contents place (inr x) (long, inr (others, rest, begins, broken, at)) =
    elim (two_lists contents others (x.0 ∷ x.1) (1 ∷ broken.0) x.3.each begins.each
    (behind_format contents others (x.0 ∷ x.1) (1 ∷ broken.0) area x.3.bytes (begins.bytes ∙ ap (λ r. front others ++ r) broken.1))) [
      | inl both ↦ x.2 (ap (λ bytes. get_or bytes 0 0) both.1)
      | inr goes_on ↦ elim goes_on [
        | inl left ↦ closed_enters x.0 x.1 (1 ∷ broken.0) x.2 left
        | inr right ↦ broken_enters broken.0 x.0 x.1 broken.2 right
      ]
    ]

pub one_place : (area : List ℕ) (a b : ℕ) → IsDamagedAt area a → IsDamagedAt area b → a ≡ b
one_place area a b (long, inl format) (also, inl other) = format.1 ∙ sym other.1
one_place area a b (long, inl format) (also, inr (others, rest, begins, broken, at)) = absurd (format.0 (ap (λ bytes. get_or bytes 0 0) begins.bytes))
one_place area a b (long, inr (others, rest, begins, broken, at)) (also, inl format) = absurd (format.0 (ap (λ bytes. get_or bytes 0 0) begins.bytes))
one_place area a b (long, inr (cs, rest, begins, broken, at)) (also, inr (ds, other, starts_with, wrong, place)) =
    elim (two_lists cs ds (1 ∷ broken.0) (1 ∷ wrong.0) begins.each starts_with.each
    (behind_format cs ds (1 ∷ broken.0) (1 ∷ wrong.0) area (begins.bytes ∙ ap (λ r. front cs ++ r) broken.1) (starts_with.bytes ∙ ap (λ r. front ds ++ r) wrong.1))) [
      | inl both ↦ at ∙ ap place_behind both.0 ∙ sym place
      | inr goes_on ↦ elim goes_on [
        | inl left ↦ absurd (broken_enters broken.0 1 wrong.0 broken.2 left)
        | inr right ↦ absurd (broken_enters wrong.0 1 broken.0 wrong.2 right)
      ]
    ]

pub same_held : (old new : List ℕ) (contents : List Content) → SameEntries old new → HoldsEntries old contents → HoldsEntries new contents
same_held old new contents (inl same) held = subst (λ (bytes : List ℕ). HoldsEntries bytes contents) (sym same) held
same_held old new contents (inr both) (inl empty) = inl (both.1, empty.1)
same_held old new contents (inr both) (inr closed) = inl (both.1, short_empty contents old both.0 closed)
