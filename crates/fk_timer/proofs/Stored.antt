-- What the heap stores, and what waits for it.
use Rattle.std.proofs.Common.{◌≡◌, ◌≤◌, ◌<◌, ℕ, ◌==◌, ◌||◌, ◌&&◌, nat_lt, not, true, false, cond, List, [], ◌∷◌, get_or, map, filter, ◌+◌, refl, sym, ap, ◌∙◌, subst, arith}
use Rattle.std.specs.List.{All, sum_by, list_any}
use Rattle.std.specs.List.Sorted.{IsPermutation}
use Rattle.std.specs.Ordering.{is_lt, nat_cmp, ordering_then}
use Rattle.std.specs.BinaryHeap.{IsUpperBound}
use Rattle.std.specs.declared.cmp.Ordering.TheVariants.{Less, Equal, Greater}
use Rattle.std.proofs.lemmas.Bool.{eqb-true}
use Rattle.std.proofs.lemmas.Bool.Decides.{nat_tests}
use Rattle.std.proofs.lemmas.List.Sorted.{IsPermutation-map, sum_by-IsPermutation, length_permutation}
use Rattle.std.proofs.lemmas.List.Elements.{All-cons, All-nil, All-weaker}
use Rattle.fk_timer.specs.Schedule.{Entry, IsInOrder, precedes, holds, with_entry}
use Rattle.fk_timer.specs.Private.{Due, entry_of, ranked, EachOnce, times, in_order}
use Rattle.fk_timer.proofs.Sums.{Same, Same-in_order, holds-times, holds-same, times-cons, once-same, in_order-same, All-in_order}

abbrev pub entries_of : List Due → List Entry
entries_of items = map entry_of items

-- what is stored in another order holds the same
pub Same-permuted : (xs ys : List Due) → IsPermutation xs ys → Same (entries_of xs) (entries_of ys)
Same-permuted xs ys permuted measure =
    sym (sum_by-IsPermutation measure (entries_of xs) (entries_of ys) (IsPermutation-map entry_of xs ys permuted))

-- what the heap ranks lower falls due later
ranks-later : (a b : Due) → is_lt (ranked a b) ≡ precedes (entry_of b) (entry_of a)
ranks-later a b =
    elim (nat_lt b.0.0 a.0.0) as (λ early. is_lt (ordering_then (cond early Less (cond (b.0.0 == a.0.0) Equal Greater)) (nat_cmp b.0.1 a.0.1)) ≡ (early || (b.0.0 == a.0.0 && nat_lt b.0.1 a.0.1))) [
      | true ↦ refl
      | false ↦ elim (b.0.0 == a.0.0) as (λ level. is_lt (ordering_then (cond level Equal Greater) (nat_cmp b.0.1 a.0.1)) ≡ (level && nat_lt b.0.1 a.0.1)) [
        | true ↦ elim (nat_lt b.0.1 a.0.1) as (λ less. is_lt (cond less Less (cond (b.0.1 == a.0.1) Equal Greater)) ≡ less) [
          | true ↦ refl
          | false ↦ elim (b.0.1 == a.0.1) as (λ same. is_lt (cond same Equal Greater) ≡ false) [ true ↦ refl | false ↦ refl ]
        ]
        | false ↦ refl
      ]
    ]

-- none of the entries precedes what none of the stored ones ranks above
pub none-before : (first : Due) (items : List Due) → IsUpperBound ranked first items → All (λ entry. precedes entry (entry_of first) ≡ false) (entries_of items)
none-before first [] top = All-nil (λ entry. precedes entry (entry_of first) ≡ false)
none-before first (due ∷ items) top =
    All-cons (λ entry. precedes entry (entry_of first) ≡ false) (entry_of due) (entries_of items) (sym (ranks-later first due) ∙ top.0) (none-before first items top.1)

not-earlier : (moment : ℕ) (first entry : Entry) → moment < first.moment → precedes entry first ≡ false → moment < entry.moment
not-earlier moment first entry later after = grind (arith, nat_tests)

-- where the first is not due, none is
pub none-due : (moment : ℕ) (first : Due) (items : List Due) → moment < first.0.0 → IsUpperBound ranked first items → All (λ entry. moment < entry.moment) (in_order (entries_of items))
none-due moment first items later top =
    All-in_order (λ entry. moment < entry.moment) (entries_of items)
    (All-weaker (λ entry. precedes entry (entry_of first) ≡ false) (λ entry. moment < entry.moment) (λ entry. not-earlier moment (entry_of first) entry later) (entries_of items) (none-before first items top))

-- one more, of a number that nothing has
module _ (items new : List Due) (due : Due) (permuted : IsPermutation (due ∷ items) new) (once : EachOnce (entries_of items)) (unknown : holds due.0.1 (in_order (entries_of items)) ≡ false) where
  apart : times due.0.1 (entries_of items) ≡ 0
  apart =
      let none : nat_lt 0 (times due.0.1 (entries_of items)) ≡ false =
      sym (holds-times due.0.1 (entries_of items)) ∙ sym (holds-same due.0.1 (in_order (entries_of items)) (entries_of items) (Same-in_order (entries_of items))) ∙ unknown in
      grind (arith, nat_tests)

  once-more : EachOnce (entry_of due ∷ entries_of items)
  once-more id =
      let cons = times-cons id (entry_of due) (entries_of items) in
      let most = once id in
      (elim (due.0.1 == id) as (λ b. due.0.1 == id ≡ b → times id (entry_of due ∷ entries_of items) ≡ cond b 1 0 + times id (entries_of items) → times id (entry_of due ∷ entries_of items) ≤ 1) [
        | true ↦ λ is whole.
            let none : times id (entries_of items) ≡ 0 = subst (λ (n : ℕ). times n (entries_of items) ≡ 0) (eqb-true due.0.1 id is) apart in
            omega (arith, whole, none)
        | false ↦ λ is whole. omega (arith, whole, most)
      ]) refl cons

  pub once-put : EachOnce (entries_of new)
  once-put = once-same (entry_of due ∷ entries_of items) (entries_of new) (Same-permuted (due ∷ items) new permuted) once-more

  pub put-in_order : in_order (entries_of new) ≡ with_entry (entry_of due) (in_order (entries_of items))
  put-in_order = sym (in_order-same (entry_of due ∷ entries_of items) (entries_of new) once-more (Same-permuted (due ∷ items) new permuted))

-- those of other numbers
pub filter-stored : (id : ℕ) (items : List Due) → entries_of (filter (λ due. not (due.0.1 == id)) items) ≡ filter (λ entry. not (entry.id == id)) (entries_of items)
filter-stored id [] = refl
filter-stored id (due ∷ items) =
    let ih = filter-stored id items in
    elim (due.0.1 == id) as (λ b. entries_of (cond (not b) (due ∷ filter (λ due. not (due.0.1 == id)) items) (filter (λ due. not (due.0.1 == id)) items)) ≡ cond (not b) (entry_of due ∷ filter (λ entry. not (entry.id == id)) (entries_of items)) (filter (λ entry. not (entry.id == id)) (entries_of items))) [
      | true ↦ ih
      | false ↦ ap (λ entries. entry_of due ∷ entries) ih
    ]

-- what was taken out is what stood on top
pub on_top : (items rest : List Due) (top taken : Due) → IsPermutation items (taken ∷ rest) → top ≡ get_or items 0 top → taken ≡ get_or items 0 taken → top ≡ taken
on_top [] rest top taken permuted first second = absurd (let count = length_permutation [] (taken ∷ rest) permuted in omega (arith, count))
on_top (item ∷ items) rest top taken permuted first second = first ∙ sym second

pub Same-left : (id : ℕ) (items new : List Due) → IsPermutation (filter (λ due. not (due.0.1 == id)) items) new → Same (entries_of new) (filter (λ entry. not (entry.id == id)) (entries_of items))
Same-left id items new permuted measure =
    sym (Same-permuted (filter (λ due. not (due.0.1 == id)) items) new permuted measure) ∙ ap (sum_by measure) (filter-stored id items)

pub holds-stored : (id : ℕ) (items : List Due) → holds id (entries_of items) ≡ list_any (λ due. due.0.1 == id) items
holds-stored id [] = refl
holds-stored id (due ∷ items) =
    let ih = holds-stored id items in
    ap (λ b. (due.0.1 == id) || b) ih
