-- What is known while the pairs of a list are read one by one.
use Rattle.std.proofs.Common.{◌≡◌, ℕ, ◌+◌, ◌<◌, ◌≤◌, Bool, true, false, List, [], ◌∷◌, ◌++◌, length, map, Option, Some, None, refl, sym, ◌∙◌, ap, arith, if◌then◌else◌, append_assoc, length-append}
use Rattle.std.specs.Prelude.{nat_le}
use Rattle.std.specs.Option.{option_map}
use Rattle.std.proofs.lemmas.Bool.{and_from, and_parts, false_from_ne_true, leb-true, le-leb}
use Rattle.std.proofs.lemmas.List.{append-nil}
use Rattle.fk_base.specs.PairText.{pair_in}
use Rattle.fk_base.specs.declared.pair.Pair.{Pair}
use Rattle.fk_values.specs.Values.{all_of, has_items_within, pairs_of_items}

pub no_items : (most : ℕ) (items : List (List ℕ)) → items ≡ [] → has_items_within most items ≡ false
no_items most items none = ap (has_items_within most) none

pub too_many_items : (most : ℕ) (items : List (List ℕ)) → most < length items → has_items_within most items ≡ false
too_many_items most items many =
    false_from_ne_true (has_items_within most items) (λ is. absurd (
    let few = leb-true (length items) most (and_parts (nat_le 1 (length items)) (nat_le (length items) most) is).1 in omega arith))

pub few_items : (most : ℕ) (items : List (List ℕ)) → 1 ≤ length items → length items ≤ most → has_items_within most items ≡ true
few_items most items some few =
    and_from (nat_le 1 (length items)) (nat_le (length items) most) (le-leb 1 (length items) some) (le-leb (length items) most few)

pub record IsPairsReading (items left : List (List ℕ)) (pairs : List Pair) : Type 0 where
  pub some : 1 ≤ length pairs
  pub count : length items ≡ length pairs + length left
  pub parts : all_of (map pair_in items) ≡ option_map (λ others. pairs ++ others) (all_of (map pair_in left))

push_all : (pairs : List Pair) (pair : Pair) (others : Option (List Pair)) →
    option_map (λ o. pairs ++ o) (option_map (λ xs. pair ∷ xs) others) ≡ option_map (λ o. (pairs ++ pair ∷ []) ++ o) others
push_all pairs pair None = refl
push_all pairs pair (Some others) = ap Some (sym (append_assoc pairs (pair ∷ []) others))

all_of-first : (item : List ℕ) (rest : List (List ℕ)) (pair : Pair) → Some pair ≡ pair_in item →
    all_of (map pair_in (item ∷ rest)) ≡ option_map (λ xs. pair ∷ xs) (all_of (map pair_in rest))
all_of-first item rest pair is = ap (λ (o : Option Pair). all_of (o ∷ map pair_in rest)) (sym is)

map_same : {X : Type 0} (o : Option (List X)) → o ≡ option_map (λ xs. xs) o
map_same None = refl
map_same (Some xs) = refl

pub pairs_begin : (items rest : List (List ℕ)) (item : List ℕ) (pair : Pair) (pairs : List Pair) → items ≡ item ∷ rest → Some pair ≡ pair_in item →
    pairs ≡ pair ∷ [] → IsPairsReading items rest pairs
pairs_begin items rest item pair pairs is found one =
    let size = ap length is in
    let ones = ap length one in
    record {
      some = omega arith;
      count = omega arith;
      parts = ap (λ (i : List (List ℕ)). all_of (map pair_in i)) is ∙ all_of-first item rest pair found
          ∙ ap (λ (p : List Pair). option_map (λ others. p ++ others) (all_of (map pair_in rest))) (sym one);
    }

pub pairs_go_on : (items left rest : List (List ℕ)) (item : List ℕ) (pair : Pair) (pairs next : List Pair) → left ≡ item ∷ rest → Some pair ≡ pair_in item →
    next ≡ pairs ++ pair ∷ [] → IsPairsReading items left pairs → IsPairsReading items rest next
pairs_go_on items left rest item pair pairs next is found next_is before =
    let size = ap length is in
    let grown : length next ≡ length pairs + 1 = ap length next_is ∙ length-append pairs (pair ∷ []) in
    let some = before.some in
    let count = before.count in
    record {
      some = omega arith;
      count = omega arith;
      parts = before.parts
          ∙ ap (λ (i : List (List ℕ)). option_map (λ others. pairs ++ others) (all_of (map pair_in i))) is
          ∙ ap (option_map (λ others. pairs ++ others)) (all_of-first item rest pair found)
          ∙ push_all pairs pair (all_of (map pair_in rest))
          ∙ ap (λ (p : List Pair). option_map (λ others. p ++ others) (all_of (map pair_in rest))) (sym next_is);
    }

none_of : (b : Bool) (o : Option (List Pair)) → o ≡ None → None ≡ (if b then o else None)
none_of true o is = sym is
none_of false o is = refl

pub pairs_wrong : (most : ℕ) (items left rest : List (List ℕ)) (item : List ℕ) (pairs : List Pair) → left ≡ item ∷ rest → None ≡ pair_in item →
    IsPairsReading items left pairs → None ≡ pairs_of_items most items
pairs_wrong most items left rest item pairs is wrong before =
    none_of (has_items_within most items) (all_of (map pair_in items)) (
    before.parts ∙ ap (λ (i : List (List ℕ)). option_map (λ others. pairs ++ others) (all_of (map pair_in i))) is
    ∙ ap (λ (o : Option Pair). option_map (λ others. pairs ++ others) (all_of (o ∷ map pair_in rest))) (sym wrong))

pub pairs_none : (most : ℕ) (items : List (List ℕ)) → items ≡ [] → None ≡ pairs_of_items most items
pairs_none most items none = sym (ap (pairs_of_items most) none)

pub pairs_first_wrong : (most : ℕ) (items rest : List (List ℕ)) (item : List ℕ) → items ≡ item ∷ rest → None ≡ pair_in item → None ≡ pairs_of_items most items
pairs_first_wrong most items rest item is wrong =
    none_of (has_items_within most items) (all_of (map pair_in items)) (
    ap (λ (i : List (List ℕ)). all_of (map pair_in i)) is ∙ ap (λ (o : Option Pair). all_of (o ∷ map pair_in rest)) (sym wrong))

pub pairs_full : (most : ℕ) (items left rest : List (List ℕ)) (item : List ℕ) (pairs : List Pair) → left ≡ item ∷ rest → length pairs ≡ most →
    IsPairsReading items left pairs → None ≡ pairs_of_items most items
pairs_full most items left rest item pairs is full before =
    let size = ap length is in
    let count = before.count in
    let many : most < length items = omega arith in
    sym (ap (λ (b : Bool). if b then all_of (map pair_in items) else None) (too_many_items most items many))

pub pairs_end : (most : ℕ) (items left : List (List ℕ)) (pairs : List Pair) → left ≡ [] → length pairs ≤ most → IsPairsReading items left pairs →
    Some pairs ≡ pairs_of_items most items
pairs_end most items left pairs is few before =
    let size = ap length is in
    let count = before.count in
    let some = before.some in
    let all : all_of (map pair_in items) ≡ Some pairs =
    before.parts ∙ ap (λ (i : List (List ℕ)). option_map (λ others. pairs ++ others) (all_of (map pair_in i))) is ∙ ap Some (append-nil pairs) in
    sym (ap (λ (b : Bool). if b then all_of (map pair_in items) else None) (few_items most items (omega arith) (omega arith)) ∙ all)
