-- A right padding is told by the last byte.
use Rattle.std.proofs.Common.{◌≡◌, ℕ, ◌+◌, ◌-◌, ◌<◌, ◌≤◌, List, [], ◌∷◌, ◌++◌, length, get_or, take, drop, replicate, refl, sym, ap, ◌∙◌, subst, arith}
use Rattle.std.proofs.lemmas.List.{drop_at, get_or-append_right, get_or-replicate, length-append, length-drop, length-replicate, take-append-drop, take_at, take_rest}
use Rattle.std.proofs.lemmas.List.Elements.{All-head, All-tail}
use Rattle.std.specs.List.{All}
use Rattle.fk_cbc.specs.Padding.{padding}

-- what the last byte says of a text that ends in a right padding
pub record IsPaddedBy (text plain : List ℕ) (n : ℕ) : Type 0 where
  pub last : get_or text (length text - 1) 0 ≡ n
  pub len : length text ≡ length plain + n
  pub front : take (length text - n) text ≡ plain
  pub back : drop (length text - n) text ≡ padding n

IsPaddedBy-padding : (plain : List ℕ) (n : ℕ) → 1 ≤ n → IsPaddedBy (plain ++ padding n) plain n
IsPaddedBy-padding plain n some =
    let total : length (plain ++ padding n) ≡ length plain + n = omega (arith, length-append plain (padding n), length-replicate n n) in
    let front : length plain ≡ length (plain ++ padding n) - n = omega arith in
    let below : length (plain ++ padding n) - 1 - length plain < n = omega arith in
    record {
      last =
          get_or-append_right plain (padding n) (length plain) (length (plain ++ padding n) - 1) 0 refl (omega arith)
          ∙ get_or-replicate n (length (plain ++ padding n) - 1 - length plain) n 0 below;
      len = total;
      front = take_at plain (padding n) (length (plain ++ padding n) - n) front;
      back = drop_at plain (padding n) (length (plain ++ padding n) - n) front;
    }

pub IsPaddedBy-of : (text plain : List ℕ) (n : ℕ) → 1 ≤ n → text ≡ plain ++ padding n → IsPaddedBy text plain n
IsPaddedBy-of text plain n some e = subst (λ t. IsPaddedBy t plain n) (sym e) (IsPaddedBy-padding plain n some)

-- a list of one value is the repeated value
pub replicate-from_All : (xs : List ℕ) (v : ℕ) → All (λ b. b ≡ v) xs → xs ≡ replicate (length xs) v
replicate-from_All [] v h = refl
replicate-from_All (x ∷ xs) v h =
    let first : x ≡ v = All-head (λ b. b ≡ v) x xs h in
    let rest : xs ≡ replicate (length xs) v = replicate-from_All xs v (All-tail (λ b. b ≡ v) x xs h) in
    λ i. first i ∷ rest i

-- a text whose last n bytes are v, which is n
pub padded_by : (text : List ℕ) (n v : ℕ) → v ≡ n → n ≤ length text
    → All (λ b. b ≡ v) (take (length text - (length text - n)) (drop (length text - n) text))
    → text ≡ take (length text - n) text ++ padding (length text - (length text - n))
padded_by text n v e room h =
    let k : length text - (length text - n) ≡ n = omega arith in
    let size : length (drop (length text - n) text) ≡ n = omega (arith, length-drop (length text - n) text) in
    let all : All (λ b. b ≡ v) (drop (length text - n) text) = subst (All (λ b. b ≡ v)) (take_rest text (length text - n)) h in
    let back : drop (length text - n) text ≡ padding n = replicate-from_All (drop (length text - n) text) v all ∙ ap (λ m. replicate m v) size ∙ ap (λ w. replicate n w) e in
    sym (take-append-drop (length text - n) text) ∙ ap (λ r. take (length text - n) text ++ r) back ∙ ap (λ m. take (length text - n) text ++ padding m) (sym k)
