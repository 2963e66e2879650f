-- A function that is applied some times more.
use Rattle.std.proofs.Common.{◌≡◌, ℕ, ◌+◌, ◌-◌, ◌<◌, suc, ap, sym, ◌∙◌, arith}
use Rattle.std.specs.Fn.{iterate}

-- the first of those times
pub iterate-step : {A : Type 0} (f : A → A) (n k : ℕ) (x y : A) → k < n → y ≡ f x → iterate f (n - k) x ≡ iterate f (n - (k + 1)) y
iterate-step f n k x y lt e =
    let one_more : n - k ≡ suc (n - (k + 1)) = omega arith in
    ap (λ m. iterate f m x) one_more ∙ ap (iterate f (n - (k + 1))) (sym e)
