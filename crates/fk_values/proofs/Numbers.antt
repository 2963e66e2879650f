-- A number that was found in a text is within its bound, and has the value of the text's digits.
use Rattle.std.proofs.Common.{◌≡◌, ℕ, ◌^◌, ◌<◌, ◌≤◌, List, Some, sym, ap, ◌∙◌, arith}
use Rattle.fk_base.specs.Decimal.{decimal_value, number_in}
use Rattle.fk_base.proofs.FoundValues.{number_in_some}
use Rattle.fk_base.proofs.Numerals.{decimal_value-decimal}

pub number_found : (most n : ℕ) (text : List ℕ) → most < 2 ^ 64 → Some n ≡ number_in most text → (n ≤ most) × (n ≡ decimal_value text)
number_found most n text small e =
    let found = number_in_some most n text small (sym e) in
    let fits = found.1 in
    (fits, sym (decimal_value-decimal n (omega arith)) ∙ ap decimal_value (sym found.0))
