-- What a line of the input says, and what is printed for it.
use Rattle.std.proofs.Common.{◌≡◌, ℕ, ◌<◌, ◌≤◌, ◌^◌, List, [], Option, None, Some, IfSome, refl, sym}
use Rattle.fk_base.specs.Decimal.{number_in}
use Rattle.fk_base.proofs.FoundValues.{number_in_iff}
use Rattle.fk_host.specs.Stream.{Takes}

-- a number that was found is within its limit
pub number-within : (greatest : ℕ) (text : List ℕ) (found : Option ℕ) → greatest < 2 ^ 64 → found ≡ number_in greatest text → IfSome found (λ n. n ≤ greatest)
number-within greatest text None small is = tt
number-within greatest text (Some n) small is = ((number_in_iff greatest n text small).0 (sym is)).0

-- nothing was taken
pub takes-none : (left : Option (List ℕ)) → Takes [] left left
takes-none None = tt
takes-none (Some bytes) = refl
