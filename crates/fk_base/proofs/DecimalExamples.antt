-- Texts read by hand through the rule for numbers.
use Rattle.std.proofs.Common.{◌≡◌, ◌^◌, ◌-◌, [], Some, None, refl}
use Rattle.std.specs.Prelude.{codes}
use Rattle.fk_base.specs.Decimal.{first_num_fault, decimal_value}
use Rattle.fk_base.specs.declared.decimal.NumFault.TheVariants.{Empty, NotDigit, LeadingZero, TooLarge}

nothing_is_empty : first_num_fault (2 ^ 64 - 1) [] ≡ Some Empty
nothing_is_empty = refl

letter_is_no_digit : first_num_fault (2 ^ 64 - 1) (codes "1x") ≡ Some (NotDigit 1)
letter_is_no_digit = refl

zero_is_a_number : first_num_fault (2 ^ 64 - 1) (codes "0") ≡ None
zero_is_a_number = refl

zero_in_front : first_num_fault (2 ^ 64 - 1) (codes "01") ≡ Some LeadingZero
zero_in_front = refl

greatest_number : first_num_fault (2 ^ 64 - 1) (codes "18446744073709551615") ≡ None
greatest_number = refl

past_the_greatest : first_num_fault (2 ^ 64 - 1) (codes "18446744073709551616") ≡ Some TooLarge
past_the_greatest = refl

-- the letter is found before the zero in front, and that before the size
order_of_tests : first_num_fault 9 (codes "0x") ≡ Some (NotDigit 1)
order_of_tests = refl

value_of_digits : decimal_value (codes "62201") ≡ 62201
value_of_digits = refl
