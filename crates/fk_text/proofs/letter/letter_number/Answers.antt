use Rattle.std.proofs.Common.{arith}
use Rattle.std.proofs.lemmas.Bool.Decides.{nat_tests}
use Rattle.fk_text.proofs.Letters.{letter_number_is}
use Rattle.fk_text.proofs.letter.letter_number.Goals as goal

pub returns-in-43 : goal.returns-in-43
returns-in-43 c = grind (arith, nat_tests, letter_number_is)

pub returns-in-47 : goal.returns-in-47
returns-in-47 c = grind (arith, nat_tests, letter_number_is)

pub returns-in-48-to-57 : goal.returns-in-48-to-57
returns-in-48-to-57 c = grind (arith, nat_tests, letter_number_is)

pub returns-in-65-to-90 : goal.returns-in-65-to-90
returns-in-65-to-90 c = grind (arith, nat_tests, letter_number_is)

pub returns-in-97-to-122 : goal.returns-in-97-to-122
returns-in-97-to-122 c = grind (arith, nat_tests, letter_number_is)

pub returns-in_default : goal.returns-in_default
returns-in_default c = grind (arith, nat_tests, letter_number_is)

pub returns-in_default-2 : goal.returns-in_default-2
returns-in_default-2 c = grind (arith, nat_tests, letter_number_is)

pub returns-in_default-3 : goal.returns-in_default-3
returns-in_default-3 c = grind (arith, nat_tests, letter_number_is)

pub returns-in_default-4 : goal.returns-in_default-4
returns-in_default-4 c = grind (arith, nat_tests, letter_number_is)
