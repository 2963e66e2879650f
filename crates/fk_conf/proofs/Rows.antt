-- Rows that the definitions compute.
use Rattle.std.proofs.Common.{◌≡◌, [], None, Some, refl}
use Rattle.std.specs.Prelude.{codes}
use Rattle.fk_base.specs.Decimal.{number_in}
use Rattle.fk_lines.specs.Lines.{lines_from, lines_of}
use Rattle.fk_values.specs.Settings.{settings_of}
use Rattle.fk_values.specs.Values.{number_within}
use Rattle.fk_conf.specs.declared.conf_err.ConfWhat.TheVariants.{BadValue, UnknownName}
use Rattle.fk_conf.specs.declared.conf_name.ConfName.TheVariants.{CycleLimit}
use Rattle.fk_conf.specs.ConfErr.{conf_fault}
use Rattle.fk_conf.specs.ReadsConf.{conf_number}

empty_is_right : conf_fault [] ≡ None
unfolding lines_from
empty_is_right = refl

limit_is_2 : conf_number CycleLimit (number_within 1 4096) 256 (settings_of (lines_of (codes "CYCLE_LIMIT 2"))) ≡ 2
unfolding lines_from number_in
limit_is_2 = refl

zero_is_no_limit : conf_fault (codes "CYCLE_LIMIT 0") ≡ Some (1, BadValue)
unfolding lines_from number_in
zero_is_no_limit = refl

small_letters_are_no_name : conf_fault (codes "cycle_limit 2") ≡ Some (1, UnknownName)
unfolding lines_from
small_letters_are_no_name = refl
