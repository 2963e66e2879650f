-- What is wrong with a configuration.
use Rattle.std.specs.Prelude.{◌≡◌, ℕ, List, [], Option, Some}
use Rattle.std.specs.Option.{option_map}
use Rattle.fk_lines.specs.Lines.{lines_of}
use Rattle.fk_values.specs.Settings.{first_fault}
use Rattle.fk_conf.specs.declared.conf_err.ConfWhat.{ConfWhat}
use Rattle.fk_conf.specs.declared.conf_err.ConfErr.{ConfErr}
use Rattle.fk_conf.specs.declared.conf_err.ConfErr.TheVariants.{Fault, NoMemory}
use Rattle.fk_conf.specs.Conf.{conf_rules}
use Rattle.fk_conf.specs.ConfWhat.{conf_what}

-- the first fault of a configuration, with the number of its line
abbrev pub conf_fault : List ℕ → Option (ℕ × ConfWhat)
conf_fault text = option_map (λ found. (found.0, conf_what found.1)) (first_fault conf_rules [] (lines_of text))

-- the answer where a configuration has a fault: its first one, and never want of memory, since no memory is taken
abbrev pub IsConfErr : List ℕ → ConfErr → Type 0
IsConfErr text (Fault line what) = conf_fault text ≡ Some (line, what)
IsConfErr text NoMemory = ⊥
