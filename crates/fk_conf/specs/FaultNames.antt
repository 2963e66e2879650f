-- The names under which the programs tell what is wrong with a line of a file of settings.
use Rattle.std.specs.Prelude.{ℕ, List, codes}
use Rattle.fk_lines.specs.declared.fault.LineFault.{LineFault}
use Rattle.fk_lines.specs.declared.fault.LineFault.TheVariants as line
use Rattle.fk_conf.specs.declared.conf_err.ConfWhat.{ConfWhat}
use Rattle.fk_conf.specs.declared.conf_err.ConfWhat.TheVariants as conf

abbrev pub line_fault_name : LineFault → List ℕ
line_fault_name line.NoValue = codes "NoValue"
line_fault_name line.BadByte = codes "BadByte"
line_fault_name line.TooLong = codes "TooLong"

abbrev pub conf_fault_name : ConfWhat → List ℕ
conf_fault_name conf.UnknownName = codes "UnknownName"
conf_fault_name conf.Twice = codes "Twice"
conf_fault_name conf.BadValue = codes "BadValue"
conf_fault_name conf.NoStanza = codes "NoStanza"
conf_fault_name conf.TooMany = codes "TooMany"
conf_fault_name (conf.Line fault) = line_fault_name fault
