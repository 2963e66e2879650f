-- How a file tells the fault of a line.
use Rattle.fk_values.specs.declared.setting_fault.SettingFault.{SettingFault}
use Rattle.fk_values.specs.declared.setting_fault.SettingFault.TheVariants as setting
use Rattle.fk_conf.specs.declared.conf_err.ConfWhat.{ConfWhat}
use Rattle.fk_conf.specs.declared.conf_err.ConfWhat.TheVariants.{Line, UnknownName, Twice, BadValue}

abbrev pub conf_what : SettingFault → ConfWhat
conf_what (setting.Line fault) = Line fault
conf_what setting.UnknownName = UnknownName
conf_what setting.Twice = Twice
conf_what setting.BadValue = BadValue
