-- How an access file tells the fault of a line.
use Rattle.fk_values.specs.declared.setting_fault.SettingFault.{SettingFault}
use Rattle.fk_values.specs.declared.setting_fault.SettingFault.TheVariants as setting
use Rattle.fk_access.specs.declared.access_err.AccessWhat.{AccessWhat}
use Rattle.fk_access.specs.declared.access_err.AccessWhat.TheVariants.{Line, UnknownName, Twice, BadValue}

abbrev pub access_what : SettingFault → AccessWhat
access_what (setting.Line fault) = Line fault
access_what setting.UnknownName = UnknownName
access_what setting.Twice = Twice
access_what setting.BadValue = BadValue
