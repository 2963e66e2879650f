-- The key that a setting gives, in one of the two spellings of its name.
use Rattle.std.specs.Prelude.{ℕ, List, Option, if◌then◌else◌}
use Rattle.std.specs.Str.{bytes_eq}
use Rattle.fk_lines.specs.Lines.{Setting}
use Rattle.fk_values.specs.Values.{base64_key_in, key_in}

-- under this name the value is the key's base64, and under the other the key
abbrev pub key_by : List ℕ → Setting → Option (List ℕ)
key_by base64_name setting = if bytes_eq base64_name setting.name then base64_key_in setting.value else key_in setting.value
