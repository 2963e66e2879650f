-- The sources that a value names.
use Rattle.std.specs.Prelude.{◌≡◌, ℕ, true, false, List}
use Rattle.fk_access.specs.declared.sources.Sources.{Sources}
use Rattle.fk_access.specs.declared.sources.Sources.TheVariants.{Any, Nets}
use Rattle.fk_access.specs.AccessValues.{AreNetsOf, is_any_source}

abbrev pub AreSourcesOf : List ℕ → Sources → Type 0
AreSourcesOf value Any = is_any_source value ≡ true
AreSourcesOf value (Nets nets) = (is_any_source value ≡ false) × AreNetsOf value nets
