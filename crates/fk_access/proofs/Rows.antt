-- Rows that the definitions compute.
use Rattle.std.proofs.Common.{◌≡◌, [], None, Some, refl}
use Rattle.std.specs.Prelude.{codes}
use Rattle.fk_lines.specs.Lines.{lines_from}
use Rattle.fk_access.specs.declared.access_err.AccessWhat.TheVariants.{NoKey, NoSource}
use Rattle.fk_access.specs.AccessFault.{access_fault}

empty_is_right : access_fault [] ≡ None
unfolding lines_from
empty_is_right = refl

key_is_early : access_fault (codes "KEY k") ≡ Some (1, NoSource)
unfolding lines_from
key_is_early = refl

source_alone_lacks_a_key : access_fault (codes "SOURCE ANY") ≡ Some (1, NoKey)
unfolding lines_from
source_alone_lacks_a_key = refl
