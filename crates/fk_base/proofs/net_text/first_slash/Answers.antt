use Rattle.std.proofs.Common.{◌≡◌, ℕ, List, Option, Some, None, sym}
use Rattle.std.specs.Prelude.{◌==◌}
use Rattle.std.specs.List.{position}
use Rattle.std.specs.Option.{IfSome, IfNone}
use Rattle.fk_base.specs.Private.{IsFirstAt, Lacks}
use Rattle.fk_base.proofs.FirstPlaces.{first_at, Lacks-no_place}
use Rattle.fk_base.proofs.net_text.first_slash.Goals as goal

if_some : (text : List ℕ) (o : Option ℕ) → o ≡ position (λ b. b == 47) text → IfSome o (IsFirstAt 47 text)
if_some text None e = tt
if_some text (Some at) e = first_at 47 text at (sym e)

if_none : (text : List ℕ) (o : Option ℕ) → o ≡ position (λ b. b == 47) text → IfNone o (Lacks 47 text)
if_none text None e = Lacks-no_place 47 text (sym e)
if_none text (Some at) e = tt

pub returns : goal.returns
returns c = record {
  first = if_some c.args.text.now c.find_slash.result c.find_slash.ensures;
  none = if_none c.args.text.now c.find_slash.result c.find_slash.ensures;
}
