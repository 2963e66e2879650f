use Rattle.std.proofs.Common.{not, length}
use Rattle.std.specs.Prelude.{◌==◌, map}
use Rattle.std.specs.List.{filter, AllZip}
use Rattle.fk_subst.specs.Template.{AreWordPieces}
use Rattle.fk_subst.proofs.template.cut_words.Given as goal

abbrev pub invariant-loop-run : goal.invariant-loop-run
invariant-loop-run l = AllZip AreWordPieces l.words.items (filter (λ run. not (length run == 0)) (map (λ run. run.now) l.yielded))
