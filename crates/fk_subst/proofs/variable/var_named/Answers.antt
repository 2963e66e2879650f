use Rattle.std.proofs.Common.{◌≡◌, List, ap, arith}
use Rattle.std.specs.Prelude.{codes}
use Rattle.std.proofs.lemmas.Slice.Eq.{text_from_reads}
use Rattle.fk_subst.specs.Template.{var_named}
use Rattle.fk_subst.proofs.variable.var_named.Goals as goal

pub returns-in-ACCESS : goal.returns-in-ACCESS
returns-in-ACCESS c =
    let is : c.args.name.now ≡ codes "ACCESS" = text_from_reads c.args.name.now (codes "ACCESS") (omega arith)
    (omega arith, (omega arith, (omega arith, (omega arith, (omega arith, (omega arith, tt)))))) in
    rw is

pub returns-in-80 : goal.returns-in-80
returns-in-80 c =
    let is : c.args.name.now ≡ codes "PKT_SRC" = text_from_reads c.args.name.now (codes "PKT_SRC") (omega arith)
    (omega arith, (omega arith, (omega arith, (omega arith, (omega arith, (omega arith, (omega arith, tt))))))) in
    rw is

pub returns-in-TIMEOUT : goal.returns-in-TIMEOUT
returns-in-TIMEOUT c =
    let is : c.args.name.now ≡ codes "TIMEOUT" = text_from_reads c.args.name.now (codes "TIMEOUT") (omega arith)
    (omega arith, (omega arith, (omega arith, (omega arith, (omega arith, (omega arith, (omega arith, tt))))))) in
    rw is
