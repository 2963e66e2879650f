use Rattle.std.proofs.Common.{inr, subst}
use Rattle.fk_program.specs.Faults.{fault_of}
use Rattle.fk_program.specs.Files.{FailsFile, FilesView, files_by}
use Rattle.fk_serve.specs.Files.{access_test}
use Rattle.fk_serve.proofs.files.read_files.Goals as goal

pub returns-in-Err-access_of : goal.returns-in-Err-access_of
returns-in-Err-access_of g c =
    let at = files_by g.F.Files in
    let name = c.args.names.access.now in
    inr (record {
      conf = c.in-Ok.conf;
      conf_says = c.in-Ok.ensures.0;
      fails = subst (λ (files : FilesView). FailsFile (access_test name) name (fault_of c.in-Err-access_of.refusal) files (at c.access_of.new.files))
          c.in-Ok.ensures.1 c.in-Err-access_of.ensures;
    })
