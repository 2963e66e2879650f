use Rattle.std.proofs.Common.{List, ap, ◌∙◌}
use Rattle.std.specs.List.{list_any}
use Rattle.std.specs.Str.{bytes_eq}
use Rattle.fk_conf.specs.RcPrivate.{names_of}
use Rattle.fk_conf.specs.declared.rc_stanza.RcStanza.{RcStanza}
use Rattle.fk_conf.proofs.RcSteps.{any_name}
use Rattle.fk_conf.proofs.reading_rc.has_stanza.Goals as goal

pub returns : goal.returns
returns c =
    c.is_among.ensures ∙ any_name c.args.name.now c.as_slice.result.now
    ∙ ap (λ (file : List RcStanza). list_any (λ other. bytes_eq other c.args.name.now) (names_of file)) c.as_slice.ensures
