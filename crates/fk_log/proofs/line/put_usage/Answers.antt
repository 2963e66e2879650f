use Rattle.std.proofs.Common.{◌∙◌, ap, sym}
use Rattle.fk_log.specs.Line.{usage_text}
use Rattle.fk_log.specs.Private.{text_of_pieces}
use Rattle.fk_log.proofs.Drafts.{Puts-same}
use Rattle.fk_log.proofs.line.put_usage.Goals as goal

pub returns-in-Unknown : goal.returns-in-Unknown
returns-in-Unknown g c =
    Puts-same (text_of_pieces c.placed.result) (usage_text c.args.fault) c.put_pieces.result _ _
    (c.placed.ensures ∙ sym (ap usage_text c.in-Unknown.is)) c.put_pieces.ensures

pub returns-in-NoValue : goal.returns-in-NoValue
returns-in-NoValue g c =
    Puts-same (text_of_pieces c.placed-in-NoValue.result) (usage_text c.args.fault) c.put_pieces-in-NoValue.result _ _
    (c.placed-in-NoValue.ensures ∙ sym (ap usage_text c.in-NoValue.is)) c.put_pieces-in-NoValue.ensures

pub returns-in-Twice : goal.returns-in-Twice
returns-in-Twice g c =
    Puts-same (text_of_pieces c.placed-in-Twice.result) (usage_text c.args.fault) c.put_pieces-in-Twice.result _ _
    (c.placed-in-Twice.ensures ∙ sym (ap usage_text c.in-Twice.is)) c.put_pieces-in-Twice.ensures

pub returns-in-BadValue : goal.returns-in-BadValue
returns-in-BadValue g c =
    Puts-same (text_of_pieces c.placed-in-BadValue.result) (usage_text c.args.fault) c.put_pieces-in-BadValue.result _ _
    (c.placed-in-BadValue.ensures ∙ sym (ap usage_text c.in-BadValue.is)) c.put_pieces-in-BadValue.ensures

pub returns-in-Modes : goal.returns-in-Modes
returns-in-Modes g c =
    Puts-same _ (usage_text c.args.fault) c.put_pieces-in-Modes.result _ _ (sym (ap usage_text c.in-Modes.is)) c.put_pieces-in-Modes.ensures
