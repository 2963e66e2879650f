use Rattle.std.proofs.Common.{◌≡◌, List, [], ◌∷◌, Option, Some, sym, ap, ◌∙◌}
use Rattle.std.specs.Prelude.{slice_get}
use Rattle.fk_base.specs.declared.pair.Pair.{Pair}
use Rattle.fk_access.specs.declared.stanza.Stanza.{Stanza}
use Rattle.fk_turn.specs.Rules.{command_words, first_pair, granting}
use Rattle.fk_turn.proofs.decision.make_draft.Goals as goal

first-is : (pairs : List Pair) (pair : Pair) → slice_get pairs 0 ≡ Some pair → pair ≡ first_pair pairs
first-is [] pair e = absurd cc
first-is (x ∷ xs) pair e = cc

pub returns-clause-item : goal.returns-clause-item
returns-clause-item c =
    let pair = first-is c.args.grant.now.pairs c.first.result c.first.ensures in
    let close : c.in_ok-close.close ≡ command_words (λ (stanza : Stanza). stanza.closing) (granting c.args.policy.now.access.now c.args.grant.now) c.args.grant.now =
    c.in_ok-close.ensures.filled ∙ sym (ap (λ (o : Option Stanza). command_words (λ (stanza : Stanza). stanza.closing) o c.args.grant.now) c.get-stanza.ensures) in
    let moment = c.get.ensures.value in
    let seconds = c.from.ensures in
    cc
