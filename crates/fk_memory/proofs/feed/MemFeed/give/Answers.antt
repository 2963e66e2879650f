use Rattle.std.proofs.Common.{◌≡◌, Some, None, refl, sym, ap, ◌∙◌, subst, List, arith}
use Rattle.std.specs.List.{slice_get}
use Rattle.std.proofs.lemmas.Option.{slice_get_past, slice_get-get_or}
use Rattle.fk_trace.specs.Decision.{FeedTurn}
use Rattle.fk_host.specs.declared.feed.Input.TheVariants.{End}
use Rattle.fk_memory.specs.Feed.{FeedState, IsNext}
use Rattle.fk_memory.proofs.Feeds.{next_is, end_is}
use Rattle.fk_memory.proofs.feed.MemFeed.give.Goals as goal

pub returns-then-self-len-clause-turn : goal.returns-then-self-len-clause-turn
returns-then-self-len-clause-turn c =
    let turns : List FeedTurn = c.self.inside.turns.items in
    let item : FeedTurn = c.index.result.now in
    let is : slice_get turns c.self.inside.given ≡ Some item = slice_get-get_or turns c.self.inside.given item (omega (arith, c.if-self-len.true, c.len.ensures)) ∙ ap Some (sym c.index.ensures) in
    subst (λ (q : FeedState). IsNext q c.give.result c.give.new.buf) c.self.view_is (next_is turns c.self.inside.given c.give.result c.give.new.buf item is c.give.ensures.turn)

pub returns-else-self-len-clause-turn : goal.returns-else-self-len-clause-turn
returns-else-self-len-clause-turn c =
    let turns : List FeedTurn = c.self.inside.turns.items in
    let is : slice_get turns c.self.inside.given ≡ None = slice_get_past turns c.self.inside.given (omega (arith, c.if-self-len.false, c.len.ensures)) in
    subst (λ (q : FeedState). IsNext q (record { moment = c.end_moment.result; input = End }) c.args.buf.now) c.self.view_is (end_is turns c.self.inside.given (record { moment = c.end_moment.result; input = End }) c.args.buf.now is (refl, c.end_moment.ensures))
