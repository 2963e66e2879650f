use Rattle.std.proofs.Common.{subst, ap, ◌∙◌}
use Rattle.fk_memory.specs.Feed.{FeedState, IsNext, after_turn}
use Rattle.fk_memory.proofs.Feeds.{gives_turn}
use Rattle.fk_memory.proofs.feed.MemFeedFeed.next.Goals as goal

pub returns-clause-given : goal.returns-clause-given
returns-clause-given c =
    gives_turn c.args.self.now c.saturating_sub-self-inside.result c.give.new.self c.give.result c.give.new.buf
    (subst (λ (q : FeedState). IsNext q c.give.result c.give.new.buf) c.self.view_is c.give.ensures.turn)
    (c.give.ensures.state ∙ ap (λ (q : FeedState). after_turn (record q { fails_in = c.saturating_sub-self-inside.result })) c.self.view_is)

pub returns-clause-turn : goal.returns-clause-turn
returns-clause-turn c = subst (λ (q : FeedState). IsNext q c.give.result c.give.new.buf) c.self.view_is c.give.ensures.turn
