use Rattle.std.proofs.Common.{List, refl, ◌∙◌, subst}
use Rattle.fk_trace.specs.Decision.{FeedTurn}
use Rattle.fk_host.specs.Feed.{GivesTurns}
use Rattle.fk_daemon.proofs.session.Session.serve_next.Goals as goal

pub returns-in-None : goal.returns-in-None
returns-in-None g c = λ place rests.
    let none = c.in-None.ensures in
    let end = c.in-Ok.ensures in (
      record {
        session = refl;
        rests = rests;
        host = record { told = refl; images = λ moment image. (λ h. h, λ h. h); faults = refl };
        sink = refl;
        given = subst (λ (turns : List FeedTurn). GivesTurns turns (g.E.Feed.told c.args.feed.now) (g.E.Feed.told c.next.new.self)) none.1 end.given;
      },
      end.cause,
      end.end ∙ none.0,
    )
