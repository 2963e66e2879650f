use Rattle.std.proofs.Common.{◌∙◌, ap, List, map, sym}
use Rattle.fk_cycle.specs.Kept.{Register, noted_ended}
use Rattle.fk_cycle.specs.Stands.{record_of}
use Rattle.fk_cycle.specs.Private.{Stored}
use Rattle.fk_cycle.proofs.RecordLemmas.{noted-at, noted-none, apart-set, tried-set, others-ended}
use Rattle.fk_cycle.proofs.records.Records.ended.Goals as goal

pub invariant_of-self : goal.invariant_of-self
invariant_of-self c =
    let items : List Stored = c.self.inside.kept.items in
    let old : Stored = c.index_mut.result.now in
    let step = (c.ended.ensures c.self.inside.turn) in
    record {
      apart = apart-set items c.in-Some.place old c.ended.new.self c.self.invariant.apart c.index_mut.ensures.value step.number;
      tried = tried-set c.self.inside.turn items c.in-Some.place old c.ended.new.self c.self.invariant.tried c.index_mut.ensures.value step.tried;
      started = c.self.invariant.started;
    }

pub returns-in-Some-clause-kept : goal.returns-in-Some-clause-kept
returns-in-Some-clause-kept c =
    let items : List Stored = c.self.inside.kept.items in
    let old : Stored = c.index_mut.result.now in
    let step = (c.ended.ensures c.self.inside.turn) in
    let at = rw (c.record_of.ensures, c.deref.ensures.value) at c.in-Some.ensures.some in
    noted-at c.self.inside.turn (record_of c.args.purpose) (noted_ended c.args.purpose c.args.good c.args.moment) (others-ended c.args.purpose c.args.good c.args.moment) items c.in-Some.place old c.ended.new.self c.self.invariant.apart at c.index_mut.ensures.value step.kept
    ∙ ap (λ (r : Register). map (noted_ended c.args.purpose c.args.good c.args.moment) r.kept) c.self.view_is

pub returns-in-None-clause-kept : goal.returns-in-None-clause-kept
returns-in-None-clause-kept c =
    let none = rw (c.record_of.ensures, c.deref.ensures.value) at c.in-None.ensures.none in
    sym (ap (λ (r : Register). r.kept) c.self.view_is)
    ∙ sym (noted-none c.self.inside.turn (record_of c.args.purpose) (noted_ended c.args.purpose c.args.good c.args.moment) (others-ended c.args.purpose c.args.good c.args.moment) c.self.inside.kept.items none)
    ∙ ap (λ (r : Register). map (noted_ended c.args.purpose c.args.good c.args.moment) r.kept) c.self.view_is
