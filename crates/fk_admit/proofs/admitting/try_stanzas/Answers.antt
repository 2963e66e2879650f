use Rattle.std.proofs.Common.{◌+◌, sym, arith}
use Rattle.fk_admit.specs.Private.{arrival_of}
use Rattle.fk_admit.proofs.AllStanzas.{blocks_next, blocks_within, served_for, stanza_grants, trying_goes_on, trying_passes}
use Rattle.fk_admit.proofs.admitting.try_stanzas.Goals as goal

pub loop-at-preserved-then-not-serves : goal.loop-at-preserved-then-not-serves
loop-at-preserved-then-not-serves g c =
    let more = blocks_next c.args.access.now (arrival_of c.args.arriving) c.loop-at.at c.get-stanza.result.now c.get-stanza.ensures in
    record {
      trying = trying_passes c.args.access.now (arrival_of c.args.arriving) c.loop-at.at c.get-stanza.result.now c.loop-at.first
          c.loop-at.invariant.trying c.get-stanza.ensures (sym c.if-not-serves.ensures);
      least = c.loop-at.invariant.least;
      most = omega arith;
    }

pub returns-in-Ok-clause-verdict : goal.returns-in-Ok-clause-verdict
returns-in-Ok-clause-verdict g c =
    stanza_grants c.args.access.now (arrival_of c.args.arriving) c.loop-at.at c.get-stanza.result.now c.loop-at.first c.in-Ok.grant
    c.loop-at.invariant.trying c.get-stanza.ensures (sym c.if-not-serves.ensures) c.in-Ok.ensures.passed c.in-Ok.ensures.grant c.requires

pub returns-in-Ok-clause-most_steps : goal.returns-in-Ok-clause-most_steps
returns-in-Ok-clause-most_steps g c =
    let more = blocks_next c.args.access.now (arrival_of c.args.arriving) c.loop-at.at c.get-stanza.result.now c.get-stanza.ensures in
    let served = served_for (arrival_of c.args.arriving) c.get-stanza.result.now (sym c.if-not-serves.ensures) in
    let within = blocks_within c.args.access.now (arrival_of c.args.arriving) (c.loop-at.at + 1) in
    let this = c.in-Ok.ensures.most_steps in
    let before = c.loop-at.invariant.most in
    omega arith

pub returns-in-Err-NoMemory-clause-verdict : goal.returns-in-Err-NoMemory-clause-verdict
returns-in-Err-NoMemory-clause-verdict g c =
    let more = blocks_next c.args.access.now (arrival_of c.args.arriving) c.loop-at.at c.get-stanza.result.now c.get-stanza.ensures in
    let served = served_for (arrival_of c.args.arriving) c.get-stanza.result.now (sym c.if-not-serves.ensures) in
    let within = blocks_within c.args.access.now (arrival_of c.args.arriving) (c.loop-at.at + 1) in
    let some = rw c.in-Err-NoMemory.field-0-is at c.in-Err-NoMemory.ensures.fault in
    (c.requires, omega arith)

pub returns-in-Err-NoMemory-clause-most_steps : goal.returns-in-Err-NoMemory-clause-most_steps
returns-in-Err-NoMemory-clause-most_steps g c =
    let more = blocks_next c.args.access.now (arrival_of c.args.arriving) c.loop-at.at c.get-stanza.result.now c.get-stanza.ensures in
    let served = served_for (arrival_of c.args.arriving) c.get-stanza.result.now (sym c.if-not-serves.ensures) in
    let within = blocks_within c.args.access.now (arrival_of c.args.arriving) (c.loop-at.at + 1) in
    let this = c.in-Err-NoMemory.ensures.most_steps in
    let before = c.loop-at.invariant.most in
    omega arith

pub loop-at-preserved : goal.loop-at-preserved
loop-at-preserved g c =
    let more = blocks_next c.args.access.now (arrival_of c.args.arriving) c.loop-at.at c.get-stanza.result.now c.get-stanza.ensures in
    let served = served_for (arrival_of c.args.arriving) c.get-stanza.result.now (sym c.if-not-serves.ensures) in
    let this = c.in-Err-Refused.ensures.most_steps in
    let grows = c.in-Err-Refused.ensures.least_steps in
    let before = c.loop-at.invariant.most in
    let start = c.loop-at.invariant.least in
    record {
      trying = trying_goes_on c.args.access.now (arrival_of c.args.arriving) c.loop-at.at c.get-stanza.result.now c.loop-at.first c.or-first.result
          c.in-Err-Refused.why c.loop-at.invariant.trying c.get-stanza.ensures (sym c.if-not-serves.ensures)
          (rw c.in-Err-Refused.field-0-is at c.in-Err-Refused.ensures.fault) c.or-first.ensures;
      least = omega arith;
      most = omega arith;
    }
