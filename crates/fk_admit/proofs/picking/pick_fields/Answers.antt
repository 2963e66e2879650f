use Rattle.std.proofs.Common.{◌+◌, ◌≤◌, Some, length, sym, ap, ◌∙◌, arith}
use Rattle.fk_admit.specs.Private.{arrival_of}
use Rattle.fk_admit.proofs.PickedPairs.{blocks_next, blocks_same, blocks_within, fields_are_picked, other_type, picking_ends, picking_fails, picking_goes_on, picking_passes}
use Rattle.fk_admit.proofs.picking.pick_fields.Goals.{in-Failed, in-OtherHmac}
use Rattle.fk_admit.proofs.picking.pick_fields.Goals as goal

pub loop-at-preserved-then-not-is_current : goal.loop-at-preserved-then-not-is_current
loop-at-preserved-then-not-is_current g c =
    let stanza = c.args.stanza.now in
    let arrival = arrival_of c.args.arriving in
    let at = c.loop-at.at in
    let timed = c.get-timed.result.now in
    let here = c.get-timed.ensures in
    let current = sym c.if-not-is_current.ensures in
    let picking = c.loop-at.invariant.picking in
    let same = blocks_same stanza arrival at timed here current in
    let before = c.loop-at.invariant.most in
    record {
      picking = picking_passes stanza arrival at timed c.loop-at.first here current picking;
      least = c.loop-at.invariant.least;
      most = omega arith;
    }

pub returns-in-Opened-clause-fields : goal.returns-in-Opened-clause-fields
returns-in-Opened-clause-fields g c =
    let stanza = c.args.stanza.now in
    let arrival = arrival_of c.args.arriving in
    let at = c.loop-at.at in
    let timed = c.get-timed.result.now in
    let here = c.get-timed.ensures in
    let current = sym c.if-not-is_current.ensures in
    let picking = c.loop-at.invariant.picking in
    fields_are_picked stanza arrival at timed c.loop-at.first c.in-Opened.fields here current c.in-Opened.ensures.opening picking

pub returns-in-Opened-clause-most_steps : goal.returns-in-Opened-clause-most_steps
returns-in-Opened-clause-most_steps g c =
    let stanza = c.args.stanza.now in
    let arrival = arrival_of c.args.arriving in
    let at = c.loop-at.at in
    let timed = c.get-timed.result.now in
    let here = c.get-timed.ensures in
    let current = sym c.if-not-is_current.ensures in
    let picking = c.loop-at.invariant.picking in
    let more = blocks_next stanza arrival at timed here current in
    let within = blocks_within stanza arrival (at + 1) in
    let before = c.loop-at.invariant.most in
    let this = c.in-Opened.ensures.most_steps in
    omega arith

pub returns-in-OtherType-clause-fields : goal.returns-in-OtherType-clause-fields
returns-in-OtherType-clause-fields g c =
    let stanza = c.args.stanza.now in
    let arrival = arrival_of c.args.arriving in
    let at = c.loop-at.at in
    let timed = c.get-timed.result.now in
    let here = c.get-timed.ensures in
    let current = sym c.if-not-is_current.ensures in
    let picking = c.loop-at.invariant.picking in
    other_type stanza arrival at timed c.loop-at.first here current c.in-OtherType.ensures.opening picking

pub returns-in-OtherType-clause-most_steps : goal.returns-in-OtherType-clause-most_steps
returns-in-OtherType-clause-most_steps g c =
    let stanza = c.args.stanza.now in
    let arrival = arrival_of c.args.arriving in
    let at = c.loop-at.at in
    let timed = c.get-timed.result.now in
    let here = c.get-timed.ensures in
    let current = sym c.if-not-is_current.ensures in
    let picking = c.loop-at.invariant.picking in
    let more = blocks_next stanza arrival at timed here current in
    let within = blocks_within stanza arrival (at + 1) in
    let before = c.loop-at.invariant.most in
    let this = c.in-OtherType.ensures.most_steps in
    omega arith

pub returns-in-NoMemory-clause-fields : goal.returns-in-NoMemory-clause-fields
returns-in-NoMemory-clause-fields g c =
    let stanza = c.args.stanza.now in
    let arrival = arrival_of c.args.arriving in
    let at = c.loop-at.at in
    let timed = c.get-timed.result.now in
    let here = c.get-timed.ensures in
    let current = sym c.if-not-is_current.ensures in
    let picking = c.loop-at.invariant.picking in
    let more = blocks_next stanza arrival at timed here current in
    let within = blocks_within stanza arrival (at + 1) in
    let before = c.loop-at.invariant.most in
    let some = c.in-NoMemory.ensures.opening in
    omega arith

pub returns-in-NoMemory-clause-most_steps : goal.returns-in-NoMemory-clause-most_steps
returns-in-NoMemory-clause-most_steps g c =
    let stanza = c.args.stanza.now in
    let arrival = arrival_of c.args.arriving in
    let at = c.loop-at.at in
    let timed = c.get-timed.result.now in
    let here = c.get-timed.ensures in
    let current = sym c.if-not-is_current.ensures in
    let picking = c.loop-at.invariant.picking in
    let more = blocks_next stanza arrival at timed here current in
    let within = blocks_within stanza arrival (at + 1) in
    let before = c.loop-at.invariant.most in
    let this = c.in-NoMemory.ensures.most_steps in
    omega arith

pub loop-at-preserved : goal.loop-at-preserved
loop-at-preserved g c =
    let stanza = c.args.stanza.now in
    let arrival = arrival_of c.args.arriving in
    let at = c.loop-at.at in
    let timed = c.get-timed.result.now in
    let here = c.get-timed.ensures in
    let current = sym c.if-not-is_current.ensures in
    let picking = c.loop-at.invariant.picking in
    let more = blocks_next stanza arrival at timed here current in
    let before = c.loop-at.invariant.most in
    let start = c.loop-at.invariant.least in
    let least = c.try_keys.ensures.least_steps in
    let this = c.try_keys.ensures.most_steps in
    record {
      picking = elim c.match-try_keys.branch [
        | in-Failed w ↦
            picking_fails stanza arrival at timed c.loop-at.first c.match-try_keys.first w.in-Failed.why here current w.in-Failed.ensures.opening
            (let is = w.first-is in let grown = w.or-first.ensures in cc) picking
        | in-OtherHmac w ↦ (let is = w.first-is in rw is (picking_goes_on stanza arrival at timed c.loop-at.first here current w.in-OtherHmac.ensures.opening picking))
      ];
      least = omega arith;
      most = omega arith;
    }

pub returns-clause-fields : goal.returns-clause-fields
returns-clause-fields g c =
    let stanza = c.args.stanza.now in
    let all : length stanza.ring ≤ c.loop-at.at = omega arith in
    picking_ends stanza (arrival_of c.args.arriving) c.loop-at.at c.loop-at.first c.loop-at.invariant.picking all
    ∙ ap Some (sym c.unwrap_or.ensures)
