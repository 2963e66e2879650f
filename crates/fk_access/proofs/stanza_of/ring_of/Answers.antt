use Rattle.std.proofs.Common.{◌≡◌, ℕ, ◌+◌, ◌∷◌, [], length, length-append, sym, ap, ◌∙◌, arith}
use Rattle.fk_values.specs.Given.{given_at}
use Rattle.fk_access.specs.PairGiven.{pair_given}
use Rattle.fk_access.proofs.PairSteps.{each_of_pair}
use Rattle.fk_access.proofs.RingSteps.{few_last, some_ended, timed_last, timed_length, timed_same}
use Rattle.fk_access.proofs.StanzaSteps.{keys_same, last_has_keys}
use Rattle.fk_access.proofs.stanza_of.ring_of.Goals as goal

pub of-requires : goal.of-requires
of-requires c =
    let size = timed_length c.args.body.now.ended c.in_ok-pairs.pairs.items c.in_ok-pairs.ensures in
    let some = some_ended (length c.args.body.now.ended) (given_at c.args.body.now.pair) (sym c.if-not-has_last_pair.ensures) in
    let few = c.requires.whole.few in
    (omega arith, omega arith)

pub timed_of-requires : goal.timed_of-requires
timed_of-requires c =
    let lines = c.of-lines.result in
    let pair = c.args.body.now.pair in
    let same = each_of_pair (λ (n : ℕ). given_at (pair_given lines) n ≡ given_at pair n) (sym c.of-lines.ensures.key) (sym c.of-lines.ensures.mac_key)
    (sym c.of-lines.ensures.kind) (sym c.of-lines.ensures.until) in
    keys_same pair (pair_given lines) same (last_has_keys c.args.body.now (sym c.if-not-has_last_pair.ensures) c.requires.last)

pub of-requires-2 : goal.of-requires-2
of-requires-2 c =
    let size = timed_length c.args.body.now.ended c.in_ok-pairs.pairs.items c.in_ok-pairs.ensures in
    let grown : length c.push.new.self.items ≡ length c.in_ok-pairs.pairs.items + 1 =
    ap length c.in_ok-push.ensures.items ∙ length-append c.in_ok-pairs.pairs.items (c.in_ok-timed_of.field-0 ∷ []) in
    let room = few_last c.args.body.now c.requires.whole (sym c.if-not-has_last_pair.ensures) in
    (omega arith, omega arith)

pub returns : goal.returns
returns c =
    let lines = c.of-lines.result in
    let pair = c.args.body.now.pair in
    let same = each_of_pair (λ (n : ℕ). given_at (pair_given lines) n ≡ given_at pair n) (sym c.of-lines.ensures.key) (sym c.of-lines.ensures.mac_key)
    (sym c.of-lines.ensures.kind) (sym c.of-lines.ensures.until) in
    timed_last c.args.body.now c.in_ok-pairs.pairs.items c.of-2.result c.in_ok-timed_of.field-0 (sym c.if-not-has_last_pair.ensures) c.in_ok-pairs.ensures
    (timed_same (pair_given lines) pair c.in_ok-timed_of.field-0 same c.in_ok-timed_of.ensures) (c.of-2.ensures ∙ c.in_ok-push.ensures.items)
