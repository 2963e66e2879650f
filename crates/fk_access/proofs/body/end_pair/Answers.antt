use Rattle.std.proofs.Common.{◌≡◌, ℕ, refl, sym, ◌∙◌}
use Rattle.fk_values.specs.Given.{given_at}
use Rattle.fk_access.specs.PairGiven.{pair_given}
use Rattle.fk_access.proofs.PairSteps.{each_of_pair}
use Rattle.fk_access.proofs.StanzaSteps.{keys_from_none, keys_same}
use Rattle.fk_access.proofs.body.end_pair.Goals as goal

pub returns : goal.returns
returns c =
    let lines = c.of-lines.result in
    let pair = c.args.body.now.pair in
    let same = each_of_pair (λ (n : ℕ). given_at (pair_given lines) n ≡ given_at pair n) (sym c.of-lines.ensures.key) (sym c.of-lines.ensures.mac_key)
    (sym c.of-lines.ensures.kind) (sym c.of-lines.ensures.until) in
    record {
      ends = record {
        lines = pair_given lines;
        same = same;
        keys = keys_same pair (pair_given lines) same (keys_from_none pair (sym c.pair_lacks.ensures ∙ c.in_default.is));
        ended = c.push.ensures;
        rest = refl;
        none = c.new-body.ensures;
      };
    }
