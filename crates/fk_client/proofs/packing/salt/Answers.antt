use Rattle.std.proofs.Common.{◌≡◌, ℕ, ◌-◌, drop, take, length, ap, ◌∙◌, arith}
use Rattle.std.proofs.lemmas.List.{take_rest}
use Rattle.fk_client.proofs.packing.salt.Goals as goal

pub returns : goal.returns
returns c =
    let drawn = c.args.drawn.now in
    let size : length c.args.drawn.now ≡ 24 = c.told-drawn in
    let eight : 8 ≡ length c.args.drawn.now - 16 = omega arith in
    c.copy_from_slice.ensures.after ∙ ap (λ (n : ℕ). take n (drop 16 drawn)) eight ∙ take_rest drawn 16
