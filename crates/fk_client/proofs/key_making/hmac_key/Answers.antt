use Rattle.std.proofs.Common.{◌≡◌, ℕ, ◌-◌, drop, take, length, ap, ◌∙◌, arith}
use Rattle.std.proofs.lemmas.List.{take_rest}
use Rattle.fk_client.proofs.key_making.hmac_key.Goals as goal

pub returns : goal.returns
returns c =
    let drawn = c.args.drawn.now in
    let size : length c.args.drawn.now ≡ 96 = c.told-drawn in
    let rest : 64 ≡ length c.args.drawn.now - 32 = omega arith in
    ap (λ (n : ℕ). take n (drop 32 drawn)) rest ∙ take_rest drawn 32
