use Rattle.std.proofs.Common.{◌<◌, length, sym, ap, arith}
use Rattle.std.specs.Prelude.{is_some}
use Rattle.fk_values.specs.Values.{without_padding}
use Rattle.fk_values.proofs.LongTexts.{base64_key_in-long, base64_key_in-none, base64_key_in-some}
use Rattle.fk_values.proofs.key.is_base64_key.Goals as goal

pub returns-then-text-gt-MOST_LETTERS : goal.returns-then-text-gt-MOST_LETTERS
returns-then-text-gt-MOST_LETTERS c =
    let long = c.if-text-gt-MOST_LETTERS.true in
    let same = ap length c.without_padding-text.ensures in
    let past : 256 < length (without_padding c.args.value.now) = omega arith in
    sym (ap is_some (base64_key_in-long c.args.value.now past))

pub returns-in-None : goal.returns-in-None
returns-in-None c = sym (ap is_some (base64_key_in-none _ _ c.without_padding-text.ensures c.in-None.ensures))

pub returns-in-Some : goal.returns-in-Some
returns-in-Some c =
    rw (base64_key_in-some _ _ _ c.without_padding-text.ensures c.in-Some.ensures, ← c.as_slice.ensures) c.is_key.ensures
