use Rattle.std.proofs.Common.{◌<◌, length, sym, ap, ◌∙◌, arith}
use Rattle.fk_values.specs.Values.{without_padding}
use Rattle.fk_values.proofs.LongTexts.{base64_key_in-long, base64_key_in-none, base64_key_in-some}
use Rattle.fk_values.proofs.key.take_base64_key.Goals as goal

pub returns-then-text-gt-MOST_LETTERS-clause-key : goal.returns-then-text-gt-MOST_LETTERS-clause-key
returns-then-text-gt-MOST_LETTERS-clause-key c =
    let long = c.if-text-gt-MOST_LETTERS.true in
    let same = ap length c.without_padding-text.ensures in
    let past : 256 < length (without_padding c.args.value.now) = omega arith in
    sym (base64_key_in-long c.args.value.now past)

pub returns-in-None-clause-key : goal.returns-in-None-clause-key
returns-in-None-clause-key c = sym (base64_key_in-none _ _ c.without_padding-text.ensures c.in-None.ensures)

pub returns-in-Some-clause-key : goal.returns-in-Some-clause-key
returns-in-Some-clause-key c =
    rw (base64_key_in-some _ _ _ c.without_padding-text.ensures c.in-Some.ensures, ← c.as_slice.ensures) c.take_key.ensures.key

pub returns-in-Some-clause-refused : goal.returns-in-Some-clause-refused
returns-in-Some-clause-refused c = λ none.
    c.take_key.ensures.refused
    (rw c.as_slice.ensures (sym (base64_key_in-some _ _ _ c.without_padding-text.ensures c.in-Some.ensures) ∙ none))
