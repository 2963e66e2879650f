use Rattle.std.proofs.Common.{◌≡◌, ◌∙◌, ◌++◌, ◌∷◌, length, ap, arith}
use Rattle.std.proofs.lemmas.Result.{on_ok_weaker}
use Rattle.fk_text.specs.Text.{text_of}
use Rattle.fk_codec.proofs.Law.{are_checked}
use Rattle.fk_codec.proofs.Values.{user_is}
use Rattle.fk_codec.proofs.Written.{front_written}
use Rattle.fk_codec.proofs.writing.put_front.Goals as goal

pub put_text-requires : goal.put_text-requires
put_text-requires c =
    let f = c.args.fields.now in
    let short = (user_is f.user (are_checked f c.requires.checked).user_is).most in
    let same : length c.as_slice.result.now ≡ length f.user = ap length c.as_slice.ensures in
    omega arith

pub returns : goal.returns
returns c =
    let f = c.args.fields.now in
    let rand = c.in_ok-append.ensures.ok ∙ ap (λ t. c.args.out.now ++ t) c.digits.ensures.value in
    let user = c.in_ok-put_text.ensures ∙ ap (λ t. c.append.new.self ++ 58 ∷ t) (ap text_of c.as_slice.ensures) in
    let version = c.in_ok-put_part.ensures ∙ ap (λ t. c.put_number.new.out ++ 58 ∷ t) c.as_slice-2.ensures in
    on_ok_weaker c.put_ask.result
    (λ e. front_written f c.args.out.now c.append.new.self c.put_text.new.out c.put_number.new.out c.put_part.new.out c.put_ask.new.out
    rand user c.in_ok-put_number.ensures version e)
    c.put_ask.ensures
