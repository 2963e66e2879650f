use Rattle.std.proofs.Common.{◌≡◌, ◌∙◌, true, Some, sym, arith}
use Rattle.std.proofs.lemmas.Result.{err_from_is_err_and}
use Rattle.fk_base.specs.declared.moment.TheConstants.{GREATEST_MOMENT}
use Rattle.fk_base.specs.Decimal.{number_in}
use Rattle.fk_fields.specs.FieldText.{is_version}
use Rattle.fk_codec.specs.DecodeFault.{user_in}
use Rattle.fk_codec.proofs.Values.{number_value}
use Rattle.fk_codec.proofs.PartsRead.{head_in, head_out, number_small}
use Rattle.fk_codec.proofs.head.read_head.Goals as goal

pub served_type-requires : goal.served_type-requires
served_type-requires c =
    let found : Some c.in-Some-find_number-2.number ≡ number_in 6 c.args.head.now.request_type.now = c.in-Some-find_number-2.ensures in
    number_small 6 c.in-Some-find_number-2.number c.args.head.now.request_type.now (omega arith) (sym found)

pub returns-in_err-request_type : goal.returns-in_err-request_type
returns-in_err-request_type c =
    let rand = c.in-Some.ensures in
    let user : user_in c.args.head.now.user.now ≡ Some c.in-Some-find_user.user = c.in-Some-find_user.ensures in
    let stamp : Some c.in-Some-find_number.stamp ≡ number_in GREATEST_MOMENT c.args.head.now.stamp.now = c.in-Some-find_number.ensures in
    let version : is_version c.args.head.now.version.now ≡ true = sym c.is_version.ensures ∙ c.if-not-is_version.false in
    let type : Some c.in-Some-find_number-2.number ≡ number_in 6 c.args.head.now.request_type.now = c.in-Some-find_number-2.ensures in
    let p = err_from_is_err_and c.from_residual.result c.from_residual.ensures.1 in
    rw (p.1, p.2)
    (head_out c.args.head.now.rand.now c.args.head.now.user.now c.args.head.now.stamp.now c.args.head.now.version.now c.args.head.now.request_type.now
    c.in-Some-find_user.user c.in-Some-find_number.stamp c.in-Some-find_number-2.number c.in_err-request_type.field-0.0 rand.0 user (sym stamp)
    version (sym type) c.in_err-request_type.ensures)

pub returns : goal.returns
returns c =
    let rand = c.in-Some.ensures in
    let user : user_in c.args.head.now.user.now ≡ Some c.in-Some-find_user.user = c.in-Some-find_user.ensures in
    let stamp : Some c.in-Some-find_number.stamp ≡ number_in GREATEST_MOMENT c.args.head.now.stamp.now = c.in-Some-find_number.ensures in
    let version : is_version c.args.head.now.version.now ≡ true = sym c.is_version.ensures ∙ c.if-not-is_version.false in
    let type : Some c.in-Some-find_number-2.number ≡ number_in 6 c.args.head.now.request_type.now = c.in-Some-find_number-2.ensures in (
      head_in c.args.head.now.rand.now c.args.head.now.user.now c.args.head.now.stamp.now c.args.head.now.version.now c.args.head.now.request_type.now
          c.in-Some-find_user.user c.in-Some-find_number.stamp c.in-Some-find_number-2.number c.in_ok-request_type.request_type rand.0 user (sym stamp)
          version (sym type) c.in_ok-request_type.ensures,
      sym rand.1,
      user,
      number_value GREATEST_MOMENT c.in-Some-find_number.stamp c.args.head.now.stamp.now (sym stamp),
      number_value 6 c.in-Some-find_number-2.number c.args.head.now.request_type.now (sym type) ∙ c.in_ok-request_type.ensures,
    )
