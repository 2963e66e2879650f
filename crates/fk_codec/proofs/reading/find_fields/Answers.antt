use Rattle.std.proofs.Common.{◌≡◌, ℕ, ◌+◌, List, ◌∷◌, length, None, Some, sym, ap, ◌∙◌}
use Rattle.std.specs.List.{join_with_byte}
use Rattle.std.proofs.lemmas.Result.{err_from_is_err_and}
use Rattle.fk_base.specs.FirstFailed.{first_failed}
use Rattle.fk_codec.specs.DecodeFault.{digest_tests}
use Rattle.fk_codec.specs.Private.{seconds_parts, tail_parts, tail_tests, type_number}
use Rattle.fk_codec.proofs.PartsRead.{AreParts, count_fails, decoded_is, fault_of_parts, front_and_last, front_is, head_fails, parts_answer}
use Rattle.fk_codec.proofs.TestLists.{back_fails, front_fails}
use Rattle.fk_codec.proofs.reading.find_fields.Goals as goal

pub returns-in_err-head : goal.returns-in_err-head
returns-in_err-head c =
    let p = err_from_is_err_and c.from_residual.result c.from_residual.ensures.1 in
    rw (p.1, p.2) (fault_of_parts c.args.text.now c.new-parts.result c.in_err-head.field-0.0 c.new-parts.ensures c.in_err-head.ensures)

pub returns-in_err-values : goal.returns-in_err-values
returns-in_err-values c =
    let p = err_from_is_err_and c.from_residual-in_err-values.result c.from_residual-in_err-values.ensures.1 in
    rw (p.1, p.2)
    (fault_of_parts c.args.text.now c.new-parts.result c.in_err-values.field-0.0 c.new-parts.ensures
    (head_fails c.new-parts.result c.in_ok-head.head.rand.now c.in_ok-head.head.user.now c.in_ok-head.head.stamp.now c.in_ok-head.head.version.now c.in_ok-head.head.request_type.now
    c.cut_head.new.parts c.in_err-values.field-0.0 c.in_ok-head.ensures c.in_err-values.ensures))

pub returns-in_err-tail : goal.returns-in_err-tail
returns-in_err-tail c =
    let p = err_from_is_err_and c.from_residual-in_err-tail.result c.from_residual-in_err-tail.ensures.1 in
    rw (p.1, p.2)
    (fault_of_parts c.args.text.now c.new-parts.result c.in_err-tail.field-0.0 c.new-parts.ensures
    (count_fails c.new-parts.result c.in_ok-head.head.rand.now c.in_ok-head.head.user.now c.in_ok-head.head.stamp.now c.in_ok-head.head.version.now c.in_ok-head.head.request_type.now
    c.cut_head.new.parts (type_number c.in_ok-values.values.request_type) c.in_err-tail.field-0.0 c.in_ok-head.ensures c.in_ok-values.ensures.0 c.in_ok-values.ensures.4
    c.in_err-tail.ensures))

pub returns-in_err-ask : goal.returns-in_err-ask
returns-in_err-ask c =
    let p = err_from_is_err_and c.from_residual-in_err-ask.result c.from_residual-in_err-ask.ensures.1 in
    let parts_are = c.in_ok-head.ensures ∙ ap (λ (rest : List (List ℕ)). c.in_ok-head.head.rand.now ∷ c.in_ok-head.head.user.now ∷ c.in_ok-head.head.stamp.now
    ∷ c.in_ok-head.head.version.now ∷ c.in_ok-head.head.request_type.now ∷ rest) c.in_ok-tail.ensures.0 in
    let count = ap (λ (rest : List (List ℕ)). length rest + 5) (sym c.in_ok-tail.ensures.0) ∙ c.in_ok-tail.ensures.1 in
    let found : AreParts c.new-parts.result c.in_ok-head.head.rand.now c.in_ok-head.head.user.now c.in_ok-head.head.stamp.now c.in_ok-head.head.version.now c.in_ok-head.head.request_type.now
    c.in_ok-tail.tail.message.now c.in_ok-tail.tail.seconds c.in_ok-tail.tail.digest.now (type_number c.in_ok-values.values.request_type) = record {
      are = parts_are;
      none = c.in_ok-values.ensures.0;
      typed = c.in_ok-values.ensures.4;
      count = count;
    } in
    let digests = digest_tests (join_with_byte 58 (c.in_ok-head.head.rand.now ∷ c.in_ok-head.head.user.now ∷ c.in_ok-head.head.stamp.now
    ∷ c.in_ok-head.head.version.now ∷ c.in_ok-head.head.request_type.now ∷ c.in_ok-tail.tail.message.now ∷ seconds_parts c.in_ok-tail.tail.seconds))
    c.in_ok-tail.tail.digest.now in
    rw (p.1, p.2)
    (fault_of_parts c.args.text.now c.new-parts.result c.in_err-ask.field-0.0 c.new-parts.ensures
    (parts_answer c.new-parts.result c.in_ok-head.head.rand.now c.in_ok-head.head.user.now c.in_ok-head.head.stamp.now c.in_ok-head.head.version.now c.in_ok-head.head.request_type.now
    c.in_ok-tail.tail.message.now c.in_ok-tail.tail.seconds c.in_ok-tail.tail.digest.now (type_number c.in_ok-values.values.request_type) (Some c.in_err-ask.field-0.0) found
    (front_fails (tail_tests (tail_parts c.in_ok-tail.tail)) digests c.in_err-ask.field-0.0 c.in_err-ask.ensures)))

pub before_last-requires : goal.before_last-requires
before_last-requires c =
    let parts_are = c.in_ok-head.ensures ∙ ap (λ (rest : List (List ℕ)). c.in_ok-head.head.rand.now ∷ c.in_ok-head.head.user.now ∷ c.in_ok-head.head.stamp.now
    ∷ c.in_ok-head.head.version.now ∷ c.in_ok-head.head.request_type.now ∷ rest) c.in_ok-tail.ensures.0 in (
      _,
      front_and_last c.args.text.now c.new-parts.result c.in_ok-head.head.rand.now c.in_ok-head.head.user.now c.in_ok-head.head.stamp.now c.in_ok-head.head.version.now c.in_ok-head.head.request_type.now
          c.in_ok-tail.tail.message.now c.in_ok-tail.tail.seconds c.in_ok-tail.tail.digest.now c.new-parts.ensures parts_are,
    )

pub returns-in_err-kind : goal.returns-in_err-kind
returns-in_err-kind c =
    let p = err_from_is_err_and c.from_residual-in_err-kind.result c.from_residual-in_err-kind.ensures.1 in
    let parts_are = c.in_ok-head.ensures ∙ ap (λ (rest : List (List ℕ)). c.in_ok-head.head.rand.now ∷ c.in_ok-head.head.user.now ∷ c.in_ok-head.head.stamp.now
    ∷ c.in_ok-head.head.version.now ∷ c.in_ok-head.head.request_type.now ∷ rest) c.in_ok-tail.ensures.0 in
    let count = ap (λ (rest : List (List ℕ)). length rest + 5) (sym c.in_ok-tail.ensures.0) ∙ c.in_ok-tail.ensures.1 in
    let found : AreParts c.new-parts.result c.in_ok-head.head.rand.now c.in_ok-head.head.user.now c.in_ok-head.head.stamp.now c.in_ok-head.head.version.now c.in_ok-head.head.request_type.now
    c.in_ok-tail.tail.message.now c.in_ok-tail.tail.seconds c.in_ok-tail.tail.digest.now (type_number c.in_ok-values.values.request_type) = record {
      are = parts_are;
      none = c.in_ok-values.ensures.0;
      typed = c.in_ok-values.ensures.4;
      count = count;
    } in
    let front = front_is c.args.text.now c.before_last.result.now c.new-parts.result c.in_ok-head.head.rand.now c.in_ok-head.head.user.now c.in_ok-head.head.stamp.now c.in_ok-head.head.version.now c.in_ok-head.head.request_type.now
    c.in_ok-tail.tail.message.now c.in_ok-tail.tail.seconds c.in_ok-tail.tail.digest.now c.new-parts.ensures parts_are c.before_last.ensures in
    let digests : first_failed (digest_tests (join_with_byte 58 (c.in_ok-head.head.rand.now ∷ c.in_ok-head.head.user.now ∷ c.in_ok-head.head.stamp.now
    ∷ c.in_ok-head.head.version.now ∷ c.in_ok-head.head.request_type.now ∷ c.in_ok-tail.tail.message.now ∷ seconds_parts c.in_ok-tail.tail.seconds))
    c.in_ok-tail.tail.digest.now) ≡ Some c.in_err-kind.field-0.0 =
    ap (λ (f : List ℕ). first_failed (digest_tests f c.in_ok-tail.tail.digest.now)) (sym front) ∙ c.in_err-kind.ensures in
    rw (p.1, p.2)
    (fault_of_parts c.args.text.now c.new-parts.result c.in_err-kind.field-0.0 c.new-parts.ensures
    (parts_answer c.new-parts.result c.in_ok-head.head.rand.now c.in_ok-head.head.user.now c.in_ok-head.head.stamp.now c.in_ok-head.head.version.now c.in_ok-head.head.request_type.now
    c.in_ok-tail.tail.message.now c.in_ok-tail.tail.seconds c.in_ok-tail.tail.digest.now (type_number c.in_ok-values.values.request_type) (Some c.in_err-kind.field-0.0) found
    (back_fails (tail_tests (tail_parts c.in_ok-tail.tail)) (digest_tests _ c.in_ok-tail.tail.digest.now) (Some c.in_err-kind.field-0.0) c.in_ok-ask.ensures.0 digests)))

pub returns : goal.returns
returns c =
    let parts_are = c.in_ok-head.ensures ∙ ap (λ (rest : List (List ℕ)). c.in_ok-head.head.rand.now ∷ c.in_ok-head.head.user.now ∷ c.in_ok-head.head.stamp.now
    ∷ c.in_ok-head.head.version.now ∷ c.in_ok-head.head.request_type.now ∷ rest) c.in_ok-tail.ensures.0 in
    let count = ap (λ (rest : List (List ℕ)). length rest + 5) (sym c.in_ok-tail.ensures.0) ∙ c.in_ok-tail.ensures.1 in
    let found : AreParts c.new-parts.result c.in_ok-head.head.rand.now c.in_ok-head.head.user.now c.in_ok-head.head.stamp.now c.in_ok-head.head.version.now c.in_ok-head.head.request_type.now
    c.in_ok-tail.tail.message.now c.in_ok-tail.tail.seconds c.in_ok-tail.tail.digest.now (type_number c.in_ok-values.values.request_type) = record {
      are = parts_are;
      none = c.in_ok-values.ensures.0;
      typed = c.in_ok-values.ensures.4;
      count = count;
    } in
    let front = front_is c.args.text.now c.before_last.result.now c.new-parts.result c.in_ok-head.head.rand.now c.in_ok-head.head.user.now c.in_ok-head.head.stamp.now c.in_ok-head.head.version.now c.in_ok-head.head.request_type.now
    c.in_ok-tail.tail.message.now c.in_ok-tail.tail.seconds c.in_ok-tail.tail.digest.now c.new-parts.ensures parts_are c.before_last.ensures in
    let digests : first_failed (digest_tests (join_with_byte 58 (c.in_ok-head.head.rand.now ∷ c.in_ok-head.head.user.now ∷ c.in_ok-head.head.stamp.now
    ∷ c.in_ok-head.head.version.now ∷ c.in_ok-head.head.request_type.now ∷ c.in_ok-tail.tail.message.now ∷ seconds_parts c.in_ok-tail.tail.seconds))
    c.in_ok-tail.tail.digest.now) ≡ None =
    ap (λ (f : List ℕ). first_failed (digest_tests f c.in_ok-tail.tail.digest.now)) (sym front) ∙ c.in_ok-kind.ensures.0 in
    decoded_is c.args.text.now c.new-parts.result c.in_ok-values.values.request_type c.in_ok-head.head.rand.now c.in_ok-head.head.user.now
    c.in_ok-head.head.stamp.now c.in_ok-head.head.version.now c.in_ok-head.head.request_type.now c.in_ok-tail.tail.message.now c.in_ok-tail.tail.seconds
    c.in_ok-tail.tail.digest.now c.in_ok-values.values.user c.in_ok-values.values.stamp c.in_ok-ask.ask c.in_ok-kind.kind c.new-parts.ensures found
    c.in_ok-ask.ensures.0 digests c.in_ok-values.values.rand c.in_ok-values.ensures.1 c.in_ok-values.ensures.2 c.in_ok-values.ensures.3
    c.in_ok-ask.ensures.1 c.in_ok-kind.ensures.1
