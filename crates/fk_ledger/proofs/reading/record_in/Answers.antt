use Rattle.std.proofs.Common.{◌≡◌, refl, Err, sym, ◌∙◌, arith, rules, false, true}
use Rattle.std.proofs.lemmas.Result.{err_from_is_err_and}
use Rattle.fk_ledger.proofs.RecordReads.{read_none, late_moment, late_stamp, no_pair, bad_words, good_close, record_found}
use Rattle.std.specs.Prelude.{Result}
use Rattle.fk_trace.specs.declared.change.OpenRecord.{OpenRecord}
use Rattle.fk_ledger.specs.declared.reading.PayloadErr.{PayloadErr}
use Rattle.fk_ledger.specs.declared.reading.PayloadErr.TheVariants.{Malformed}
use Rattle.fk_ledger.proofs.reading.record_in.Goals as goal

abbrev errors : (T : Type 0) → PayloadErr → Result T PayloadErr
errors T e = Err e

pub returns-in_default-clause-malformed : goal.returns-in_default-clause-malformed
returns-in_default-clause-malformed c = λ malformed item is same. read_none c.args.payload.now item c.in_default.ensures is same

pub returns-in_default-new-clause-malformed : goal.returns-in_default-new-clause-malformed
returns-in_default-new-clause-malformed c = λ malformed item is same. late_moment c.args.payload.now c.in-Some.head c.in-Some.rest.now item c.in-Some.ensures c.in_default-new.ensures is same

pub returns-then-head-gt-GREATEST_STAMP-clause-malformed : goal.returns-then-head-gt-GREATEST_STAMP-clause-malformed
returns-then-head-gt-GREATEST_STAMP-clause-malformed c = λ malformed item is same.
    late_stamp c.args.payload.now c.in-Some.head c.in-Some.rest.now item c.in-Some.ensures (first_of (omega arith, search rules)) is same

pub returns-in_default-pair_of-clause-malformed : goal.returns-in_default-pair_of-clause-malformed
returns-in_default-pair_of-clause-malformed c = λ malformed item is same. no_pair c.args.payload.now c.in-Some.head c.in-Some.rest.now item c.in-Some.ensures (c.in_default-pair_of.ensures.none refl) is same

which : (e : PayloadErr) → errors OpenRecord e ≡ errors OpenRecord Malformed → e ≡ Malformed
which e same = cc

pub returns-in_err-close-clause-malformed : goal.returns-in_err-close-clause-malformed
returns-in_err-close-clause-malformed c =
    let p = err_from_is_err_and c.from_residual.result c.from_residual.ensures.1 in
    rw (p.1, p.2) (λ malformed item is same. bad_words c.in_err-close.field-0.0 c.args.payload.now c.in-Some.head c.in-Some.rest.now item c.in-Some.ensures c.in_err-close.ensures (which c.in_err-close.field-0.0 malformed) is same)

pub returns-then-not-are_command_words-clause-malformed : goal.returns-then-not-are_command_words-clause-malformed
returns-then-not-are_command_words-clause-malformed c = λ malformed item is same.
    let yes = c.are_command_words.ensures.1 (good_close c.args.payload.now c.in-Some.head c.in-Some.rest.now item c.in_ok-close.close c.in-Some.ensures c.in_ok-close.ensures is same) in
    let no : c.are_command_words.result ≡ false = c.if-not-are_command_words.true in
    absurd (let n : false ≡ true = sym no ∙ yes in cc)

pub returns-clause-found : goal.returns-clause-found
returns-clause-found c =
    record_found c.args.payload.now c.in-Some.head c.in-Some.rest.now c.in-Some-new.moment c.in-Some-pair_of.pair c.in_ok-close.close (λ i. omega (arith, c.type_inv.payload i)) c.in-Some.ensures c.in_ok-close.ensures (first_of (omega arith, search rules))
    c.in-Some-new.ensures.0 c.in-Some-new.ensures.1 c.in-Some-pair_of.ensures.some.0 c.in-Some-pair_of.ensures.some.1 (c.are_command_words.ensures.0 c.if-not-are_command_words.false)
