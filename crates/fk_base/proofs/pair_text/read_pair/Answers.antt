use Rattle.std.proofs.Common.{ℕ, ◌∙◌, ◌++◌, List, sym, ap, arith, Ok}
use Rattle.std.proofs.lemmas.Result.{err_from_is_err_and}
use Rattle.fk_base.specs.declared.pair.Pair.{Pair}
use Rattle.fk_base.proofs.PairTexts.{slashed}
use Rattle.fk_base.proofs.PairTexts.{fault_in_proto, fault_in_port, pair_text-injective}
use Rattle.fk_base.proofs.pair_text.read_pair.Goals as goal

pub returns-in_err-proto-clause-place : goal.returns-in_err-proto-clause-place
returns-in_err-proto-clause-place c =
    let p = err_from_is_err_and c.from_residual.result c.from_residual.ensures.1 in
    rw (p.1, p.2) (fault_in_proto _ _ c.in_err-proto.ensures.err)

pub returns-in_err-port-clause-place : goal.returns-in_err-port-clause-place
returns-in_err-port-clause-place c =
    let p = err_from_is_err_and c.from_residual-in_err-port.result c.from_residual-in_err-port.ensures.1 in
    rw (p.1, p.2) (fault_in_port _ _ _ _ c.in_ok-proto.ensures.ok c.in_err-port.ensures.err)

pub returns-clause-every : goal.returns-clause-every
returns-clause-every c = λ pair small is.
    let port = c.in_ok-port.ensures.ok in
    let high = port.1 in
    let mine : Pair = record { proto = c.in_ok-proto.proto; port = c.in_ok-port.field-0; has_port = _ } in
    let whole = c.in_ok-proto.ensures.ok.split ∙ ap (λ (x : List ℕ). slashed c.in_ok-proto.proto ++ x) port.2 in
    ap (λ (x : Pair). Ok x) (pair_text-injective mine pair (omega arith) small (sym whole ∙ is))
