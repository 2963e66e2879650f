use Rattle.std.proofs.Common.{◌≡◌, ◌<◌, ℕ, false, List, [], ◌∷◌, ◌++◌, length, take, map, get_or, Some, None, eqb, refl, sym, ap, subst, ◌∙◌, arith}
use Rattle.std.specs.Prelude.{find}
use Rattle.std.proofs.lemmas.List.{length-map, take_all}
use Rattle.fk_trace.specs.declared.change.OpenRecord.{OpenRecord}
use Rattle.fk_trace.specs.declared.change.Change.{Change}
use Rattle.fk_trace.specs.Ledger.{live, IsLedger}
use Rattle.fk_cycle.specs.Stands.{Obligation, Stands, is_owed}
use Rattle.fk_cycle.proofs.StandsLemmas.{is_kept-owed}
use Rattle.fk_ledger.specs.Book.{live_ids}
use Rattle.fk_child.specs.Crew.{obligation_of}
use Rattle.fk_child.proofs.Records.{none-before, one-more_owed, owed-all, place-found, place-missed}
use Rattle.fk_child.proofs.obligations.machine_for.Goals as goal

pub unreachable-requires : goal.unreachable-requires
unreachable-requires c =
    let ledger = c.args.ledger.now.changes in
    let i = c.loop-owed.owed-index in
    let within : i < length (live_ids ledger) = let e = ap length c.requires.owed in let test = c.loop-owed-test.true in omega arith in
    let at : c.owed-item.result ≡ get_or (live_ids ledger) i c.owed-item.result = c.owed-item.is ∙ ap (λ (ids : List ℕ). get_or ids i c.owed-item.result) c.requires.owed in
    place-missed ledger i c.owed-item.result within at (subst (λ (n : ℕ). None ≡ find (λ (item : OpenRecord). eqb item.id n) (live ledger)) c.id.ensures c.in_default.ensures)

-- the record that is found is the one at the place
found : (ledger : List Change) → IsLedger ledger → (owed : List ℕ) → owed ≡ live_ids ledger → (i id : ℕ) (item : OpenRecord) (asked : ℕ) → i < length owed → id ≡ get_or owed i id → asked ≡ id
    → Some item ≡ find (λ other. eqb other.id asked) (live ledger) → (i < length (live ledger)) × (item ≡ get_or (live ledger) i item)
found ledger is owed e i id item asked within at same is_found =
    place-found ledger is i id item (subst (λ (ids : List ℕ). i < length ids) e within) (at ∙ ap (λ (ids : List ℕ). get_or ids i id) e)
    (subst (λ (n : ℕ). Some item ≡ find (λ (other : OpenRecord). eqb other.id n) (live ledger)) same is_found)

pub opened-requires-clause-unknown : goal.opened-requires-clause-unknown
opened-requires-clause-unknown c =
    let ledger = c.args.ledger.now.changes in
    let i = c.loop-owed.owed-index in
    let item = c.in-Some.item.now in
    let here = found ledger c.requires.follow c.args.owed.now c.requires.owed i c.owed-item.result item c.id.result c.loop-owed-test.true c.owed-item.is c.id.ensures c.in-Some.ensures in
    let owed : List Obligation = map obligation_of (take i (live ledger)) in
    rw c.in_ok-reserve.ensures.kept
    (is_kept-owed c.loop-owed.machine.kept [] [] owed c.loop-owed.invariant item.id
    ∙ subst (λ (x : OpenRecord). is_owed owed x.id ≡ false) (sym here.1) (none-before ledger c.requires.follow i item here.0))

pub loop-owed-preserved : goal.loop-owed-preserved
loop-owed-preserved c =
    let ledger = c.args.ledger.now.changes in
    let i = c.loop-owed.owed-index in
    let item = c.in-Some.item.now in
    let here = found ledger c.requires.follow c.args.owed.now c.requires.owed i c.owed-item.result item c.id.result c.loop-owed-test.true c.owed-item.is c.id.ensures c.in-Some.ensures in
    let owed : List Obligation = map obligation_of (take i (live ledger)) in
    let before : Stands c.reserve.new.self.kept [] [] owed = rw c.in_ok-reserve.ensures.kept c.loop-owed.invariant in
    subst (λ (all : List Obligation). Stands c.opened.new.self.kept [] [] all)
    (ap (λ (x : OpenRecord). owed ++ obligation_of x ∷ []) here.1 ∙ sym (one-more_owed ledger c.requires.follow i item here.0))
    (c.opened.ensures.stands [] [] owed before refl)

pub returns : goal.returns
returns c =
    let items = live c.args.ledger.now.changes in
    let all : take c.loop-owed.owed-index items ≡ items =
    take_all c.loop-owed.owed-index items (let n = length-map items (λ (item : OpenRecord). item.id) in let e = ap length c.requires.owed in let test = c.loop-owed-test.false in omega arith) in
    subst (λ (owed : List Obligation). Stands c.loop-owed.machine.kept [] [] owed) (ap (map obligation_of) all ∙ sym (owed-all c.args.ledger.now.changes)) c.loop-owed.invariant
