-- What an outline says once a change stands behind the others.
use Rattle.std.proofs.Common.{◌≡◌, ℕ, ◌+◌, nat_eq, Bool, true, false, ◌||◌, List, [], ◌∷◌, ◌++◌, refl, ap, sym, ◌∙◌, arith}
use Rattle.std.specs.Prelude.{max, nat_le, nat_lt, ◌&&◌, ◌==◌, not, IsTrue, is_some}
use Rattle.std.specs.List.{list_any, list_all, find}
use Rattle.std.specs.HashSet.{contains}
use Rattle.std.proofs.lemmas.Bool.Decides.{nat_tests}
use Rattle.std.proofs.lemmas.List.Folds.{list_any-append, list_all-append}
use Rattle.fk_trace.specs.declared.change.Change.{Change}
use Rattle.fk_trace.specs.declared.change.Change.TheVariants.{Open, Done, Settled, Floor}
use Rattle.fk_trace.specs.Ledger.{next_by, opens, live, MayFollow}
use Rattle.fk_trace.specs.declared.change.OpenRecord.{OpenRecord}
use Rattle.fk_trace.proofs.Lists.{list_any-find}
use Rattle.fk_trace.proofs.Ledgers.{next_id-push}
use Rattle.fk_ledger.specs.declared.outline.Outline.{Outline}
use Rattle.fk_ledger.specs.Private.{is_below, opens_id, settles_id}
use Rattle.fk_ledger.proofs.ChangeLists.{any_done, live_found, found_done, number_found, number_there}
use Rattle.fk_ledger.specs.Index.{above_by, Indexes, Outlines}

either : (a b : Bool) → (a || b) ≡ (b || (a || false))
either true true = refl
either true false = refl
either false true = refl
either false false = refl

and_true : (b : Bool) → (b && true) ≡ b
and_true true = refl
and_true false = refl

both_below : (above number id : ℕ) → (nat_le above id && (nat_lt number id && true)) ≡ nat_le (max above (number + 1)) id
both_below above number id = grind (arith, nat_tests)

one_below : (id above : ℕ) (change : Change) → (nat_le above id && list_all (is_below id) (change ∷ [])) ≡ nat_le (above_by change above) id
one_below id above (Open item) = both_below above item.id id
one_below id above (Done done) = and_true (nat_le above id)
one_below id above (Settled settled stamp digest) = both_below above settled id
one_below id above (Floor floor next) = and_true (nat_le above id)

above_behind : (above : ℕ) (ledger : List Change) (change : Change) → ((id : ℕ) → list_all (is_below id) ledger ≡ nat_le above id)
    → (id : ℕ) → list_all (is_below id) (ledger ++ change ∷ []) ≡ nat_le (above_by change above) id
above_behind above ledger change before id =
    list_all-append (is_below id) ledger (change ∷ []) ∙ ap (λ b. b && list_all (is_below id) (change ∷ [])) (before id) ∙ one_below id above change

any_behind : (p : Change → Bool) (ledger : List Change) (change : Change) (old new : Bool) → old ≡ list_any p ledger → new ≡ (p change || old) → new ≡ list_any p (ledger ++ change ∷ [])
any_behind p ledger change old new before held =
    held ∙ ap (λ b. p change || b) before ∙ either (p change) (list_any p ledger) ∙ sym (list_any-append p ledger (change ∷ []))

pub outlined : (old new : Outline) (ledger : List Change) (change : Change) → Outlines old ledger
    → new.next ≡ next_by change old.next → new.above ≡ above_by change old.above → Indexes new.digests (ledger ++ change ∷ [])
    → ((id : ℕ) → contains nat_eq new.opened id ≡ (opens_id id change || contains nat_eq old.opened id))
    → ((id : ℕ) → contains nat_eq new.closed id ≡ (settles_id id change || contains nat_eq old.closed id)) → Outlines new (ledger ++ change ∷ [])
outlined old new ledger change before next above digests opened closed = record {
  next = next ∙ ap (next_by change) before.next ∙ sym (next_id-push ledger change);
  above = λ id. above_behind old.above ledger change before.above id ∙ ap (λ n. nat_le n id) (sym above);
  digests = digests;
  opened = λ id. any_behind (opens_id id) ledger change (contains nat_eq old.opened id) (contains nat_eq new.opened id) (before.opened id) (opened id);
  closed = λ id. any_behind (settles_id id) ledger change (contains nat_eq old.closed id) (contains nat_eq new.closed id) (before.closed id) (closed id);
}

-- ---- a live record

and_false : (b : Bool) → (b && false) ≡ false
and_false true = refl
and_false false = refl

opened_any : (ledger : List Change) (id : ℕ) → list_any (opens_id id) ledger ≡ list_any (λ item. item.id == id) (opens ledger)
opened_any [] id = refl
opened_any (Open item ∷ ledger) id = ap (λ b. item.id == id || b) (opened_any ledger id)
opened_any (Done done ∷ ledger) id = opened_any ledger id
opened_any (Settled settled stamp digest ∷ ledger) id = opened_any ledger id
opened_any (Floor floor next ∷ ledger) id = opened_any ledger id

live_test : (ledger : List Change) (id : ℕ) (opened closed : Bool) → opened ≡ list_any (opens_id id) ledger → closed ≡ list_any (settles_id id) ledger
    → (opened && not closed) ≡ is_some (find (λ item. item.id == id) (live ledger))
live_test ledger id opened true is_opened is_closed = and_false opened ∙ ap is_some (found_done ledger id (sym is_closed))
live_test ledger id opened false is_opened is_closed =
    and_true opened ∙ is_opened ∙ opened_any ledger id ∙ list_any-find (λ (item : OpenRecord). item.id == id) (opens ledger)
    ∙ ap is_some (sym (live_found ledger id (sym (any_done ledger id) ∙ sym is_closed)))

pub may_close : (ledger : List Change) (outline : Outline) (id : ℕ) (b : Bool) → Outlines outline ledger → b ≡ (contains nat_eq outline.opened id && not (contains nat_eq outline.closed id))
    → (IsTrue b → MayFollow ledger (Done id)) × (MayFollow ledger (Done id) → IsTrue b)
may_close ledger outline id b says is =
    let same : b ≡ is_some (find (λ (item : OpenRecord). item.id == id) (live ledger)) = is ∙ live_test ledger id (contains nat_eq outline.opened id) (contains nat_eq outline.closed id) (says.opened id) (says.closed id) in
    (λ yes. number_found id (live ledger) (sym same ∙ yes), λ there. same ∙ number_there id (live ledger) there)
