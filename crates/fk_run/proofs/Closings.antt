-- What a whole turn says of a close that it attempts: its record is live and due behind the turn's changes, and is idle there where
-- the ledger is one.
use Rattle.std.proofs.Common.{◌≡◌, ◌≢◌, ℕ, ◌≤◌, List, ◌∷◌, ◌++◌, sym, ap, ◌∙◌, subst, arith, inl, inr}
use Rattle.std.specs.Prelude.{IsTrue}
use Rattle.std.specs.List.{AllZip, AllPairs, AllByRecursion, Contains}
use Rattle.std.proofs.lemmas.List.Elements.{Contains-append_left}
use Rattle.fk_base.specs.declared.purpose.Purpose.TheVariants.{Close}
use Rattle.fk_trace.specs.declared.change.OpenRecord.{OpenRecord}
use Rattle.fk_trace.specs.declared.change.Change.{Change}
use Rattle.fk_trace.specs.Trace.{Item, past_after}
use Rattle.fk_trace.specs.Ledger.{live, after, IsLedger}
use Rattle.fk_trace.specs.Idle.{is_idle, ends_after}
use Rattle.fk_trace.specs.Decision.{Rules}
use Rattle.fk_trace.specs.Attempts.{IsAttempt, Precedes}
use Rattle.fk_trace.proofs.Splits.{Contains-place, recursion-front, pair-before, split_zip}
use Rattle.fk_trace.proofs.Settled.{past_after-append}
use Rattle.fk_run.specs.Place.{Place}
use Rattle.fk_run.specs.Turn.{TakenTurn, WholeTurn}
use Rattle.fk_run.proofs.Items.{Tries, attempts-same, tries-ends, ends_after-append, closes-leave_idle}
use Rattle.fk_run.proofs.Ledgers.{live-one}
use Rattle.fk_run.proofs.Turns.{whole-closed, close-place}

-- what stands before a record in order is another one
other_before : (ledger : List Change) → IsLedger ledger → (a b : OpenRecord) → Contains (live ledger) a → Contains (live ledger) b → Precedes a b → a.id ≢ b.id
other_before ledger is a b m n precedes same =
    let one = live-one ledger is a b m n same in
    let dues = ap (λ (r : OpenRecord). r.due) one in
    elim precedes [ inl lt ↦ absurd (omega arith) | inr lt ↦ absurd (let l = lt.1 in omega arith) ]

module _ {rules : Rules} {place : Place} {taken : TakenTurn} (whole : WholeTurn rules place taken) where
  pub closes-in_turn : (front : List Item) (item : Item) (rest : List Item) (id : ℕ) (words : List (List ℕ)) → taken.items ≡ front ++ item ∷ rest → IsAttempt (Close id) words item.event
      → (closing : OpenRecord) × Contains (live (after place.ledger taken.changes)) closing × (closing.due ≤ taken.turn.moment)
      × (IsLedger (after place.ledger taken.changes) → IsTrue (is_idle (past_after place.past front) (ends_after taken.turn.moment place.ends front) taken.turn.moment closing.id))
      × (closing.id ≡ id) × (words ≡ closing.close)
  closes-in_turn front item rest id words e h =
      let moment : ℕ = taken.turn.moment in
      let closes = whole.attempts_each_due_idle_close_once in
      let stands = close-place whole front item rest id words e h in
      let split = split_zip (λ (closing : OpenRecord) (x : Item). IsAttempt (Close closing.id) closing.close x.event) closes.order stands.0 item rest
      (subst (λ (items : List Item). AllZip (λ (closing : OpenRecord) (x : Item). IsAttempt (Close closing.id) closing.close x.event) closes.order items) stands.2 closes.attempted) in
      let closing : OpenRecord = split.1 in
      let same = attempts-same (Close id) (Close closing.id) words closing.close item.event h split.5 in
      let alike : closing.id ≡ id = let f = same.0 in cc in
      let owed = (closes.each closing).0 (Contains-place closes.order split.0 closing split.2 split.3) in
      let lives : (r : OpenRecord) → Contains closes.order r → Contains (live (after place.ledger taken.changes)) r =
      λ r m. subst (λ (made : List Change). Contains (live (after place.ledger made)) r) (sym whole.nothing_else.2) ((closes.each r).0 m).lives in
      let begun : List Item = whole.start ∷ whole.polled ++ whole.opened in
      let ends : List ℕ = ends_after moment place.ends begun in
      let past : past_after place.past front ≡ past_after (past_after place.past begun) stands.0 = ap (past_after place.past) stands.1 ∙ past_after-append place.past begun stands.0 in
      let tried : AllByRecursion Tries stands.0 = recursion-front Tries stands.0 (item ∷ rest) (subst (AllByRecursion Tries) stands.2 (whole-closed whole)) in
      let moments : ends_after moment place.ends front ≡ ends =
      ap (ends_after moment place.ends) stands.1 ∙ ends_after-append moment place.ends begun stands.0 ∙ tries-ends moment ends stands.0 tried in
      let idle : IsLedger (after place.ledger taken.changes) → IsTrue (is_idle (past_after place.past front) (ends_after moment place.ends front) moment closing.id) =
      λ is.
      let differs : (other : OpenRecord) → Contains split.0 other → other.id ≢ closing.id =
      λ other m.
      let among : Contains closes.order other = subst (λ (rs : List OpenRecord). Contains rs other) (sym split.3) (Contains-append_left split.0 (closing ∷ split.2) other m) in
      other_before (after place.ledger taken.changes) is other closing (lives other among) (lives closing (Contains-place closes.order split.0 closing split.2 split.3))
      (pair-before Precedes split.0 closing split.2 other (subst (λ (rs : List OpenRecord). AllPairs Precedes rs) split.3 closes.rising) m) in
      let there = closes-leave_idle split.0 stands.0 (past_after place.past begun) ends moment closing.id split.4 differs owed.idle in
      subst (λ (places : List Item). IsTrue (is_idle places (ends_after moment place.ends front) moment closing.id)) (sym past)
      (subst (λ (times : List ℕ). IsTrue (is_idle (past_after (past_after place.past begun) stands.0) times moment closing.id)) (sym moments) there) in
      (closing, lives closing (Contains-place closes.order split.0 closing split.2 split.3), owed.due, idle, alike, same.1)
