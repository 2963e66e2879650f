use Rattle.std.proofs.Common.{◌≡◌, ℕ, List, [], ◌∷◌, ◌++◌, map, Option, Some, None, inl, inr, refl, sym, ap, subst, ◌∙◌}
use Rattle.std.specs.Prelude.{IfSome}
use Rattle.std.proofs.lemmas.List.{map-append}
use Rattle.fk_trace.specs.declared.change.OpenRecord.{OpenRecord}
use Rattle.fk_trace.specs.declared.change.Change.{Change}
use Rattle.fk_trace.specs.Ledger.{live, next_id, is_seen, after, rise, after_one, IsLedger}
use Rattle.fk_trace.specs.Decision.{Room, floor_at}
use Rattle.fk_trace.proofs.Ledgers.{live-rise, next_id-rise}
use Rattle.fk_trace.proofs.Grants.{AreFor, fresh-unseen, making-made}
use Rattle.fk_ledger.specs.Book.{Book, room_of, making_record, live_ids}
use Rattle.fk_child.proofs.Records.{live-recorded}
use Rattle.fk_sessions.proofs.ledger.record_on.Goals as goal

-- the ledger's changes are as they were before the room was made
pub record-requires-clause-next : goal.record-requires-clause-next
record-requires-clause-next g c =
    let same = ap (λ (b : Book). b.changes) c.reserve-2.ensures.rest in (
      c.if-item-next_id.false ∙ c.next_id.ensures ∙ ap next_id (sym same),
      fresh-unseen c.args.item.digest.0 c.reserve-2.new.self.changes (ap (is_seen c.args.item.digest.0) same ∙ sym c.seen.ensures ∙ c.if-seen.false),
    )

abbrev numbers_of : List OpenRecord → List ℕ
numbers_of items = map (λ item. item.id) items

-- the new record is the last of those that are live, whether the ledger began anew before it or not
for_live : (room : Room) (moment : ℕ) (ledger : List Change) (item : OpenRecord) (changes : List Change) → AreFor room moment ledger item changes → item.id ≡ next_id ledger → IsLedger (after ledger changes)
    → live_ids (after ledger changes) ≡ live_ids ledger ++ item.id ∷ []
for_live room moment ledger item changes (inl e) next is =
    ap (λ (made : List Change). live_ids (after ledger made)) e
    ∙ ap numbers_of (live-recorded ledger item (subst (λ (made : List Change). IsLedger (after ledger made)) e is) next)
    ∙ map-append (λ (item : OpenRecord). item.id) (live ledger) (item ∷ [])
for_live room moment ledger item changes (inr e) next is =
    let floor : ℕ = floor_at room.keep moment ledger in
    let anew : List Change = after_one ledger (rise floor ledger) in
    ap (λ (made : List Change). live_ids (after ledger made)) e
    ∙ ap numbers_of (live-recorded anew item (subst (λ (made : List Change). IsLedger (after ledger made)) e is) (next ∙ sym (next_id-rise floor ledger)))
    ∙ map-append (λ (item : OpenRecord). item.id) (live anew) (item ∷ [])
    ∙ ap (λ (items : List OpenRecord). numbers_of items ++ item.id ∷ []) (live-rise floor ledger)

-- what there is where there is something
some_of : (m : Option (List Change)) → (m ≡ None → ⊥) → (changes : List Change) × (m ≡ Some changes)
some_of (Some changes) some = (changes, refl)
some_of None some = absurd (some refl)

pub returns-in-Ok : goal.returns-in-Ok
returns-in-Ok g c =
    let same = ap (λ (b : Book). b.changes) c.reserve-2.ensures.rest in
    let item : OpenRecord = c.args.item in
    let book : Book = c.reserve-2.new.self in
    let some = some_of (making_record book item) (λ none. let no = c.in-Ok.ensures.full.1 none in cc) in
    let made : c.record.new.self.changes ≡ after book.changes some.0 =
    ap (λ (b : Book). b.changes) (subst (λ (m : Option (List Change)). IfSome m (λ changes. c.record.new.self ≡ record book { changes = after book.changes changes; area = c.record.new.self.area; reserved = c.record.new.self.reserved })) some.1 c.in-Ok.ensures.ok) in
    let next : item.id ≡ next_id book.changes = c.if-item-next_id.false ∙ c.next_id.ensures ∙ ap next_id (sym same) in
    let lives = for_live (room_of book) item.moment book.changes item some.0 (making-made (room_of book) item.moment book.changes item some.0 some.1) next (subst IsLedger made c.in-Ok.ensures.keeps.follow) in
    c.push_reserved.ensures.items
    ∙ ap (λ (ids : List ℕ). ids ++ c.in-Ok.new ∷ []) (c.reserve.ensures.items ∙ c.requires.owed ∙ ap live_ids (sym same))
    ∙ ap (λ (n : ℕ). live_ids book.changes ++ n ∷ []) c.in-Ok.ensures.owed
    ∙ sym lives
    ∙ ap live_ids (sym made)
