use Rattle.std.proofs.Common.{◌≡◌, ℕ, ◌+◌, ◌-◌, ◌*◌, ◌<◌, max, length, List, [], ◌∷◌, Some, None, refl, ap, sym, subst, ◌∙◌, arith}
use Rattle.std.specs.List.{filter_map, sum_by}
use Rattle.std.proofs.lemmas.List.{length-map}
use Rattle.fk_trace.specs.declared.change.OpenRecord.{OpenRecord}
use Rattle.fk_trace.specs.declared.change.Change.{Change}
use Rattle.fk_trace.specs.declared.change.Change.TheVariants.{Open, Floor}
use Rattle.fk_trace.specs.Ledger.{IsLedger, live, next_id, floor_of}
use Rattle.fk_ledger.specs.Payloads.{record_bytes}
use Rattle.fk_ledger.specs.Book.{Book, making_record, used, live_ids}
use Rattle.fk_ledger.specs.Private.{book_of}
use Rattle.fk_ledger.specs.Anew.{cost, kept_as}
use Rattle.fk_ledger.proofs.RoomLaws.{made_behind, made_anew, made_none, made_none_kept}
use Rattle.fk_ledger.proofs.ledger.Ledger.way.Goals as goal

abbrev kept_bytes : ℕ → List ℕ → List Change → ℕ
kept_bytes floor ids changes = sum_by cost (filter_map (kept_as floor ids) changes)

pub returns-then-more-room-clause-made : goal.returns-then-more-room-clause-made
returns-then-more-room-clause-made c =
    let book : Book = book_of c.self.inside in
    let item : OpenRecord = c.args.item.now in
    let changes : c.args.self.now.changes ≡ book.changes = sym (ap (λ (b : Book). b.changes) c.self.view_is) in
    let follow : IsLedger book.changes = subst IsLedger changes c.requires.follow in
    let at : item.id ≡ next_id book.changes = c.requires.next.0 ∙ ap next_id changes in
    let ids = ap length c.self.invariant.live in
    let count = length-map (live book.changes) (λ item. item.id) in
    let lives : c.len-live.result ≡ length (live book.changes) = omega (arith, c.len-live.ensures, ids, count) in
    let few : length (live book.changes) < book.limit = omega (arith, lives, c.if-live-from.false, c.from.ensures) in
    let low : next_id book.changes < 9223372036854775808 = omega (arith, c.self.invariant.next, c.if-self-ge-NUMBERS_END.false) in
    let more : ℕ = 6 + c.record_len.result + 14 * (c.len-live.result + 1) in
    let sizes : more ≡ 6 + length (record_bytes item) + 14 * (length (live book.changes) + 1) = omega (arith, lives, c.record_len.ensures.len) in
    let bytes : used book.changes ≡ c.self.inside.journal.end + 1 = c.self.invariant.used (ap (λ (b : Book). b.is_spent) c.self.view_is ∙ c.requires.unspent) in
    subst (λ (b : Book). making_record b item ≡ Some (Open item ∷ [])) c.self.view_is (made_behind book item few low follow at more sizes c.self.inside.journal.end c.room.result bytes c.room.ensures c.if-more-room.true)

pub returns-in_err-left-clause-made : goal.returns-in_err-left-clause-made
returns-in_err-left-clause-made c =
    let book : Book = book_of c.self.inside in
    let item : OpenRecord = c.args.item.now in
    let changes : c.args.self.now.changes ≡ book.changes = sym (ap (λ (b : Book). b.changes) c.self.view_is) in
    let follow : IsLedger book.changes = subst IsLedger changes c.requires.follow in
    let at : item.id ≡ next_id book.changes = c.requires.next.0 ∙ ap next_id changes in
    let ids = ap length c.self.invariant.live in
    let count = length-map (live book.changes) (λ item. item.id) in
    let lives : c.len-live.result ≡ length (live book.changes) = omega (arith, c.len-live.ensures, ids, count) in
    let few : length (live book.changes) < book.limit = omega (arith, lives, c.if-live-from.false, c.from.ensures) in
    let low : next_id book.changes < 9223372036854775808 = omega (arith, c.self.invariant.next, c.if-self-ge-NUMBERS_END.false) in
    let more : ℕ = 6 + c.record_len.result + 14 * (c.len-live.result + 1) in
    let sizes : more ≡ 6 + length (record_bytes item) + 14 * (length (live book.changes) + 1) = omega (arith, lives, c.record_len.ensures.len) in
    let bytes : used book.changes ≡ c.self.inside.journal.end + 1 = c.self.invariant.used (ap (λ (b : Book). b.is_spent) c.self.view_is ∙ c.requires.unspent) in
    let floor : ℕ = max (floor_of book.changes) (item.moment - book.keep) in
    let floor_is : c.floor_at-floor.result ≡ floor =
    c.floor_at-floor.ensures ∙ ap (λ (n : ℕ). max n (c.get.result - book.keep)) c.self.invariant.floor ∙ ap (λ (n : ℕ). max (floor_of book.changes) (n - book.keep)) c.get.ensures.value in
    let sums : kept_bytes c.floor_at-floor.result c.deref-2.result.now c.deref.result.now ≡ kept_bytes floor (live_ids book.changes) book.changes =
    ap (λ (n : ℕ). kept_bytes n c.deref-2.result.now c.deref.result.now) floor_is
    ∙ ap (λ (ids : List ℕ). kept_bytes floor ids c.deref.result.now) (c.deref-2.ensures.value ∙ c.self.invariant.live)
    ∙ ap (λ (xs : List Change). kept_bytes floor (live_ids book.changes) xs) c.deref.ensures.value in
    let over : book.room < kept_bytes floor (live_ids book.changes) book.changes = (let many = c.in_err-left.ensures.none refl in let limit = c.limit.ensures in omega (arith, many, limit, sums)) in
    rw c.from_residual.ensures (subst (λ (b : Book). making_record b item ≡ None) c.self.view_is (made_none_kept book item few low follow at more sizes c.self.inside.journal.end c.room.result bytes c.room.ensures c.if-more-room.false over))

pub returns-then-more-left-clause-made : goal.returns-then-more-left-clause-made
returns-then-more-left-clause-made c =
    let book : Book = book_of c.self.inside in
    let item : OpenRecord = c.args.item.now in
    let changes : c.args.self.now.changes ≡ book.changes = sym (ap (λ (b : Book). b.changes) c.self.view_is) in
    let follow : IsLedger book.changes = subst IsLedger changes c.requires.follow in
    let at : item.id ≡ next_id book.changes = c.requires.next.0 ∙ ap next_id changes in
    let ids = ap length c.self.invariant.live in
    let count = length-map (live book.changes) (λ item. item.id) in
    let lives : c.len-live.result ≡ length (live book.changes) = omega (arith, c.len-live.ensures, ids, count) in
    let few : length (live book.changes) < book.limit = omega (arith, lives, c.if-live-from.false, c.from.ensures) in
    let low : next_id book.changes < 9223372036854775808 = omega (arith, c.self.invariant.next, c.if-self-ge-NUMBERS_END.false) in
    let more : ℕ = 6 + c.record_len.result + 14 * (c.len-live.result + 1) in
    let sizes : more ≡ 6 + length (record_bytes item) + 14 * (length (live book.changes) + 1) = omega (arith, lives, c.record_len.ensures.len) in
    let bytes : used book.changes ≡ c.self.inside.journal.end + 1 = c.self.invariant.used (ap (λ (b : Book). b.is_spent) c.self.view_is ∙ c.requires.unspent) in
    let floor : ℕ = max (floor_of book.changes) (item.moment - book.keep) in
    let floor_is : c.floor_at-floor.result ≡ floor =
    c.floor_at-floor.ensures ∙ ap (λ (n : ℕ). max n (c.get.result - book.keep)) c.self.invariant.floor ∙ ap (λ (n : ℕ). max (floor_of book.changes) (n - book.keep)) c.get.ensures.value in
    let sums : kept_bytes c.floor_at-floor.result c.deref-2.result.now c.deref.result.now ≡ kept_bytes floor (live_ids book.changes) book.changes =
    ap (λ (n : ℕ). kept_bytes n c.deref-2.result.now c.deref.result.now) floor_is
    ∙ ap (λ (ids : List ℕ). kept_bytes floor ids c.deref.result.now) (c.deref-2.ensures.value ∙ c.self.invariant.live)
    ∙ ap (λ (xs : List Change). kept_bytes floor (live_ids book.changes) xs) c.deref.ensures.value in
    let parts : c.in_ok-left.left + kept_bytes floor (live_ids book.changes) book.changes ≡ book.room = ap (λ (n : ℕ). c.in_ok-left.left + n) (sym sums) ∙ c.in_ok-left.ensures.some ∙ c.limit.ensures in
    subst (λ (b : Book). making_record b item ≡ Some (Floor c.floor_at-floor.result (next_id b.changes) ∷ Open item ∷ [])) c.self.view_is
    (made_anew book item few low follow at more sizes c.self.inside.journal.end c.room.result bytes c.room.ensures c.if-more-room.false c.in_ok-left.left parts c.if-more-left.true ∙ ap (λ (n : ℕ). Some (Floor n (next_id book.changes) ∷ Open item ∷ [])) (sym floor_is))

pub returns-else-more-left-clause-made : goal.returns-else-more-left-clause-made
returns-else-more-left-clause-made c =
    let book : Book = book_of c.self.inside in
    let item : OpenRecord = c.args.item.now in
    let changes : c.args.self.now.changes ≡ book.changes = sym (ap (λ (b : Book). b.changes) c.self.view_is) in
    let follow : IsLedger book.changes = subst IsLedger changes c.requires.follow in
    let at : item.id ≡ next_id book.changes = c.requires.next.0 ∙ ap next_id changes in
    let ids = ap length c.self.invariant.live in
    let count = length-map (live book.changes) (λ item. item.id) in
    let lives : c.len-live.result ≡ length (live book.changes) = omega (arith, c.len-live.ensures, ids, count) in
    let few : length (live book.changes) < book.limit = omega (arith, lives, c.if-live-from.false, c.from.ensures) in
    let low : next_id book.changes < 9223372036854775808 = omega (arith, c.self.invariant.next, c.if-self-ge-NUMBERS_END.false) in
    let more : ℕ = 6 + c.record_len.result + 14 * (c.len-live.result + 1) in
    let sizes : more ≡ 6 + length (record_bytes item) + 14 * (length (live book.changes) + 1) = omega (arith, lives, c.record_len.ensures.len) in
    let bytes : used book.changes ≡ c.self.inside.journal.end + 1 = c.self.invariant.used (ap (λ (b : Book). b.is_spent) c.self.view_is ∙ c.requires.unspent) in
    let floor : ℕ = max (floor_of book.changes) (item.moment - book.keep) in
    let floor_is : c.floor_at-floor.result ≡ floor =
    c.floor_at-floor.ensures ∙ ap (λ (n : ℕ). max n (c.get.result - book.keep)) c.self.invariant.floor ∙ ap (λ (n : ℕ). max (floor_of book.changes) (n - book.keep)) c.get.ensures.value in
    let sums : kept_bytes c.floor_at-floor.result c.deref-2.result.now c.deref.result.now ≡ kept_bytes floor (live_ids book.changes) book.changes =
    ap (λ (n : ℕ). kept_bytes n c.deref-2.result.now c.deref.result.now) floor_is
    ∙ ap (λ (ids : List ℕ). kept_bytes floor ids c.deref.result.now) (c.deref-2.ensures.value ∙ c.self.invariant.live)
    ∙ ap (λ (xs : List Change). kept_bytes floor (live_ids book.changes) xs) c.deref.ensures.value in
    let parts : c.in_ok-left.left + kept_bytes floor (live_ids book.changes) book.changes ≡ book.room = ap (λ (n : ℕ). c.in_ok-left.left + n) (sym sums) ∙ c.in_ok-left.ensures.some ∙ c.limit.ensures in
    subst (λ (b : Book). making_record b item ≡ None) c.self.view_is (made_none book item few low follow at more sizes c.self.inside.journal.end c.room.result bytes c.room.ensures c.if-more-room.false c.in_ok-left.left parts c.if-more-left.false)
