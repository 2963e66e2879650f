use Rattle.std.proofs.Common.{◌≡◌, ℕ, ◌+◌, ◌≤◌, length, true, false, List, [], ◌∷◌, ◌++◌, refl, ap, sym, subst, ◌∙◌, arith}
use Rattle.fk_trace.specs.declared.change.OpenRecord.{OpenRecord}
use Rattle.fk_trace.specs.declared.change.Change.{Change}
use Rattle.fk_trace.specs.declared.change.Change.TheVariants.{Open, Floor}
use Rattle.fk_trace.specs.Ledger.{IsLedger, next_id, is_seen, after_one, rise}
use Rattle.fk_host.specs.Disk.{IfTold}
use Rattle.fk_journal.specs.Entries.{Content, IsContent}
use Rattle.fk_journal.specs.Keeps.{Log, Keeps}
use Rattle.fk_journal.proofs.Told.{if_told_then}
use Rattle.fk_ledger.specs.declared.ledger.Ledger.TheInside.{Inside}
use Rattle.fk_ledger.specs.Payloads.{ledger_contents, record_bytes}
use Rattle.fk_ledger.specs.Book.{Book, used, live_ids, calls_of_one}
use Rattle.fk_ledger.specs.Holds.{KeepsLedger}
use Rattle.fk_ledger.specs.Private.{book_of}
use Rattle.fk_ledger.specs.Stretch.{Stretch}
use Rattle.fk_ledger.proofs.RoomLaws.{journal_keeps, next_in, anew_of, anew_is, anew_length, anew_ids, anew_floor, anew_next, anew_ledger, anew_made_follows, opened_order, opened_room, order_of, book_same, slots, long_record, small_record, HasSlots}
use Rattle.fk_ledger.proofs.StretchLaws.{stretches_join, stretch_longer, ok_append, err_append}
use Rattle.fk_ledger.proofs.ledger.Ledger.record_anew.Goals as goal

abbrev open_content : List ℕ → Content
open_content payload = record { kind = 1; payload = payload }

pub compact-begun-requires-clause-floor : goal.compact-begun-requires-clause-floor
compact-begun-requires-clause-floor g c =
    let ledger : List Change = c.args.self.now.changes in
    let found : List Change = c.self.inside.changes.items in
    let floor : ℕ = c.args.floor in
    let item : OpenRecord = c.args.item in
    let changes : found ≡ ledger = ap (λ (b : Book). b.changes) c.self.view_is in
    let copied : c.deref.result.now ≡ ledger = c.deref.ensures.value ∙ changes in
    let next : c.self.inside.next ≡ next_id ledger = c.self.invariant.next ∙ ap next_id changes in
    let low = next_in ledger c.self.inside.next next c.requires.few.1 in
    (omega (arith, c.ranges.floor.fits), low.0, low.1)

pub returns-in-Err-clause-moments : goal.returns-in-Err-clause-moments
returns-in-Err-clause-moments g c =
    let ledger : List Change = c.args.self.now.changes in
    let found : List Change = c.self.inside.changes.items in
    let floor : ℕ = c.args.floor in
    let item : OpenRecord = c.args.item in
    let changes : found ≡ ledger = ap (λ (b : Book). b.changes) c.self.view_is in
    let copied : c.deref.result.now ≡ ledger = c.deref.ensures.value ∙ changes in
    let next : c.self.inside.next ≡ next_id ledger = c.self.invariant.next ∙ ap next_id changes in
    let first : IfTold (g.D.Disk.told c.args.disk.now) (g.D.Disk.told c.compact-begun.new.disk) (Stretch ledger (rise floor ledger ∷ []) false (g.D.Disk.may_leave c.args.disk.now) (g.D.Disk.may_leave c.compact-begun.new.disk)) =
    subst (λ (l : List Change). IfTold (g.D.Disk.told c.args.disk.now) (g.D.Disk.told c.compact-begun.new.disk) (Stretch l (rise floor ledger ∷ []) false (g.D.Disk.may_leave c.args.disk.now) (g.D.Disk.may_leave c.compact-begun.new.disk))) copied
    (subst (λ (n : ℕ). IfTold (g.D.Disk.told c.args.disk.now) (g.D.Disk.told c.compact-begun.new.disk) (Stretch c.deref.result.now (Floor floor n ∷ []) false (g.D.Disk.may_leave c.args.disk.now) (g.D.Disk.may_leave c.compact-begun.new.disk))) next c.in-Err.ensures.moments) in
    stretch_longer ledger (rise floor ledger ∷ []) (Open item ∷ []) (g.D.Disk.told c.args.disk.now) (g.D.Disk.told c.compact-begun.new.disk) (g.D.Disk.may_leave c.args.disk.now) (g.D.Disk.may_leave c.compact-begun.new.disk) first

pub append-requires-clause-content : goal.append-requires-clause-content
append-requires-clause-content g c =
    let bytes : c.deref-3.result.now ≡ record_bytes c.args.item = c.deref-3.ensures.value ∙ c.write_record.ensures.bytes in
    subst (λ (payload : List ℕ). IsContent (open_content payload)) (sym bytes) (record { kind = (omega arith, omega arith); size = small_record c.args.item c.write_record.ensures.values })

pub append-requires-clause-keeps : goal.append-requires-clause-keeps
append-requires-clause-keeps g c =
    let ledger : List Change = c.args.self.now.changes in
    let found : List Change = c.self.inside.changes.items in
    let floor : ℕ = c.args.floor in
    let item : OpenRecord = c.args.item in
    let changes : found ≡ ledger = ap (λ (b : Book). b.changes) c.self.view_is in
    let copied : c.deref.result.now ≡ ledger = c.deref.ensures.value ∙ changes in
    let next : c.self.inside.next ≡ next_id ledger = c.self.invariant.next ∙ ap next_id changes in
    let anew : List Change = anew_of ledger floor in
    let anew_same : after_one c.deref.result.now (Floor floor c.self.inside.next) ≡ anew =
    ap (λ (l : List Change). after_one l (Floor floor c.self.inside.next)) copied ∙ ap (λ (n : ℕ). after_one ledger (Floor floor n)) next in
    let kept : KeepsLedger anew (g.D.Disk.told c.compact-begun.new.disk) (g.D.Disk.may_leave c.compact-begun.new.disk) = subst (λ (l : List Change). KeepsLedger l (g.D.Disk.told c.compact-begun.new.disk) (g.D.Disk.may_leave c.compact-begun.new.disk)) anew_same c.in-Ok.ensures.keeps in
    let bytes_used : used anew ≡ c.compact-begun.new.journal.end + 1 = ap used (sym anew_same) ∙ c.in-Ok.ensures.used in
    let old : Keeps c.compact-begun.new.journal (ledger_contents anew) (g.D.Disk.told c.compact-begun.new.disk) (g.D.Disk.may_leave c.compact-begun.new.disk) = journal_keeps anew c.compact-begun.new.journal (g.D.Disk.told c.compact-begun.new.disk) (g.D.Disk.may_leave c.compact-begun.new.disk) bytes_used c.in-Ok.ensures.stands kept in
    (ledger_contents anew, old)

pub index_anew-requires : goal.index_anew-requires
index_anew-requires g c =
    let ledger : List Change = c.args.self.now.changes in
    let found : List Change = c.self.inside.changes.items in
    let floor : ℕ = c.args.floor in
    let item : OpenRecord = c.args.item in
    let changes : found ≡ ledger = ap (λ (b : Book). b.changes) c.self.view_is in
    let copied : c.deref.result.now ≡ ledger = c.deref.ensures.value ∙ changes in
    let next : c.self.inside.next ≡ next_id ledger = c.self.invariant.next ∙ ap next_id changes in
    let has : HasSlots c.self.inside = slots c.self.inside (length (record_bytes item)) (long_record item) (subst (λ (n : ℕ). length (record_bytes item) ≤ n) (sym (ap (λ (b : Book). b.reserved) c.self.view_is)) c.requires.reserved) in
    let begun : c.begin_anew.new.changes.items ≡ anew_of found floor =
    c.begin_anew.ensures.items ∙ anew_is found floor c.deref-in-Ok-append.result.now c.self.inside.next (c.deref-in-Ok-append.ensures.value ∙ c.self.invariant.live) c.self.invariant.next in
    let size = ap length begun in
    let few = anew_length found floor in
    let indexed = ap length c.deref-in-Ok-append-2.ensures.value in
    omega (arith, size, few, indexed, has.digests)

pub add-requires : goal.add-requires
add-requires g c =
    let ledger : List Change = c.args.self.now.changes in
    let found : List Change = c.self.inside.changes.items in
    let floor : ℕ = c.args.floor in
    let item : OpenRecord = c.args.item in
    let changes : found ≡ ledger = ap (λ (b : Book). b.changes) c.self.view_is in
    let copied : c.deref.result.now ≡ ledger = c.deref.ensures.value ∙ changes in
    let next : c.self.inside.next ≡ next_id ledger = c.self.invariant.next ∙ ap next_id changes in
    let has : HasSlots c.self.inside = slots c.self.inside (length (record_bytes item)) (long_record item) (subst (λ (n : ℕ). length (record_bytes item) ≤ n) (sym (ap (λ (b : Book). b.reserved) c.self.view_is)) c.requires.reserved) in
    let begun : c.begin_anew.new.changes.items ≡ anew_of found floor =
    c.begin_anew.ensures.items ∙ anew_is found floor c.deref-in-Ok-append.result.now c.self.inside.next (c.deref-in-Ok-append.ensures.value ∙ c.self.invariant.live) c.self.invariant.next in
    let size = ap length begun in
    let few = anew_length found floor in
    let indexed = ap length c.deref-in-Ok-append-2.ensures.value in
    omega (arith, size, few, indexed, has.digests, c.index_anew.ensures.spare)

pub push_reserved-requires-in-Ok-append : goal.push_reserved-requires-in-Ok-append
push_reserved-requires-in-Ok-append g c =
    let ledger : List Change = c.args.self.now.changes in
    let found : List Change = c.self.inside.changes.items in
    let floor : ℕ = c.args.floor in
    let item : OpenRecord = c.args.item in
    let changes : found ≡ ledger = ap (λ (b : Book). b.changes) c.self.view_is in
    let copied : c.deref.result.now ≡ ledger = c.deref.ensures.value ∙ changes in
    let next : c.self.inside.next ≡ next_id ledger = c.self.invariant.next ∙ ap next_id changes in
    let has : HasSlots c.self.inside = slots c.self.inside (length (record_bytes item)) (long_record item) (subst (λ (n : ℕ). length (record_bytes item) ≤ n) (sym (ap (λ (b : Book). b.reserved) c.self.view_is)) c.requires.reserved) in
    let begun : c.begin_anew.new.changes.items ≡ anew_of found floor =
    c.begin_anew.ensures.items ∙ anew_is found floor c.deref-in-Ok-append.result.now c.self.inside.next (c.deref-in-Ok-append.ensures.value ∙ c.self.invariant.live) c.self.invariant.next in
    let size = ap length begun in
    let few = anew_length found floor in
    omega (arith, size, few, has.changes, c.begin_anew.ensures.capacity)

pub invariant_of-self-in-Ok-append : goal.invariant_of-self-in-Ok-append
invariant_of-self-in-Ok-append g c =
    let ledger : List Change = c.args.self.now.changes in
    let found : List Change = c.self.inside.changes.items in
    let floor : ℕ = c.args.floor in
    let item : OpenRecord = c.args.item in
    let changes : found ≡ ledger = ap (λ (b : Book). b.changes) c.self.view_is in
    let copied : c.deref.result.now ≡ ledger = c.deref.ensures.value ∙ changes in
    let next : c.self.inside.next ≡ next_id ledger = c.self.invariant.next ∙ ap next_id changes in
    let bytes : c.deref-3.result.now ≡ record_bytes c.args.item = c.deref-3.ensures.value ∙ c.write_record.ensures.bytes in
    let has : HasSlots c.self.inside = slots c.self.inside (length (record_bytes item)) (long_record item) (subst (λ (n : ℕ). length (record_bytes item) ≤ n) (sym (ap (λ (b : Book). b.reserved) c.self.view_is)) c.requires.reserved) in
    let begun : c.begin_anew.new.changes.items ≡ anew_of found floor =
    c.begin_anew.ensures.items ∙ anew_is found floor c.deref-in-Ok-append.result.now c.self.inside.next (c.deref-in-Ok-append.ensures.value ∙ c.self.invariant.live) c.self.invariant.next in
    let size = ap length begun in
    let few = anew_length found floor in
    let like : Inside = record {
      journal = c.append.new.self;
      changes = c.push_reserved-in-Ok-append.new.self;
      index = c.add.new.index;
      live = c.push_reserved.new.self;
      next = item.id + 1;
      floor = floor;
      limit = c.self.inside.limit;
      keep = c.self.inside.keep;
      payload = c.write_record.new.buffer;
    } in
    let follow : IsLedger found = subst IsLedger (sym changes) c.requires.keeps.follow in
    let anew : List Change = anew_of found floor in
    let anew_follow : IsLedger anew = anew_ledger found floor follow in
    let at : item.id ≡ next_id anew = c.requires.next.0 ∙ ap next_id (sym changes) ∙ sym (anew_next found floor) in
    let anew_same : after_one c.deref.result.now (Floor floor c.self.inside.next) ≡ anew =
    ap (λ (l : List Change). after_one l (Floor floor c.self.inside.next)) c.deref.ensures.value ∙ ap (λ (n : ℕ). after_one found (Floor floor n)) c.self.invariant.next in
    let before : used anew ≡ c.compact-begun.new.journal.end + 1 = ap used (sym anew_same) ∙ c.in-Ok.ensures.used in
    let end : c.append.new.self.end ≡ c.compact-begun.new.journal.end + 6 + length c.deref-3.result.now = ap (λ (l : Log). l.end) c.in-Ok-append.ensures.ok in
    let items : c.push_reserved-in-Ok-append.new.self.items ≡ anew ++ Open item ∷ [] = c.push_reserved-in-Ok-append.ensures.items ∙ ap (λ (xs : List Change). xs ++ Open item ∷ []) begun in
    let ids : c.push_reserved.new.self.items ≡ live_ids anew ++ item.id ∷ [] =
    c.push_reserved.ensures.items ∙ ap (λ (ns : List ℕ). ns ++ item.id ∷ []) (c.self.invariant.live ∙ sym (anew_ids found floor)) in
    let unspent : c.self.inside.journal.is_spent ≡ false = ap (λ (b : Book). b.is_spent) c.self.view_is ∙ c.requires.unspent in
    let idle : c.append.new.self.is_copying ≡ false =
    ap (λ (l : Log). l.is_copying) c.in-Ok-append.ensures.ok ∙ ap (λ (l : Log). l.is_copying) c.in-Ok.ensures.ok ∙ c.self.invariant.idle unspent in
    let order = opened_order like anew item (length c.deref-3.result.now) anew_follow at items ids refl (sym (anew_floor found floor)) (ap length bytes) (omega (arith, end, before)) idle
    (c.add.ensures.held anew (λ digest. c.index_anew.ensures.held digest ∙ ap (is_seen digest) (c.deref-in-Ok-append-2.ensures.value ∙ begun))) in
    let room = opened_room anew item anew_follow at in
    let lives = ap length c.self.invariant.live in
    let same_ids = ap length (anew_ids found floor) in
    let reserved : c.append.new.self.reserved ≡ c.self.inside.journal.reserved = ap (λ (l : Log). l.reserved) c.in-Ok-append.ensures.ok ∙ ap (λ (l : Log). l.reserved) c.in-Ok.ensures.ok in
    order_of like (anew ++ Open item ∷ []) order (omega (arith, room, lives, same_ids, few, has.changes, c.begin_anew.ensures.capacity, c.push_reserved-in-Ok-append.ensures.capacity))
    (omega (arith, c.self.invariant.numbers, c.push_reserved.ensures.capacity)) (omega (arith, reserved, c.self.invariant.reserved.0))
    (omega (arith, c.write_record.ensures.capacity, c.compact-begun.ensures.capacity, c.self.invariant.reserved.1))

pub returns-in-Ok-append-clause-ok : goal.returns-in-Ok-append-clause-ok
returns-in-Ok-append-clause-ok g c =
    let ledger : List Change = c.args.self.now.changes in
    let found : List Change = c.self.inside.changes.items in
    let floor : ℕ = c.args.floor in
    let item : OpenRecord = c.args.item in
    let changes : found ≡ ledger = ap (λ (b : Book). b.changes) c.self.view_is in
    let copied : c.deref.result.now ≡ ledger = c.deref.ensures.value ∙ changes in
    let next : c.self.inside.next ≡ next_id ledger = c.self.invariant.next ∙ ap next_id changes in
    let has : HasSlots c.self.inside = slots c.self.inside (length (record_bytes item)) (long_record item) (subst (λ (n : ℕ). length (record_bytes item) ≤ n) (sym (ap (λ (b : Book). b.reserved) c.self.view_is)) c.requires.reserved) in
    let begun : c.begin_anew.new.changes.items ≡ anew_of found floor =
    c.begin_anew.ensures.items ∙ anew_is found floor c.deref-in-Ok-append.result.now c.self.inside.next (c.deref-in-Ok-append.ensures.value ∙ c.self.invariant.live) c.self.invariant.next in
    let size = ap length begun in
    let few = anew_length found floor in
    let like : Inside = record {
      journal = c.append.new.self;
      changes = c.push_reserved-in-Ok-append.new.self;
      index = c.add.new.index;
      live = c.push_reserved.new.self;
      next = item.id + 1;
      floor = floor;
      limit = c.self.inside.limit;
      keep = c.self.inside.keep;
      payload = c.write_record.new.buffer;
    } in
    let made : List Change = anew_of ledger floor ++ Open item ∷ [] in
    let items : c.push_reserved-in-Ok-append.new.self.items ≡ made =
    c.push_reserved-in-Ok-append.ensures.items ∙ ap (λ (xs : List Change). xs ++ Open item ∷ []) begun ∙ ap (λ (l : List Change). anew_of l floor ++ Open item ∷ []) changes in
    book_same (book_of like) (record c.args.self.now { changes = made; area = c.append.new.self.area; reserved = (book_of like).reserved }) items (ap (λ (b : Book). b.limit) c.self.view_is) (ap (λ (b : Book). b.keep) c.self.view_is) refl
    (ap (λ (l : Log). l.limit) c.in-Ok-append.ensures.ok ∙ ap (λ (l : Log). l.limit) c.in-Ok.ensures.ok ∙ ap (λ (b : Book). b.room) c.self.view_is) refl
    (ap (λ (l : Log). l.is_spent) c.in-Ok-append.ensures.ok ∙ ap (λ (l : Log). l.is_spent) c.in-Ok.ensures.ok ∙ ap (λ (b : Book). b.is_spent) c.self.view_is)

pub returns-in-Ok-append-clause-keeps : goal.returns-in-Ok-append-clause-keeps
returns-in-Ok-append-clause-keeps g c =
    let ledger : List Change = c.args.self.now.changes in
    let found : List Change = c.self.inside.changes.items in
    let floor : ℕ = c.args.floor in
    let item : OpenRecord = c.args.item in
    let changes : found ≡ ledger = ap (λ (b : Book). b.changes) c.self.view_is in
    let copied : c.deref.result.now ≡ ledger = c.deref.ensures.value ∙ changes in
    let next : c.self.inside.next ≡ next_id ledger = c.self.invariant.next ∙ ap next_id changes in
    let anew : List Change = anew_of ledger floor in
    let anew_same : after_one c.deref.result.now (Floor floor c.self.inside.next) ≡ anew =
    ap (λ (l : List Change). after_one l (Floor floor c.self.inside.next)) copied ∙ ap (λ (n : ℕ). after_one ledger (Floor floor n)) next in
    let kept : KeepsLedger anew (g.D.Disk.told c.compact-begun.new.disk) (g.D.Disk.may_leave c.compact-begun.new.disk) = subst (λ (l : List Change). KeepsLedger l (g.D.Disk.told c.compact-begun.new.disk) (g.D.Disk.may_leave c.compact-begun.new.disk)) anew_same c.in-Ok.ensures.keeps in
    let bytes_used : used anew ≡ c.compact-begun.new.journal.end + 1 = ap used (sym anew_same) ∙ c.in-Ok.ensures.used in
    let old : Keeps c.compact-begun.new.journal (ledger_contents anew) (g.D.Disk.told c.compact-begun.new.disk) (g.D.Disk.may_leave c.compact-begun.new.disk) = journal_keeps anew c.compact-begun.new.journal (g.D.Disk.told c.compact-begun.new.disk) (g.D.Disk.may_leave c.compact-begun.new.disk) bytes_used c.in-Ok.ensures.stands kept in
    let bytes : c.deref-3.result.now ≡ record_bytes c.args.item = c.deref-3.ensures.value ∙ c.write_record.ensures.bytes in
    let has : HasSlots c.self.inside = slots c.self.inside (length (record_bytes item)) (long_record item) (subst (λ (n : ℕ). length (record_bytes item) ≤ n) (sym (ap (λ (b : Book). b.reserved) c.self.view_is)) c.requires.reserved) in
    let begun : c.begin_anew.new.changes.items ≡ anew_of found floor =
    c.begin_anew.ensures.items ∙ anew_is found floor c.deref-in-Ok-append.result.now c.self.inside.next (c.deref-in-Ok-append.ensures.value ∙ c.self.invariant.live) c.self.invariant.next in
    let size = ap length begun in
    let few = anew_length found floor in
    let both = ok_append anew (Open item) (open_content c.deref-3.result.now) c.append.new.self (g.D.Disk.told c.compact-begun.new.disk) (g.D.Disk.told c.append.new.disk) (g.D.Disk.may_leave c.compact-begun.new.disk) (g.D.Disk.may_leave c.append.new.disk)
    tt (ap open_content (sym bytes)) kept c.write_record.ensures.values (anew_made_follows ledger floor item c.requires.next) (c.in-Ok-append.ensures.keeps (ledger_contents anew) old) (c.in-Ok-append.ensures.moments (ledger_contents anew) old) in
    let items : c.push_reserved-in-Ok-append.new.self.items ≡ anew ++ Open item ∷ [] =
    c.push_reserved-in-Ok-append.ensures.items ∙ ap (λ (xs : List Change). xs ++ Open item ∷ []) begun ∙ ap (λ (l : List Change). anew_of l floor ++ Open item ∷ []) changes in
    subst (λ (l : List Change). KeepsLedger l (g.D.Disk.told c.append.new.disk) (g.D.Disk.may_leave c.append.new.disk)) (sym items) both.0

pub returns-in-Ok-append-clause-stands : goal.returns-in-Ok-append-clause-stands
returns-in-Ok-append-clause-stands g c =
    let ledger : List Change = c.args.self.now.changes in
    let found : List Change = c.self.inside.changes.items in
    let floor : ℕ = c.args.floor in
    let item : OpenRecord = c.args.item in
    let changes : found ≡ ledger = ap (λ (b : Book). b.changes) c.self.view_is in
    let copied : c.deref.result.now ≡ ledger = c.deref.ensures.value ∙ changes in
    let next : c.self.inside.next ≡ next_id ledger = c.self.invariant.next ∙ ap next_id changes in
    let anew : List Change = anew_of ledger floor in
    let anew_same : after_one c.deref.result.now (Floor floor c.self.inside.next) ≡ anew =
    ap (λ (l : List Change). after_one l (Floor floor c.self.inside.next)) copied ∙ ap (λ (n : ℕ). after_one ledger (Floor floor n)) next in
    let kept : KeepsLedger anew (g.D.Disk.told c.compact-begun.new.disk) (g.D.Disk.may_leave c.compact-begun.new.disk) = subst (λ (l : List Change). KeepsLedger l (g.D.Disk.told c.compact-begun.new.disk) (g.D.Disk.may_leave c.compact-begun.new.disk)) anew_same c.in-Ok.ensures.keeps in
    let bytes_used : used anew ≡ c.compact-begun.new.journal.end + 1 = ap used (sym anew_same) ∙ c.in-Ok.ensures.used in
    let old : Keeps c.compact-begun.new.journal (ledger_contents anew) (g.D.Disk.told c.compact-begun.new.disk) (g.D.Disk.may_leave c.compact-begun.new.disk) = journal_keeps anew c.compact-begun.new.journal (g.D.Disk.told c.compact-begun.new.disk) (g.D.Disk.may_leave c.compact-begun.new.disk) bytes_used c.in-Ok.ensures.stands kept in
    (c.in-Ok-append.ensures.keeps (ledger_contents anew) old).stands

pub returns-in-Ok-append-clause-moments : goal.returns-in-Ok-append-clause-moments
returns-in-Ok-append-clause-moments g c =
    let ledger : List Change = c.args.self.now.changes in
    let found : List Change = c.self.inside.changes.items in
    let floor : ℕ = c.args.floor in
    let item : OpenRecord = c.args.item in
    let changes : found ≡ ledger = ap (λ (b : Book). b.changes) c.self.view_is in
    let copied : c.deref.result.now ≡ ledger = c.deref.ensures.value ∙ changes in
    let next : c.self.inside.next ≡ next_id ledger = c.self.invariant.next ∙ ap next_id changes in
    let anew : List Change = anew_of ledger floor in
    let anew_same : after_one c.deref.result.now (Floor floor c.self.inside.next) ≡ anew =
    ap (λ (l : List Change). after_one l (Floor floor c.self.inside.next)) copied ∙ ap (λ (n : ℕ). after_one ledger (Floor floor n)) next in
    let kept : KeepsLedger anew (g.D.Disk.told c.compact-begun.new.disk) (g.D.Disk.may_leave c.compact-begun.new.disk) = subst (λ (l : List Change). KeepsLedger l (g.D.Disk.told c.compact-begun.new.disk) (g.D.Disk.may_leave c.compact-begun.new.disk)) anew_same c.in-Ok.ensures.keeps in
    let bytes_used : used anew ≡ c.compact-begun.new.journal.end + 1 = ap used (sym anew_same) ∙ c.in-Ok.ensures.used in
    let old : Keeps c.compact-begun.new.journal (ledger_contents anew) (g.D.Disk.told c.compact-begun.new.disk) (g.D.Disk.may_leave c.compact-begun.new.disk) = journal_keeps anew c.compact-begun.new.journal (g.D.Disk.told c.compact-begun.new.disk) (g.D.Disk.may_leave c.compact-begun.new.disk) bytes_used c.in-Ok.ensures.stands kept in
    let bytes : c.deref-3.result.now ≡ record_bytes c.args.item = c.deref-3.ensures.value ∙ c.write_record.ensures.bytes in
    let first : IfTold (g.D.Disk.told c.args.disk.now) (g.D.Disk.told c.compact-begun.new.disk) (Stretch ledger (rise floor ledger ∷ []) true (g.D.Disk.may_leave c.args.disk.now) (g.D.Disk.may_leave c.compact-begun.new.disk)) =
    subst (λ (l : List Change). IfTold (g.D.Disk.told c.args.disk.now) (g.D.Disk.told c.compact-begun.new.disk) (Stretch l (rise floor ledger ∷ []) true (g.D.Disk.may_leave c.args.disk.now) (g.D.Disk.may_leave c.compact-begun.new.disk))) copied
    (subst (λ (n : ℕ). IfTold (g.D.Disk.told c.args.disk.now) (g.D.Disk.told c.compact-begun.new.disk) (Stretch c.deref.result.now (Floor floor n ∷ []) true (g.D.Disk.may_leave c.args.disk.now) (g.D.Disk.may_leave c.compact-begun.new.disk))) next c.in-Ok.ensures.moments) in
    let both = ok_append anew (Open item) (open_content c.deref-3.result.now) c.append.new.self (g.D.Disk.told c.compact-begun.new.disk) (g.D.Disk.told c.append.new.disk) (g.D.Disk.may_leave c.compact-begun.new.disk) (g.D.Disk.may_leave c.append.new.disk)
    tt (ap open_content (sym bytes)) kept c.write_record.ensures.values (anew_made_follows ledger floor item c.requires.next) (c.in-Ok-append.ensures.keeps (ledger_contents anew) old) (c.in-Ok-append.ensures.moments (ledger_contents anew) old) in
    stretches_join (g.D.Disk.told c.args.disk.now) (g.D.Disk.told c.compact-begun.new.disk) (g.D.Disk.told c.append.new.disk) ledger (rise floor ledger ∷ []) (Open item ∷ []) true (g.D.Disk.may_leave c.args.disk.now) (g.D.Disk.may_leave c.compact-begun.new.disk) (g.D.Disk.may_leave c.append.new.disk) first both.1

pub returns-in-Ok-append-clause-calls : goal.returns-in-Ok-append-clause-calls
returns-in-Ok-append-clause-calls g c =
    let ledger : List Change = c.args.self.now.changes in
    let found : List Change = c.self.inside.changes.items in
    let floor : ℕ = c.args.floor in
    let item : OpenRecord = c.args.item in
    let changes : found ≡ ledger = ap (λ (b : Book). b.changes) c.self.view_is in
    let copied : c.deref.result.now ≡ ledger = c.deref.ensures.value ∙ changes in
    let next : c.self.inside.next ≡ next_id ledger = c.self.invariant.next ∙ ap next_id changes in
    let first : IfTold (g.D.Disk.told c.args.disk.now) (g.D.Disk.told c.compact-begun.new.disk) (λ before after. after.moments ≡ before.moments + calls_of_one ledger (rise floor ledger)) =
    subst (λ (l : List Change). IfTold (g.D.Disk.told c.args.disk.now) (g.D.Disk.told c.compact-begun.new.disk) (λ before after. after.moments ≡ before.moments + calls_of_one l (rise floor ledger))) copied
    (subst (λ (n : ℕ). IfTold (g.D.Disk.told c.args.disk.now) (g.D.Disk.told c.compact-begun.new.disk) (λ before after. after.moments ≡ before.moments + calls_of_one c.deref.result.now (Floor floor n))) next c.in-Ok.ensures.calls) in
    let more : ℕ = calls_of_one ledger (rise floor ledger) in
    if_told_then (g.D.Disk.told c.args.disk.now) (g.D.Disk.told c.compact-begun.new.disk) (g.D.Disk.told c.append.new.disk) (λ before after. after.moments ≡ before.moments + more) (λ before after. after.moments ≡ before.moments + 4) (λ before after. after.moments ≡ before.moments + (more + (4 + 0)))
    (λ x y z one two. omega (arith, one, two)) first c.in-Ok-append.ensures.calls

pub returns-in-Err-append-clause-moments : goal.returns-in-Err-append-clause-moments
returns-in-Err-append-clause-moments g c =
    let ledger : List Change = c.args.self.now.changes in
    let found : List Change = c.self.inside.changes.items in
    let floor : ℕ = c.args.floor in
    let item : OpenRecord = c.args.item in
    let changes : found ≡ ledger = ap (λ (b : Book). b.changes) c.self.view_is in
    let copied : c.deref.result.now ≡ ledger = c.deref.ensures.value ∙ changes in
    let next : c.self.inside.next ≡ next_id ledger = c.self.invariant.next ∙ ap next_id changes in
    let anew : List Change = anew_of ledger floor in
    let anew_same : after_one c.deref.result.now (Floor floor c.self.inside.next) ≡ anew =
    ap (λ (l : List Change). after_one l (Floor floor c.self.inside.next)) copied ∙ ap (λ (n : ℕ). after_one ledger (Floor floor n)) next in
    let kept : KeepsLedger anew (g.D.Disk.told c.compact-begun.new.disk) (g.D.Disk.may_leave c.compact-begun.new.disk) = subst (λ (l : List Change). KeepsLedger l (g.D.Disk.told c.compact-begun.new.disk) (g.D.Disk.may_leave c.compact-begun.new.disk)) anew_same c.in-Ok.ensures.keeps in
    let bytes_used : used anew ≡ c.compact-begun.new.journal.end + 1 = ap used (sym anew_same) ∙ c.in-Ok.ensures.used in
    let old : Keeps c.compact-begun.new.journal (ledger_contents anew) (g.D.Disk.told c.compact-begun.new.disk) (g.D.Disk.may_leave c.compact-begun.new.disk) = journal_keeps anew c.compact-begun.new.journal (g.D.Disk.told c.compact-begun.new.disk) (g.D.Disk.may_leave c.compact-begun.new.disk) bytes_used c.in-Ok.ensures.stands kept in
    let bytes : c.deref-3.result.now ≡ record_bytes c.args.item = c.deref-3.ensures.value ∙ c.write_record.ensures.bytes in
    let first : IfTold (g.D.Disk.told c.args.disk.now) (g.D.Disk.told c.compact-begun.new.disk) (Stretch ledger (rise floor ledger ∷ []) true (g.D.Disk.may_leave c.args.disk.now) (g.D.Disk.may_leave c.compact-begun.new.disk)) =
    subst (λ (l : List Change). IfTold (g.D.Disk.told c.args.disk.now) (g.D.Disk.told c.compact-begun.new.disk) (Stretch l (rise floor ledger ∷ []) true (g.D.Disk.may_leave c.args.disk.now) (g.D.Disk.may_leave c.compact-begun.new.disk))) copied
    (subst (λ (n : ℕ). IfTold (g.D.Disk.told c.args.disk.now) (g.D.Disk.told c.compact-begun.new.disk) (Stretch c.deref.result.now (Floor floor n ∷ []) true (g.D.Disk.may_leave c.args.disk.now) (g.D.Disk.may_leave c.compact-begun.new.disk))) next c.in-Ok.ensures.moments) in
    stretches_join (g.D.Disk.told c.args.disk.now) (g.D.Disk.told c.compact-begun.new.disk) (g.D.Disk.told c.append.new.disk) ledger (rise floor ledger ∷ []) (Open item ∷ []) false (g.D.Disk.may_leave c.args.disk.now) (g.D.Disk.may_leave c.compact-begun.new.disk) (g.D.Disk.may_leave c.append.new.disk) first
    (err_append anew (Open item) (open_content c.deref-3.result.now) (g.D.Disk.told c.compact-begun.new.disk) (g.D.Disk.told c.append.new.disk) (g.D.Disk.may_leave c.compact-begun.new.disk) (g.D.Disk.may_leave c.append.new.disk)
    tt (ap open_content (sym bytes)) kept c.write_record.ensures.values (anew_made_follows ledger floor item c.requires.next) (c.in-Err-append.ensures.moments (ledger_contents anew) old))
