use Rattle.std.proofs.Common.{◌≡◌, ℕ, ◌+◌, ◌≤◌, length, false, List, [], ◌∷◌, ◌++◌, refl, ap, sym, subst, ◌∙◌, arith}
use Rattle.fk_trace.specs.declared.change.Change.{Change}
use Rattle.fk_trace.specs.declared.change.Change.TheVariants.{Open}
use Rattle.fk_trace.specs.Ledger.{IsLedger, next_id}
use Rattle.fk_journal.specs.Entries.{Content, IsContent}
use Rattle.fk_ledger.specs.declared.ledger.Ledger.TheInside.{Inside}
use Rattle.fk_ledger.specs.Payloads.{ledger_contents, record_bytes}
use Rattle.fk_ledger.specs.Book.{Book, used, live_ids}
use Rattle.fk_host.specs.declared.disk.Area.{Area}
use Rattle.fk_journal.specs.Keeps.{Log, StandsOn}
use Rattle.fk_ledger.specs.Holds.{KeepsLedger}
use Rattle.fk_ledger.proofs.RoomLaws.{journal_keeps, made_follows, opened_order, opened_room, order_of, slots, long_record, small_record}
use Rattle.fk_ledger.proofs.StretchLaws.{ok_append, err_append}
use Rattle.fk_ledger.proofs.ledger.Ledger.record_behind.Goals as goal

abbrev open_content : List ℕ → Content
open_content payload = record { kind = 1; payload = payload }

pub append-requires-clause-content : goal.append-requires-clause-content
append-requires-clause-content g c =
    let bytes : c.deref.result.now ≡ record_bytes c.args.item = c.deref.ensures.value ∙ c.write_record.ensures.bytes in
    subst (λ (payload : List ℕ). IsContent (open_content payload)) (sym bytes) (record { kind = (omega arith, omega arith); size = small_record c.args.item c.write_record.ensures.values })

pub append-requires-clause-keeps : goal.append-requires-clause-keeps
append-requires-clause-keeps g c =
    let ledger : List Change = c.args.self.now.changes in
    let changes : c.self.inside.changes.items ≡ ledger = ap (λ (b : Book). b.changes) c.self.view_is in
    let unspent : c.self.inside.journal.is_spent ≡ false = ap (λ (b : Book). b.is_spent) c.self.view_is ∙ c.requires.unspent in
    let stands : StandsOn c.self.inside.journal.area (g.D.Disk.told c.args.disk.now) = subst (λ (area : Area). StandsOn area (g.D.Disk.told c.args.disk.now)) (sym (ap (λ (b : Book). b.area) c.self.view_is)) c.requires.stands in
    (ledger_contents ledger, journal_keeps ledger c.self.inside.journal (g.D.Disk.told c.args.disk.now) (g.D.Disk.may_leave c.args.disk.now) (ap used (sym changes) ∙ c.self.invariant.used unspent) stands c.requires.keeps)

pub overflow_add-self : goal.overflow_add-self
overflow_add-self g c =
    let low = c.requires.few.1 in let at = c.requires.next.0 in omega (arith, low, at)

pub invariant_of-self : goal.invariant_of-self
invariant_of-self g c =
    let ledger : List Change = c.args.self.now.changes in
    let changes : c.self.inside.changes.items ≡ ledger = ap (λ (b : Book). b.changes) c.self.view_is in
    let unspent : c.self.inside.journal.is_spent ≡ false = ap (λ (b : Book). b.is_spent) c.self.view_is ∙ c.requires.unspent in
    let bytes : c.deref.result.now ≡ record_bytes c.args.item = c.deref.ensures.value ∙ c.write_record.ensures.bytes in
    let like : Inside = record c.self.inside {
      journal = c.append.new.self;
      changes = c.push_reserved-in-Ok.new.self;
      index = c.add.new.index;
      live = c.push_reserved.new.self;
      next = c.args.item.id + 1;
      payload = c.write_record.new.buffer;
    } in
    let found : List Change = c.self.inside.changes.items in
    let follow : IsLedger found = subst IsLedger (sym changes) c.requires.keeps.follow in
    let at : c.args.item.id ≡ next_id found = c.requires.next.0 ∙ ap next_id (sym changes) in
    let end : c.append.new.self.end ≡ c.self.inside.journal.end + 6 + length c.deref.result.now = ap (λ (l : Log). l.end) c.in-Ok.ensures.ok in
    let before : used found ≡ c.self.inside.journal.end + 1 = c.self.invariant.used unspent in
    let order = opened_order like found c.args.item (length c.deref.result.now) follow at c.push_reserved-in-Ok.ensures.items (c.push_reserved.ensures.items ∙ ap (λ (ids : List ℕ). ids ++ c.args.item.id ∷ []) c.self.invariant.live)
    refl c.self.invariant.floor (ap length bytes) (omega (arith, end, before)) (ap (λ (l : Log). l.is_copying) c.in-Ok.ensures.ok ∙ c.self.invariant.idle unspent) (c.add.ensures.held found c.self.invariant.index) in
    let room = opened_room found c.args.item follow at in
    let lives : length c.self.inside.live.items ≡ length (live_ids found) = ap length c.self.invariant.live in
    let reserved : c.append.new.self.reserved ≡ c.self.inside.journal.reserved = ap (λ (l : Log). l.reserved) c.in-Ok.ensures.ok in
    let has = slots c.self.inside (length (record_bytes c.args.item)) (long_record c.args.item) (subst (λ (n : ℕ). length (record_bytes c.args.item) ≤ n) (sym (ap (λ (b : Book). b.reserved) c.self.view_is)) c.requires.reserved) in
    order_of like (found ++ Open c.args.item ∷ []) order (omega (arith, room, lives, has.changes, c.push_reserved-in-Ok.ensures.capacity)) (omega (arith, c.self.invariant.numbers, c.push_reserved.ensures.capacity))
    (omega (arith, reserved, c.self.invariant.reserved.0)) (omega (arith, c.write_record.ensures.capacity, c.self.invariant.reserved.1))

pub returns-in-Ok-clause-keeps : goal.returns-in-Ok-clause-keeps
returns-in-Ok-clause-keeps g c =
    let ledger : List Change = c.args.self.now.changes in
    let changes : c.self.inside.changes.items ≡ ledger = ap (λ (b : Book). b.changes) c.self.view_is in
    let unspent : c.self.inside.journal.is_spent ≡ false = ap (λ (b : Book). b.is_spent) c.self.view_is ∙ c.requires.unspent in
    let stands : StandsOn c.self.inside.journal.area (g.D.Disk.told c.args.disk.now) = subst (λ (area : Area). StandsOn area (g.D.Disk.told c.args.disk.now)) (sym (ap (λ (b : Book). b.area) c.self.view_is)) c.requires.stands in
    let bytes : c.deref.result.now ≡ record_bytes c.args.item = c.deref.ensures.value ∙ c.write_record.ensures.bytes in
    let old = journal_keeps ledger c.self.inside.journal (g.D.Disk.told c.args.disk.now) (g.D.Disk.may_leave c.args.disk.now) (ap used (sym changes) ∙ c.self.invariant.used unspent) stands c.requires.keeps in
    let both = ok_append ledger (Open c.args.item) (open_content c.deref.result.now) c.append.new.self (g.D.Disk.told c.args.disk.now) (g.D.Disk.told c.append.new.disk) (g.D.Disk.may_leave c.args.disk.now) (g.D.Disk.may_leave c.append.new.disk)
    tt (ap open_content (sym bytes)) c.requires.keeps c.write_record.ensures.values (made_follows ledger c.args.item c.requires.next) (c.in-Ok.ensures.keeps (ledger_contents ledger) old) (c.in-Ok.ensures.moments (ledger_contents ledger) old) in
    let items : c.push_reserved-in-Ok.new.self.items ≡ ledger ++ Open c.args.item ∷ [] = c.push_reserved-in-Ok.ensures.items ∙ ap (λ (x : List Change). x ++ Open c.args.item ∷ []) changes in
    subst (λ (x : List Change). KeepsLedger x (g.D.Disk.told c.append.new.disk) (g.D.Disk.may_leave c.append.new.disk)) (sym items) both.0

pub returns-in-Ok-clause-moments : goal.returns-in-Ok-clause-moments
returns-in-Ok-clause-moments g c =
    let ledger : List Change = c.args.self.now.changes in
    let changes : c.self.inside.changes.items ≡ ledger = ap (λ (b : Book). b.changes) c.self.view_is in
    let unspent : c.self.inside.journal.is_spent ≡ false = ap (λ (b : Book). b.is_spent) c.self.view_is ∙ c.requires.unspent in
    let stands : StandsOn c.self.inside.journal.area (g.D.Disk.told c.args.disk.now) = subst (λ (area : Area). StandsOn area (g.D.Disk.told c.args.disk.now)) (sym (ap (λ (b : Book). b.area) c.self.view_is)) c.requires.stands in
    let bytes : c.deref.result.now ≡ record_bytes c.args.item = c.deref.ensures.value ∙ c.write_record.ensures.bytes in
    let old = journal_keeps ledger c.self.inside.journal (g.D.Disk.told c.args.disk.now) (g.D.Disk.may_leave c.args.disk.now) (ap used (sym changes) ∙ c.self.invariant.used unspent) stands c.requires.keeps in
    (ok_append ledger (Open c.args.item) (open_content c.deref.result.now) c.append.new.self (g.D.Disk.told c.args.disk.now) (g.D.Disk.told c.append.new.disk) (g.D.Disk.may_leave c.args.disk.now) (g.D.Disk.may_leave c.append.new.disk)
    tt (ap open_content (sym bytes)) c.requires.keeps c.write_record.ensures.values (made_follows ledger c.args.item c.requires.next) (c.in-Ok.ensures.keeps (ledger_contents ledger) old) (c.in-Ok.ensures.moments (ledger_contents ledger) old)).1

pub returns-in-Err-clause-moments : goal.returns-in-Err-clause-moments
returns-in-Err-clause-moments g c =
    let ledger : List Change = c.args.self.now.changes in
    let changes : c.self.inside.changes.items ≡ ledger = ap (λ (b : Book). b.changes) c.self.view_is in
    let unspent : c.self.inside.journal.is_spent ≡ false = ap (λ (b : Book). b.is_spent) c.self.view_is ∙ c.requires.unspent in
    let stands : StandsOn c.self.inside.journal.area (g.D.Disk.told c.args.disk.now) = subst (λ (area : Area). StandsOn area (g.D.Disk.told c.args.disk.now)) (sym (ap (λ (b : Book). b.area) c.self.view_is)) c.requires.stands in
    let bytes : c.deref.result.now ≡ record_bytes c.args.item = c.deref.ensures.value ∙ c.write_record.ensures.bytes in
    let old = journal_keeps ledger c.self.inside.journal (g.D.Disk.told c.args.disk.now) (g.D.Disk.may_leave c.args.disk.now) (ap used (sym changes) ∙ c.self.invariant.used unspent) stands c.requires.keeps in
    err_append ledger (Open c.args.item) (open_content c.deref.result.now) (g.D.Disk.told c.args.disk.now) (g.D.Disk.told c.append.new.disk) (g.D.Disk.may_leave c.args.disk.now) (g.D.Disk.may_leave c.append.new.disk)
    tt (ap open_content (sym bytes)) c.requires.keeps c.write_record.ensures.values (made_follows ledger c.args.item c.requires.next) (c.in-Err.ensures.moments (ledger_contents ledger) old)

pub returns-in-Ok-clause-stands : goal.returns-in-Ok-clause-stands
returns-in-Ok-clause-stands g c =
    let ledger : List Change = c.args.self.now.changes in
    let changes : c.self.inside.changes.items ≡ ledger = ap (λ (b : Book). b.changes) c.self.view_is in
    let unspent : c.self.inside.journal.is_spent ≡ false = ap (λ (b : Book). b.is_spent) c.self.view_is ∙ c.requires.unspent in
    let stands : StandsOn c.self.inside.journal.area (g.D.Disk.told c.args.disk.now) = subst (λ (area : Area). StandsOn area (g.D.Disk.told c.args.disk.now)) (sym (ap (λ (b : Book). b.area) c.self.view_is)) c.requires.stands in
    let old = journal_keeps ledger c.self.inside.journal (g.D.Disk.told c.args.disk.now) (g.D.Disk.may_leave c.args.disk.now) (ap used (sym changes) ∙ c.self.invariant.used unspent) stands c.requires.keeps in
    (c.in-Ok.ensures.keeps (ledger_contents ledger) old).stands
