use Rattle.std.proofs.Common.{◌≡◌, ℕ, ◌+◌, ◌<◌, ◌==◌, ◌^◌, length, false, not, List, [], ◌∷◌, ◌++◌, filter, refl, ap, sym, subst, ◌∙◌, arith, rules}
use Rattle.std.specs.Int.{w64, to_be_bytes}
use Rattle.std.specs.List.{Contains}
use Rattle.std.proofs.lemmas.Fn.{filter_same}
use Rattle.fk_trace.specs.declared.change.Change.{Change}
use Rattle.fk_trace.specs.declared.change.Change.TheVariants.{Done}
use Rattle.fk_trace.specs.Ledger.{IsLedger}
use Rattle.fk_journal.specs.Entries.{Content}
use Rattle.fk_ledger.specs.declared.ledger.Ledger.TheInside.{Inside}
use Rattle.fk_ledger.specs.Payloads.{content_of, ledger_contents}
use Rattle.fk_ledger.specs.Book.{Book, used, live_ids}
use Rattle.fk_host.specs.declared.disk.Area.{Area}
use Rattle.fk_journal.specs.Keeps.{Log, StandsOn}
use Rattle.fk_ledger.specs.Holds.{KeepsLedger}
use Rattle.fk_ledger.specs.Private.{book_of}
use Rattle.fk_ledger.proofs.RoomLaws.{journal_keeps, settled_order, settled_room, order_of, book_same, reserved_same}
use Rattle.fk_ledger.proofs.StretchLaws.{ok_append, err_append}
use Rattle.fk_ledger.proofs.ledger.Ledger.settle.Goals as goal

abbrev done_content : List ℕ → Content
done_content payload = record { kind = 2; payload = payload }

pub append-requires-clause-keeps : goal.append-requires-clause-keeps
append-requires-clause-keeps g c =
    let ledger : List Change = c.args.self.now.changes in
    let changes : c.self.inside.changes.items ≡ ledger = ap (λ (b : Book). b.changes) c.self.view_is in
    let unspent : c.self.inside.journal.is_spent ≡ false = ap (λ (b : Book). b.is_spent) c.self.view_is ∙ c.requires.unspent in
    let stands : StandsOn c.self.inside.journal.area (g.D.Disk.told c.args.disk.now) = subst (λ (area : Area). StandsOn area (g.D.Disk.told c.args.disk.now)) (sym (ap (λ (b : Book). b.area) c.self.view_is)) c.requires.stands in
    (ledger_contents ledger, journal_keeps ledger c.self.inside.journal (g.D.Disk.told c.args.disk.now) (g.D.Disk.may_leave c.args.disk.now) (ap used (sym changes) ∙ c.self.invariant.used unspent) stands c.requires.keeps)

pub invariant_of-self : goal.invariant_of-self
invariant_of-self g c =
    let ledger : List Change = c.args.self.now.changes in
    let changes : c.self.inside.changes.items ≡ ledger = ap (λ (b : Book). b.changes) c.self.view_is in
    let unspent : c.self.inside.journal.is_spent ≡ false = ap (λ (b : Book). b.is_spent) c.self.view_is ∙ c.requires.unspent in
    let like : Inside = record c.self.inside { journal = c.append.new.self; changes = c.push_reserved.new.self; live = c.retain.new.self } in
    let found : List Change = c.self.inside.changes.items in
    let id : ℕ = c.id-id.result in
    let follow : IsLedger found = subst IsLedger (sym changes) c.requires.keeps.follow in
    let there : Contains (live_ids found) id = subst (λ (ledger : List Change). Contains (live_ids ledger) id) (sym changes) (subst (Contains (live_ids ledger)) (sym c.id-id.ensures) c.requires.lives) in
    let kept : c.retain.new.self.items ≡ filter (λ n. not (n == id)) c.self.inside.live.items = filter_same _ (λ n. not (n == id)) _ (λ x b f' k. search rules) _ _ c.retain.ensures.filtered in
    let size : length c.to_be_bytes.result ≡ 8 = ap length c.to_be_bytes.ensures in
    let end : c.append.new.self.end ≡ c.self.inside.journal.end + 6 + length c.to_be_bytes.result = ap (λ (l : Log). l.end) c.in-Ok.ensures.ok in
    let before : used found ≡ c.self.inside.journal.end + 1 = c.self.invariant.used unspent in
    let order = settled_order like found id c.push_reserved.ensures.items (kept ∙ ap (filter (λ n. not (n == id))) c.self.invariant.live) c.self.invariant.next c.self.invariant.floor
    (omega (arith, size, end, before)) (ap (λ (l : Log). l.is_copying) c.in-Ok.ensures.ok ∙ c.self.invariant.idle unspent) c.self.invariant.index in
    let room = settled_room found id follow there in
    let lives : length c.self.inside.live.items ≡ length (live_ids found) = ap length c.self.invariant.live in
    let reserved : c.append.new.self.reserved ≡ c.self.inside.journal.reserved = ap (λ (l : Log). l.reserved) c.in-Ok.ensures.ok in
    order_of like (found ++ Done id ∷ []) order (omega (arith, room, lives, c.self.invariant.room, c.push_reserved.ensures.capacity)) (omega (arith, c.self.invariant.numbers, c.retain.ensures.capacity))
    (omega (arith, reserved, c.self.invariant.reserved.0)) c.self.invariant.reserved.1

pub returns-in-Ok-clause-ok : goal.returns-in-Ok-clause-ok
returns-in-Ok-clause-ok g c =
    let ledger : List Change = c.args.self.now.changes in
    let changes : c.self.inside.changes.items ≡ ledger = ap (λ (b : Book). b.changes) c.self.view_is in
    let unspent : c.self.inside.journal.is_spent ≡ false = ap (λ (b : Book). b.is_spent) c.self.view_is ∙ c.requires.unspent in
    let like : Inside = record c.self.inside { journal = c.append.new.self; changes = c.push_reserved.new.self; live = c.retain.new.self } in
    let found : List Change = c.self.inside.changes.items in
    let id : ℕ = c.id-id.result in
    let follow : IsLedger found = subst IsLedger (sym changes) c.requires.keeps.follow in
    let there : Contains (live_ids found) id = subst (λ (ledger : List Change). Contains (live_ids ledger) id) (sym changes) (subst (Contains (live_ids ledger)) (sym c.id-id.ensures) c.requires.lives) in
    let kept : c.retain.new.self.items ≡ filter (λ n. not (n == id)) c.self.inside.live.items = filter_same _ (λ n. not (n == id)) _ (λ x b f' k. search rules) _ _ c.retain.ensures.filtered in
    let size : length c.to_be_bytes.result ≡ 8 = ap length c.to_be_bytes.ensures in
    let end : c.append.new.self.end ≡ c.self.inside.journal.end + 6 + length c.to_be_bytes.result = ap (λ (l : Log). l.end) c.in-Ok.ensures.ok in
    let before : used found ≡ c.self.inside.journal.end + 1 = c.self.invariant.used unspent in
    let order = settled_order like found id c.push_reserved.ensures.items (kept ∙ ap (filter (λ n. not (n == id))) c.self.invariant.live) c.self.invariant.next c.self.invariant.floor
    (omega (arith, size, end, before)) (ap (λ (l : Log). l.is_copying) c.in-Ok.ensures.ok ∙ c.self.invariant.idle unspent) c.self.invariant.index in
    let room = settled_room found id follow there in
    let lives : length c.self.inside.live.items ≡ length (live_ids found) = ap length c.self.invariant.live in
    let reserved : c.append.new.self.reserved ≡ c.self.inside.journal.reserved = ap (λ (l : Log). l.reserved) c.in-Ok.ensures.ok in
    let books : Book = book_of c.self.inside in
    let kept_room : length c.push_reserved.new.self.items + length c.retain.new.self.items ≡ length found + length c.self.inside.live.items =
    (let a = ap length order.changes in let b = ap length order.live in omega (arith, a, b, room, lives)) in
    let slots = reserved_same c.self.inside like refl kept_room c.push_reserved.ensures.capacity refl reserved in
    let first : book_of like ≡ record books { changes = found ++ Done id ∷ [] } =
    book_same (book_of like) (record books { changes = found ++ Done id ∷ [] }) c.push_reserved.ensures.items refl refl (ap (λ (l : Log). l.area) c.in-Ok.ensures.ok) (ap (λ (l : Log). l.limit) c.in-Ok.ensures.ok) slots (ap (λ (l : Log). l.is_spent) c.in-Ok.ensures.ok) in
    first ∙ ap (λ (b : Book). record b { changes = b.changes ++ Done id ∷ [] }) c.self.view_is ∙ ap (λ (n : ℕ). record c.args.self.now { changes = ledger ++ Done n ∷ [] }) c.id-id.ensures

pub returns-in-Ok-clause-keeps : goal.returns-in-Ok-clause-keeps
returns-in-Ok-clause-keeps g c =
    let ledger : List Change = c.args.self.now.changes in
    let changes : c.self.inside.changes.items ≡ ledger = ap (λ (b : Book). b.changes) c.self.view_is in
    let unspent : c.self.inside.journal.is_spent ≡ false = ap (λ (b : Book). b.is_spent) c.self.view_is ∙ c.requires.unspent in
    let stands : StandsOn c.self.inside.journal.area (g.D.Disk.told c.args.disk.now) = subst (λ (area : Area). StandsOn area (g.D.Disk.told c.args.disk.now)) (sym (ap (λ (b : Book). b.area) c.self.view_is)) c.requires.stands in
    let same : c.id-id.result ≡ c.args.owed = c.id-id.ensures in
    let content : content_of (Done c.args.owed) ≡ done_content c.to_be_bytes.result = ap done_content (sym (c.to_be_bytes.ensures ∙ ap (to_be_bytes w64) same)) in
    let old = journal_keeps ledger c.self.inside.journal (g.D.Disk.told c.args.disk.now) (g.D.Disk.may_leave c.args.disk.now) (ap used (sym changes) ∙ c.self.invariant.used unspent) stands c.requires.keeps in
    let both = ok_append ledger (Done c.args.owed) (done_content c.to_be_bytes.result) c.append.new.self (g.D.Disk.told c.args.disk.now) (g.D.Disk.told c.append.new.disk) (g.D.Disk.may_leave c.args.disk.now) (g.D.Disk.may_leave c.append.new.disk)
    tt content c.requires.keeps (subst (λ (n : ℕ). n < 2 ^ 64) same c.id-id.type_inv) c.requires.lives (c.in-Ok.ensures.keeps (ledger_contents ledger) old) (c.in-Ok.ensures.moments (ledger_contents ledger) old) in
    let items : c.push_reserved.new.self.items ≡ ledger ++ Done c.args.owed ∷ [] = c.push_reserved.ensures.items ∙ ap (λ (x : List Change). x ++ Done c.id-id.result ∷ []) changes ∙ ap (λ (n : ℕ). ledger ++ Done n ∷ []) same in
    subst (λ (x : List Change). KeepsLedger x (g.D.Disk.told c.append.new.disk) (g.D.Disk.may_leave c.append.new.disk)) (sym items) both.0

pub returns-in-Ok-clause-moments : goal.returns-in-Ok-clause-moments
returns-in-Ok-clause-moments g c =
    let ledger : List Change = c.args.self.now.changes in
    let changes : c.self.inside.changes.items ≡ ledger = ap (λ (b : Book). b.changes) c.self.view_is in
    let unspent : c.self.inside.journal.is_spent ≡ false = ap (λ (b : Book). b.is_spent) c.self.view_is ∙ c.requires.unspent in
    let stands : StandsOn c.self.inside.journal.area (g.D.Disk.told c.args.disk.now) = subst (λ (area : Area). StandsOn area (g.D.Disk.told c.args.disk.now)) (sym (ap (λ (b : Book). b.area) c.self.view_is)) c.requires.stands in
    let same : c.id-id.result ≡ c.args.owed = c.id-id.ensures in
    let content : content_of (Done c.args.owed) ≡ done_content c.to_be_bytes.result = ap done_content (sym (c.to_be_bytes.ensures ∙ ap (to_be_bytes w64) same)) in
    let old = journal_keeps ledger c.self.inside.journal (g.D.Disk.told c.args.disk.now) (g.D.Disk.may_leave c.args.disk.now) (ap used (sym changes) ∙ c.self.invariant.used unspent) stands c.requires.keeps in
    (ok_append ledger (Done c.args.owed) (done_content c.to_be_bytes.result) c.append.new.self (g.D.Disk.told c.args.disk.now) (g.D.Disk.told c.append.new.disk) (g.D.Disk.may_leave c.args.disk.now) (g.D.Disk.may_leave c.append.new.disk)
    tt content c.requires.keeps (subst (λ (n : ℕ). n < 2 ^ 64) same c.id-id.type_inv) c.requires.lives (c.in-Ok.ensures.keeps (ledger_contents ledger) old) (c.in-Ok.ensures.moments (ledger_contents ledger) old)).1

pub returns-in-Err-clause-moments : goal.returns-in-Err-clause-moments
returns-in-Err-clause-moments g c =
    let ledger : List Change = c.args.self.now.changes in
    let changes : c.self.inside.changes.items ≡ ledger = ap (λ (b : Book). b.changes) c.self.view_is in
    let unspent : c.self.inside.journal.is_spent ≡ false = ap (λ (b : Book). b.is_spent) c.self.view_is ∙ c.requires.unspent in
    let stands : StandsOn c.self.inside.journal.area (g.D.Disk.told c.args.disk.now) = subst (λ (area : Area). StandsOn area (g.D.Disk.told c.args.disk.now)) (sym (ap (λ (b : Book). b.area) c.self.view_is)) c.requires.stands in
    let same : c.id-id.result ≡ c.args.owed = c.id-id.ensures in
    let content : content_of (Done c.args.owed) ≡ done_content c.to_be_bytes.result = ap done_content (sym (c.to_be_bytes.ensures ∙ ap (to_be_bytes w64) same)) in
    let old = journal_keeps ledger c.self.inside.journal (g.D.Disk.told c.args.disk.now) (g.D.Disk.may_leave c.args.disk.now) (ap used (sym changes) ∙ c.self.invariant.used unspent) stands c.requires.keeps in
    err_append ledger (Done c.args.owed) (done_content c.to_be_bytes.result) (g.D.Disk.told c.args.disk.now) (g.D.Disk.told c.append.new.disk) (g.D.Disk.may_leave c.args.disk.now) (g.D.Disk.may_leave c.append.new.disk)
    tt content c.requires.keeps (subst (λ (n : ℕ). n < 2 ^ 64) same c.id-id.type_inv) c.requires.lives (c.in-Err.ensures.moments (ledger_contents ledger) old)

pub returns-in-Ok-clause-stands : goal.returns-in-Ok-clause-stands
returns-in-Ok-clause-stands g c =
    let ledger : List Change = c.args.self.now.changes in
    let changes : c.self.inside.changes.items ≡ ledger = ap (λ (b : Book). b.changes) c.self.view_is in
    let unspent : c.self.inside.journal.is_spent ≡ false = ap (λ (b : Book). b.is_spent) c.self.view_is ∙ c.requires.unspent in
    let stands : StandsOn c.self.inside.journal.area (g.D.Disk.told c.args.disk.now) = subst (λ (area : Area). StandsOn area (g.D.Disk.told c.args.disk.now)) (sym (ap (λ (b : Book). b.area) c.self.view_is)) c.requires.stands in
    let old = journal_keeps ledger c.self.inside.journal (g.D.Disk.told c.args.disk.now) (g.D.Disk.may_leave c.args.disk.now) (ap used (sym changes) ∙ c.self.invariant.used unspent) stands c.requires.keeps in
    (c.in-Ok.ensures.keeps (ledger_contents ledger) old).stands
