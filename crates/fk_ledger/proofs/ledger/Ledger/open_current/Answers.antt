use Rattle.std.proofs.Common.{◌≡◌, length, List, ap, sym, subst, ◌∙◌, arith}
use Rattle.std.proofs.lemmas.Result.{err_from_is_err_and}
use Rattle.fk_journal.specs.Entries.{contents_of, place_behind, HoldsEntries}
use Rattle.fk_journal.specs.Keeps.{Log, Keeps, selected}
use Rattle.fk_host.specs.Disk.{IfTold}
use Rattle.fk_trace.specs.Ledger.{floor_of}
use Rattle.fk_ledger.specs.declared.ledger.Ledger.TheInside.{Inside}
use Rattle.fk_ledger.specs.Book.{live_ids}
use Rattle.fk_trace.specs.declared.change.Change.{Change}
use Rattle.fk_ledger.proofs.RoomLaws.{order_found, order_of}
use Rattle.fk_journal.specs.declared.entry.Entry.{Entry}
use Rattle.fk_ledger.proofs.OpeningLaws.{held_of, kept_of, failed_opening, whole_opening, same_error, area_damaged, entry_damaged}
use Rattle.fk_ledger.proofs.ledger.Ledger.open_current.Goals as goal

pub returns-in_err-journal-clause-damaged : goal.returns-in_err-journal-clause-damaged
returns-in_err-journal-clause-damaged g c =
    let p = err_from_is_err_and c.from_residual.result c.from_residual.ensures.1 in
    rw (p.1, p.2) (λ place is. area_damaged place (g.D.Disk.told c.args.disk.now) (g.D.Disk.told c.open.new.disk) (c.in_err-journal.ensures.damaged place (same_error _ _ _ _ is)))

pub returns-in_err-journal-clause-moments : goal.returns-in_err-journal-clause-moments
returns-in_err-journal-clause-moments g c =
    let p = err_from_is_err_and c.from_residual.result c.from_residual.ensures.1 in
    rw p.1 (λ ledger. failed_opening ledger (g.D.Disk.told c.args.disk.now) (g.D.Disk.told c.open.new.disk) (g.D.Disk.may_leave c.args.disk.now) (g.D.Disk.may_leave c.open.new.disk) c.in_err-journal.ensures.moments)

pub returns-in_err-changes-clause-damaged : goal.returns-in_err-changes-clause-damaged
returns-in_err-changes-clause-damaged g c =
    let p = err_from_is_err_and c.from_residual-in_err-changes.result c.from_residual-in_err-changes.ensures.1 in
    rw (p.1, p.2) (λ place is.
    entry_damaged (contents_of c.deref.result.now) place (g.D.Disk.told c.args.disk.now) (g.D.Disk.told c.open.new.disk) (c.in_err-changes.ensures.damaged place (same_error _ _ _ _ is))
    (subst (λ (es : List Entry). IfTold (g.D.Disk.told c.args.disk.now) (g.D.Disk.told c.open.new.disk) (λ x y. HoldsEntries (selected x.areas) (contents_of es))) (sym c.deref.ensures.value) c.in_ok-journal.ensures.held))

pub returns-in_err-changes-clause-moments : goal.returns-in_err-changes-clause-moments
returns-in_err-changes-clause-moments g c =
    let p = err_from_is_err_and c.from_residual-in_err-changes.result c.from_residual-in_err-changes.ensures.1 in
    rw p.1 (λ ledger. failed_opening ledger (g.D.Disk.told c.args.disk.now) (g.D.Disk.told c.open.new.disk) (g.D.Disk.may_leave c.args.disk.now) (g.D.Disk.may_leave c.open.new.disk) c.in_ok-journal.ensures.moments)

pub returns-in_err-ids-clause-moments : goal.returns-in_err-ids-clause-moments
returns-in_err-ids-clause-moments g c =
    let p = err_from_is_err_and c.from_residual-in_err-ids.result c.from_residual-in_err-ids.ensures.1 in
    rw p.1 (λ ledger. failed_opening ledger (g.D.Disk.told c.args.disk.now) (g.D.Disk.told c.open.new.disk) (g.D.Disk.may_leave c.args.disk.now) (g.D.Disk.may_leave c.open.new.disk) c.in_ok-journal.ensures.moments)

pub returns-in_err-payload-clause-moments : goal.returns-in_err-payload-clause-moments
returns-in_err-payload-clause-moments g c =
    let p = err_from_is_err_and c.from_residual-in_err-payload.result c.from_residual-in_err-payload.ensures.1 in
    rw p.1 (λ ledger. failed_opening ledger (g.D.Disk.told c.args.disk.now) (g.D.Disk.told c.open.new.disk) (g.D.Disk.may_leave c.args.disk.now) (g.D.Disk.may_leave c.open.new.disk) c.in_ok-journal.ensures.moments)

pub returns-in_err-owed-clause-moments : goal.returns-in_err-owed-clause-moments
returns-in_err-owed-clause-moments g c =
    let p = err_from_is_err_and c.from_residual-in_err-owed.result c.from_residual-in_err-owed.ensures.1 in
    rw p.1 (λ ledger. failed_opening ledger (g.D.Disk.told c.args.disk.now) (g.D.Disk.told c.open.new.disk) (g.D.Disk.may_leave c.args.disk.now) (g.D.Disk.may_leave c.open.new.disk) c.in_ok-journal.ensures.moments)

pub invariant_of-ledger : goal.invariant_of-ledger
invariant_of-ledger g c =
    let like : Inside = record {
      journal = c.make_ready.new.journal;
      changes = c.make_ready.new.changes;
      index = c.in_ok-changes.outline.digests;
      live = c.make_ready.new.ids;
      next = c.in_ok-changes.outline.next;
      floor = c.floor_of-floor.result;
      limit = c.args.live;
      keep = c.args.keep;
      payload = c.in_ok-payload.payload;
    } in
    let found : List Change = c.in_ok-changes.changes.items in
    let ready = c.in_ok-payload.ensures in
    let ids : c.make_ready.new.ids.items ≡ live_ids found = ready.same.1 ∙ c.in_ok-ids.ensures ∙ ap live_ids c.deref-2.ensures.value in
    let order = order_found like found (contents_of c.deref.result.now) c.in_ok-changes.ensures.held ready.same.0 ids c.in_ok-changes.ensures.outline.next (c.floor_of-floor.ensures ∙ ap floor_of c.deref-3.ensures.value)
    (ap (λ (l : Log). l.end) ready.log ∙ c.in_ok-journal.ensures.keeps.behind ∙ ap (λ (es : List Entry). place_behind (contents_of es)) (sym c.deref.ensures.value))
    (ap (λ (l : Log). l.is_copying) ready.log ∙ c.in_ok-journal.ensures.fresh.3) c.in_ok-changes.ensures.outline.digests in
    let changes = ap length ready.same.0 in
    let count = ap length ids in
    order_of like found order (omega (arith, ready.changes, changes, count)) ready.ids ready.journal ready.payload

pub returns-clause-moments : goal.returns-clause-moments
returns-clause-moments g c = λ ledger.
    whole_opening ledger (contents_of c.in_ok-journal.entries.items) c.in_ok-journal.journal (g.D.Disk.told c.args.disk.now) (g.D.Disk.told c.open.new.disk) (g.D.Disk.may_leave c.args.disk.now) (g.D.Disk.may_leave c.open.new.disk)
    c.in_ok-journal.ensures.moments c.in_ok-journal.ensures.held c.in_ok-journal.ensures.keeps

pub returns-clause-held : goal.returns-clause-held
returns-clause-held g c =
    held_of (contents_of c.deref.result.now) c.in_ok-changes.changes.items c.make_ready.new.changes.items (g.D.Disk.told c.args.disk.now) (g.D.Disk.told c.open.new.disk) c.in_ok-changes.ensures.held c.in_ok-payload.ensures.same.0
    (subst (λ (es : List Entry). IfTold (g.D.Disk.told c.args.disk.now) (g.D.Disk.told c.open.new.disk) (λ x y. HoldsEntries (selected x.areas) (contents_of es))) (sym c.deref.ensures.value) c.in_ok-journal.ensures.held)

pub returns-clause-keeps : goal.returns-clause-keeps
returns-clause-keeps g c =
    kept_of (contents_of c.deref.result.now) c.in_ok-changes.changes.items c.make_ready.new.changes.items c.in_ok-journal.journal (g.D.Disk.told c.open.new.disk) (g.D.Disk.may_leave c.open.new.disk) c.in_ok-changes.ensures.held c.in_ok-payload.ensures.same.0
    (subst (λ (es : List Entry). Keeps c.in_ok-journal.journal (contents_of es) (g.D.Disk.told c.open.new.disk) (g.D.Disk.may_leave c.open.new.disk)) (sym c.deref.ensures.value) c.in_ok-journal.ensures.keeps)
