use Rattle.std.proofs.Common.{◌≡◌, ℕ, ◌<◌, List, [], length, sym, subst, arith, rules}
use Rattle.fk_journal.specs.declared.entry.Entry.{Entry}
use Rattle.fk_journal.specs.Entries.{contents_of}
use Rattle.fk_journal.specs.Puts.{IsHeld}
use Rattle.fk_journal.proofs.Openings.{made_moments, made_others, made_held}
use Rattle.fk_journal.proofs.area.open_area.Goals as goal

pub returns-in_err-put-clause-moments : goal.returns-in_err-put-clause-moments
returns-in_err-put-clause-moments g c =
    let short : length c.in_ok-area.bytes.items < 3 = first_of (omega arith, search rules) in
    made_moments c.in_ok-area.area (g.D.Disk.told c.args.disk.now) (g.D.Disk.told c.sync_and_read.new.disk) (g.D.Disk.told c.put.new.disk) (g.D.Disk.may_leave c.args.disk.now) (g.D.Disk.may_leave c.sync_and_read.new.disk) (g.D.Disk.may_leave c.put.new.disk) c.in_ok-area.bytes.items short c.in_ok-area.ensures.bytes c.put.ensures.moments

pub returns-clause-moments : goal.returns-clause-moments
returns-clause-moments g c =
    let short : length c.in_ok-area.bytes.items < 3 = first_of (omega arith, search rules) in
    made_moments c.in_ok-area.area (g.D.Disk.told c.args.disk.now) (g.D.Disk.told c.sync_and_read.new.disk) (g.D.Disk.told c.put.new.disk) (g.D.Disk.may_leave c.args.disk.now) (g.D.Disk.may_leave c.sync_and_read.new.disk) (g.D.Disk.may_leave c.put.new.disk) c.in_ok-area.bytes.items short c.in_ok-area.ensures.bytes c.put.ensures.moments

pub returns-in_err-put-clause-others : goal.returns-in_err-put-clause-others
returns-in_err-put-clause-others g c =
    made_others c.in_ok-area.area (g.D.Disk.told c.args.disk.now) (g.D.Disk.told c.sync_and_read.new.disk) (g.D.Disk.told c.put.new.disk) (g.D.Disk.may_leave c.args.disk.now) (g.D.Disk.may_leave c.sync_and_read.new.disk) (g.D.Disk.may_leave c.put.new.disk) c.in_ok-area.bytes.items c.in_ok-area.ensures.bytes c.put.ensures.moments

pub returns-clause-others : goal.returns-clause-others
returns-clause-others g c =
    made_others c.in_ok-area.area (g.D.Disk.told c.args.disk.now) (g.D.Disk.told c.sync_and_read.new.disk) (g.D.Disk.told c.put.new.disk) (g.D.Disk.may_leave c.args.disk.now) (g.D.Disk.may_leave c.sync_and_read.new.disk) (g.D.Disk.may_leave c.put.new.disk) c.in_ok-area.bytes.items c.in_ok-area.ensures.bytes c.put.ensures.moments

pub returns-clause-held : goal.returns-clause-held
returns-clause-held g c =
    let short : length c.in_ok-area.bytes.items < 3 = first_of (omega arith, search rules) in
    let text : length c.deref.result.now < 3 = subst (λ (w : List ℕ). length w < 3) (sym c.deref.ensures.value) short in
    let none : c.in_ok-entries.entries.items ≡ [] = (c.in_ok-entries.ensures.short text).0 in
    subst (λ (es : List Entry). IsHeld c.in_ok-area.area (contents_of es) (g.D.Disk.told c.put.new.disk) (g.D.Disk.may_leave c.put.new.disk)) (sym none)
    (made_held c.in_ok-area.area (g.D.Disk.told c.args.disk.now) (g.D.Disk.told c.sync_and_read.new.disk) (g.D.Disk.told c.put.new.disk) (g.D.Disk.may_leave c.args.disk.now) (g.D.Disk.may_leave c.sync_and_read.new.disk) (g.D.Disk.may_leave c.put.new.disk) c.in_ok-area.bytes.items short c.in_ok-area.ensures.bytes c.put.ensures.moments c.in_ok-put.ensures.ok)
