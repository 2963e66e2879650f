use Rattle.std.proofs.Common.{ℕ, ◌∷◌, [], ◌++◌, ap, ◌∙◌, subst, arith}
use Rattle.fk_journal.specs.Entries.{Content, entry_bytes}
use Rattle.fk_journal.specs.Keeps.{Log, selected}
use Rattle.fk_host.specs.Disk.{IfTold, Written}
use Rattle.fk_journal.proofs.Forms.{held_at, held_stands, held_both, others_at}
use Rattle.fk_journal.proofs.Tails.{place_behind-next}
use Rattle.fk_journal.proofs.journal.Journal.append.Goals as goal

pub put_entry-requires-clause-held : goal.put_entry-requires-clause-held
put_entry-requires-clause-held g c =
    let k = c.requires.keeps in (
      k.0,
      ap (λ (l : Log). l.end) c.self.view_is ∙ k.1.behind,
      held_at c.args.self.now c.self.inside.area k.0 (g.D.Disk.told c.args.disk.now) (g.D.Disk.may_leave c.args.disk.now) (ap (λ (l : Log). l.area) c.self.view_is) k.1,
    )

pub returns-in-Ok-clause-moments : goal.returns-in-Ok-clause-moments
returns-in-Ok-clause-moments g c =
    λ contents keeps. c.put_entry.ensures.moments contents (record { kind = c.args.kind; payload = c.args.payload.now }) c.requires.content (c.deref.ensures.value ∙ c.write_behind.ensures.bytes) (ap (λ (l : Log). l.end) c.self.view_is ∙ keeps.behind)
    (held_at c.args.self.now c.self.inside.area contents (g.D.Disk.told c.args.disk.now) (g.D.Disk.may_leave c.args.disk.now) (ap (λ (l : Log). l.area) c.self.view_is) keeps)

pub returns-in-Err-clause-moments : goal.returns-in-Err-clause-moments
returns-in-Err-clause-moments g c =
    λ contents keeps. c.put_entry.ensures.moments contents (record { kind = c.args.kind; payload = c.args.payload.now }) c.requires.content (c.deref.ensures.value ∙ c.write_behind.ensures.bytes) (ap (λ (l : Log). l.end) c.self.view_is ∙ keeps.behind)
    (held_at c.args.self.now c.self.inside.area contents (g.D.Disk.told c.args.disk.now) (g.D.Disk.may_leave c.args.disk.now) (ap (λ (l : Log). l.area) c.self.view_is) keeps)

pub returns-in-Ok-clause-others : goal.returns-in-Ok-clause-others
returns-in-Ok-clause-others g c =
    let k = c.requires.keeps in
    others_at c.args.self.now c.self.inside.area k.0 (g.D.Disk.told c.args.disk.now) (g.D.Disk.told c.put_entry.new.disk) (g.D.Disk.may_leave c.args.disk.now) (g.D.Disk.may_leave c.put_entry.new.disk) (ap (λ (l : Log). l.area) c.self.view_is) k.1 c.put_entry.ensures.others

pub returns-in-Err-clause-others : goal.returns-in-Err-clause-others
returns-in-Err-clause-others g c =
    let k = c.requires.keeps in
    others_at c.args.self.now c.self.inside.area k.0 (g.D.Disk.told c.args.disk.now) (g.D.Disk.told c.put_entry.new.disk) (g.D.Disk.may_leave c.args.disk.now) (g.D.Disk.may_leave c.put_entry.new.disk) (ap (λ (l : Log). l.area) c.self.view_is) k.1 c.put_entry.ensures.others

pub returns-in-Ok-clause-bytes : goal.returns-in-Ok-clause-bytes
returns-in-Ok-clause-bytes g c =
    let k = c.requires.keeps in
    let end = ap (λ (l : Log). l.end) c.self.view_is in
    let content : Content = record { kind = c.args.kind; payload = c.args.payload.now } in
    subst (λ (n : ℕ). IfTold (g.D.Disk.told c.args.disk.now) (g.D.Disk.told c.put_entry.new.disk) (λ before after. Written n (entry_bytes content ++ 0 ∷ []) (selected before.areas) (selected after.areas))) end
    (c.in-Ok.ensures.bytes k.0 content (c.deref.ensures.value ∙ c.write_behind.ensures.bytes) (end ∙ k.1.behind)
    (held_at c.args.self.now c.self.inside.area k.0 (g.D.Disk.told c.args.disk.now) (g.D.Disk.may_leave c.args.disk.now) (ap (λ (l : Log). l.area) c.self.view_is) k.1))

pub returns-in-Ok-clause-keeps : goal.returns-in-Ok-clause-keeps
returns-in-Ok-clause-keeps g c =
    λ contents keeps.
    let content : Content = record { kind = c.args.kind; payload = c.args.payload.now } in
    let gate = (ap (λ (l : Log). l.end) c.self.view_is ∙ keeps.behind) in
    let held = c.in-Ok.ensures.held contents content c.requires.content (c.deref.ensures.value ∙ c.write_behind.ensures.bytes) gate
    (held_at c.args.self.now c.self.inside.area contents (g.D.Disk.told c.args.disk.now) (g.D.Disk.may_leave c.args.disk.now) (ap (λ (l : Log). l.area) c.self.view_is) keeps) in
    record {
      behind = omega (arith, gate, place_behind-next contents content);
      stands = held_stands c.self.inside.area (contents ++ content ∷ []) (g.D.Disk.told c.put_entry.new.disk) (g.D.Disk.may_leave c.put_entry.new.disk) held;
      held = held_both c.self.inside.area (contents ++ content ∷ []) (g.D.Disk.told c.put_entry.new.disk) (g.D.Disk.may_leave c.put_entry.new.disk) held;
    }
