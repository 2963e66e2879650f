use Rattle.std.proofs.Common.{◌≡◌, ℕ, List, [], ◌∷◌, ap, sym, subst, ◌∙◌}
use Rattle.std.specs.List.{filter_map}
use Rattle.std.proofs.lemmas.Result.{err_from_is_err_and}
use Rattle.fk_trace.specs.declared.change.Change.{Change}
use Rattle.fk_trace.specs.declared.change.Change.TheVariants.{Floor}
use Rattle.fk_trace.specs.Ledger.{after_one}
use Rattle.fk_journal.specs.Entries.{Content}
use Rattle.fk_host.specs.declared.disk.Area.{Area}
use Rattle.fk_host.specs.Disk.{IfTold}
use Rattle.fk_journal.specs.Keeps.{Log, HoldsIn, HoldsEither, CopyMoments, Keeps}
use Rattle.fk_ledger.specs.Anew.{entry_of, kept_as, CopiesOn}
use Rattle.fk_ledger.specs.Payloads.{content_of, ledger_contents}
use Rattle.fk_ledger.proofs.RoomLaws.{journal_keeps}
use Rattle.fk_ledger.proofs.CopyLaws.{one_copied, copies_then, fails_then, moments_hold}
use Rattle.fk_ledger.proofs.CompactionLaws.{with_rest, copied_so_far, failed_so_far, failed_anew, anew_contents, keeps_anew, used_anew_is, switched_anew, calls_anew}
use Rattle.fk_ledger.proofs.compaction.compact.Goals as goal

pub begin_copy-requires-clause-keeps : goal.begin_copy-requires-clause-keeps
begin_copy-requires-clause-keeps g c =
    let ledger : List Change = c.args.changes.now in
    let contents : List Content = ledger_contents ledger in
    let start : Keeps c.args.journal.now contents (g.D.Disk.told c.args.disk.now) (g.D.Disk.may_leave c.args.disk.now) = journal_keeps ledger c.args.journal.now (g.D.Disk.told c.args.disk.now) (g.D.Disk.may_leave c.args.disk.now) c.requires.used c.requires.stands c.requires.keeps in
    (contents, start)

pub returns-in_err-begin_copy-clause-moments : goal.returns-in_err-begin_copy-clause-moments
returns-in_err-begin_copy-clause-moments g c =
    let ledger : List Change = c.args.changes.now in
    let contents : List Content = ledger_contents ledger in
    let start : Keeps c.args.journal.now contents (g.D.Disk.told c.args.disk.now) (g.D.Disk.may_leave c.args.disk.now) = journal_keeps ledger c.args.journal.now (g.D.Disk.told c.args.disk.now) (g.D.Disk.may_leave c.args.disk.now) c.requires.used c.requires.stands c.requires.keeps in
    let p = err_from_is_err_and c.from_residual.result c.from_residual.ensures.1 in
    rw p.1 (failed_anew ledger c.args.journal.now.area (Floor c.args.floor c.args.next ∷ []) (g.D.Disk.told c.args.disk.now) (g.D.Disk.told c.begin_copy.new.disk) (g.D.Disk.may_leave c.args.disk.now) (g.D.Disk.may_leave c.begin_copy.new.disk) c.requires.keeps
    (moments_hold 2 (HoldsIn c.args.journal.now.area contents) (g.D.Disk.may_leave c.args.disk.now) (g.D.Disk.may_leave c.begin_copy.new.disk) (g.D.Disk.told c.args.disk.now) (g.D.Disk.told c.begin_copy.new.disk) (c.in_err-begin_copy.ensures.moments contents start)))

pub copy-requires-clause-keeps : goal.copy-requires-clause-keeps
copy-requires-clause-keeps g c =
    let ledger : List Change = c.args.changes.now in
    let contents : List Content = ledger_contents ledger in
    let start : Keeps c.args.journal.now contents (g.D.Disk.told c.args.disk.now) (g.D.Disk.may_leave c.args.disk.now) = journal_keeps ledger c.args.journal.now (g.D.Disk.told c.args.disk.now) (g.D.Disk.may_leave c.args.disk.now) c.requires.used c.requires.stands c.requires.keeps in
    (contents, c.in_ok-begin_copy.ensures.keeps contents start)

pub returns-in_err-copy-clause-moments : goal.returns-in_err-copy-clause-moments
returns-in_err-copy-clause-moments g c =
    let ledger : List Change = c.args.changes.now in
    let contents : List Content = ledger_contents ledger in
    let start : Keeps c.args.journal.now contents (g.D.Disk.told c.args.disk.now) (g.D.Disk.may_leave c.args.disk.now) = journal_keeps ledger c.args.journal.now (g.D.Disk.told c.args.disk.now) (g.D.Disk.may_leave c.args.disk.now) c.requires.used c.requires.stands c.requires.keeps in
    let p = err_from_is_err_and c.from_residual-in_err-copy.result c.from_residual-in_err-copy.ensures.1 in
    let begun : Keeps c.begin_copy.new.self contents (g.D.Disk.told c.begin_copy.new.disk) (g.D.Disk.may_leave c.begin_copy.new.disk) = c.in_ok-begin_copy.ensures.keeps contents start in
    let moments = c.in_ok-begin_copy.ensures.moments contents start in
    rw p.1 (failed_anew ledger c.args.journal.now.area (Floor c.args.floor c.args.next ∷ []) (g.D.Disk.told c.args.disk.now) (g.D.Disk.told c.copy.new.disk) (g.D.Disk.may_leave c.args.disk.now) (g.D.Disk.may_leave c.copy.new.disk) c.requires.keeps
    (with_rest c.args.journal.now c.begin_copy.new.self contents (g.D.Disk.told c.args.disk.now) (g.D.Disk.told c.begin_copy.new.disk) (g.D.Disk.may_leave c.args.disk.now) (g.D.Disk.may_leave c.begin_copy.new.disk) c.in_ok-begin_copy.ensures.ok begun moments c.copy.new.self (g.D.Disk.told c.copy.new.disk) (g.D.Disk.may_leave c.copy.new.disk) (moments_hold 1 (HoldsIn c.begin_copy.new.self.area contents) (g.D.Disk.may_leave c.begin_copy.new.disk) (g.D.Disk.may_leave c.copy.new.disk) (g.D.Disk.told c.begin_copy.new.disk) (g.D.Disk.told c.copy.new.disk) (c.in_err-copy.ensures.moments contents begun))))

pub copy_all-requires-clause-keeps : goal.copy_all-requires-clause-keeps
copy_all-requires-clause-keeps g c =
    let ledger : List Change = c.args.changes.now in
    let contents : List Content = ledger_contents ledger in
    let start : Keeps c.args.journal.now contents (g.D.Disk.told c.args.disk.now) (g.D.Disk.may_leave c.args.disk.now) = journal_keeps ledger c.args.journal.now (g.D.Disk.told c.args.disk.now) (g.D.Disk.may_leave c.args.disk.now) c.requires.used c.requires.stands c.requires.keeps in
    let begun : Keeps c.begin_copy.new.self contents (g.D.Disk.told c.begin_copy.new.disk) (g.D.Disk.may_leave c.begin_copy.new.disk) = c.in_ok-begin_copy.ensures.keeps contents start in
    (contents, c.in_ok-copy.ensures.keeps contents begun)

pub returns-in_err-copy_all-clause-moments : goal.returns-in_err-copy_all-clause-moments
returns-in_err-copy_all-clause-moments g c =
    let ledger : List Change = c.args.changes.now in
    let contents : List Content = ledger_contents ledger in
    let start : Keeps c.args.journal.now contents (g.D.Disk.told c.args.disk.now) (g.D.Disk.may_leave c.args.disk.now) = journal_keeps ledger c.args.journal.now (g.D.Disk.told c.args.disk.now) (g.D.Disk.may_leave c.args.disk.now) c.requires.used c.requires.stands c.requires.keeps in
    let p = err_from_is_err_and c.from_residual-in_err-copy_all.result c.from_residual-in_err-copy_all.ensures.1 in
    let begun : Keeps c.begin_copy.new.self contents (g.D.Disk.told c.begin_copy.new.disk) (g.D.Disk.may_leave c.begin_copy.new.disk) = c.in_ok-begin_copy.ensures.keeps contents start in
    let moments = c.in_ok-begin_copy.ensures.moments contents start in
    let entry : Content = entry_of c.deref.result.now 4 in
    let one : CopiesOn c.begin_copy.new.self c.copy.new.self (entry ∷ []) (g.D.Disk.told c.begin_copy.new.disk) (g.D.Disk.told c.copy.new.disk) (g.D.Disk.may_leave c.begin_copy.new.disk) (g.D.Disk.may_leave c.copy.new.disk) =
    one_copied c.begin_copy.new.self c.copy.new.self entry _ (g.D.Disk.told c.begin_copy.new.disk) (g.D.Disk.told c.copy.new.disk) (g.D.Disk.may_leave c.begin_copy.new.disk) (g.D.Disk.may_leave c.copy.new.disk) c.in_ok-copy.ensures.ok c.in_ok-copy.ensures.keeps c.in_ok-copy.ensures.moments c.in_ok-copy.ensures.copies c.in_ok-copy.ensures.calls in
    rw p.1 (failed_anew ledger c.args.journal.now.area (Floor c.args.floor c.args.next ∷ []) (g.D.Disk.told c.args.disk.now) (g.D.Disk.told c.copy_all.new.disk) (g.D.Disk.may_leave c.args.disk.now) (g.D.Disk.may_leave c.copy_all.new.disk) c.requires.keeps
    (failed_so_far c.args.journal.now c.begin_copy.new.self contents (g.D.Disk.told c.args.disk.now) (g.D.Disk.told c.begin_copy.new.disk) (g.D.Disk.may_leave c.args.disk.now) (g.D.Disk.may_leave c.begin_copy.new.disk) c.in_ok-begin_copy.ensures.ok begun moments c.copy_all.new.journal (g.D.Disk.told c.copy_all.new.disk) (g.D.Disk.may_leave c.copy_all.new.disk) (fails_then _ _ _ _ _ _ _ _ _ _ one c.in_err-copy_all.ensures.err)))

pub switch-requires-clause-keeps : goal.switch-requires-clause-keeps
switch-requires-clause-keeps g c =
    let ledger : List Change = c.args.changes.now in
    let contents : List Content = ledger_contents ledger in
    let start : Keeps c.args.journal.now contents (g.D.Disk.told c.args.disk.now) (g.D.Disk.may_leave c.args.disk.now) = journal_keeps ledger c.args.journal.now (g.D.Disk.told c.args.disk.now) (g.D.Disk.may_leave c.args.disk.now) c.requires.used c.requires.stands c.requires.keeps in
    let begun : Keeps c.begin_copy.new.self contents (g.D.Disk.told c.begin_copy.new.disk) (g.D.Disk.may_leave c.begin_copy.new.disk) = c.in_ok-begin_copy.ensures.keeps contents start in
    let entry : Content = entry_of c.deref.result.now 4 in
    let one : CopiesOn c.begin_copy.new.self c.copy.new.self (entry ∷ []) (g.D.Disk.told c.begin_copy.new.disk) (g.D.Disk.told c.copy.new.disk) (g.D.Disk.may_leave c.begin_copy.new.disk) (g.D.Disk.may_leave c.copy.new.disk) =
    one_copied c.begin_copy.new.self c.copy.new.self entry _ (g.D.Disk.told c.begin_copy.new.disk) (g.D.Disk.told c.copy.new.disk) (g.D.Disk.may_leave c.begin_copy.new.disk) (g.D.Disk.may_leave c.copy.new.disk) c.in_ok-copy.ensures.ok c.in_ok-copy.ensures.keeps c.in_ok-copy.ensures.moments c.in_ok-copy.ensures.copies c.in_ok-copy.ensures.calls in
    (contents, c.in_ok-copy_all.ensures.ok.keeps contents (one.keeps contents begun))

pub returns-clause-used : goal.returns-clause-used
returns-clause-used g c =
    let ledger : List Change = c.args.changes.now in
    let contents : List Content = ledger_contents ledger in
    let start : Keeps c.args.journal.now contents (g.D.Disk.told c.args.disk.now) (g.D.Disk.may_leave c.args.disk.now) = journal_keeps ledger c.args.journal.now (g.D.Disk.told c.args.disk.now) (g.D.Disk.may_leave c.args.disk.now) c.requires.used c.requires.stands c.requires.keeps in
    let begun : Keeps c.begin_copy.new.self contents (g.D.Disk.told c.begin_copy.new.disk) (g.D.Disk.may_leave c.begin_copy.new.disk) = c.in_ok-begin_copy.ensures.keeps contents start in
    let moments = c.in_ok-begin_copy.ensures.moments contents start in
    let entry : Content = entry_of c.deref.result.now 4 in
    let one : CopiesOn c.begin_copy.new.self c.copy.new.self (entry ∷ []) (g.D.Disk.told c.begin_copy.new.disk) (g.D.Disk.told c.copy.new.disk) (g.D.Disk.may_leave c.begin_copy.new.disk) (g.D.Disk.may_leave c.copy.new.disk) =
    one_copied c.begin_copy.new.self c.copy.new.self entry _ (g.D.Disk.told c.begin_copy.new.disk) (g.D.Disk.told c.copy.new.disk) (g.D.Disk.may_leave c.begin_copy.new.disk) (g.D.Disk.may_leave c.copy.new.disk) c.in_ok-copy.ensures.ok c.in_ok-copy.ensures.keeps c.in_ok-copy.ensures.moments c.in_ok-copy.ensures.copies c.in_ok-copy.ensures.calls in
    let rest : List Content = ledger_contents (filter_map (kept_as c.args.floor c.args.live.now) ledger) in
    let all : CopiesOn c.begin_copy.new.self c.copy_all.new.journal (entry ∷ rest) (g.D.Disk.told c.begin_copy.new.disk) (g.D.Disk.told c.copy_all.new.disk) (g.D.Disk.may_leave c.begin_copy.new.disk) (g.D.Disk.may_leave c.copy_all.new.disk) = copies_then _ _ _ _ _ _ _ _ _ _ one rest c.in_ok-copy_all.ensures.ok in
    let bytes : content_of (Floor c.args.floor c.args.next) ≡ entry = ap (λ (payload : List ℕ). entry_of payload 4) (sym (c.deref.ensures.value ∙ c.write_floor.ensures.bytes)) in
    let same : entry ∷ rest ≡ ledger_contents (after_one ledger (Floor c.args.floor c.args.next)) =
    ap (λ (content : Content). content ∷ rest) (sym bytes)
    ∙ ap (λ (ids : List ℕ). content_of (Floor c.args.floor c.args.next) ∷ ledger_contents (filter_map (kept_as c.args.floor ids) ledger)) c.requires.live
    ∙ sym (anew_contents ledger c.args.floor c.args.next c.requires.next c.requires.floor) in
    let copies = all.copies [] c.in_ok-begin_copy.ensures.copies in
    used_anew_is ledger c.args.floor c.args.next c.requires.next c.requires.floor (entry ∷ rest) same (g.D.Disk.told c.args.disk.now) (g.D.Disk.told c.copy_all.new.disk) (g.D.Disk.told c.switch.new.disk) (g.D.Disk.may_leave c.args.disk.now) (g.D.Disk.may_leave c.copy_all.new.disk) (g.D.Disk.may_leave c.switch.new.disk) c.requires.keeps c.switch.new.self c.switch.result (c.switch.ensures.keeps (entry ∷ rest) copies)

pub returns-clause-keeps : goal.returns-clause-keeps
returns-clause-keeps g c =
    let ledger : List Change = c.args.changes.now in
    let contents : List Content = ledger_contents ledger in
    let start : Keeps c.args.journal.now contents (g.D.Disk.told c.args.disk.now) (g.D.Disk.may_leave c.args.disk.now) = journal_keeps ledger c.args.journal.now (g.D.Disk.told c.args.disk.now) (g.D.Disk.may_leave c.args.disk.now) c.requires.used c.requires.stands c.requires.keeps in
    let begun : Keeps c.begin_copy.new.self contents (g.D.Disk.told c.begin_copy.new.disk) (g.D.Disk.may_leave c.begin_copy.new.disk) = c.in_ok-begin_copy.ensures.keeps contents start in
    let moments = c.in_ok-begin_copy.ensures.moments contents start in
    let entry : Content = entry_of c.deref.result.now 4 in
    let one : CopiesOn c.begin_copy.new.self c.copy.new.self (entry ∷ []) (g.D.Disk.told c.begin_copy.new.disk) (g.D.Disk.told c.copy.new.disk) (g.D.Disk.may_leave c.begin_copy.new.disk) (g.D.Disk.may_leave c.copy.new.disk) =
    one_copied c.begin_copy.new.self c.copy.new.self entry _ (g.D.Disk.told c.begin_copy.new.disk) (g.D.Disk.told c.copy.new.disk) (g.D.Disk.may_leave c.begin_copy.new.disk) (g.D.Disk.may_leave c.copy.new.disk) c.in_ok-copy.ensures.ok c.in_ok-copy.ensures.keeps c.in_ok-copy.ensures.moments c.in_ok-copy.ensures.copies c.in_ok-copy.ensures.calls in
    let rest : List Content = ledger_contents (filter_map (kept_as c.args.floor c.args.live.now) ledger) in
    let all : CopiesOn c.begin_copy.new.self c.copy_all.new.journal (entry ∷ rest) (g.D.Disk.told c.begin_copy.new.disk) (g.D.Disk.told c.copy_all.new.disk) (g.D.Disk.may_leave c.begin_copy.new.disk) (g.D.Disk.may_leave c.copy_all.new.disk) = copies_then _ _ _ _ _ _ _ _ _ _ one rest c.in_ok-copy_all.ensures.ok in
    let bytes : content_of (Floor c.args.floor c.args.next) ≡ entry = ap (λ (payload : List ℕ). entry_of payload 4) (sym (c.deref.ensures.value ∙ c.write_floor.ensures.bytes)) in
    let same : entry ∷ rest ≡ ledger_contents (after_one ledger (Floor c.args.floor c.args.next)) =
    ap (λ (content : Content). content ∷ rest) (sym bytes)
    ∙ ap (λ (ids : List ℕ). content_of (Floor c.args.floor c.args.next) ∷ ledger_contents (filter_map (kept_as c.args.floor ids) ledger)) c.requires.live
    ∙ sym (anew_contents ledger c.args.floor c.args.next c.requires.next c.requires.floor) in
    let copies = all.copies [] c.in_ok-begin_copy.ensures.copies in
    keeps_anew ledger c.args.floor c.args.next c.requires.next c.requires.floor (entry ∷ rest) same (g.D.Disk.told c.args.disk.now) (g.D.Disk.told c.copy_all.new.disk) (g.D.Disk.told c.switch.new.disk) (g.D.Disk.may_leave c.args.disk.now) (g.D.Disk.may_leave c.copy_all.new.disk) (g.D.Disk.may_leave c.switch.new.disk) c.requires.keeps c.switch.new.self c.switch.result (c.switch.ensures.keeps (entry ∷ rest) copies)

pub returns-clause-moments : goal.returns-clause-moments
returns-clause-moments g c =
    let ledger : List Change = c.args.changes.now in
    let contents : List Content = ledger_contents ledger in
    let start : Keeps c.args.journal.now contents (g.D.Disk.told c.args.disk.now) (g.D.Disk.may_leave c.args.disk.now) = journal_keeps ledger c.args.journal.now (g.D.Disk.told c.args.disk.now) (g.D.Disk.may_leave c.args.disk.now) c.requires.used c.requires.stands c.requires.keeps in
    let begun : Keeps c.begin_copy.new.self contents (g.D.Disk.told c.begin_copy.new.disk) (g.D.Disk.may_leave c.begin_copy.new.disk) = c.in_ok-begin_copy.ensures.keeps contents start in
    let moments = c.in_ok-begin_copy.ensures.moments contents start in
    let entry : Content = entry_of c.deref.result.now 4 in
    let one : CopiesOn c.begin_copy.new.self c.copy.new.self (entry ∷ []) (g.D.Disk.told c.begin_copy.new.disk) (g.D.Disk.told c.copy.new.disk) (g.D.Disk.may_leave c.begin_copy.new.disk) (g.D.Disk.may_leave c.copy.new.disk) =
    one_copied c.begin_copy.new.self c.copy.new.self entry _ (g.D.Disk.told c.begin_copy.new.disk) (g.D.Disk.told c.copy.new.disk) (g.D.Disk.may_leave c.begin_copy.new.disk) (g.D.Disk.may_leave c.copy.new.disk) c.in_ok-copy.ensures.ok c.in_ok-copy.ensures.keeps c.in_ok-copy.ensures.moments c.in_ok-copy.ensures.copies c.in_ok-copy.ensures.calls in
    let rest : List Content = ledger_contents (filter_map (kept_as c.args.floor c.args.live.now) ledger) in
    let all : CopiesOn c.begin_copy.new.self c.copy_all.new.journal (entry ∷ rest) (g.D.Disk.told c.begin_copy.new.disk) (g.D.Disk.told c.copy_all.new.disk) (g.D.Disk.may_leave c.begin_copy.new.disk) (g.D.Disk.may_leave c.copy_all.new.disk) = copies_then _ _ _ _ _ _ _ _ _ _ one rest c.in_ok-copy_all.ensures.ok in
    let bytes : content_of (Floor c.args.floor c.args.next) ≡ entry = ap (λ (payload : List ℕ). entry_of payload 4) (sym (c.deref.ensures.value ∙ c.write_floor.ensures.bytes)) in
    let same : entry ∷ rest ≡ ledger_contents (after_one ledger (Floor c.args.floor c.args.next)) =
    ap (λ (content : Content). content ∷ rest) (sym bytes)
    ∙ ap (λ (ids : List ℕ). content_of (Floor c.args.floor c.args.next) ∷ ledger_contents (filter_map (kept_as c.args.floor ids) ledger)) c.requires.live
    ∙ sym (anew_contents ledger c.args.floor c.args.next c.requires.next c.requires.floor) in
    let copies = all.copies [] c.in_ok-begin_copy.ensures.copies in
    let kept = all.keeps contents begun in
    let so_far = copied_so_far c.args.journal.now c.begin_copy.new.self contents (g.D.Disk.told c.args.disk.now) (g.D.Disk.told c.begin_copy.new.disk) (g.D.Disk.may_leave c.args.disk.now) (g.D.Disk.may_leave c.begin_copy.new.disk) c.in_ok-begin_copy.ensures.ok begun moments c.copy_all.new.journal (g.D.Disk.told c.copy_all.new.disk) (g.D.Disk.may_leave c.copy_all.new.disk) (entry ∷ rest) all in
    let area = ap (λ (l : Log). l.area) (all.same ∙ ap (λ (l : Log). record l { copied_end = c.copy_all.new.journal.copied_end }) c.in_ok-begin_copy.ensures.ok) in
    switched_anew ledger c.args.floor c.args.next c.requires.next c.requires.floor (entry ∷ rest) same (g.D.Disk.told c.args.disk.now) (g.D.Disk.told c.copy_all.new.disk) (g.D.Disk.told c.switch.new.disk) (g.D.Disk.may_leave c.args.disk.now) (g.D.Disk.may_leave c.copy_all.new.disk) (g.D.Disk.may_leave c.switch.new.disk) c.requires.keeps c.args.journal.now.area c.switch.new.self c.switch.result so_far
    (subst (λ (area : Area). IfTold (g.D.Disk.told c.copy_all.new.disk) (g.D.Disk.told c.switch.new.disk) (CopyMoments 4 (HoldsEither area contents (entry ∷ rest)) (g.D.Disk.may_leave c.copy_all.new.disk) (g.D.Disk.may_leave c.switch.new.disk))) area (c.switch.ensures.moments contents (entry ∷ rest) kept copies))
    (c.switch.ensures.keeps (entry ∷ rest) copies)

pub returns-clause-calls : goal.returns-clause-calls
returns-clause-calls g c =
    let ledger : List Change = c.args.changes.now in
    let contents : List Content = ledger_contents ledger in
    let start : Keeps c.args.journal.now contents (g.D.Disk.told c.args.disk.now) (g.D.Disk.may_leave c.args.disk.now) = journal_keeps ledger c.args.journal.now (g.D.Disk.told c.args.disk.now) (g.D.Disk.may_leave c.args.disk.now) c.requires.used c.requires.stands c.requires.keeps in
    let begun : Keeps c.begin_copy.new.self contents (g.D.Disk.told c.begin_copy.new.disk) (g.D.Disk.may_leave c.begin_copy.new.disk) = c.in_ok-begin_copy.ensures.keeps contents start in
    let moments = c.in_ok-begin_copy.ensures.moments contents start in
    let entry : Content = entry_of c.deref.result.now 4 in
    let one : CopiesOn c.begin_copy.new.self c.copy.new.self (entry ∷ []) (g.D.Disk.told c.begin_copy.new.disk) (g.D.Disk.told c.copy.new.disk) (g.D.Disk.may_leave c.begin_copy.new.disk) (g.D.Disk.may_leave c.copy.new.disk) =
    one_copied c.begin_copy.new.self c.copy.new.self entry _ (g.D.Disk.told c.begin_copy.new.disk) (g.D.Disk.told c.copy.new.disk) (g.D.Disk.may_leave c.begin_copy.new.disk) (g.D.Disk.may_leave c.copy.new.disk) c.in_ok-copy.ensures.ok c.in_ok-copy.ensures.keeps c.in_ok-copy.ensures.moments c.in_ok-copy.ensures.copies c.in_ok-copy.ensures.calls in
    let rest : List Content = ledger_contents (filter_map (kept_as c.args.floor c.args.live.now) ledger) in
    let all : CopiesOn c.begin_copy.new.self c.copy_all.new.journal (entry ∷ rest) (g.D.Disk.told c.begin_copy.new.disk) (g.D.Disk.told c.copy_all.new.disk) (g.D.Disk.may_leave c.begin_copy.new.disk) (g.D.Disk.may_leave c.copy_all.new.disk) = copies_then _ _ _ _ _ _ _ _ _ _ one rest c.in_ok-copy_all.ensures.ok in
    let bytes : content_of (Floor c.args.floor c.args.next) ≡ entry = ap (λ (payload : List ℕ). entry_of payload 4) (sym (c.deref.ensures.value ∙ c.write_floor.ensures.bytes)) in
    let same : entry ∷ rest ≡ ledger_contents (after_one ledger (Floor c.args.floor c.args.next)) =
    ap (λ (content : Content). content ∷ rest) (sym bytes)
    ∙ ap (λ (ids : List ℕ). content_of (Floor c.args.floor c.args.next) ∷ ledger_contents (filter_map (kept_as c.args.floor ids) ledger)) c.requires.live
    ∙ sym (anew_contents ledger c.args.floor c.args.next c.requires.next c.requires.floor) in
    calls_anew ledger c.args.floor c.args.next (entry ∷ rest) c.switch.result (g.D.Disk.told c.args.disk.now) (g.D.Disk.told c.begin_copy.new.disk) (g.D.Disk.told c.copy_all.new.disk) (g.D.Disk.told c.switch.new.disk) same c.in_ok-begin_copy.ensures.calls all.calls c.switch.ensures.calls
