use Rattle.std.proofs.Common.{◌≤◌, ◌^◌, ◌∷◌, List, ap, ◌∙◌, sym, subst, arith}
use Rattle.std.specs.List.{AllByRecursion, filter_map}
use Rattle.fk_trace.specs.declared.change.Change.{Change}
use Rattle.fk_trace.specs.declared.change.Change.TheVariants.{Floor}
use Rattle.fk_journal.specs.Entries.{contents_of, area_bytes}
use Rattle.fk_ledger.specs.Anew.{kept_as}
use Rattle.fk_ledger.specs.Book.{live_ids}
use Rattle.fk_ledger.specs.Payloads.{ledger_contents, IsChange}
use Rattle.fk_ledger.proofs.OlderLaws.{begun_each, migrates_to}
use Rattle.fk_ledger.proofs.migration.migrated.Goals as goal

pub list_of-requires : goal.list_of-requires
list_of-requires c =
    let found : List Change = c.in_ok-changes.changes.items in
    let low : c.in_ok-changes.outline.next ≤ 2 ^ 63 = (let few = c.if-outline-gt-GREATEST_NEXT.false in omega (arith, few)) in
    subst (AllByRecursion IsChange) (sym c.deref-3.ensures.value)
    (begun_each found c.begin_anew.new.changes.items c.in_ok-changes.outline.next c.deref-2.result.now c.in_ok-changes.ensures.outline.next low c.in_ok-changes.ensures.held.each
    (c.deref-2.ensures.value ∙ c.in_ok-ids.ensures ∙ ap live_ids c.deref.ensures.value) (c.begin_anew.ensures.items ∙ ap (λ (changes : List Change). Floor 0 c.in_ok-changes.outline.next ∷ filter_map (kept_as 0 c.deref-2.result.now) changes) c.in_ok-reserve.ensures.items))

pub returns-clause-held : goal.returns-clause-held
returns-clause-held c =
    let found : List Change = c.in_ok-changes.changes.items in
    let low : c.in_ok-changes.outline.next ≤ 2 ^ 63 = (let few = c.if-outline-gt-GREATEST_NEXT.false in omega (arith, few)) in
    migrates_to found c.begin_anew.new.changes.items c.in_ok-changes.outline.next c.deref-2.result.now c.in_ok-changes.ensures.outline.next low c.in_ok-changes.ensures.held.each
    (c.deref-2.ensures.value ∙ c.in_ok-ids.ensures ∙ ap live_ids c.deref.ensures.value) (c.begin_anew.ensures.items ∙ ap (λ (changes : List Change). Floor 0 c.in_ok-changes.outline.next ∷ filter_map (kept_as 0 c.deref-2.result.now) changes) c.in_ok-reserve.ensures.items)
    (contents_of c.args.entries.now) c.in_ok-list_of.field-0.items c.in_ok-changes.ensures.held
    (c.in_ok-list_of.ensures ∙ ap (λ (changes : List Change). area_bytes (ledger_contents changes)) c.deref-3.ensures.value)
