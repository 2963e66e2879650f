use Rattle.std.proofs.Common.{◌≡◌, ℕ, ◌+◌, List, [], ◌∷◌, ◌++◌, length, drop, ap, ◌∙◌, sym, subst}
use Rattle.std.proofs.lemmas.List.{map_push, take_rest}
use Rattle.fk_journal.specs.declared.entry.Entry.{Entry}
use Rattle.fk_journal.specs.Entries.{format_byte, Content, content_of_entry, contents_of, ArePlacedFrom, BeginsWith, place_behind}
use Rattle.fk_journal.proofs.Contents.{next_entry, placed-push}
use Rattle.fk_journal.proofs.entry.entries_of.Goals as goal

pub loop-at-preserved : goal.loop-at-preserved
loop-at-preserved c =
    let bytes : List ℕ = c.args.bytes.now in
    let at : ℕ = c.loop-at.at in
    let entries : List Entry = c.loop-at.entries.items in
    let of : ℕ → List ℕ → Content = λ kind payload. record { kind = kind; payload = payload } in
    let content : Content = of c.in-Some.kind c.in-Some.payload.now in
    let entry : Entry = record { place = at; kind = c.in-Some.kind; payload = c.in_ok-copy.field-0 } in
    let contents_are : contents_of c.push.new.self.items ≡ contents_of entries ++ content ∷ [] =
    ap contents_of c.in_ok-push.ensures.items ∙ map_push content_of_entry entries entry ∙ ap (λ payload. contents_of entries ++ of c.in-Some.kind payload ∷ []) c.in_ok-copy.ensures in
    let f = c.in-Some.ensures.found in
    let r = next_entry (contents_of entries) content bytes at f.0 f.1 c.loop-at.invariant.place c.loop-at.invariant.inside c.loop-at.invariant.begins c.loop-at-test.true f.2 (sym (take_rest bytes (at + 1)) ∙ f.3) in
    record {
      inside = r.1;
      begins = subst (λ (cs : List Content). BeginsWith format_byte cs (drop (at + (6 + length c.in-Some.payload.now)) bytes) bytes) (sym contents_are) r.0;
      place = r.2 ∙ ap place_behind (sym contents_are);
      placed = subst (ArePlacedFrom 1) (sym c.in_ok-push.ensures.items) (placed-push 1 entries entry c.loop-at.invariant.placed c.loop-at.invariant.place);
    }
