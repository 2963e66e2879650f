-- A write and its sync, and what two of them in a row are for the journal.
use Rattle.std.proofs.Common.{◌≡◌, ℕ, ◌+◌, ◌≤◌, max, List, [], ◌∷◌, ◌++◌, length, take, drop, inl, inr, ap, ◌∙◌, sym, subst, arith}
use Rattle.std.proofs.lemmas.Bool.{cases_lt}
use Rattle.std.proofs.lemmas.List.{append_assoc, length-append, length-take, length-drop}
use Rattle.fk_host.specs.declared.disk.Area.{Area}
use Rattle.fk_host.specs.declared.disk.Area.TheVariants.{Head}
use Rattle.fk_host.specs.Disk.{Areas, Told, area_of, KeepsPast, Passes, Same, Synced, InArea, Torn, Written}
use Rattle.fk_journal.specs.Entries.{Content, IsContent, body, entry_bytes, place_behind}
use Rattle.fk_journal.specs.Head.{area_by}
use Rattle.fk_journal.specs.Keeps.{selected_area, selected, IsSettled, LeavesAllBut, IsAppend}
use Rattle.fk_journal.specs.Puts.{Puts, HasPut, IsHeldNow}
use Rattle.fk_journal.proofs.Told.{past_then}
use Rattle.fk_journal.proofs.Areas.{apart_from, in_others, in_used, bytes_of, still_selects, step_selected, image_selected}
use Rattle.fk_journal.proofs.Tails.{front, torn_tail, written_tail, old_or_new, written_gate, opened_gate, written_entry}

pub written_bound : (at : ℕ) (bytes old new : List ℕ) → Written at bytes old new → length new ≤ max (length old) (at + length bytes)
written_bound at bytes old new written =
    omega (arith, ap length written, length-append (take at old ++ bytes) (drop (at + length bytes) old), length-append (take at old) bytes, length-take at old, length-drop (at + length bytes) old)

pub torn_bound : (at count : ℕ) (old new : List ℕ) → Torn at count old new → length new ≤ max (length old) (at + count)
torn_bound at count old new torn = torn.no_longer

-- a write alone
pub puts_write : (used : Area) (at count : ℕ) (Step : List ℕ → List ℕ → Type 0) → ((old new : List ℕ) → Step old new → length new ≤ max (length old) (at + count)) → (a b : ℕ → Areas → Type 0) (x y : Told) → Passes (InArea used Step) (InArea used (Torn at count)) a b x y → Puts used at count a b x y
puts_write used at count Step bound a b x y pass = record {
  later = omega (arith, pass.moments);
  few = omega (arith, pass.moments);
  past = pass.past;
  each = λ k image after upto left.
      let last : k ≡ y.moments = omega (arith, pass.moments, after, upto) in
      pass.now image (subst (λ (n : ℕ). b n image) last left);
  others = in_others used Step x.areas y.areas pass.reads;
  short = bound (area_of used x.areas) (area_of used y.areas) (in_used used Step x.areas y.areas pass.reads);
}

-- a write and then a sync
pub puts_sync : (used : Area) (at count : ℕ) (Step : List ℕ → List ℕ → Type 0) (Leaves : Areas → Areas → Type 0) → ((old new : List ℕ) → Step old new → length new ≤ max (length old) (at + count)) → ((from image : Areas) → Leaves from image → image ≡ from)
    → (a b c : ℕ → Areas → Type 0) (x y z : Told) → Passes (InArea used Step) (InArea used (Torn at count)) a b x y → Passes Same Leaves b c y z → Puts used at count a c x z
puts_sync used at count Step Leaves bound same a b c x y z first second = record {
  later = omega (arith, first.moments, second.moments);
  few = omega (arith, first.moments, second.moments);
  past = past_then x.moments y.moments a b c (omega (arith, first.moments)) first.past second.past;
  each = λ k image after upto left.
      elim (cases_lt y.moments k) [
        | inr before ↦
            let last : k ≡ y.moments = omega (arith, first.moments, after, before) in
            first.now image (subst (λ (n : ℕ). b n image) last ((second.past k image before).0 left))
        | inl behind ↦
            let last : k ≡ z.moments = omega (arith, second.moments, behind, upto) in
            let r = second.now image (subst (λ (n : ℕ). c n image) last left) in
            first.now image (subst (b y.moments) (sym (same r.0 image r.2)) r.1)
      ];
  others = λ area apart. ap (λ (areas : Areas). area_of area areas) second.reads ∙ in_others used Step x.areas y.areas first.reads area apart;
  short = subst (λ (bytes : List ℕ). length bytes ≤ max (length (area_of used x.areas)) (at + count)) (sym (ap (λ (areas : Areas). area_of used areas) second.reads))
      (bound (area_of used x.areas) (area_of used y.areas) (in_used used Step x.areas y.areas first.reads));
}

-- where both have ended well
pub has_put : (used : Area) (at : ℕ) (bytes : List ℕ) (Leaves : Areas → Areas → Type 0) (a b c : ℕ → Areas → Type 0) (x y z : Told)
    → Passes (InArea used (Written at bytes)) Leaves a b x y → Passes Same (Synced used z.areas) b c y z → HasPut used at bytes c x z
has_put used at bytes Leaves a b c x y z first second = record {
  moments = omega (arith, first.moments, second.moments);
  reads = subst (InArea used (Written at bytes) x.areas) (sym second.reads) first.reads;
  synced = λ image left. (second.now image left).2.1;
}

-- nothing of Head or of the selected area is unsynced, as before
pub puts_settled : (used : Area) (at count other : ℕ) (bytes : List ℕ) (a b : ℕ → Areas → Type 0) (x y : Told) → selected_area x.areas ≡ used → IsSettled x a
    → Puts used at count a b x y → HasPut used other bytes b x y → IsSettled y b
puts_settled used at count other bytes a b x y is settled puts done = λ image left.
    let r = puts.each y.moments image (omega (arith, done.moments)) (omega arith) left in
    let apart = apart_from x.areas.head used is in
    let head : image.head ≡ y.areas.head = in_others used (Torn at count) r.0 image r.2 Head apart ∙ (settled r.0 r.1).0 ∙ sym (puts.others Head apart) in
    let now : selected_area y.areas ≡ used = still_selects used x.areas y.areas is puts.others in
    (head, bytes_of used image (ap area_by head ∙ now) ∙ done.synced image left ∙ sym (bytes_of used y.areas now))

pub others_put : (used : Area) (at count : ℕ) (a b : ℕ → Areas → Type 0) (x y : Told) → Puts used at count a b x y → LeavesAllBut used a b x y
others_put used at count a b x y puts = record {
  reads = puts.others;
  each = λ k image after upto left. let r = puts.each k image after upto left in (r.0, r.1, in_others used (Torn at count) r.0 image r.2);
}

pub others_then : (used : Area) (a b c : ℕ → Areas → Type 0) (x y z : Told) → x.moments ≤ y.moments → KeepsPast x.moments a b → KeepsPast y.moments b c → LeavesAllBut used a b x y → LeavesAllBut used b c y z → LeavesAllBut used a c x z
others_then used a b c x y z le past_ab past_bc first second = record {
  reads = λ area apart. second.reads area apart ∙ first.reads area apart;
  each = λ k image after upto left.
      elim (cases_lt y.moments k) [
        | inr before ↦ first.each k image after before ((past_bc k image before).0 left)
        | inl behind ↦
            let r = second.each k image behind upto left in
            elim (cases_lt x.moments y.moments) [
              | inl moved ↦
                  let q = first.each y.moments r.0 moved (omega arith) r.1 in
                  (q.0, q.1, λ area apart. r.2 area apart ∙ q.2 area apart)
              | inr still ↦
                  let same : y.moments ≡ x.moments = omega (arith, still, le) in
                  (r.0, (past_ab x.moments r.0 (omega arith)).0 (subst (λ (n : ℕ). b n r.0) same r.1), r.2)
            ]
      ];
}

-- a write behind the closing gate: at each of its moments the entries are there
pub append_torn : (used : Area) (contents : List Content) (content : Content) (count : ℕ) (a b : ℕ → Areas → Type 0) (x y : Told)
    → IsHeldNow used contents x a → Puts used (place_behind contents + 1) count a b x y → IsAppend contents content a b x y
append_torn used contents content count a b x y held puts = record {
  later = puts.later;
  few = omega (arith, puts.few);
  past = puts.past;
  each = λ k image after upto left.
      let r = puts.each k image after upto left in
      inl (inr (torn_tail contents count (selected x.areas) (selected image) held.closed
      (image_selected used (Torn (place_behind contents + 1) count) a x r.0 image held.selects held.settled r.1 r.2)));
}

-- what the area has once the entry stands behind the closing gate
abbrev pub Middle : List Content → Content → List ℕ → List ℕ → Type 0
Middle contents content before middle = (closing : ℕ) × (middle ≡ front contents ++ closing ∷ (body content ++ 0 ∷ drop (place_behind contents + 1 + length (body content ++ 0 ∷ [])) before))

middle_of : (used : Area) (contents : List Content) (content : Content) (a b : ℕ → Areas → Type 0) (x y : Told) → IsHeldNow used contents x a
    → HasPut used (place_behind contents + 1) (body content ++ 0 ∷ []) b x y → Middle contents content (selected x.areas) (selected y.areas)
middle_of used contents content a b x y held done =
    let closing : ℕ = held.closed.0 in
    let more : List ℕ = drop (place_behind contents + 1 + length (body content ++ 0 ∷ [])) (selected x.areas) in
    let written : Written (place_behind contents + 1) (body content ++ 0 ∷ []) (selected x.areas) (selected y.areas) =
    step_selected used (Written (place_behind contents + 1) (body content ++ 0 ∷ [])) x.areas y.areas held.selects done.reads in (
      closing,
      written_tail contents closing held.closed.1 (body content ++ 0 ∷ []) (selected x.areas) (selected y.areas) held.closed.3.bytes written
          ∙ ap (λ t. front contents ++ closing ∷ t) (append_assoc (body content) (0 ∷ []) more),
    )

-- and then the gate: the entries are there, with the new one or without
pub append_both : (used : Area) (contents : List Content) (content : Content) (a b c : ℕ → Areas → Type 0) (x y z : Told) → IsContent content
    → IsHeldNow used contents x a
    → Puts used (place_behind contents + 1) (length (body content ++ 0 ∷ [])) a b x y → HasPut used (place_behind contents + 1) (body content ++ 0 ∷ []) b x y
    → Puts used (place_behind contents) 1 b c y z → IsAppend contents content a c x z
append_both used contents content a b c x y z one held puts done gate =
    let first : IsAppend contents content a b x y = append_torn used contents content (length (body content ++ 0 ∷ [])) a b x y held puts in
    let more : List ℕ = drop (place_behind contents + 1 + length (body content ++ 0 ∷ [])) (selected x.areas) in
    let middle : Middle contents content (selected x.areas) (selected y.areas) = middle_of used contents content a b x y held done in
    let now : selected_area y.areas ≡ used = still_selects used x.areas y.areas held.selects puts.others in
    let settled : IsSettled y b = puts_settled used (place_behind contents + 1) (length (body content ++ 0 ∷ [])) (place_behind contents + 1) (body content ++ 0 ∷ []) a b x y held.selects held.settled puts done in
    record {
      later = omega (arith, puts.later, gate.later);
      few = omega (arith, puts.few, gate.few);
      past = past_then x.moments y.moments a b c puts.later puts.past gate.past;
      each = λ k image after upto left.
          elim (cases_lt y.moments k) [
            | inr before ↦ first.each k image after before ((gate.past k image before).0 left)
            | inl behind ↦
                let r = gate.each k image behind upto left in
                old_or_new contents content middle.0 more (selected y.areas) (selected image) held.closed.3.each one middle.1
                (image_selected used (Torn (place_behind contents) 1) b y r.0 image now settled r.1 r.2)
          ];
    }

-- where both have ended well the area holds one entry more, and nothing is unsynced
pub append_done : (used : Area) (contents : List Content) (content : Content) (a b c : ℕ → Areas → Type 0) (x y z : Told) → IsContent content
    → IsHeldNow used contents x a
    → Puts used (place_behind contents + 1) (length (body content ++ 0 ∷ [])) a b x y → HasPut used (place_behind contents + 1) (body content ++ 0 ∷ []) b x y
    → Puts used (place_behind contents) 1 b c y z → HasPut used (place_behind contents) (1 ∷ []) c y z
    → IsHeldNow used (contents ++ content ∷ []) z c
append_done used contents content a b c x y z one held puts done gate gate_done =
    let more : List ℕ = drop (place_behind contents + 1 + length (body content ++ 0 ∷ [])) (selected x.areas) in
    let middle : Middle contents content (selected x.areas) (selected y.areas) = middle_of used contents content a b x y held done in
    let now : selected_area y.areas ≡ used = still_selects used x.areas y.areas held.selects puts.others in
    let settled : IsSettled y b = puts_settled used (place_behind contents + 1) (length (body content ++ 0 ∷ [])) (place_behind contents + 1) (body content ++ 0 ∷ []) a b x y held.selects held.settled puts done in
    let written : Written (place_behind contents) (1 ∷ []) (selected y.areas) (selected z.areas) = step_selected used (Written (place_behind contents) (1 ∷ [])) y.areas z.areas now gate_done.reads in
    record {
      selects = still_selects used y.areas z.areas now gate.others;
      closed = opened_gate contents content more (selected z.areas) held.closed.3.each one
          (written_gate contents middle.0 (body content ++ 0 ∷ more) (selected y.areas) (selected z.areas) middle.1 written);
      settled = puts_settled used (place_behind contents) 1 (place_behind contents) (1 ∷ []) b c y z now settled gate gate_done;
    }

pub append_bytes : (used : Area) (contents : List Content) (content : Content) (a b c : ℕ → Areas → Type 0) (x y z : Told)
    → IsHeldNow used contents x a
    → HasPut used (place_behind contents + 1) (body content ++ 0 ∷ []) b x y → HasPut used (place_behind contents) (1 ∷ []) c y z
    → Written (place_behind contents) (entry_bytes content ++ 0 ∷ []) (selected x.areas) (selected z.areas)
append_bytes used contents content a b c x y z held done gate =
    let now : selected_area y.areas ≡ used = still_selects used x.areas y.areas held.selects (in_others used (Written (place_behind contents + 1) (body content ++ 0 ∷ [])) x.areas y.areas done.reads) in
    written_entry contents content held.closed.0 held.closed.1 (selected x.areas) (selected y.areas) (selected z.areas) held.closed.3.bytes
    (step_selected used (Written (place_behind contents + 1) (body content ++ 0 ∷ [])) x.areas y.areas held.selects done.reads)
    (step_selected used (Written (place_behind contents) (1 ∷ [])) y.areas z.areas now gate.reads)
