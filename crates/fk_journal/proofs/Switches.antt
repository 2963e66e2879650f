-- The end of a copy: a closed gate behind the copied entries, and then Head's byte for their area, each with its sync.
use Rattle.std.proofs.Common.{◌≡◌, ◌≢◌, ℕ, ◌<◌, ◌≤◌, List, [], ◌∷◌, ◌++◌, length, refl, inl, inr, ap, ◌∙◌, sym, subst, arith, Option, Some, None, Result, Ok, Err, OnOk}
use Rattle.std.proofs.lemmas.Bool.{cases_lt}
use Rattle.std.proofs.lemmas.List.{append-nil}
use Rattle.fk_host.specs.declared.disk.Area.{Area}
use Rattle.fk_host.specs.declared.disk.Area.TheVariants.{Head, One, Two}
use Rattle.fk_host.specs.Disk.{Areas, Told, IfTold, Torn, Written, area_of}
use Rattle.fk_journal.specs.Entries.{Content, format_byte, area_bytes, place_behind, BeginsWith, IsClosedBehind}
use Rattle.fk_journal.specs.Head.{area_by, other_area, head_byte}
use Rattle.fk_journal.specs.Keeps.{selected_area, selected, HoldsEither, CopyMoments}
use Rattle.fk_journal.specs.Puts.{Puts, HasPut, IsHeldNow, IsHeld, IsCopied, Touches}
use Rattle.fk_journal.proofs.Told.{past_then, if_told_map, if_told_then, if_told_with, if_told_new}
use Rattle.fk_journal.proofs.Areas.{never_head, apart_from, in_others, in_used, bytes_of, other_apart, other_not_head, one_or_other}
use Rattle.fk_journal.proofs.Tails.{front, length-front}
use Rattle.fk_journal.proofs.PutLemmas.{others_put}
use Rattle.fk_journal.proofs.Copies.{image_kept, written_end}

-- the byte that is written selects its area
pub head_selects : (used : Area) (old new : List ℕ) → Written 0 (head_byte (other_area used) ∷ []) old new → area_by new ≡ other_area used
head_selects Head old new written = ap area_by written
head_selects One old new written = ap area_by written
head_selects Two old new written = ap area_by written

-- the copied entries behind a closed gate
closed_copy : (copied : List Content) (old new : List ℕ) → BeginsWith format_byte copied [] old → Written (place_behind copied) (0 ∷ []) old new → new ≡ area_bytes copied
closed_copy copied old new begins written =
    let bare : old ≡ front copied = begins.bytes ∙ append-nil (front copied) in
    written_end (place_behind copied) (0 ∷ []) old new (sym (length-front copied) ∙ ap length (sym bare)) written ∙ ap (λ (bytes : List ℕ). bytes ++ 0 ∷ []) bare

area_closed : (copied : List Content) (old : List ℕ) → BeginsWith format_byte copied [] old → IsClosedBehind copied (area_bytes copied)
area_closed copied old begins = (0, [], omega arith, record { each = begins.each; bytes = refl })

-- a put, as calls that touch its area
pub put_touches : (used : Area) (at count : ℕ) (a b : ℕ → Areas → Type 0) (x y : Told) → Puts used at count a b x y → Touches used 2 a b x y
put_touches used at count a b x y puts = record { later = puts.later; few = puts.few; past = puts.past; others = others_put used at count a b x y puts }

-- up to Head's write each image has the entries from before
gate_each : (used : Area) (contents copied : List Content) (at : ℕ) (a b : ℕ → Areas → Type 0) (x y : Told) → IsHeldNow used contents x a → Puts (other_area used) at 1 a b x y
    → (k : ℕ) (image : Areas) → x.moments < k → k ≤ y.moments → b k image → HoldsEither used contents copied image
gate_each used contents copied at a b x y held puts k image after upto left =
    let r = image_kept used contents a b 2 x y held (put_touches (other_area used) at 1 a b x y puts) k image after upto left in
    inl (ap area_by r.0 ∙ held.selects, inr (subst (IsClosedBehind contents) (sym r.1) held.closed))

pub gate_moments : (used : Area) (contents copied : List Content) (at : ℕ) (a b : ℕ → Areas → Type 0) (x y : Told) → IsHeldNow used contents x a → Puts (other_area used) at 1 a b x y
    → CopyMoments 4 (HoldsEither used contents copied) a b x y
gate_moments used contents copied at a b x y held puts = record {
  later = puts.later;
  few = omega (arith, puts.few);
  past = puts.past;
  each = gate_each used contents copied at a b x y held puts;
}

-- what is known once the copied entries are closed and synced
pub record IsClosedCopy (used : Area) (copied : List Content) (a b : ℕ → Areas → Type 0) (x y : Told) : Type 0 where
  pub begins : BeginsWith format_byte copied [] (area_of (other_area used) x.areas)
  pub puts : Puts (other_area used) (place_behind copied) 1 a b x y
  pub done : HasPut (other_area used) (place_behind copied) (0 ∷ []) b x y

copy_bytes : (used : Area) (copied : List Content) (a b : ℕ → Areas → Type 0) (x y : Told) → IsClosedCopy used copied a b x y → area_of (other_area used) y.areas ≡ area_bytes copied
copy_bytes used copied a b x y first =
    closed_copy copied (area_of (other_area used) x.areas) (area_of (other_area used) y.areas) first.begins (in_used (other_area used) (Written (place_behind copied) (0 ∷ [])) x.areas y.areas first.done.reads)

pub away : (used : Area) → other_area used ≢ Head
away used same = other_not_head used (sym same)

-- behind Head's write each image has in both areas what it had, and Head selects one of them
head_each : (used : Area) (contents copied : List Content) (a b c : ℕ → Areas → Type 0) (x y z : Told) → IsHeldNow used contents x a → IsClosedCopy used copied a b x y → Puts Head 0 1 b c y z
    → (k : ℕ) (image : Areas) → y.moments < k → k ≤ z.moments → c k image → HoldsEither used contents copied image
head_each used contents copied a b c x y z held first puts k image after upto left =
    let r = puts.each k image after upto left in
    let same = in_others Head (Torn 0 1) r.0 image r.2 in
    let apart = apart_from x.areas.head used held.selects in
    let was = image_kept used contents a b 2 x y held (put_touches (other_area used) (place_behind copied) 1 a b x y first.puts) y.moments r.0 (omega (arith, first.done.moments)) (omega arith) r.1 in
    let from : selected_area r.0 ≡ used = ap area_by was.0 ∙ held.selects in
    let old : area_of used image ≡ selected x.areas = same used (λ e. apart (sym e)) ∙ sym (bytes_of used r.0 from) ∙ was.1 in
    let new : area_of (other_area used) image ≡ area_bytes copied = same (other_area used) (away used) ∙ first.done.synced r.0 r.1 ∙ copy_bytes used copied a b x y first in
    elim (one_or_other used (selected_area image) apart (λ e. never_head image.head (sym e))) [
      | inl is ↦ inl (is, inr (subst (IsClosedBehind contents) (sym (bytes_of used image is ∙ old)) held.closed))
      | inr is ↦ inr (is, inr (subst (IsClosedBehind copied) (sym (bytes_of (other_area used) image is ∙ new)) (area_closed copied (area_of (other_area used) x.areas) first.begins)))
    ]

pub head_moments : (used : Area) (contents copied : List Content) (a b c : ℕ → Areas → Type 0) (x y z : Told) → IsHeldNow used contents x a → IsClosedCopy used copied a b x y → Puts Head 0 1 b c y z
    → CopyMoments 4 (HoldsEither used contents copied) a c x z
head_moments used contents copied a b c x y z held first puts = record {
  later = omega (arith, first.puts.later, puts.later);
  few = omega (arith, first.puts.few, puts.few);
  past = past_then x.moments y.moments a b c first.puts.later first.puts.past puts.past;
  each = λ k image after upto left.
      elim (cases_lt y.moments k) [
        | inr before ↦ gate_each used contents copied (place_behind copied) a b x y held first.puts k image after before ((puts.past k image before).0 left)
        | inl behind ↦ head_each used contents copied a b c x y z held first puts k image behind upto left
      ];
}

-- where all has ended well the copied entries are selected
pub switched : (used : Area) (copied : List Content) (a b c : ℕ → Areas → Type 0) (x y z : Told) → IsClosedCopy used copied a b x y → Puts Head 0 1 b c y z → HasPut Head 0 (head_byte (other_area used) ∷ []) c y z
    → IsHeldNow (other_area used) copied z c × (selected z.areas ≡ area_bytes copied)
switched used copied a b c x y z first puts done =
    let is : selected_area z.areas ≡ other_area used = head_selects used y.areas.head z.areas.head done.reads.0 in
    let there : area_of (other_area used) z.areas ≡ area_of (other_area used) y.areas = puts.others (other_area used) (away used) in
    let bytes : selected z.areas ≡ area_bytes copied = bytes_of (other_area used) z.areas is ∙ there ∙ copy_bytes used copied a b x y first in (
      record {
        selects = is;
        closed = subst (IsClosedBehind copied) (sym bytes) (area_closed copied (area_of (other_area used) x.areas) first.begins);
        settled = λ image left.
            let r = puts.each z.moments image (omega (arith, done.moments)) (omega arith) left in
            let heads : image.head ≡ z.areas.head = done.synced image left in (
              heads,
              bytes_of (other_area used) image (ap area_by heads ∙ is) ∙ in_others Head (Torn 0 1) r.0 image r.2 (other_area used) (away used)
                  ∙ first.done.synced r.0 r.1 ∙ sym there ∙ sym (bytes_of (other_area used) z.areas is),
            );
      },
      bytes,
    )

-- ---- the same where a host may tell or not

pub told_closed : (used other : Area) (copied : List Content) (end : ℕ) (s t : Option Told) (a b : ℕ → Areas → Type 0) → other ≡ other_area used → end ≡ place_behind copied → IsCopied used copied s
    → IfTold s t (Puts other end 1 a b) → IfTold s t (HasPut other end (0 ∷ []) b) → IfTold s t (IsClosedCopy used copied a b)
told_closed used other copied end s None a b same is was puts done = tt
told_closed used other copied end None (Some y) a b same is was puts done = absurd puts
told_closed used other copied end (Some x) (Some y) a b same is was puts done = record {
  begins = was;
  puts = subst (λ (area : Area). Puts area (place_behind copied) 1 a b x y) same (subst (λ (n : ℕ). Puts other n 1 a b x y) is puts);
  done = subst (λ (area : Area). HasPut area (place_behind copied) (0 ∷ []) b x y) same (subst (λ (n : ℕ). HasPut other n (0 ∷ []) b x y) is done);
}

pub told_gate : (used other : Area) (contents copied : List Content) (end : ℕ) (s t : Option Told) (a b : ℕ → Areas → Type 0) → other ≡ other_area used → IsHeld used contents s a
    → IfTold s t (Puts other end 1 a b) → IfTold s t (CopyMoments 4 (HoldsEither used contents copied) a b)
told_gate used other contents copied end s t a b same held puts =
    if_told_with s t (λ now. IsHeldNow used contents now a) (Puts (other_area used) end 1 a b) (CopyMoments 4 (HoldsEither used contents copied) a b)
    (λ x y h p. gate_moments used contents copied end a b x y h p) held (subst (λ (area : Area). IfTold s t (Puts area end 1 a b)) same puts)

pub told_switch : (used : Area) (contents copied : List Content) (s t u : Option Told) (a b c : ℕ → Areas → Type 0) → IsHeld used contents s a → IfTold s t (IsClosedCopy used copied a b) → IfTold t u (Puts Head 0 1 b c)
    → IfTold s u (CopyMoments 4 (HoldsEither used contents copied) a c)
told_switch used contents copied s t None a b c held first puts = tt
told_switch used contents copied s None (Some z) a b c held first puts = absurd puts
told_switch used contents copied None (Some y) (Some z) a b c held first puts = first
told_switch used contents copied (Some x) (Some y) (Some z) a b c held first puts = head_moments used contents copied a b c x y z held first puts

abbrev pub Switched : Area → List Content → (ℕ → Areas → Type 0) → Told → Told → Type 0
Switched used copied c x z = IsHeldNow (other_area used) copied z c × (selected z.areas ≡ area_bytes copied)

pub told_switched : {T E : Type 0} (r : Result T E) (used : Area) (copied : List Content) (byte : List ℕ) (s t u : Option Told) (a b c : ℕ → Areas → Type 0) → byte ≡ head_byte (other_area used) ∷ [] → IfTold s t (IsClosedCopy used copied a b)
    → IfTold t u (Puts Head 0 1 b c) → OnOk r (IfTold t u (HasPut Head 0 byte c)) → OnOk r (IfTold s u (Switched used copied c))
told_switched (Err e) used copied byte s t u a b c is first puts done = tt
told_switched (Ok k) used copied byte s t None a b c is first puts done = tt
told_switched (Ok k) used copied byte s None (Some z) a b c is first puts done = absurd puts
told_switched (Ok k) used copied byte None (Some y) (Some z) a b c is first puts done = first
told_switched (Ok k) used copied byte (Some x) (Some y) (Some z) a b c is first puts done =
    switched used copied a b c x y z first puts (subst (λ (bytes : List ℕ). HasPut Head 0 bytes c y z) is done)

pub switched_held : {T E : Type 0} (r : Result T E) (used : Area) (copied : List Content) (s u : Option Told) (c : ℕ → Areas → Type 0) → OnOk r (IfTold s u (Switched used copied c)) → OnOk r (IsHeld (other_area used) copied u c)
switched_held (Err e) used copied s u c done = tt
switched_held (Ok k) used copied s u c done = if_told_new s u (Switched used copied c) (λ now. IsHeldNow (other_area used) copied now c) (λ x z p. p.0) done

pub switched_bytes : {T E : Type 0} (r : Result T E) (used : Area) (copied : List Content) (s u : Option Told) (c : ℕ → Areas → Type 0) → OnOk r (IfTold s u (Switched used copied c)) → OnOk r (IfTold s u (λ before after. selected after.areas ≡ area_bytes copied))
switched_bytes (Err e) used copied s u c done = tt
switched_bytes (Ok k) used copied s u c done = if_told_map s u (Switched used copied c) (λ before after. selected after.areas ≡ area_bytes copied) (λ x z p. p.1) done

-- the area from before is left
pub gate_leaves : (used other : Area) (at count : ℕ) (s t : Option Told) (a b : ℕ → Areas → Type 0) → other ≡ other_area used → IfTold s t (Puts other at count a b) → IfTold s t (λ before after. area_of used after.areas ≡ area_of used before.areas)
gate_leaves used other at count s t a b same puts =
    if_told_map s t (Puts (other_area used) at count a b) (λ x y. area_of used y.areas ≡ area_of used x.areas) (λ x y p. p.others used (other_apart used)) (subst (λ (area : Area). IfTold s t (Puts area at count a b)) same puts)

pub switch_leaves : (used other : Area) (contents : List Content) (at count : ℕ) (s t u : Option Told) (a b c : ℕ → Areas → Type 0) → other ≡ other_area used → IsHeld used contents s a → IfTold s t (Puts other at count a b) → IfTold t u (Puts Head 0 1 b c)
    → IfTold s u (λ before after. area_of used after.areas ≡ area_of used before.areas)
switch_leaves used other contents at count s t None a b c same held first second = tt
switch_leaves used other contents at count s None (Some z) a b c same held first second = absurd second
switch_leaves used other contents at count None (Some y) (Some z) a b c same held first second = first
switch_leaves used other contents at count (Some x) (Some y) (Some z) a b c same held first second =
    second.others used (λ e. apart_from x.areas.head used held.selects (sym e)) ∙ gate_leaves used other at count (Some x) (Some y) a b same first

-- what was written to Head
pub switch_head : {T E : Type 0} (r : Result T E) (used other : Area) (byte : List ℕ) (at count : ℕ) (s t u : Option Told) (a b c : ℕ → Areas → Type 0) → other ≡ other_area used → byte ≡ head_byte (other_area used) ∷ [] → IfTold s t (Puts other at count a b) → OnOk r (IfTold t u (HasPut Head 0 byte c))
    → OnOk r (IfTold s u (λ before after. Written 0 (head_byte (other_area used) ∷ []) before.areas.head after.areas.head))
switch_head (Err e) used other byte at count s t u a b c same is first second = tt
switch_head (Ok k) used other byte at count s t u a b c same is first second =
    if_told_then s t u (Puts other at count a b) (HasPut Head 0 byte c) (λ x z. Written 0 (head_byte (other_area used) ∷ []) x.areas.head z.areas.head)
    (λ x y z p q. subst (λ (bytes : List ℕ). Written 0 bytes x.areas.head z.areas.head) is
    (subst (λ (old : List ℕ). Written 0 byte old z.areas.head) (p.others Head (λ e. other_not_head used (e ∙ same))) q.reads.0)) first second
