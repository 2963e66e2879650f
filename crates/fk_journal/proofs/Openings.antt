-- The moments of an opening: Head's sync and read, the sync of the area that it selects, reads, and where that is short a write and
-- its sync.
use Rattle.std.proofs.Common.{◌≡◌, ℕ, ◌+◌, ◌<◌, ◌≤◌, List, [], ◌∷◌, length, take, drop, refl, inl, inr, ap, ◌∙◌, sym, subst, arith, Option, Some, None, IfSome, Result, Ok, Err, IfOk}
use Rattle.std.proofs.lemmas.Bool.{cases_lt}
use Rattle.std.proofs.lemmas.List.{drop_all, take_all}
use Rattle.fk_host.specs.declared.disk.Area.{Area}
use Rattle.fk_host.specs.declared.disk.Area.TheVariants.{Head}
use Rattle.fk_host.specs.Disk.{Areas, Told, IfTold, LeavesAreas, Passes, Same, Synced, Torn, Written, area_of}
use Rattle.fk_journal.specs.Entries.{Content, area_bytes, IsClosedBehind}
use Rattle.fk_journal.specs.Head.{area_by}
use Rattle.fk_journal.specs.Keeps.{selected_area, selected, LeavesAllBut, LeavesOthers, IsOpening}
use Rattle.fk_journal.specs.Puts.{Puts, HasPut, IsHeldNow, IsHeld, HasHead, HasRead}
use Rattle.fk_journal.proofs.Told.{past_then, if_told_map, if_told_then, if_told_both, if_told_new, leaves_once, leaves_then}
use Rattle.fk_journal.proofs.Areas.{bytes_of, still_selects, image_selected, step_selected}
use Rattle.fk_journal.proofs.PutLemmas.{others_put, others_then, puts_settled}

-- calls that left the areas, as an opening that never got behind its syncs
pub opening_left : (a b : ℕ → Areas → Type 0) (x y : Told) → LeavesAreas a b x y → y.moments ≤ x.moments + 3 → IsOpening a b x y
opening_left a b x y left few = record {
  past = left.past;
  unsynced = y.moments;
  first = record { since = left.later; soon = few; within = omega arith; stood = left.each };
  then = λ k image behind upto here. absurd (omega arith);
  reads = inl (ap selected left.reads);
}

pub others_left : (used : Area) (a b : ℕ → Areas → Type 0) (x y : Told) → LeavesAreas a b x y → LeavesAllBut used a b x y
others_left used a b x y left = record {
  reads = λ area apart. ap (λ (areas : Areas). area_of area areas) left.reads;
  each = λ k image after upto here. (image, left.each k image after upto here, λ area apart. refl);
}

-- an image of the last moment was there before it, where the calls leave the areas
pub left_last : (a b : ℕ → Areas → Type 0) (x y : Told) (k : ℕ) (image : Areas) → LeavesAreas a b x y → x.moments ≤ k → k ≤ y.moments → b k image → a x.moments image
left_last a b x y k image left since upto here =
    elim (cases_lt x.moments k) [
      | inl behind ↦ left.each k image behind upto here
      | inr still ↦
          let same : k ≡ x.moments = omega (arith, still, since) in
          subst (λ (n : ℕ). a n image) same ((left.past k image still).0 here)
    ]

-- a sync that ended well leaves the areas
pub synced_left : (area : Area) (a b : ℕ → Areas → Type 0) (x y : Told) → Passes Same (Synced area y.areas) a b x y → LeavesAreas a b x y
synced_left area a b x y sync = leaves_once a b x y (record {
  moments = sync.moments;
  reads = sync.reads;
  past = sync.past;
  now = λ image left. let r = sync.now image left in (r.0, r.1, r.2.0);
})

-- Head was synced, and then it was read
pub has_head : (area : Area) (a b c : ℕ → Areas → Type 0) (x y z : Told) → Passes Same (Synced Head y.areas) a b x y → LeavesAreas b c y z → z.moments ≡ y.moments + 1 → area ≡ selected_area y.areas → HasHead area a c x z
has_head area a b c x y z sync left one is = record {
  moments = omega (arith, sync.moments, one);
  selects = is ∙ ap selected_area sync.reads;
  left = leaves_then a b c x y z (synced_left Head a b x y sync) left;
  synced = λ image here. (sync.now image (left_last b c y z z.moments image left left.later (omega arith) here)).2.1 ∙ sym (ap (λ (areas : Areas). areas.head) left.reads);
}

-- the selected area was synced behind Head, and then it was read
pub has_read : (area : Area) (a b c d : ℕ → Areas → Type 0) (w x y z : Told) → HasHead area a b w x → Passes Same (Synced area y.areas) b c x y → LeavesAreas c d y z → HasRead area a d w z
has_read area a b c d w x y z head sync left =
    let is : selected_area x.areas ≡ area = ap selected_area head.left.reads ∙ sym head.selects in
    let reads : z.areas ≡ x.areas = left.reads ∙ sync.reads in
    let first : LeavesAreas a c w y = leaves_then a b c w x y head.left (synced_left area b c x y sync) in
    let same : (image : Areas) → c y.moments image → (image.head ≡ x.areas.head) × (selected image ≡ selected x.areas) = λ image there.
    let r = sync.now image there in
    let heads : image.head ≡ x.areas.head = ap (λ (areas : Areas). areas.head) r.2.0 ∙ head.synced r.0 r.1 in
    (heads, bytes_of area image (ap area_by heads ∙ is) ∙ r.2.1 ∙ ap (λ (areas : Areas). area_of area areas) sync.reads ∙ sym (bytes_of area x.areas is)) in
    record {
      selects = head.selects;
      left = leaves_then a c d w y z first left;
      more = omega (arith, head.moments, sync.moments, left.later);
      synced = λ k image after upto here.
          (same image (left_last c d y z k image left (omega (arith, after, head.moments, sync.moments)) upto here)).1 ∙ ap selected head.left.reads;
      settled = λ image here.
          let r = same image (left_last c d y z z.moments image left left.later (omega arith) here) in
          (r.0 ∙ sym (ap (λ (areas : Areas). areas.head) reads), r.1 ∙ sym (ap selected reads));
    }

pub opening_read : (area : Area) (a b : ℕ → Areas → Type 0) (x y : Told) → HasRead area a b x y → IsOpening a b x y
opening_read area a b x y read = record {
  past = read.left.past;
  unsynced = x.moments + 2;
  first = record {
    since = omega arith;
    soon = omega arith;
    within = read.more;
    stood = λ k image after upto here. read.left.each k image after (let more = read.more in omega (arith, upto, more)) here;
  };
  then = λ k image after upto here. inl (read.synced k image after upto here);
  reads = inl (ap selected read.left.reads);
}

-- and a short area was made anew, or was to be
pub opening_made : (area : Area) (a b c : ℕ → Areas → Type 0) (x y z : Told) → HasRead area a b x y → length (selected x.areas) < 3 → Puts area 0 2 b c y z → IsOpening a c x z
opening_made area a b c x y z read short puts =
    let is : selected_area y.areas ≡ area = ap selected_area read.left.reads ∙ sym read.selects in
    let shorter : length (selected y.areas) < 3 = subst (λ (areas : Areas). length (selected areas) < 3) (sym read.left.reads) short in
    let later : selected_area z.areas ≡ area = still_selects area y.areas z.areas is puts.others in
    let bare : length (area_of area y.areas) < 3 = subst (λ (bytes : List ℕ). length bytes < 3) (bytes_of area y.areas is) shorter in
    let made : length (area_of area z.areas) < 3 = omega (arith, puts.short, bare) in
    record {
      past = past_then x.moments y.moments a b c read.left.later read.left.past puts.past;
      unsynced = x.moments + 2;
      first = record {
        since = omega arith;
        soon = omega arith;
        within = omega (arith, read.more, puts.later);
        stood = λ k image after upto here.
            let before : k ≤ y.moments = omega (arith, upto, read.more) in
            read.left.each k image after before ((puts.past k image before).0 here);
      };
      then = λ k image after upto here.
          elim (cases_lt y.moments k) [
            | inr before ↦ inl (read.synced k image after before ((puts.past k image before).0 here))
            | inl behind ↦
                let r = puts.each k image behind upto here in
                let torn = image_selected area (Torn 0 2) b y r.0 image is read.settled r.1 r.2 in
                inr (short, omega (arith, torn.no_longer, shorter))
          ];
      reads = inr (short, subst (λ (bytes : List ℕ). length bytes < 3) (sym (bytes_of area z.areas later)) made);
    }

pub others_made : (area : Area) (a b c : ℕ → Areas → Type 0) (x y z : Told) (at count : ℕ) → HasRead area a b x y → Puts area at count b c y z → LeavesOthers a c x z
others_made area a b c x y z at count read puts =
    subst (λ (used : Area). LeavesAllBut used a c x z) read.selects
    (others_then area a b c x y z read.left.later read.left.past puts.past (others_left area a b x y read.left) (others_put area at count b c y z puts))

-- what was made is an empty journal
pub made_empty : (old new : List ℕ) → length old < 3 → Written 0 (2 ∷ 0 ∷ []) old new → new ≡ area_bytes []
made_empty old new short written = written ∙ ap (λ rest. 2 ∷ 0 ∷ rest) (drop_all 2 old (omega arith))

pub empty_closed : IsClosedBehind [] (area_bytes [])
empty_closed = (0, [], omega arith, record { each = tt; bytes = refl })

-- the same in the form in which the calls' proofs ask for it
pub moments_left : (s t : Option Told) (a b : ℕ → Areas → Type 0) → IfTold s t (LeavesAreas a b) → IfTold s t (λ x y. y.moments ≤ x.moments + 3) → IfTold s t (IsOpening a b)
moments_left s t a b left few =
    if_told_map s t (λ x y. LeavesAreas a b x y × (y.moments ≤ x.moments + 3)) (IsOpening a b) (λ x y p. opening_left a b x y p.0 p.1) (if_told_both s t _ _ left few)

pub left_others : (s t : Option Told) (a b : ℕ → Areas → Type 0) → IfTold s t (LeavesAreas a b) → IfTold s t (LeavesOthers a b)
left_others s t a b left = if_told_map s t (LeavesAreas a b) (LeavesOthers a b) (λ x y p. others_left (selected_area x.areas) a b x y p) left

-- calls that leave the areas, one behind the other
pub left_both : (s t u : Option Told) (a b c : ℕ → Areas → Type 0) → IfTold s t (LeavesAreas a b) → IfTold t u (LeavesAreas b c) → IfTold s u (LeavesAreas a c)
left_both s t u a b c first second = if_told_then s t u (LeavesAreas a b) (LeavesAreas b c) (LeavesAreas a c) (λ x y z p q. leaves_then a b c x y z p q) first second

pub left_once : (s t : Option Told) (a b : ℕ → Areas → Type 0) → IfTold s t (Passes Same Same a b) → IfTold s t (LeavesAreas a b)
left_once s t a b pass = if_told_map s t (Passes Same Same a b) (LeavesAreas a b) (λ x y p. leaves_once a b x y p) pass

pub left_twice : (s t u : Option Told) (a b c : ℕ → Areas → Type 0) → IfTold s t (Passes Same Same a b) → IfTold t u (Passes Same Same b c) → IfTold s u (LeavesAreas a c)
left_twice s t u a b c first second =
    if_told_then s t u (Passes Same Same a b) (Passes Same Same b c) (LeavesAreas a c) (λ x y z p q. leaves_then a b c x y z (leaves_once a b x y p) (leaves_once b c y z q)) first second

-- what two reads say: how long the area is, and then its bytes
pub all_read : (area : Area) (s t u : Option Told) (a b c : ℕ → Areas → Type 0) (len : ℕ) (bytes : List ℕ) → IfSome t (λ now. len ≡ length (area_of area now.areas))
    → IfTold s t (Passes Same Same a b) → IfTold t u (Passes Same Same b c) → IfSome u (λ now. bytes ≡ take len (drop 0 (area_of area now.areas)))
    → IfTold s u (λ before after. bytes ≡ area_of area before.areas)
all_read area s t None a b c len bytes size first second read = tt
all_read area s None (Some z) a b c len bytes size first second read = absurd second
all_read area None (Some y) (Some z) a b c len bytes size first second read = first
all_read area (Some x) (Some y) (Some z) a b c len bytes size first second read =
    read ∙ ap (λ (areas : Areas). take len (area_of area areas)) second.reads ∙ ap (λ (n : ℕ). take n (area_of area y.areas)) size ∙ take_all (length (area_of area y.areas)) (area_of area y.areas) (omega arith) ∙ ap (λ (areas : Areas). area_of area areas) first.reads

-- a sync, whatever it is of, leaves the areas
pub sync_leaves : (area : Area) (s t : Option Told) (a b : ℕ → Areas → Type 0) → IfSome t (λ now. IfTold s t (Passes Same (Synced area now.areas) a b)) → IfTold s t (LeavesAreas a b)
sync_leaves area s None a b sync = tt
sync_leaves area None (Some y) a b sync = sync
sync_leaves area (Some x) (Some y) a b sync = synced_left area a b x y sync

pub told_head : {E : Type 0} (r : Result Area E) (s t u : Option Told) (a b c : ℕ → Areas → Type 0) → IfSome t (λ now. IfTold s t (Passes Same (Synced Head now.areas) a b)) → IfTold t u (LeavesAreas b c)
    → IfTold t u (λ before after. after.moments ≡ before.moments + 1) → IfOk r (λ area. IfTold t u (λ before after. area ≡ selected_area before.areas)) → IfOk r (λ area. IfTold s u (HasHead area a c))
told_head (Err e) s t u a b c sync left one selects = tt
told_head (Ok area) s t None a b c sync left one selects = tt
told_head (Ok area) s None (Some z) a b c sync left one selects = absurd left
told_head (Ok area) None (Some y) (Some z) a b c sync left one selects = sync
told_head (Ok area) (Some x) (Some y) (Some z) a b c sync left one selects = has_head area a b c x y z sync left one selects

pub told_read : (area : Area) (r s t u : Option Told) (a b c d : ℕ → Areas → Type 0) → IfTold r s (HasHead area a b) → IfSome t (λ now. IfTold s t (Passes Same (Synced area now.areas) b c)) → IfTold t u (LeavesAreas c d) → IfTold r u (HasRead area a d)
told_read area r s t None a b c d head sync left = tt
told_read area r s None (Some z) a b c d head sync left = absurd left
told_read area r None (Some y) (Some z) a b c d head sync left = absurd sync
told_read area None (Some x) (Some y) (Some z) a b c d head sync left = head
told_read area (Some w) (Some x) (Some y) (Some z) a b c d head sync left = has_read area a b c d w x y z head sync left

-- the selected area was read, with these bytes
abbrev pub IsRead : Area → List ℕ → (ℕ → Areas → Type 0) → (ℕ → Areas → Type 0) → Told → Told → Type 0
IsRead area bytes a b x y = (bytes ≡ selected x.areas) × HasRead area a b x y

pub told_bytes : (area : Area) (bytes : List ℕ) (r s t u : Option Told) (a b c d : ℕ → Areas → Type 0) → IfTold r s (HasHead area a b) → IfSome t (λ now. IfTold s t (Passes Same (Synced area now.areas) b c)) → IfTold t u (LeavesAreas c d)
    → IfTold t u (λ before after. bytes ≡ area_of area before.areas) → IfTold r u (IsRead area bytes a d)
told_bytes area bytes r s t None a b c d head sync left are = tt
told_bytes area bytes r s None (Some z) a b c d head sync left are = absurd left
told_bytes area bytes r None (Some y) (Some z) a b c d head sync left are = absurd sync
told_bytes area bytes None (Some x) (Some y) (Some z) a b c d head sync left are = head
told_bytes area bytes (Some w) (Some x) (Some y) (Some z) a b c d head sync left are = (
  are ∙ ap (λ (areas : Areas). area_of area areas) (sync.reads ∙ head.left.reads) ∙ sym (bytes_of area w.areas (sym head.selects)),
  has_read area a b c d w x y z head sync left,
)

pub made_moments : (area : Area) (s t u : Option Told) (a b c : ℕ → Areas → Type 0) (bytes : List ℕ) → length bytes < 3 → IfTold s t (IsRead area bytes a b) → IfTold t u (Puts area 0 2 b c) → IfTold s u (IsOpening a c)
made_moments area s t u a b c bytes short first second =
    if_told_then s t u (IsRead area bytes a b) (Puts area 0 2 b c) (IsOpening a c) (λ x y z p q. opening_made area a b c x y z p.1 (subst (λ (w : List ℕ). length w < 3) p.0 short) q) first second

pub made_others : (area : Area) (s t u : Option Told) (a b c : ℕ → Areas → Type 0) (bytes : List ℕ) → IfTold s t (IsRead area bytes a b) → IfTold t u (Puts area 0 2 b c) → IfTold s u (LeavesOthers a c)
made_others area s t u a b c bytes first second =
    if_told_then s t u (IsRead area bytes a b) (Puts area 0 2 b c) (LeavesOthers a c) (λ x y z p q. others_made area a b c x y z 0 2 p.1 q) first second

-- where the write and its sync have ended well
abbrev pub IsMade : Area → (ℕ → Areas → Type 0) → (ℕ → Areas → Type 0) → Told → Told → Type 0
IsMade area b c y z = Puts area 0 2 b c y z × HasPut area 0 (2 ∷ 0 ∷ []) c y z

made_one : (area : Area) (a b c : ℕ → Areas → Type 0) (bytes : List ℕ) (x y z : Told) → length bytes < 3 → IsRead area bytes a b x y → IsMade area b c y z → IsHeldNow area [] z c × (selected z.areas ≡ area_bytes [])
made_one area a b c bytes x y z short read made =
    let is : selected_area y.areas ≡ area = ap selected_area read.1.left.reads ∙ sym read.1.selects in
    let shorter : length (selected y.areas) < 3 = subst (λ (areas : Areas). length (selected areas) < 3) (sym read.1.left.reads) (subst (λ (w : List ℕ). length w < 3) read.0 short) in
    let empty : selected z.areas ≡ area_bytes [] = made_empty (selected y.areas) (selected z.areas) shorter (step_selected area (Written 0 (2 ∷ 0 ∷ [])) y.areas z.areas is made.1.reads) in (
      record {
        selects = still_selects area y.areas z.areas is made.0.others;
        closed = subst (IsClosedBehind []) (sym empty) empty_closed;
        settled = puts_settled area 0 2 0 (2 ∷ 0 ∷ []) b c y z is read.1.settled made.0 made.1;
      },
      empty,
    )

pub made_bytes : (area : Area) (s t u : Option Told) (a b c : ℕ → Areas → Type 0) (bytes : List ℕ) → length bytes < 3 → IfTold s t (IsRead area bytes a b) → IfTold t u (Puts area 0 2 b c) → IfTold t u (HasPut area 0 (2 ∷ 0 ∷ []) c)
    → IfTold s u (λ before after. selected after.areas ≡ area_bytes [])
made_bytes area s t u a b c bytes short first second done =
    if_told_then s t u (IsRead area bytes a b) (IsMade area b c) _ (λ x y z p q. (made_one area a b c bytes x y z short p q).1) first (if_told_both t u _ _ second done)

pub made_held : (area : Area) (s t u : Option Told) (a b c : ℕ → Areas → Type 0) (bytes : List ℕ) → length bytes < 3 → IfTold s t (IsRead area bytes a b) → IfTold t u (Puts area 0 2 b c) → IfTold t u (HasPut area 0 (2 ∷ 0 ∷ []) c) → IsHeld area [] u c
made_held area s t u a b c bytes short first second done =
    if_told_new s u (λ before after. IsHeldNow area [] after c) (λ now. IsHeldNow area [] now c) (λ x z p. p)
    (if_told_then s t u (IsRead area bytes a b) (IsMade area b c) _ (λ x y z p q. (made_one area a b c bytes x y z short p q).0) first (if_told_both t u _ _ second done))

-- an area that is long enough holds what was read
pub read_held : (area : Area) (s t : Option Told) (a b : ℕ → Areas → Type 0) (contents : List Content) (bytes : List ℕ) → IsClosedBehind contents bytes → IfTold s t (IsRead area bytes a b) → IsHeld area contents t b
read_held area s t a b contents bytes closed read =
    if_told_new s t (IsRead area bytes a b) (λ now. IsHeldNow area contents now b)
    (λ x y p. record {
      selects = ap selected_area p.1.left.reads ∙ sym p.1.selects;
      closed = subst (IsClosedBehind contents) (p.0 ∙ sym (ap selected p.1.left.reads)) closed;
      settled = p.1.settled;
    }) read

-- the calls of an opening that failed
pub head_failed : (s t : Option Told) (a b : ℕ → Areas → Type 0) → IfTold s t (LeavesAreas a b) → IfTold s t (λ x y. y.moments ≤ x.moments + 2) → IfTold s t (IsOpening a b)
head_failed s t a b left few = moments_left s t a b left (if_told_map s t (λ x y. y.moments ≤ x.moments + 2) (λ x y. y.moments ≤ x.moments + 3) (λ x y p. omega (arith, p)) few)

pub sync_failed : (s t u : Option Told) (a b c : ℕ → Areas → Type 0) → IfTold s t (LeavesAreas a b) → IfTold s t (λ x y. y.moments ≤ x.moments + 2) → IfTold t u (Passes Same Same b c) → IfTold s u (IsOpening a c)
sync_failed s t u a b c left few pass =
    moments_left s u a c (left_both s t u a b c left (left_once t u b c pass))
    (if_told_then s t u (λ x y. y.moments ≤ x.moments + 2) (Passes Same Same b c) (λ x z. z.moments ≤ x.moments + 3) (λ x y z p q. omega (arith, p, q.moments)) few pass)

-- and of one that read the area
pub read_moments : (area : Area) (r s t u : Option Told) (a b c d : ℕ → Areas → Type 0) → IfTold r s (HasHead area a b) → IfSome t (λ now. IfTold s t (Passes Same (Synced area now.areas) b c)) → IfTold t u (LeavesAreas c d) → IfTold r u (IsOpening a d)
read_moments area r s t u a b c d head sync left = if_told_map r u (HasRead area a d) (IsOpening a d) (λ x y p. opening_read area a d x y p) (told_read area r s t u a b c d head sync left)

pub read_others : (area : Area) (r s t u : Option Told) (a b c d : ℕ → Areas → Type 0) → IfTold r s (HasHead area a b) → IfSome t (λ now. IfTold s t (Passes Same (Synced area now.areas) b c)) → IfTold t u (LeavesAreas c d) → IfTold r u (LeavesOthers a d)
read_others area r s t u a b c d head sync left = if_told_map r u (HasRead area a d) (LeavesOthers a d) (λ x y p. others_left (selected_area x.areas) a d x y p.left) (told_read area r s t u a b c d head sync left)
