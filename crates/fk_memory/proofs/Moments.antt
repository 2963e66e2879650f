-- What each call of a host in memory does to what a read gives and to what a crash may leave.
use Rattle.std.proofs.Common.{◌≡◌, ℕ, ◌+◌, ◌-◌, ◌≤◌, min, max, Bool, true, false, List, [], ◌∷◌, ◌++◌, length, take, drop, refl, ap, ◌∙◌, sym, subst, arith, if◌then◌else◌}
use Rattle.std.proofs.lemmas.List.{length_push, length-take, take-append-le, take_all, take_min}
use Rattle.fk_trace.specs.Trace.{Item}
use Rattle.fk_host.specs.declared.disk.Area.{Area}
use Rattle.fk_host.specs.declared.disk.Area.TheVariants.{Head, One, Two}
use Rattle.fk_memory.specs.declared.host.Call.{Call}
use Rattle.fk_memory.specs.declared.host.Call.TheVariants.{Other, Write, Cut, Sync}
use Rattle.fk_host.specs.Disk.{Areas, Told, area_of, Written, Torn, Cut as IsCut, Same, InArea, Synced, KeepsPast, Passes}
use Rattle.fk_memory.specs.Area.{AreaState, MayHold, at_rest, is_same_area, overwritten, after_write, after_cut, after_sync, after_call, after_calls, area_after, areas_after, MayLeave}
use Rattle.fk_memory.specs.Sound.{length-overwritten, overwritten_outside, put_within, outside_front, sound_after, LeavesNow, now_leaves, area_reads}
use Rattle.fk_memory.proofs.Images.{write_leaves, cut_leaves, sync_leaves, one_at_rest}

pub after_calls-push : (area : Area) (calls : List Call) (call : Call) (m : AreaState) → after_calls area (calls ++ call ∷ []) m ≡ after_call area call (after_calls area calls m)
after_calls-push area [] call m = refl
after_calls-push area (other ∷ calls) call m = after_calls-push area calls call (after_call area other m)

pub area_after-push : (first : Areas) (calls : List Call) (call : Call) (area : Area) → area_after first (calls ++ call ∷ []) area ≡ after_call area call (area_after first calls area)
area_after-push first calls call area = after_calls-push area calls call (at_rest (area_of area first))

abbrev pub told_after : List Item → Areas → List Call → Told
told_after trace first calls = record { areas = areas_after first calls; moments = length calls; trace = trace }

abbrev LeavesThen : Areas → List Call → Call → Areas → Type 0
LeavesThen first calls call image = (area : Area) → MayHold (after_call area call (area_after first calls area)) (area_of area image)

past_stays : (first : Areas) (calls : List Call) (call : Call) → KeepsPast (length calls) (MayLeave first calls) (MayLeave first (calls ++ call ∷ []))
past_stays first calls call k image le =
    let same : take k (calls ++ call ∷ []) ≡ take k calls = take-append-le k calls (call ∷ []) le in (
      λ new. subst (λ (cs : List Call). (area : Area) → MayHold (area_after first cs area) (area_of area image)) same new,
      λ old. subst (λ (cs : List Call). (area : Area) → MayHold (area_after first cs area) (area_of area image)) (sym same) old,
    )

then_leaves : (first : Areas) (calls : List Call) (call : Call) (image : Areas) → MayLeave first (calls ++ call ∷ []) (length (calls ++ call ∷ [])) image → LeavesThen first calls call image
then_leaves first calls call image now area =
    let all : take (length (calls ++ call ∷ [])) (calls ++ call ∷ []) ≡ calls ++ call ∷ [] = take_all (length (calls ++ call ∷ [])) (calls ++ call ∷ []) (omega arith) in
    subst (λ (m : AreaState). MayHold m (area_of area image)) (ap (λ cs. area_after first cs area) all ∙ area_after-push first calls call area) (now area)

passes : (trace : List Item) (first : Areas) (calls : List Call) (call : Call) (Reads Leaves : Areas → Areas → Type 0)
    → Reads (areas_after first calls) (areas_after first (calls ++ call ∷ []))
    → ((image : Areas) → LeavesThen first calls call image → (from : Areas) × LeavesNow first calls from × Leaves from image)
    → Passes Reads Leaves (MayLeave first calls) (MayLeave first (calls ++ call ∷ [])) (told_after trace first calls) (told_after trace first (calls ++ call ∷ []))
passes trace first calls call Reads Leaves reads leaves = record {
  moments = length_push calls call;
  reads = reads;
  past = past_stays first calls call;
  now = λ image new. let r = leaves image (then_leaves first calls call image new) in (r.0, now_leaves first calls r.0 r.1, r.2);
}

-- a read gives the same of an area whose state is the same
reads_are : (first : Areas) (calls : List Call) (call : Call) (area : Area) (bytes : List ℕ) → (after_call area call (area_after first calls area)).reads ≡ bytes → (area_after first (calls ++ call ∷ []) area).reads ≡ bytes
reads_are first calls call area bytes is = ap (λ m. m.reads) (area_after-push first calls call area) ∙ is

pub areas_are : (a b : Areas) → a.head ≡ b.head → a.one ≡ b.one → a.two ≡ b.two → a ≡ b
areas_are a b head one two =
    let of : List ℕ → List ℕ → List ℕ → Areas = λ x y z. record { head = x; one = y; two = z } in
    ap (λ x. of x a.one a.two) head ∙ ap (λ y. of b.head y a.two) one ∙ ap (of b.head b.one) two

pub other_passes : (trace : List Item) (first : Areas) (calls : List Call) → Passes Same Same (MayLeave first calls) (MayLeave first (calls ++ Other ∷ [])) (told_after trace first calls) (told_after trace first (calls ++ Other ∷ []))
other_passes trace first calls = passes trace first calls Other Same Same
    (areas_are _ _ (reads_are first calls Other Head _ refl) (reads_are first calls Other One _ refl) (reads_are first calls Other Two _ refl))
    (λ image now. (image, now, refl))

-- an image in which one area is left so, and the others as they are
abbrev with_area : Area → List ℕ → Areas → Areas
with_area Head bytes areas = record areas { head = bytes }
with_area One bytes areas = record areas { one = bytes }
with_area Two bytes areas = record areas { two = bytes }

-- A call changes one area, and its images come by a step: then each image of all three does.
in_area : (first : Areas) (calls : List Call) (call : Call) (of : Area) (Step : List ℕ → List ℕ → Type 0)
    → ((other : Area) → is_same_area of other ≡ false → (m : AreaState) → after_call other call m ≡ m)
    → ((bytes : List ℕ) → MayHold (after_call of call (area_after first calls of)) bytes → (from : List ℕ) × MayHold (area_after first calls of) from × Step from bytes)
    → (image : Areas) → LeavesThen first calls call image → (from : Areas) × LeavesNow first calls from × InArea of Step from image
in_area first calls call Head Step others step image now =
    let r = step image.head (now Head) in
    (with_area Head r.0 image, elim [ Head ↦ r.1 | One ↦ subst (λ (m : AreaState). MayHold m image.one) (others One refl _) (now One) | Two ↦ subst (λ (m : AreaState). MayHold m image.two) (others Two refl _) (now Two) ], (r.2, refl, refl))
in_area first calls call One Step others step image now =
    let r = step image.one (now One) in
    (with_area One r.0 image, elim [ Head ↦ subst (λ (m : AreaState). MayHold m image.head) (others Head refl _) (now Head) | One ↦ r.1 | Two ↦ subst (λ (m : AreaState). MayHold m image.two) (others Two refl _) (now Two) ], (refl, r.2, refl))
in_area first calls call Two Step others step image now =
    let r = step image.two (now Two) in
    (with_area Two r.0 image, elim [ Head ↦ subst (λ (m : AreaState). MayHold m image.head) (others Head refl _) (now Head) | One ↦ subst (λ (m : AreaState). MayHold m image.one) (others One refl _) (now One) | Two ↦ r.1 ], (refl, refl, r.2))

-- what a read gives goes over by a step in that area
reads_in_area : (first : Areas) (calls : List Call) (call : Call) (of : Area) (Step : List ℕ → List ℕ → Type 0)
    → ((other : Area) → is_same_area of other ≡ false → (m : AreaState) → after_call other call m ≡ m)
    → Step (area_after first calls of).reads (after_call of call (area_after first calls of)).reads
    → InArea of Step (areas_after first calls) (areas_after first (calls ++ call ∷ []))
reads_in_area first calls call Head Step others step = (
  subst (Step (area_after first calls Head).reads) (sym (reads_are first calls call Head _ refl)) step,
  reads_are first calls call One _ (ap (λ m. m.reads) (others One refl _)),
  reads_are first calls call Two _ (ap (λ m. m.reads) (others Two refl _)),
)
reads_in_area first calls call One Step others step = (
  reads_are first calls call Head _ (ap (λ m. m.reads) (others Head refl _)),
  subst (Step (area_after first calls One).reads) (sym (reads_are first calls call One _ refl)) step,
  reads_are first calls call Two _ (ap (λ m. m.reads) (others Two refl _)),
)
reads_in_area first calls call Two Step others step = (
  reads_are first calls call Head _ (ap (λ m. m.reads) (others Head refl _)),
  reads_are first calls call One _ (ap (λ m. m.reads) (others One refl _)),
  subst (Step (area_after first calls Two).reads) (sym (reads_are first calls call Two _ refl)) step,
)

if_other : (b : Bool) (changed m : AreaState) → b ≡ false → (if b then changed else m) ≡ m
if_other true changed m is = cc
if_other false changed m is = refl

same_area : (area : Area) → is_same_area area area ≡ true
same_area Head = refl
same_area One = refl
same_area Two = refl

if_same : (b : Bool) (changed m : AreaState) → b ≡ true → (if b then changed else m) ≡ changed
if_same true changed m is = refl
if_same false changed m is = cc

place_is : (at : ℕ) (bytes : List ℕ) → at ≤ length bytes → min at (length bytes) ≡ at
place_is at bytes le = omega arith

pub write_passes : (trace : List Item) (first : Areas) (calls : List Call) (of : Area) (at : ℕ) (bytes : List ℕ) (done : ℕ) → at ≤ length (area_after first calls of).reads
    → Passes (InArea of (Written at bytes)) (InArea of (Torn at (length bytes))) (MayLeave first calls) (MayLeave first (calls ++ Write of at bytes false done ∷ [])) (told_after trace first calls) (told_after trace first (calls ++ Write of at bytes false done ∷ []))
write_passes trace first calls of at bytes done le =
    let call : Call = Write of at bytes false done in
    let m : AreaState = area_after first calls of in
    let place : min at (length m.reads) ≡ at = place_is at m.reads le in
    let others : (other : Area) → is_same_area of other ≡ false → (n : AreaState) → after_call other call n ≡ n = λ other apart n. if_other (is_same_area of other) (after_write at bytes false done n) n apart in
    let here : after_call of call m ≡ after_write at bytes false done m = if_same (is_same_area of of) (after_write at bytes false done m) m (same_area of) in
    passes trace first calls call (InArea of (Written at bytes)) (InArea of (Torn at (length bytes)))
    (reads_in_area first calls call of (Written at bytes) others (ap (λ n. n.reads) here ∙ ap (λ n. take n m.reads ++ bytes ++ drop (n + length bytes) m.reads) place))
    (in_area first calls call of (Torn at (length bytes)) others (λ image held.
    let r = write_leaves at bytes false done m image (sound_after first calls of) (subst (λ (n : AreaState). MayHold n image) here held) in
    (r.0, r.1, subst (λ (n : ℕ). Torn n (length bytes) r.0 image) place r.2)))

torn_front : (at done : ℕ) (bytes old : List ℕ) → at ≤ length old → Torn at (length bytes) old (overwritten at (take done bytes) old)
torn_front at done bytes old le =
    let piece : List ℕ = take done bytes in
    let short : length piece ≤ length bytes = put_within bytes true done in
    let size : length (overwritten at piece old) ≡ max (length old) (at + length piece) = length-overwritten at piece old le in
    record {
      no_shorter = omega (arith, size);
      no_longer = omega (arith, size, short);
      kept = λ i inside apart. overwritten_outside at piece old i le inside (outside_front at (length piece) (length bytes) i short apart);
    }

pub failed_write_passes : (trace : List Item) (first : Areas) (calls : List Call) (of : Area) (at : ℕ) (bytes : List ℕ) (done : ℕ) → at ≤ length (area_after first calls of).reads
    → Passes (InArea of (Torn at (length bytes))) (InArea of (Torn at (length bytes))) (MayLeave first calls) (MayLeave first (calls ++ Write of at bytes true done ∷ [])) (told_after trace first calls) (told_after trace first (calls ++ Write of at bytes true done ∷ []))
failed_write_passes trace first calls of at bytes done le =
    let call : Call = Write of at bytes true done in
    let m : AreaState = area_after first calls of in
    let place : min at (length m.reads) ≡ at = place_is at m.reads le in
    let others : (other : Area) → is_same_area of other ≡ false → (n : AreaState) → after_call other call n ≡ n = λ other apart n. if_other (is_same_area of other) (after_write at bytes true done n) n apart in
    let here : after_call of call m ≡ after_write at bytes true done m = if_same (is_same_area of of) (after_write at bytes true done m) m (same_area of) in
    passes trace first calls call (InArea of (Torn at (length bytes))) (InArea of (Torn at (length bytes)))
    (reads_in_area first calls call of (Torn at (length bytes)) others (subst (λ (n : AreaState). Torn at (length bytes) m.reads n.reads) (sym here)
    (subst (λ (n : ℕ). Torn at (length bytes) m.reads (overwritten n (take done bytes) m.reads)) (sym place) (torn_front at done bytes m.reads le))))
    (in_area first calls call of (Torn at (length bytes)) others (λ image held.
    let r = write_leaves at bytes true done m image (sound_after first calls of) (subst (λ (n : AreaState). MayHold n image) here held) in
    (r.0, r.1, subst (λ (n : ℕ). Torn n (length bytes) r.0 image) place r.2)))

pub cut_passes : (trace : List Item) (first : Areas) (calls : List Call) (of : Area) (len done : ℕ)
    → Passes (InArea of (λ old new. new ≡ take len old)) (InArea of (IsCut len)) (MayLeave first calls) (MayLeave first (calls ++ Cut of len false done ∷ [])) (told_after trace first calls) (told_after trace first (calls ++ Cut of len false done ∷ []))
cut_passes trace first calls of len done =
    let call : Call = Cut of len false done in
    let m : AreaState = area_after first calls of in
    let others : (other : Area) → is_same_area of other ≡ false → (n : AreaState) → after_call other call n ≡ n = λ other apart n. if_other (is_same_area of other) (after_cut len false done n) n apart in
    let here : after_call of call m ≡ after_cut len false done m = if_same (is_same_area of of) (after_cut len false done m) m (same_area of) in
    passes trace first calls call (InArea of (λ old new. new ≡ take len old)) (InArea of (IsCut len))
    (reads_in_area first calls call of (λ old new. new ≡ take len old) others (ap (λ n. n.reads) here))
    (in_area first calls call of (IsCut len) others (λ image held. cut_leaves len false done m image (sound_after first calls of) (subst (λ (n : AreaState). MayHold n image) here held)))

cut_front : (len done : ℕ) (bytes : List ℕ) → IsCut len bytes (take (max len (length bytes - done)) bytes)
cut_front len done bytes =
    let left : ℕ = max len (length bytes - done) in
    let size : length (take left bytes) ≡ min left (length bytes) = length-take left bytes in
    record { front = sym (take_min left bytes) ∙ ap (λ n. take n bytes) (sym size); no_shorter = omega (arith, size) }

pub failed_cut_passes : (trace : List Item) (first : Areas) (calls : List Call) (of : Area) (len done : ℕ)
    → Passes (InArea of (IsCut len)) (InArea of (IsCut len)) (MayLeave first calls) (MayLeave first (calls ++ Cut of len true done ∷ [])) (told_after trace first calls) (told_after trace first (calls ++ Cut of len true done ∷ []))
failed_cut_passes trace first calls of len done =
    let call : Call = Cut of len true done in
    let m : AreaState = area_after first calls of in
    let others : (other : Area) → is_same_area of other ≡ false → (n : AreaState) → after_call other call n ≡ n = λ other apart n. if_other (is_same_area of other) (after_cut len true done n) n apart in
    let here : after_call of call m ≡ after_cut len true done m = if_same (is_same_area of of) (after_cut len true done m) m (same_area of) in
    passes trace first calls call (InArea of (IsCut len)) (InArea of (IsCut len))
    (reads_in_area first calls call of (IsCut len) others (subst (λ (n : AreaState). IsCut len m.reads n.reads) (sym here) (cut_front len done m.reads)))
    (in_area first calls call of (IsCut len) others (λ image held. cut_leaves len true done m image (sound_after first calls of) (subst (λ (n : AreaState). MayHold n image) here held)))

-- an image behind a sync was there before it
sync_before : (first : Areas) (calls : List Call) (of : Area) (failed : Bool) (image : Areas) → LeavesThen first calls (Sync of failed) image → LeavesNow first calls image
sync_before first calls of failed image now area =
    elim (is_same_area of area) as (λ b. MayHold (if b then after_sync failed (area_after first calls area) else area_after first calls area) (area_of area image) → MayHold (area_after first calls area) (area_of area image)) [
      | true ↦ λ held. sync_leaves failed (area_after first calls area) (area_of area image) (sound_after first calls area) held
      | false ↦ λ held. held
    ] (now area)

sync_reads : (failed : Bool) (m : AreaState) → (after_sync failed m).reads ≡ m.reads
sync_reads true m = refl
sync_reads false m = refl

reads_if : (b : Bool) (changed m : AreaState) → changed.reads ≡ m.reads → (if b then changed else m).reads ≡ m.reads
reads_if true changed m is = is
reads_if false changed m is = refl

pub sync_same : (first : Areas) (calls : List Call) (of : Area) (failed : Bool) → Same (areas_after first calls) (areas_after first (calls ++ Sync of failed ∷ []))
sync_same first calls of failed =
    let one : (area : Area) → (area_after first (calls ++ Sync of failed ∷ []) area).reads ≡ (area_after first calls area).reads =
    λ area. reads_are first calls (Sync of failed) area _ (reads_if (is_same_area of area) (after_sync failed (area_after first calls area)) (area_after first calls area) (sync_reads failed (area_after first calls area))) in
    areas_are _ _ (one Head) (one One) (one Two)

pub sync_passes : (trace : List Item) (first : Areas) (calls : List Call) (of : Area)
    → Passes Same (Synced of (areas_after first (calls ++ Sync of false ∷ []))) (MayLeave first calls) (MayLeave first (calls ++ Sync of false ∷ [])) (told_after trace first calls) (told_after trace first (calls ++ Sync of false ∷ []))
sync_passes trace first calls of =
    let call : Call = Sync of false in
    let m : AreaState = area_after first calls of in
    let here : after_call of call m ≡ after_sync false m = if_same (is_same_area of of) (after_sync false m) m (same_area of) in
    passes trace first calls call Same (Synced of (areas_after first (calls ++ call ∷ []))) (sync_same first calls of false)
    (λ image now. (
      image,
      sync_before first calls of false image now,
      (
        refl,
        one_at_rest m.reads (area_of of image) (subst (λ (n : AreaState). MayHold n (area_of of image)) here (now of))
            ∙ sym (ap (area_of of) (sync_same first calls of false) ∙ area_reads first calls of),
      ),
    ))

pub failed_sync_passes : (trace : List Item) (first : Areas) (calls : List Call) (of : Area)
    → Passes Same Same (MayLeave first calls) (MayLeave first (calls ++ Sync of true ∷ [])) (told_after trace first calls) (told_after trace first (calls ++ Sync of true ∷ []))
failed_sync_passes trace first calls of =
    passes trace first calls (Sync of true) Same Same (sync_same first calls of true) (λ image now. (image, sync_before first calls of true image now, refl))
