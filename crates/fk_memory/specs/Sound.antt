-- What a read gives of a disk in memory is one of its images. It stands here, and not beside the other proofs, since the trait
-- asks it of the host in memory; nobody has to read on.
use Rattle.std.proofs.Common.{◌≡◌, ◌⊎◌, ℕ, ◌+◌, ◌<◌, ◌≤◌, min, max, Bool, true, false, List, [], ◌∷◌, ◌++◌, length, take, drop, get_or, refl, inl, inr, ◌∙◌, sym, subst, arith, if◌then◌else◌, Some, None, IfSome}
use Rattle.std.proofs.lemmas.List.{places, length-take, length-drop, length-append, get_or-take, take_all}
use Rattle.fk_host.specs.declared.disk.Area.{Area}
use Rattle.fk_host.specs.declared.disk.Area.TheVariants.{Head, One, Two}
use Rattle.fk_memory.specs.declared.host.Call.{Call}
use Rattle.fk_memory.specs.declared.host.Call.TheVariants.{Other, Write, Cut, Sync}
use Rattle.fk_host.specs.Disk.{Areas, Told, area_of}
use Rattle.fk_memory.specs.Area.{AreaState, MayHold, at_rest, is_same_area, overwritten, put_bytes, after_write, cut_length, after_cut, after_sync, after_call, after_calls, area_after, areas_after, MayLeave}
use Rattle.fk_memory.specs.Host.{HostState, told_of, leaves_of}

-- what keeps an area in order
pub record IsSound (state : AreaState) : Type 0 where
  pub order : state.least ≤ state.greatest
  pub base : state.least ≤ length state.synced
  pub top : length state.synced ≤ state.greatest
  pub reads : MayHold state state.reads

pub sound_at_rest : (bytes : List ℕ) → IsSound (at_rest bytes)
sound_at_rest bytes = record { order = omega arith; base = omega arith; top = omega arith; reads = record { no_shorter = omega arith; no_longer = omega arith; kept = λ i inside below out. refl } }

pub length-overwritten : (at : ℕ) (piece bytes : List ℕ) → at ≤ length bytes → length (overwritten at piece bytes) ≡ max (length bytes) (at + length piece)
length-overwritten at piece bytes le = omega (arith, length-append (take at bytes ++ piece) (drop (at + length piece) bytes), length-append (take at bytes) piece, length-take at bytes, length-drop (at + length piece) bytes)

-- outside of the piece the bytes are as before
pub overwritten_outside : (at : ℕ) (piece bytes : List ℕ) (i : ℕ) → at ≤ length bytes → i < length bytes → (i < at) ⊎ (at + length piece ≤ i) → get_or (overwritten at piece bytes) i 0 ≡ get_or bytes i 0
overwritten_outside at piece bytes i le inside (inl low) = grind (arith, places)
overwritten_outside at piece bytes i le inside (inr high) = grind (arith, places)

pub put_within : (bytes : List ℕ) (failed : Bool) (done : ℕ) → length (put_bytes bytes failed done) ≤ length bytes
put_within bytes true done = omega (arith, length-take done bytes)
put_within bytes false done = omega arith

-- what is outside of a range is outside of its front
pub outside_front : (at front count i : ℕ) → front ≤ count → (i < at) ⊎ (at + count ≤ i) → (i < at) ⊎ (at + front ≤ i)
outside_front at front count i le (inl low) = inl low
outside_front at front count i le (inr high) = inr (omega arith)

pub sound_after_write : (place : ℕ) (bytes : List ℕ) (failed : Bool) (done : ℕ) (m : AreaState) → IsSound m → IsSound (after_write place bytes failed done m)
sound_after_write place bytes failed done m sound =
    let at : ℕ = min place (length m.reads) in
    let piece : List ℕ = put_bytes bytes failed done in
    let short : length piece ≤ length bytes = put_within bytes failed done in
    let within : at ≤ length m.reads = omega arith in
    let size : length (overwritten at piece m.reads) ≡ max (length m.reads) (at + length piece) = length-overwritten at piece m.reads within in
    record {
      order = omega (arith, sound.order);
      base = sound.base;
      top = omega (arith, sound.top);
      reads = record {
        no_shorter = omega (arith, sound.reads.no_shorter, size);
        no_longer = omega (arith, sound.reads.no_longer, size, short);
        kept = λ i inside below out.
            let old : i < length m.reads = elim out.0 [ inl low ↦ omega arith | inr high ↦ omega (arith, size, short) ] in
            overwritten_outside at piece m.reads i within old (outside_front at (length piece) (length bytes) i short out.0) ∙ sound.reads.kept i old below out.1;
      };
    }

cut_reaches : (len : ℕ) (failed : Bool) (done before : ℕ) → len ≤ cut_length len failed done before
cut_reaches len true done before = omega arith
cut_reaches len false done before = omega arith

pub sound_after_cut : (len : ℕ) (failed : Bool) (done : ℕ) (m : AreaState) → IsSound m → IsSound (after_cut len failed done m)
sound_after_cut len failed done m sound =
    let left : ℕ = cut_length len failed done (length m.reads) in
    let reaches : len ≤ left = cut_reaches len failed done (length m.reads) in
    let size : length (take left m.reads) ≡ min left (length m.reads) = length-take left m.reads in
    record {
      order = omega (arith, sound.order);
      base = omega (arith, sound.base);
      top = sound.top;
      reads = record {
        no_shorter = omega (arith, sound.reads.no_shorter, size, reaches);
        no_longer = omega (arith, sound.reads.no_longer, size);
        kept = λ i inside below out.
            let within : i < min left (length m.reads) = omega (arith, size) in
            get_or-take left m.reads i 0 (omega arith) ∙ sound.reads.kept i (omega arith) below out;
      };
    }

pub sound_after_sync : (failed : Bool) (m : AreaState) → IsSound m → IsSound (after_sync failed m)
sound_after_sync true m sound = sound
sound_after_sync false m sound = sound_at_rest m.reads

sound_if : (b : Bool) (changed m : AreaState) → IsSound changed → IsSound m → IsSound (if b then changed else m)
sound_if true changed m a b = a
sound_if false changed m a b = b

sound_after_call : (area : Area) (call : Call) (m : AreaState) → IsSound m → IsSound (after_call area call m)
sound_after_call area Other m sound = sound
sound_after_call area (Write of at bytes failed done) m sound = sound_if (is_same_area of area) _ m (sound_after_write at bytes failed done m sound) sound
sound_after_call area (Cut of len failed done) m sound = sound_if (is_same_area of area) _ m (sound_after_cut len failed done m sound) sound
sound_after_call area (Sync of failed) m sound = sound_if (is_same_area of area) _ m (sound_after_sync failed m sound) sound

sound_after_calls : (area : Area) (calls : List Call) (m : AreaState) → IsSound m → IsSound (after_calls area calls m)
sound_after_calls area [] m sound = sound
sound_after_calls area (call ∷ calls) m sound = sound_after_calls area calls (after_call area call m) (sound_after_call area call m sound)

pub sound_after : (first : Areas) (calls : List Call) (area : Area) → IsSound (area_after first calls area)
sound_after first calls area = sound_after_calls area calls (at_rest (area_of area first)) (sound_at_rest (area_of area first))

-- what a crash may leave now
abbrev pub LeavesNow : Areas → List Call → Areas → Type 0
LeavesNow first calls image = (area : Area) → MayHold (area_after first calls area) (area_of area image)

pub now_leaves : (first : Areas) (calls : List Call) (image : Areas) → LeavesNow first calls image → MayLeave first calls (length calls) image
now_leaves first calls image now = subst (λ (cs : List Call). (area : Area) → MayHold (area_after first cs area) (area_of area image)) (sym (take_all (length calls) calls (omega arith))) now

pub area_reads : (first : Areas) (calls : List Call) (area : Area) → area_of area (areas_after first calls) ≡ (area_after first calls area).reads
area_reads first calls Head = refl
area_reads first calls One = refl
area_reads first calls Two = refl

-- what a read gives is an image
pub read_is_left : (first : Areas) (calls : List Call) → MayLeave first calls (length calls) (areas_after first calls)
read_is_left first calls = now_leaves first calls (areas_after first calls) (λ area. subst (MayHold (area_after first calls area)) (sym (area_reads first calls area)) (sound_after first calls area).reads)

pub told_is_left : (host : HostState) → IfSome (told_of host) (λ now. leaves_of host now.moments now.areas)
told_is_left host =
    elim host.is_short as (λ b. IfSome (if b then None else Some (record { areas = areas_after host.first host.calls; moments = length host.calls; trace = host.trace })) (λ (now : Told). MayLeave host.first host.calls now.moments now.areas)) [
      | true ↦ tt
      | false ↦ read_is_left host.first host.calls
    ]

-- with every write since the last sync, or with none of them
pub image_held : (keep : Bool) (m : AreaState) → IsSound m → MayHold m (if keep then m.reads else m.synced)
image_held true m sound = sound.reads
image_held false m sound = record { no_shorter = sound.base; no_longer = sound.top; kept = λ i inside below out. refl }
