-- What may be left of an area in memory, call by call.
use Rattle.std.proofs.Common.{◌≡◌, ◌⊎◌, ℕ, ◌+◌, ◌-◌, ◌<◌, ◌≤◌, min, max, Bool, true, false, cond, ◌&&◌, leb, ltb, List, ◌++◌, map, length, take, drop, get_or, refl, inl, inr, ap, ◌∙◌, sym, subst, arith}
use Rattle.std.specs.List.{range_with_len}
use Rattle.std.proofs.lemmas.Bool.Decides.{nat_tests}
use Rattle.std.proofs.lemmas.Bool.{cases_lt}
use Rattle.std.proofs.lemmas.List.{ext_get_or, length-take, length-drop, length-append, get_or-append_right, get_or_append_left, get_or-take, get_or-drop, take_all, take_at}
use Rattle.std.proofs.lemmas.List.FromFn.{length-map-range_with_len, get_or-map-range_with_len}
use Rattle.fk_host.specs.Disk.{Torn, Cut}
use Rattle.fk_memory.specs.Area.{AreaState, MayHold, at_rest, after_write, after_cut, after_sync}
use Rattle.fk_memory.specs.Sound.{IsSound}

-- the bytes of an image before a write: in its range they are those that are on the disk
abbrev before_write : ℕ → ℕ → List ℕ → List ℕ → ℕ → ℕ
before_write at count synced image i = cond (leb at i && ltb i (at + count)) (get_or synced i 0) (get_or image i 0)

inside_range : (at count : ℕ) (synced image : List ℕ) (i : ℕ) → at ≤ i → i < at + count → before_write at count synced image i ≡ get_or synced i 0
inside_range at count synced image i low high = grind (arith, nat_tests)

outside_range : (at count : ℕ) (synced image : List ℕ) (i : ℕ) → (i < at) ⊎ (at + count ≤ i) → before_write at count synced image i ≡ get_or image i 0
outside_range at count synced image i (inl low) = grind (arith, nat_tests)
outside_range at count synced image i (inr high) = grind (arith, nat_tests)

in_or_out : (at count i : ℕ) → ((at ≤ i) × (i < at + count)) ⊎ ((i < at) ⊎ (at + count ≤ i))
in_or_out at count i = grind (arith, nat_tests)

-- an image behind a write was torn from one before it
pub write_leaves : (place : ℕ) (bytes : List ℕ) (failed : Bool) (done : ℕ) (m : AreaState) (image : List ℕ) → IsSound m → MayHold (after_write place bytes failed done m) image
    → (from : List ℕ) × MayHold m from × Torn (min place (length m.reads)) (length bytes) from image
write_leaves place bytes failed done m image sound held =
    let at : ℕ = min place (length m.reads) in
    let count : ℕ = length bytes in
    let size : ℕ = min (length image) m.greatest in
    let byte : ℕ → ℕ = before_write at count m.synced image in
    let from : List ℕ = map byte (range_with_len 0 size) in
    let length_is : length from ≡ size = length-map-range_with_len byte 0 size in
    let reads : (i : ℕ) → i < size → get_or from i 0 ≡ byte i = λ i below. get_or-map-range_with_len byte 0 size i i 0 below (omega arith) in
    let short : m.least ≤ length image = held.no_shorter in
    let long : length image ≤ max m.greatest (at + count) = held.no_longer in (
      from,
      record {
        no_shorter = omega (arith, length_is, sound.order, short);
        no_longer = omega (arith, length_is);
        kept = λ i inside below out.
            let within : i < size = omega (arith, length_is) in
            reads i within ∙ (elim (in_or_out at count i) [
              | inl range ↦ inside_range at count m.synced image i range.0 range.1
              | inr apart ↦ outside_range at count m.synced image i apart ∙ held.kept i (omega arith) below (apart, out)
            ]);
      },
      record {
        no_shorter = omega (arith, length_is);
        no_longer = omega (arith, length_is, long);
        kept = λ i inside apart.
            let within : i < size = omega (arith, length_is) in
            sym (reads i within ∙ outside_range at count m.synced image i apart);
      },
    )

-- an image behind a cut was cut from one before it
pub cut_leaves : (len : ℕ) (failed : Bool) (done : ℕ) (m : AreaState) (image : List ℕ) → IsSound m → MayHold (after_cut len failed done m) image
    → (from : List ℕ) × MayHold m from × Cut len from image
cut_leaves len failed done m image sound held =
    elim (cases_lt (length image) m.least) [
      | inr long ↦ (
        image,
        record { no_shorter = long; no_longer = held.no_longer; kept = held.kept },
        record { front = sym (take_all (length image) image (omega arith)); no_shorter = omega arith },
      )
      | inl short ↦
          let rest : List ℕ = take (m.least - length image) (drop (length image) m.synced) in
          let from : List ℕ = image ++ rest in
          let rest_size : length rest ≡ m.least - length image = omega (arith, length-take (m.least - length image) (drop (length image) m.synced), length-drop (length image) m.synced, sound.base) in
          let size : length from ≡ m.least = omega (arith, length-append image rest, rest_size) in (
            from,
            record {
              no_shorter = omega (arith, size);
              no_longer = omega (arith, size, sound.order);
              kept = λ i inside below out.
                  elim (cases_lt i (length image)) [
                    | inl in_image ↦ get_or_append_left image rest 0 i in_image ∙ held.kept i in_image below out
                    | inr behind ↦
                        get_or-append_right image rest (length image) i 0 refl behind
                        ∙ get_or-take (m.least - length image) (drop (length image) m.synced) (i - length image) 0 (omega (arith, size))
                        ∙ get_or-drop (length image) m.synced (i - length image) 0
                        ∙ ap (λ n. get_or m.synced n 0) (omega arith)
                  ];
            },
            record {
              front = sym (take_at image rest (length image) refl);
              no_shorter = omega (arith, size, held.no_shorter);
            },
          )
    ]

-- an area that is at rest has one image
pub one_at_rest : (bytes image : List ℕ) → MayHold (at_rest bytes) image → image ≡ bytes
one_at_rest bytes image held =
    let same : length image ≡ length bytes = omega (arith, held.no_shorter, held.no_longer) in
    ext_get_or 0 image bytes same (λ i inside. held.kept i inside (omega (arith, same)) tt)

-- an image behind a sync was one before it, and where the sync did not fail it is what a read gives
pub sync_leaves : (failed : Bool) (m : AreaState) (image : List ℕ) → IsSound m → MayHold (after_sync failed m) image → MayHold m image
sync_leaves true m image sound held = held
sync_leaves false m image sound held = subst (MayHold m) (sym (one_at_rest m.reads image held)) sound.reads
