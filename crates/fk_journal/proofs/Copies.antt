-- The calls of a copy: what they do to the other area, and what stays of the one that is selected.
use Rattle.std.proofs.Common.{◌≡◌, ℕ, ◌+◌, ◌<◌, ◌≤◌, List, [], ◌∷◌, ◌++◌, length, take, drop, refl, inl, inr, ap, ◌∙◌, sym, subst, arith, Option, Some, None, Result, Ok, Err, OnOk, OnErr}
use Rattle.std.specs.Option.{ForSome}
use Rattle.std.proofs.lemmas.Bool.{cases_lt}
use Rattle.std.proofs.lemmas.List.{append-nil, drop_all, take_all}
use Rattle.fk_host.specs.declared.disk.Area.{Area}
use Rattle.fk_host.specs.declared.disk.Area.TheVariants.{Head}
use Rattle.fk_host.specs.Disk.{Areas, Told, IfTold, Passes, InArea, Torn, Written, area_of}
use Rattle.fk_journal.specs.Entries.{Content, IsContent, format_byte, entry_bytes, place_behind, BeginsWith, IsClosedBehind}
use Rattle.fk_journal.specs.Head.{area_by, other_area}
use Rattle.fk_journal.specs.Keeps.{Log, Keeps, selected_area, selected, LeavesAllBut, HoldsIn, CopyMoments}
use Rattle.fk_journal.specs.Puts.{IsHeldNow, IsCopied, Touches}
use Rattle.fk_journal.proofs.Told.{past_then, if_told_map, if_told_then, if_told_with, if_told_new}
use Rattle.fk_journal.proofs.Areas.{in_others, in_used, bytes_of, other_apart, other_not_head}
use Rattle.fk_journal.proofs.Tails.{front, length-front, entries-push, all-push}
use Rattle.fk_journal.proofs.PutLemmas.{others_then}
use Rattle.fk_journal.proofs.Forms.{held_at, keeps_of}

-- one call in one area
pub touches_once : (used : Area) (Reads Leaves : List ℕ → List ℕ → Type 0) (a b : ℕ → Areas → Type 0) (x y : Told) → Passes (InArea used Reads) (InArea used Leaves) a b x y → Touches used 1 a b x y
touches_once used Reads Leaves a b x y pass = record {
  later = omega (arith, pass.moments);
  few = omega (arith, pass.moments);
  past = pass.past;
  others = record {
    reads = in_others used Reads x.areas y.areas pass.reads;
    each = λ k image after upto left.
        let last : k ≡ y.moments = omega (arith, pass.moments, after, upto) in
        let r = pass.now image (subst (λ (n : ℕ). b n image) last left) in
        (r.0, r.1, in_others used Leaves r.0 image r.2);
  };
}

pub touches_more : (used : Area) (a b : ℕ → Areas → Type 0) (x y : Told) → Touches used 1 a b x y → Touches used 2 a b x y
touches_more used a b x y once = record { later = once.later; few = omega (arith, once.few); past = once.past; others = once.others }

pub touches_then : (used : Area) (a b c : ℕ → Areas → Type 0) (x y z : Told) → Touches used 1 a b x y → Touches used 1 b c y z → Touches used 2 a c x z
touches_then used a b c x y z first second = record {
  later = omega (arith, first.later, second.later);
  few = omega (arith, first.few, second.few);
  past = past_then x.moments y.moments a b c first.later first.past second.past;
  others = others_then used a b c x y z first.later first.past second.past first.others second.others;
}

-- the same where a host may tell or not
pub told_once : (used : Area) (Reads Leaves : List ℕ → List ℕ → Type 0) (s t : Option Told) (a b : ℕ → Areas → Type 0) → IfTold s t (Passes (InArea used Reads) (InArea used Leaves) a b) → IfTold s t (Touches used 1 a b)
told_once used Reads Leaves s t a b pass = if_told_map s t (Passes (InArea used Reads) (InArea used Leaves) a b) (Touches used 1 a b) (λ x y p. touches_once used Reads Leaves a b x y p) pass

pub told_more : (used : Area) (s t : Option Told) (a b : ℕ → Areas → Type 0) → IfTold s t (Touches used 1 a b) → IfTold s t (Touches used 2 a b)
told_more used s t a b once = if_told_map s t (Touches used 1 a b) (Touches used 2 a b) (λ x y p. touches_more used a b x y p) once

pub told_twice : (used : Area) (s t u : Option Told) (a b c : ℕ → Areas → Type 0) → IfTold s t (Touches used 1 a b) → IfTold t u (Touches used 1 b c) → IfTold s u (Touches used 2 a c)
told_twice used s t u a b c first second = if_told_then s t u (Touches used 1 a b) (Touches used 1 b c) (Touches used 2 a c) (λ x y z p q. touches_then used a b c x y z p q) first second

-- a write, whatever it answers
pub write_either : {T E : Type 0} (r : Result T E) (used : Area) (at : ℕ) (bytes : List ℕ) (s t : Option Told) (a b : ℕ → Areas → Type 0) → OnOk r (IfTold s t (Passes (InArea used (Written at bytes)) (InArea used (Torn at (length bytes))) a b))
    → OnErr r (IfTold s t (Passes (InArea used (Torn at (length bytes))) (InArea used (Torn at (length bytes))) a b)) → IfTold s t (Touches used 1 a b)
write_either (Ok x) used at bytes s t a b ok err = told_once used (Written at bytes) (Torn at (length bytes)) s t a b ok
write_either (Err e) used at bytes s t a b ok err = told_once used (Torn at (length bytes)) (Torn at (length bytes)) s t a b err

-- the area was emptied, and has the format byte
emptied : (old middle new : List ℕ) → middle ≡ take 0 old → Written 0 (2 ∷ []) middle new → new ≡ 2 ∷ []
emptied old middle new cut written = written ∙ ap (λ (bytes : List ℕ). (2 ∷ []) ++ drop 1 bytes) cut

pub told_emptied : (used : Area) (Leaves More : List ℕ → List ℕ → Type 0) (s t u : Option Told) (a b c : ℕ → Areas → Type 0) → IfTold s t (Passes (InArea used (λ old new. new ≡ take 0 old)) (InArea used Leaves) a b)
    → IfTold t u (Passes (InArea used (Written 0 (2 ∷ []))) (InArea used More) b c) → IfTold s u (λ before after. area_of used after.areas ≡ 2 ∷ [])
told_emptied used Leaves More s t u a b c first second =
    if_told_then s t u (Passes (InArea used (λ old new. new ≡ take 0 old)) (InArea used Leaves) a b) (Passes (InArea used (Written 0 (2 ∷ []))) (InArea used More) b c) (λ x z. area_of used z.areas ≡ 2 ∷ [])
    (λ x y z p q. emptied (area_of used x.areas) (area_of used y.areas) (area_of used z.areas) (in_used used (λ old new. new ≡ take 0 old) x.areas y.areas p.reads) (in_used used (Written 0 (2 ∷ [])) y.areas z.areas q.reads)) first second

-- what is written at the end stands behind all of it
pub written_end : (at : ℕ) (bytes old new : List ℕ) → at ≡ length old → Written at bytes old new → new ≡ old ++ bytes
written_end at bytes old new is written =
    written ∙ ap (λ (front : List ℕ). front ++ bytes ++ drop (at + length bytes) old) (take_all at old (omega (arith, is)))
    ∙ ap (λ (rest : List ℕ). old ++ bytes ++ rest) (drop_all (at + length bytes) old (omega (arith, is))) ∙ append-nil (old ++ bytes)

pub told_added : (used : Area) (at : ℕ) (bytes : List ℕ) (Leaves : List ℕ → List ℕ → Type 0) (s t : Option Told) (a b : ℕ → Areas → Type 0) → ForSome s (λ now. at ≡ length (area_of used now.areas))
    → IfTold s t (Passes (InArea used (Written at bytes)) (InArea used Leaves) a b) → IfTold s t (λ before after. area_of used after.areas ≡ area_of used before.areas ++ bytes)
told_added used at bytes Leaves s None a b fits pass = tt
told_added used at bytes Leaves None (Some y) a b fits pass = absurd pass
told_added used at bytes Leaves (Some x) (Some y) a b fits pass =
    written_end at bytes (area_of used x.areas) (area_of used y.areas) (fits x refl) (in_used used (Written at bytes) x.areas y.areas pass.reads)

-- ---- what stays of the area that is selected

pub image_kept : (used : Area) (contents : List Content) (a b : ℕ → Areas → Type 0) (calls : ℕ) (x y : Told) → IsHeldNow used contents x a → Touches (other_area used) calls a b x y
    → (k : ℕ) (image : Areas) → x.moments < k → k ≤ y.moments → b k image → (image.head ≡ x.areas.head) × (selected image ≡ selected x.areas)
image_kept used contents a b calls x y held touches k image after upto left =
    let r = touches.others.each k image after upto left in
    let was = held.settled r.0 r.1 in
    let heads : image.head ≡ x.areas.head = r.2 Head (other_not_head used) ∙ was.0 in
    let from : selected_area r.0 ≡ used = ap area_by was.0 ∙ held.selects in
    (heads, bytes_of used image (ap area_by heads ∙ held.selects) ∙ r.2 used (other_apart used) ∙ sym (bytes_of used r.0 from) ∙ was.1)

copy_moments : (used : Area) (contents : List Content) (a b : ℕ → Areas → Type 0) (calls : ℕ) (x y : Told) → IsHeldNow used contents x a → Touches (other_area used) calls a b x y → CopyMoments calls (HoldsIn used contents) a b x y
copy_moments used contents a b calls x y held touches = record {
  later = touches.later;
  few = touches.few;
  past = touches.past;
  each = λ k image after upto left.
      let r = image_kept used contents a b calls x y held touches k image after upto left in
      (ap area_by r.0 ∙ held.selects, inr (subst (IsClosedBehind contents) (sym r.1) held.closed));
}

still_held : (used : Area) (contents : List Content) (a b : ℕ → Areas → Type 0) (calls : ℕ) (x y : Told) → IsHeldNow used contents x a → Touches (other_area used) calls a b x y → IsHeldNow used contents y b
still_held used contents a b calls x y held touches =
    let heads : y.areas.head ≡ x.areas.head = touches.others.reads Head (other_not_head used) in
    let is : selected_area y.areas ≡ used = ap area_by heads ∙ held.selects in
    let same : selected y.areas ≡ selected x.areas = bytes_of used y.areas is ∙ touches.others.reads used (other_apart used) ∙ sym (bytes_of used x.areas held.selects) in
    record {
      selects = is;
      closed = subst (IsClosedBehind contents) (sym same) held.closed;
      settled = λ image left.
          elim (cases_lt x.moments y.moments) [
            | inl moved ↦
                let r = image_kept used contents a b calls x y held touches y.moments image moved (omega arith) left in
                (r.0 ∙ sym heads, r.1 ∙ sym same)
            | inr still ↦
                let last : y.moments ≡ x.moments = omega (arith, still, touches.later) in
                let r = held.settled image ((touches.past x.moments image (omega arith)).0 (subst (λ (n : ℕ). b n image) last left)) in
                (r.0 ∙ sym heads, r.1 ∙ sym same)
          ];
    }

pub told_moments : (log : Log) (used : Area) (contents : List Content) (calls : ℕ) (s t : Option Told) (a b : ℕ → Areas → Type 0) → used ≡ other_area log.area → Keeps log contents s a → IfTold s t (Touches used calls a b)
    → IfTold s t (CopyMoments calls (HoldsIn log.area contents) a b)
told_moments log used contents calls s t a b same keeps touches =
    if_told_with s t (λ now. IsHeldNow log.area contents now a) (Touches (other_area log.area) calls a b) (CopyMoments calls (HoldsIn log.area contents) a b)
    (λ x y h p. copy_moments log.area contents a b calls x y h p) (held_at log log.area contents s a refl keeps) (subst (λ (area : Area). IfTold s t (Touches area calls a b)) same touches)

pub told_keeps : (log new : Log) (used : Area) (contents : List Content) (calls : ℕ) (s t : Option Told) (a b : ℕ → Areas → Type 0) → used ≡ other_area log.area → new.area ≡ log.area → new.end ≡ log.end → Keeps log contents s a → IfTold s t (Touches used calls a b)
    → Keeps new contents t b
told_keeps log new used contents calls s t a b same area end keeps touches =
    keeps_of new log.area contents t b area (end ∙ keeps.behind)
    (if_told_new s t (λ x y. IsHeldNow log.area contents y b) (λ now. IsHeldNow log.area contents now b) (λ x y h. h)
    (if_told_with s t (λ now. IsHeldNow log.area contents now a) (Touches (other_area log.area) calls a b) (λ x y. IsHeldNow log.area contents y b)
    (λ x y h p. still_held log.area contents a b calls x y h p) (held_at log log.area contents s a refl keeps) (subst (λ (area : Area). IfTold s t (Touches area calls a b)) same touches)))

pub told_others : (log : Log) (used : Area) (calls : ℕ) (s t : Option Told) (a b : ℕ → Areas → Type 0) → used ≡ other_area log.area → IfTold s t (Touches used calls a b) → IfTold s t (LeavesAllBut (other_area log.area) a b)
told_others log used calls s t a b same touches =
    if_told_map s t (Touches (other_area log.area) calls a b) (LeavesAllBut (other_area log.area) a b) (λ x y p. p.others) (subst (λ (area : Area). IfTold s t (Touches area calls a b)) same touches)

-- ---- what was copied

pub first_copied : (log : Log) (used : Area) (s t : Option Told) → used ≡ other_area log.area → IfTold s t (λ before after. area_of used after.areas ≡ 2 ∷ []) → IsCopied log.area [] t
first_copied log used s t same made =
    if_told_new s t (λ x y. area_of (other_area log.area) y.areas ≡ 2 ∷ []) (λ now. BeginsWith format_byte [] [] (area_of (other_area log.area) now.areas))
    (λ x y is. record { each = tt; bytes = is }) (subst (λ (area : Area). IfTold s t (λ x y. area_of area y.areas ≡ 2 ∷ [])) same made)

copied_push : (copied : List Content) (content : Content) (old new : List ℕ) → IsContent content → BeginsWith format_byte copied [] old → new ≡ old ++ entry_bytes content → BeginsWith format_byte (copied ++ content ∷ []) [] new
copied_push copied content old new one begins is = record {
  each = all-push copied content begins.each one;
  bytes = is ∙ ap (λ (bytes : List ℕ). bytes ++ entry_bytes content) (begins.bytes ∙ append-nil (front copied))
      ∙ ap (λ (bytes : List ℕ). format_byte ∷ bytes) (sym (entries-push copied content)) ∙ sym (append-nil (front (copied ++ content ∷ [])));
}

pub next_copied : (log : Log) (used : Area) (copied : List Content) (content : Content) (s t : Option Told) → used ≡ other_area log.area → IsContent content → IsCopied log.area copied s
    → IfTold s t (λ before after. area_of used after.areas ≡ area_of used before.areas ++ entry_bytes content) → IsCopied log.area (copied ++ content ∷ []) t
next_copied log used copied content s t same one was added =
    if_told_new s t (λ x y. BeginsWith format_byte (copied ++ content ∷ []) [] (area_of (other_area log.area) y.areas)) (λ now. BeginsWith format_byte (copied ++ content ∷ []) [] (area_of (other_area log.area) now.areas)) (λ x y h. h)
    (if_told_with s t (λ now. BeginsWith format_byte copied [] (area_of (other_area log.area) now.areas)) (λ x y. area_of (other_area log.area) y.areas ≡ area_of (other_area log.area) x.areas ++ entry_bytes content) _
    (λ x y h p. copied_push copied content (area_of (other_area log.area) x.areas) (area_of (other_area log.area) y.areas) one h p) was
    (subst (λ (area : Area). IfTold s t (λ x y. area_of area y.areas ≡ area_of area x.areas ++ entry_bytes content)) same added))

-- the copied entries end where the other area does
pub copied_length : (used other : Area) (copied : List Content) (end : ℕ) (s : Option Told) → other ≡ other_area used → end ≡ place_behind copied → IsCopied used copied s → ForSome s (λ now. end ≡ length (area_of other now.areas))
copied_length used other copied end s same is was now told =
    let here : BeginsWith format_byte copied [] (area_of (other_area used) now.areas) = subst (λ (o : Option Told). IsCopied used copied o) told was in
    is ∙ sym (length-front copied) ∙ ap length (sym (here.bytes ∙ append-nil (front copied))) ∙ ap (λ (area : Area). length (area_of area now.areas)) (sym same)
