-- The calls that put other bytes in the place of what Head selects.
use Rattle.std.proofs.Common.{◌≡◌, ◌≢◌, ◌⊎◌, ℕ, ◌+◌, ◌<◌, ◌≤◌, List, [], ◌∷◌, inl, inr, ap, ◌∙◌, sym, subst, arith, Option, Result, Ok, Err, OnOk, IfSome}
use Rattle.std.proofs.lemmas.Bool.{cases_lt}
use Rattle.fk_host.specs.declared.disk.Area.{Area}
use Rattle.fk_host.specs.declared.disk.Area.TheVariants.{Head}
use Rattle.fk_host.specs.Disk.{Areas, Told, IfTold, KeepsPast, LeavesAreas, Torn, area_of}
use Rattle.fk_journal.specs.Head.{area_by, other_area, head_byte}
use Rattle.fk_journal.specs.Keeps.{selected_area, selected, IsSettled}
use Rattle.fk_journal.specs.Older.{Replaces}
use Rattle.fk_journal.specs.Puts.{Puts, HasPut, HasAnew, Touches}
use Rattle.fk_journal.proofs.Told.{past_then, if_told_map, if_told_then, if_told_with, if_told_both}
use Rattle.fk_journal.proofs.Areas.{never_head, apart_from, in_others, bytes_of, other_apart, other_not_head, one_or_other}
use Rattle.fk_journal.proofs.Switches.{head_selects, away}

-- an image of the last moment of calls that leave the areas was there before them
image_before : (a b : ℕ → Areas → Type 0) (x y : Told) → LeavesAreas a b x y → (image : Areas) → b y.moments image → a x.moments image
image_before a b x y left image here =
    elim (cases_lt x.moments y.moments) [
      | inl moved ↦ left.each y.moments image moved (omega arith) here
      | inr still ↦
          let same : y.moments ≡ x.moments = omega (arith, still, left.later) in
          (left.past x.moments image (omega arith)).0 (subst (λ (n : ℕ). b n image) same here)
    ]

pub settled_left : (a b : ℕ → Areas → Type 0) (x y : Told) → LeavesAreas a b x y → IsSettled x a → IsSettled y b
settled_left a b x y left settled = λ image here.
    let was = settled image (image_before a b x y left image here) in
    (was.0 ∙ ap (λ (areas : Areas). areas.head) (sym left.reads), was.1 ∙ ap selected (sym left.reads))

-- behind the read of Head: nothing has changed, and it selects this area
pub record HasSelected (used : Area) (a b : ℕ → Areas → Type 0) (x y : Told) : Type 0 where
  pub later : x.moments ≤ y.moments
  pub few : y.moments ≤ x.moments + 1
  pub past : KeepsPast x.moments a b
  pub same : selected y.areas ≡ selected x.areas
  pub selects : selected_area y.areas ≡ used
  pub settled : IsSettled y b
  pub each : (k : ℕ) (image : Areas) → x.moments < k → k ≤ y.moments → b k image → selected image ≡ selected x.areas

has_selected : (used : Area) (a b : ℕ → Areas → Type 0) (x y : Told) → IsSettled x a → LeavesAreas a b x y → y.moments ≡ x.moments + 1 → used ≡ selected_area x.areas → HasSelected used a b x y
has_selected used a b x y settled left one selects = record {
  later = left.later;
  few = omega (arith, one);
  past = left.past;
  same = ap selected left.reads;
  selects = ap selected_area left.reads ∙ sym selects;
  settled = settled_left a b x y left settled;
  each = λ k image after upto here. (settled image (left.each k image after upto here)).1;
}

-- of a settled disk, whose other area alone is touched
still : (used : Area) (b c : ℕ → Areas → Type 0) (calls : ℕ) (y z : Told) → selected_area y.areas ≡ used → IsSettled y b → Touches (other_area used) calls b c y z
    → (k : ℕ) (image : Areas) → y.moments < k → k ≤ z.moments → c k image → (image.head ≡ y.areas.head) × (selected image ≡ selected y.areas)
still used b c calls y z selects settled touches k image after upto left =
    let r = touches.others.each k image after upto left in
    let was = settled r.0 r.1 in
    let heads : image.head ≡ y.areas.head = r.2 Head (other_not_head used) ∙ was.0 in
    let from : selected_area r.0 ≡ used = ap area_by was.0 ∙ selects in
    (heads, bytes_of used image (ap area_by heads ∙ selects) ∙ r.2 used (other_apart used) ∙ sym (bytes_of used r.0 from) ∙ was.1)

-- what is known behind the calls that wrote the other area
pub record HasOther (used : Area) (bytes : List ℕ) (b c : ℕ → Areas → Type 0) (y z : Told) : Type 0 where
  pub touches : Touches (other_area used) 3 b c y z
  pub anew : HasAnew (other_area used) bytes c y z

module _ (used : Area) (bytes : List ℕ) (a b c : ℕ → Areas → Type 0) (x y z : Told) (first : HasSelected used a b x y) (touches : Touches (other_area used) 3 b c y z) where
  other_each : (k : ℕ) (image : Areas) → x.moments < k → k ≤ z.moments → c k image → selected image ≡ selected x.areas
  other_each k image after upto left =
      elim (cases_lt y.moments k) [
        | inl behind ↦ (still used b c 3 y z first.selects first.settled touches k image behind upto left).1 ∙ first.same
        | inr before ↦ first.each k image after before ((touches.past k image before).0 left)
      ]

  other_moments : Replaces bytes a c x z
  other_moments = record {
    later = omega (arith, first.later, touches.later);
    few = omega (arith, first.few, touches.few);
    past = past_then x.moments y.moments a b c first.later first.past touches.past;
    each = λ k image after upto left. inl (other_each k image after upto left);
  }

module _ (used : Area) (bytes : List ℕ) (a b c d : ℕ → Areas → Type 0) (x y z w : Told) (first : HasSelected used a b x y) (second : HasOther used bytes b c y z) (puts : Puts Head 0 1 c d z w) where
  apart : Head ≢ used
  apart = apart_from y.areas.head used first.selects

  -- of each image behind Head's write: its two areas, the selected one before and the other
  head_image : (k : ℕ) (image : Areas) → z.moments < k → k ≤ w.moments → d k image → (area_of used image ≡ selected x.areas) × (area_of (other_area used) image ≡ bytes)
  head_image k image after upto left =
      let r = puts.each k image after upto left in
      let same = in_others Head (Torn 0 1) r.0 image r.2 in
      let was = still used b c 3 y z first.selects first.settled second.touches z.moments r.0 second.anew.moved (omega arith) r.1 in
      let from : selected_area r.0 ≡ used = ap area_by was.0 ∙ first.selects in (
        same used (λ e. apart (sym e)) ∙ sym (bytes_of used r.0 from) ∙ was.1 ∙ first.same,
        same (other_area used) (away used) ∙ second.anew.synced r.0 r.1,
      )

  head_either : (k : ℕ) (image : Areas) → z.moments < k → k ≤ w.moments → d k image → (selected image ≡ selected x.areas) ⊎ (selected image ≡ bytes)
  head_either k image after upto left =
      let both = head_image k image after upto left in
      elim (one_or_other used (selected_area image) apart (λ e. never_head image.head (sym e))) [
        | inl is ↦ inl (bytes_of used image is ∙ both.0)
        | inr is ↦ inr (bytes_of (other_area used) image is ∙ both.1)
      ]

  head_moments : Replaces bytes a d x w
  head_moments =
      let before : Replaces bytes a c x z = other_moments used bytes a b c x y z first second.touches in
      record {
        later = omega (arith, before.later, puts.later);
        few = omega (arith, first.few, second.touches.few, puts.few);
        past = past_then x.moments z.moments a c d before.later before.past puts.past;
        each = λ k image after upto left.
            elim (cases_lt z.moments k) [
              | inl behind ↦ head_either k image behind upto left
              | inr so_far ↦ before.each k image after so_far ((puts.past k image so_far).0 left)
            ];
      }

  head_done : HasPut Head 0 (head_byte (other_area used) ∷ []) d z w → (selected w.areas ≡ bytes) × IsSettled w d
  head_done done =
      let is : selected_area w.areas ≡ other_area used = head_selects used z.areas.head w.areas.head done.reads.0 in
      let there : area_of (other_area used) w.areas ≡ bytes = puts.others (other_area used) (away used) ∙ second.anew.reads in
      let now : selected w.areas ≡ bytes = bytes_of (other_area used) w.areas is ∙ there in (
        now,
        λ image left.
            let heads : image.head ≡ w.areas.head = done.synced image left in
            let both = head_image w.moments image (omega (arith, done.moments)) (omega arith) left in
            (heads, bytes_of (other_area used) image (ap area_by heads ∙ is) ∙ both.1 ∙ sym now),
      )

-- ---- the same where a host may tell or not

abbrev Selects : Area → (ℕ → Areas → Type 0) → (ℕ → Areas → Type 0) → Told → Told → Type 0
Selects used a b x y = LeavesAreas a b x y × (y.moments ≡ x.moments + 1) × (used ≡ selected_area x.areas)

pub told_selected : (used : Area) (s t : Option Told) (a b : ℕ → Areas → Type 0) → IfSome s (λ now. IsSettled now a) → IfTold s t (λ before after. used ≡ selected_area before.areas) → IfTold s t (LeavesAreas a b)
    → IfTold s t (λ before after. after.moments ≡ before.moments + 1) → IfTold s t (HasSelected used a b)
told_selected used s t a b settled selects left one =
    if_told_with s t (λ now. IsSettled now a) (Selects used a b) (HasSelected used a b) (λ x y was p. has_selected used a b x y was p.0 p.1 p.2) settled
    (if_told_map s t (λ x y. LeavesAreas a b x y × ((y.moments ≡ x.moments + 1) × (used ≡ selected_area x.areas))) (Selects used a b) (λ x y p. (p.0, p.1.0, p.1.1))
    (if_told_both s t (LeavesAreas a b) (λ x y. (y.moments ≡ x.moments + 1) × (used ≡ selected_area x.areas)) left
    (if_told_both s t (λ x y. y.moments ≡ x.moments + 1) (λ x y. used ≡ selected_area x.areas) one selects)))

pub told_failed : (used other : Area) (bytes : List ℕ) (s t u : Option Told) (a b c : ℕ → Areas → Type 0) → other ≡ other_area used → IfTold s t (HasSelected used a b) → IfTold t u (Touches other 3 b c) → IfTold s u (Replaces bytes a c)
told_failed used other bytes s t u a b c is first touches =
    if_told_then s t u (HasSelected used a b) (Touches (other_area used) 3 b c) (Replaces bytes a c) (λ x y z f g. other_moments used bytes a b c x y z f g) first
    (subst (λ (area : Area). IfTold t u (Touches area 3 b c)) is touches)

pub record Behind (used : Area) (bytes : List ℕ) (a b c : ℕ → Areas → Type 0) (x z : Told) : Type 0 where
  pub middle : Told
  pub first : HasSelected used a b x middle
  pub second : HasOther used bytes b c middle z

told_behind : (used other : Area) (bytes : List ℕ) (s t u : Option Told) (a b c : ℕ → Areas → Type 0) → other ≡ other_area used → IfTold s t (HasSelected used a b) → IfTold t u (Touches other 3 b c) → IfTold t u (HasAnew other bytes c)
    → IfTold s u (Behind used bytes a b c)
told_behind used other bytes s t u a b c is first touches anew =
    if_told_then s t u (HasSelected used a b) (λ y z. Touches (other_area used) 3 b c y z × HasAnew (other_area used) bytes c y z) (Behind used bytes a b c)
    (λ x y z f g. record { middle = y; first = f; second = record { touches = g.0; anew = g.1 } }) first
    (if_told_both t u (Touches (other_area used) 3 b c) (HasAnew (other_area used) bytes c)
    (subst (λ (area : Area). IfTold t u (Touches area 3 b c)) is touches) (subst (λ (area : Area). IfTold t u (HasAnew area bytes c)) is anew))

pub told_replaced : (used other : Area) (bytes : List ℕ) (s t u v : Option Told) (a b c d : ℕ → Areas → Type 0) → other ≡ other_area used → IfTold s t (HasSelected used a b) → IfTold t u (Touches other 3 b c) → IfTold t u (HasAnew other bytes c)
    → IfTold u v (Puts Head 0 1 c d) → IfTold s v (Replaces bytes a d)
told_replaced used other bytes s t u v a b c d is first touches anew puts =
    if_told_then s u v (Behind used bytes a b c) (Puts Head 0 1 c d) (Replaces bytes a d) (λ x z w f g. head_moments used bytes a b c d x f.middle z w f.first f.second g)
    (told_behind used other bytes s t u a b c is first touches anew) puts

pub told_done : {T E : Type 0} (r : Result T E) (used other : Area) (bytes byte : List ℕ) (s t u v : Option Told) (a b c d : ℕ → Areas → Type 0) → other ≡ other_area used → byte ≡ head_byte (other_area used) ∷ [] → IfTold s t (HasSelected used a b) → IfTold t u (Touches other 3 b c)
    → IfTold t u (HasAnew other bytes c) → IfTold u v (Puts Head 0 1 c d) → OnOk r (IfTold u v (HasPut Head 0 byte d)) → OnOk r (IfTold s v (λ before after. (selected after.areas ≡ bytes) × IsSettled after d))
told_done (Err e) used other bytes byte s t u v a b c d is one first touches anew puts done = tt
told_done (Ok k) used other bytes byte s t u v a b c d is one first touches anew puts done =
    if_told_then s u v (Behind used bytes a b c) (λ z w. Puts Head 0 1 c d z w × HasPut Head 0 (head_byte (other_area used) ∷ []) d z w) (λ x w. (selected w.areas ≡ bytes) × IsSettled w d)
    (λ x z w f g. head_done used bytes a b c d x f.middle z w f.first f.second g.0 g.1)
    (told_behind used other bytes s t u a b c is first touches anew)
    (if_told_both u v (Puts Head 0 1 c d) (HasPut Head 0 (head_byte (other_area used) ∷ []) d) puts (subst (λ (written : List ℕ). IfTold u v (HasPut Head 0 written d)) one done))
