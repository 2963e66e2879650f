-- The laws of stretches.
use Rattle.std.proofs.Common.{◌≡◌, ℕ, ◌+◌, ◌≤◌, min, Bool, true, false, List, [], ◌∷◌, ◌++◌, length, take, refl, sym, ap, subst, ◌∙◌, append_assoc, arith, inl, inr, Option, Some, None}
use Rattle.std.proofs.Math.Seq.{take-append_seam, take-append-add}
use Rattle.std.proofs.lemmas.Bool.{cases_lt}
use Rattle.std.proofs.lemmas.List.{take-append-le, take_all, append-nil}
use Rattle.fk_trace.specs.declared.change.Change.{Change}
use Rattle.std.specs.Prelude.{IfSome}
use Rattle.std.specs.List.{AllByRecursion}
use Rattle.std.proofs.lemmas.List.{map-append}
use Rattle.fk_trace.specs.Ledger.{after, MayFollow, IsLedger, IsLedgerFrom}
use Rattle.fk_trace.proofs.Ledgers.{IsNoFloor, after_one-behind, after-append}
use Rattle.fk_host.specs.Disk.{Areas, Told, IfTold, LeavesAreas}
use Rattle.fk_journal.proofs.Told.{past_then, if_told_map, if_told_then}
use Rattle.fk_journal.specs.Entries.{Content, IsClosedBehind, HoldsEntries}
use Rattle.fk_journal.specs.Keeps.{Log, Keeps, selected, IsAppend, IsSettled}
use Rattle.fk_ledger.specs.Holds.{HoldsCurrent, HoldsState, KeepsLedger}
use Rattle.fk_ledger.specs.Payloads.{content_of, ledger_contents, IsChange}
use Rattle.fk_ledger.specs.Stretch.{Stretch}

take-within : {X : Type 0} (n : ℕ) (a b : List X) → take (min n (length a)) (a ++ b) ≡ take n a
take-within n a b =
    elim (cases_lt (length a) n) [
      | inl past ↦ let m : min n (length a) ≡ length a = omega arith in rw (m, take-append_seam a b) (sym (take_all n a (omega arith)))
      | inr fits ↦ let m : min n (length a) ≡ n = omega arith in rw m (take-append-le n a b fits)
    ]

pub stretch_then : (ledger a b : List Change) (whole : Bool) (p q r : ℕ → Areas → Type 0) (x y z : Told) → Stretch ledger a true p q x y → Stretch (after ledger a) b whole q r y z → Stretch ledger (a ++ b) whole p r x z
stretch_then ledger a b whole p q r x y z first second = record {
  later = omega (arith, first.later, second.later);
  past = past_then x.moments y.moments p q r first.later first.past second.past;
  each = λ k image behind upto left.
      elim (cases_lt y.moments k) [
        | inl later ↦
            let s = second.each k image later upto left in
            (length a + s.0, subst (λ (ledger : List Change). HoldsState ledger image) (sym (after-append ledger a (take s.0 b)) ∙ ap (after ledger) (sym (take-append-add a b s.0))) s.1)
        | inr before ↦
            let s = first.each k image behind before ((second.past k image before).0 left) in
            (min s.0 (length a), subst (λ (more : List Change). HoldsState (after ledger more) image) (sym (take-within s.0 a b)) s.1)
      ];
  all = λ is image left. subst (λ (ledger : List Change). HoldsState ledger image) (sym (after-append ledger a b)) (second.all is image left);
}

pub stretches_join : (s t u : Option Told) (ledger a b : List Change) (whole : Bool) (p q r : ℕ → Areas → Type 0) → IfTold s t (Stretch ledger a true p q) → IfTold t u (Stretch (after ledger a) b whole q r) → IfTold s u (Stretch ledger (a ++ b) whole p r)
stretches_join s t u ledger a b whole p q r first second =
    if_told_then s t u (Stretch ledger a true p q) (Stretch (after ledger a) b whole q r) (Stretch ledger (a ++ b) whole p r) (λ x y z one two. stretch_then ledger a b whole p q r x y z one two) first second

-- calls that fail within the first of some changes
longer_told : (ledger a b : List Change) (p q : ℕ → Areas → Type 0) (x y : Told) → Stretch ledger a false p q x y → Stretch ledger (a ++ b) false p q x y
longer_told ledger a b p q x y stretch = record {
  later = stretch.later;
  past = stretch.past;
  each = λ k image behind upto left.
      let s = stretch.each k image behind upto left in
      (min s.0 (length a), subst (λ (more : List Change). HoldsState (after ledger more) image) (sym (take-within s.0 a b)) s.1);
  all = λ no. absurd (let n : false ≡ true = no in cc);
}

pub stretch_longer : (ledger a b : List Change) (s t : Option Told) (p q : ℕ → Areas → Type 0) → IfTold s t (Stretch ledger a false p q) → IfTold s t (Stretch ledger (a ++ b) false p q)
stretch_longer ledger a b s t p q stretch = if_told_map s t (Stretch ledger a false p q) (Stretch ledger (a ++ b) false p q) (longer_told ledger a b p q) stretch

-- ---- the stretch of an append

-- a ledger that is held is one with its State
pub held_state : (ledger : List Change) (image : Areas) → HoldsCurrent image ledger → HoldsState ledger image
held_state ledger image held = (ledger, inl held, refl)

pub all-push : (ledger : List Change) (change : Change) → AllByRecursion IsChange ledger → IsChange change → AllByRecursion IsChange (ledger ++ change ∷ [])
all-push [] change all one = (one, tt)
all-push (first ∷ ledger) change all one = (all.0, all-push ledger change all.1 one)

pub follow-push : (before ledger : List Change) (change : Change) → IsLedgerFrom before ledger → MayFollow (before ++ ledger) change → IsLedgerFrom before (ledger ++ change ∷ [])
follow-push before [] change all may = (subst (λ (ledger : List Change). MayFollow ledger change) (append-nil before) may, tt)
follow-push before (first ∷ ledger) change all may = (all.0, follow-push (before ++ first ∷ []) ledger change all.1 (subst (λ (ledger : List Change). MayFollow ledger change) (sym (append_assoc before (first ∷ []) ledger)) may))

pub contents-push : (ledger : List Change) (change : Change) → ledger_contents (ledger ++ change ∷ []) ≡ ledger_contents ledger ++ content_of change ∷ []
contents-push ledger change = map-append content_of ledger (change ∷ [])

pub holds-push : (ledger : List Change) (change : Change) (image : Areas) → AllByRecursion IsChange ledger → IsLedger ledger → IsChange change → MayFollow ledger change → HoldsEntries (selected image) (ledger_contents ledger ++ content_of change ∷ []) → HoldsCurrent image (ledger ++ change ∷ [])
holds-push ledger change image each follow one may entries = record {
  entries = subst (HoldsEntries (selected image)) (sym (contents-push ledger change)) entries;
  each = all-push ledger change each one;
  follow = follow-push [] ledger change follow may;
}

-- a change that is no Floor stands behind the ledger
push_state : (ledger : List Change) (change : Change) (image : Areas) → IsNoFloor change → HoldsCurrent image (ledger ++ change ∷ []) → HoldsState (after ledger (change ∷ [])) image
push_state ledger change image behind_it held =
    subst (λ (ledger : List Change). HoldsState ledger image) (sym (after_one-behind ledger change behind_it)) (held_state (ledger ++ change ∷ []) image held)

pub append_stretch : (ledger : List Change) (change : Change) (whole : Bool) (old new : ℕ → Areas → Type 0) (x y : Told) → IsNoFloor change → AllByRecursion IsChange ledger → IsLedger ledger → IsChange change → MayFollow ledger change
    → IsAppend (ledger_contents ledger) (content_of change) old new x y
    → (whole ≡ true → (image : Areas) → new y.moments image → HoldsEntries (selected image) (ledger_contents ledger ++ content_of change ∷ []))
    → Stretch ledger (change ∷ []) whole old new x y
append_stretch ledger change whole old new x y behind_it each follow one may append all = record {
  later = append.later;
  past = append.past;
  each = λ k image behind upto left.
      elim (append.each k image behind upto left) [
        | inl before ↦ (0, held_state ledger image (record { entries = before; each = each; follow = follow }))
        | inr with ↦ (1, push_state ledger change image behind_it (holds-push ledger change image each follow one may with))
      ];
  all = λ is image left. push_state ledger change image behind_it (holds-push ledger change image each follow one may (all is image left));
}

-- an append that failed
pub failed_stretch : (ledger : List Change) (change : Change) (s t : Option Told) (old new : ℕ → Areas → Type 0) → IsNoFloor change → KeepsLedger ledger s old → IsChange change → MayFollow ledger change
    → IfTold s t (IsAppend (ledger_contents ledger) (content_of change) old new) → IfTold s t (Stretch ledger (change ∷ []) false old new)
failed_stretch ledger change s t old new behind_it keeps one may append =
    if_told_map s t (IsAppend (ledger_contents ledger) (content_of change) old new) (Stretch ledger (change ∷ []) false old new)
    (λ x y a. append_stretch ledger change false old new x y behind_it keeps.each keeps.follow one may a (λ no. absurd (let n : false ≡ true = no in cc))) append

-- the ledger that the disk keeps after an append
pub kept-push : (ledger : List Change) (change : Change) (log : Log) (s t : Option Told) (old new : ℕ → Areas → Type 0) → KeepsLedger ledger s old → IsChange change → MayFollow ledger change
    → Keeps log (ledger_contents ledger ++ content_of change ∷ []) t new → KeepsLedger (ledger ++ change ∷ []) t new
kept-push ledger change log s t old new keeps one may now = record {
  each = all-push ledger change keeps.each one;
  follow = follow-push [] ledger change keeps.follow may;
  held = subst (λ (contents : List Content). IfSome t (λ now. IsClosedBehind contents (selected now.areas) × IsSettled now new)) (sym (contents-push ledger change)) now.held;
}

-- each image of a disk that keeps these entries holds them
pub settled_holds : (contents : List Content) (y : Told) (new : ℕ → Areas → Type 0) → IsClosedBehind contents (selected y.areas) → IsSettled y new → (image : Areas) → new y.moments image → HoldsEntries (selected image) contents
settled_holds contents y new closed settled image left = inr (subst (IsClosedBehind contents) (sym (settled image left).1) closed)

-- an append that ended well
pub whole_stretch : (ledger : List Change) (change : Change) (log : Log) (s t : Option Told) (old new : ℕ → Areas → Type 0) → IsNoFloor change → KeepsLedger ledger s old → IsChange change → MayFollow ledger change
    → Keeps log (ledger_contents ledger ++ content_of change ∷ []) t new
    → IfTold s t (IsAppend (ledger_contents ledger) (content_of change) old new) → IfTold s t (Stretch ledger (change ∷ []) true old new)
whole_stretch ledger change log s None old new behind_it keeps one may now append = tt
whole_stretch ledger change log None (Some y) old new behind_it keeps one may now append = absurd append
whole_stretch ledger change log (Some x) (Some y) old new behind_it keeps one may now append =
    append_stretch ledger change true old new x y behind_it keeps.each keeps.follow one may append
    (λ is image left. settled_holds (ledger_contents ledger ++ content_of change ∷ []) y new now.held.0 now.held.1 image left)

-- the same, where the entry that was appended is that of the change
pub ok_append : (ledger : List Change) (change : Change) (content : Content) (log : Log) (s t : Option Told) (old new : ℕ → Areas → Type 0) → IsNoFloor change → content_of change ≡ content → KeepsLedger ledger s old → IsChange change → MayFollow ledger change
    → Keeps log (ledger_contents ledger ++ content ∷ []) t new → IfTold s t (IsAppend (ledger_contents ledger) content old new)
    → KeepsLedger (after ledger (change ∷ [])) t new × IfTold s t (Stretch ledger (change ∷ []) true old new)
ok_append ledger change content log s t old new behind_it same keeps one may now append =
    let kept : Keeps log (ledger_contents ledger ++ content_of change ∷ []) t new = subst (λ (c : Content). Keeps log (ledger_contents ledger ++ c ∷ []) t new) (sym same) now in (
      subst (λ (ledger : List Change). KeepsLedger ledger t new) (sym (after_one-behind ledger change behind_it)) (kept-push ledger change log s t old new keeps one may kept),
      whole_stretch ledger change log s t old new behind_it keeps one may kept (subst (λ (c : Content). IfTold s t (IsAppend (ledger_contents ledger) c old new)) (sym same) append),
    )

pub err_append : (ledger : List Change) (change : Change) (content : Content) (s t : Option Told) (old new : ℕ → Areas → Type 0) → IsNoFloor change → content_of change ≡ content → KeepsLedger ledger s old → IsChange change → MayFollow ledger change
    → IfTold s t (IsAppend (ledger_contents ledger) content old new) → IfTold s t (Stretch ledger (change ∷ []) false old new)
err_append ledger change content s t old new behind_it same keeps one may append =
    failed_stretch ledger change s t old new behind_it keeps one may (subst (λ (c : Content). IfTold s t (IsAppend (ledger_contents ledger) c old new)) (sym same) append)

-- ---- calls that leave the areas

-- an image of their last moment was there before them
image_before : (old new : ℕ → Areas → Type 0) (x y : Told) → LeavesAreas old new x y → (image : Areas) → new y.moments image → old x.moments image
image_before old new x y left image here =
    elim (cases_lt x.moments y.moments) [
      | inl moved ↦ left.each y.moments image moved (omega arith) here
      | inr still ↦
          let same : y.moments ≡ x.moments = omega (arith, still, left.later) in
          (left.past x.moments image (omega arith)).0 (subst (λ (n : ℕ). new n image) same here)
    ]

-- what the disk keeps, each image of it holds
pub image_holds : (ledger : List Change) (x : Told) (old : ℕ → Areas → Type 0) → KeepsLedger ledger (Some x) old → (image : Areas) → old x.moments image → HoldsState ledger image
image_holds ledger x old keeps image here =
    held_state ledger image (record {
      entries = settled_holds (ledger_contents ledger) x old keeps.held.0 keeps.held.1 image here;
      each = keeps.each;
      follow = keeps.follow;
    })

left_told : (ledger : List Change) (old new : ℕ → Areas → Type 0) (x y : Told) → KeepsLedger ledger (Some x) old → LeavesAreas old new x y → Stretch ledger [] true old new x y
left_told ledger old new x y keeps left = record {
  later = left.later;
  past = left.past;
  each = λ k image behind upto here. (0, image_holds ledger x old keeps image (left.each k image behind upto here));
  all = λ is image here. image_holds ledger x old keeps image (image_before old new x y left image here);
}

pub left_stretch : (s t : Option Told) (ledger : List Change) (old new : ℕ → Areas → Type 0) → KeepsLedger ledger s old → IfTold s t (LeavesAreas old new) → IfTold s t (Stretch ledger [] true old new)
left_stretch s None ledger old new keeps left = tt
left_stretch None (Some y) ledger old new keeps left = absurd left
left_stretch (Some x) (Some y) ledger old new keeps left = left_told ledger old new x y keeps left

pub left_keeps : (s t : Option Told) (ledger : List Change) (old new : ℕ → Areas → Type 0) → KeepsLedger ledger s old → IfTold s t (LeavesAreas old new) → KeepsLedger ledger t new
left_keeps s None ledger old new keeps left = record { each = keeps.each; follow = keeps.follow; held = tt }
left_keeps None (Some y) ledger old new keeps left = absurd left
left_keeps (Some x) (Some y) ledger old new keeps left = record {
  each = keeps.each;
  follow = keeps.follow;
  held = (
    subst (λ (areas : Areas). IsClosedBehind (ledger_contents ledger) (selected areas)) (sym left.reads) keeps.held.0,
    λ image here.
        let was = keeps.held.1 image (image_before old new x y left image here) in
        (was.0 ∙ ap (λ (areas : Areas). areas.head) (sym left.reads), was.1 ∙ ap selected (sym left.reads)),
  );
}

-- what stood up to any moment
pub stretch_cut : (ledger changes : List Change) (whole : Bool) (old new : ℕ → Areas → Type 0) (x y : Told) (k : ℕ) → Stretch ledger changes whole old new x y → x.moments ≤ k → k ≤ y.moments → Stretch ledger changes false old new x (record y { moments = k })
stretch_cut ledger changes whole old new x y k stretch since within = record {
  later = since;
  past = stretch.past;
  each = λ i image behind upto here. stretch.each i image behind (omega (arith, upto, within)) here;
  all = λ no. absurd (let n : false ≡ true = no in cc);
}
