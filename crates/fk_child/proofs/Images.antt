-- What calls add to a host: a call above the disk, no call, and two calls one after the other.
use Rattle.std.proofs.Common.{◌≡◌, ℕ, ◌+◌, ◌<◌, ◌≤◌, min, Bool, true, false, List, [], ◌∷◌, ◌++◌, length, take, Option, Some, None, refl, sym, ap, ◌∙◌, subst, arith, inl, inr, append_assoc, append-nil, length-append}
use Rattle.std.specs.List.{AllPairs, AllByRecursion}
use Rattle.std.proofs.Math.Seq.{take-append-add}
use Rattle.std.proofs.lemmas.Bool.{cases_lt}
use Rattle.std.proofs.lemmas.List.{take_all}
use Rattle.std.proofs.lemmas.List.Elements.{All-append, All-from_recursion}
use Rattle.fk_trace.specs.declared.change.Change.{Change}
use Rattle.fk_trace.specs.Trace.{Event, Item}
use Rattle.fk_trace.specs.Ledger.{after, AreNoFloors}
use Rattle.fk_trace.proofs.Ledgers.{after-append}
use Rattle.fk_run.specs.Left.{IsCutAt, MayStandBefore}
use Rattle.fk_run.proofs.Cutting.{cut-later, cut-earlier, recursion-joined, take-within}
use Rattle.fk_host.specs.Disk.{Areas, Told, IfTold, KeepsPast, Passes, Same, LeavesAreas}
use Rattle.fk_host.specs.Host.{Brings, items_of}
use Rattle.fk_ledger.specs.Holds.{HoldsState, KeepsLedger}
use Rattle.fk_ledger.specs.Stretch.{Stretch}
use Rattle.fk_ledger.proofs.StretchLaws.{left_stretch, left_keeps, image_holds}
use Rattle.fk_journal.specs.Keeps.{selected_area, LeavesOthers}
use Rattle.fk_child.specs.View.{View, MakesCalls, SelectsTheSame, SparesOthers, AddsItems, HoldsFront, Moments, Adds}
use Rattle.fk_child.proofs.Others.{others-left, others-told}
use Rattle.fk_child.proofs.Counts.{pairs-cons}
use Rattle.fk_child.proofs.Pieces.{pairs-head, pairs-tail, recursion-weaker}

-- how many calls were made, where it is told
abbrev pub moment_of : Option Told → ℕ
moment_of None = 0
moment_of (Some now) = now.moments

-- the items that a call has brought
abbrev pub brought : Option Event → View → List Item
brought event view = items_of event (moment_of view.told) view.faults

pub if_told_map : (old new : Option Told) (P Q : Told → Told → Type 0) → ((x y : Told) → P x y → Q x y) → IfTold old new P → IfTold old new Q
if_told_map old None P Q f p = tt
if_told_map None (Some y) P Q f p = absurd p
if_told_map (Some x) (Some y) P Q f p = f x y p

pub past_then : (m n : ℕ) (a b c : ℕ → Areas → Type 0) → m ≤ n → KeepsPast m a b → KeepsPast n b c → KeepsPast m a c
past_then m n a b c le first second = λ k image within. (
  λ there. (first k image within).0 ((second k image (omega (arith, le, within))).0 there),
  λ here. (second k image (omega (arith, le, within))).1 ((first k image within).1 here),
)

-- a call above the disk leaves the areas
passes-leaves : (images images' : ℕ → Areas → Type 0) (before later : Told) → Passes Same Same images images' before later → LeavesAreas images images' before later
passes-leaves images images' before later p = record {
  later = let one = p.moments in omega arith;
  reads = p.reads;
  past = p.past;
  each = λ k image low high at.
      let one = p.moments in
      let last : k ≡ later.moments = omega arith in
      let from = p.now image (subst (λ (n : ℕ). images' n image) last at) in
      subst (images before.moments) (sym from.2) from.1;
}

told-leaves : (event : Option Event) (faults : ℕ) (images images' : ℕ → Areas → Type 0) (old new : Option Told) → IfTold old new (Brings event faults images images') → IfTold old new (LeavesAreas images images')
told-leaves event faults images images' old None call = tt
told-leaves event faults images images' None (Some later) call = absurd call
told-leaves event faults images images' (Some before) (Some later) call = passes-leaves images images' before later call.call

-- the disk keeps the ledger over a call above it
pub told-keeps : (event : Option Event) (faults : ℕ) (ledger : List Change) (images images' : ℕ → Areas → Type 0) (old new : Option Told)
    → IfTold old new (Brings event faults images images') → KeepsLedger ledger old images → KeepsLedger ledger new images'
told-keeps event faults ledger images images' old new call keeps = left_keeps old new ledger images images' keeps (told-leaves event faults images images' old new call)

-- a call above the disk is one
pub calls-once : (event : Option Event) (old new : View) → IfTold old.told new.told (Brings event new.faults old.images new.images) → MakesCalls 1 old new
calls-once event old new call =
    if_told_map old.told new.told (Brings event new.faults old.images new.images) (λ before later. later.moments ≡ before.moments + 1) (λ x y c. c.call.moments) call

none-calls : (told : Option Told) → IfTold told told (λ before later. later.moments ≡ before.moments + 0)
none-calls None = tt
none-calls (Some now) = omega arith

pub calls-none : (view : View) → MakesCalls 0 view view
calls-none view = none-calls view.told

calls-told : (m n : ℕ) (old mid new : Option Told) → IfTold old mid (λ before later. later.moments ≡ before.moments + m) → IfTold mid new (λ before later. later.moments ≡ before.moments + n)
    → IfTold old new (λ before later. later.moments ≡ before.moments + (m + n))
calls-told m n old mid None first second = tt
calls-told m n old None (Some z) first second = absurd second
calls-told m n None (Some y) (Some z) first second = absurd first
calls-told m n (Some x) (Some y) (Some z) first second = omega (arith, first, second)

-- calls that adjoin are as many as both
pub calls-then : (m n : ℕ) (old mid new : View) → MakesCalls m old mid → MakesCalls n mid new → MakesCalls (m + n) old new
calls-then m n old mid new first second = calls-told m n old.told mid.told new.told first second

pub calls-same : (m n : ℕ) (old new : View) → m ≡ n → MakesCalls m old new → MakesCalls n old new
calls-same m n old new e calls = subst (λ (k : ℕ). MakesCalls k old new) e calls

placed-one : (event : Option Event) (moments faults low : ℕ) → low < moments → AllByRecursion (λ (item : Item). (low < item.moments) × (item.moments ≤ moments)) (items_of event moments faults)
placed-one None moments faults low l = tt
placed-one (Some event) moments faults low l = ((l, omega arith), tt)

rising-one : (event : Option Event) (moments faults : ℕ) → AllPairs (λ (a b : Item). a.moments < b.moments) (items_of event moments faults)
rising-one None moments faults = λ i j d l m. absurd (omega arith)
rising-one (Some event) moments faults = λ i j d l m. absurd (omega arith)

told-items : (event : Option Event) (faults : ℕ) (images images' : ℕ → Areas → Type 0) (old new : Option Told)
    → IfTold old new (Brings event faults images images') → IfTold old new (AddsItems (items_of event (moment_of new) faults))
told-items event faults images images' old None call = tt
told-items event faults images images' None (Some later) call = absurd call
told-items event faults images images' (Some before) (Some later) call =
    record {
      trace = call.trace;
      placed = placed-one event later.moments faults before.moments (let one = call.call.moments in omega arith);
      rising = rising-one event later.moments faults;
    }

same-faults : (event : Option Event) (moments faults old : ℕ) → faults ≡ old → AllByRecursion (λ (item : Item). item.faults ≡ old) (items_of event moments faults)
same-faults None moments faults old e = tt
same-faults (Some event) moments faults old e = (e, tt)

-- without changes, calls leave the ledger
quiet-moments : (items : List Item) (ledger : List Change) (old new : ℕ → Areas → Type 0) (x y : Told) → Stretch ledger [] true old new x y → Moments (HoldsFront items ledger []) 0 old new x y
quiet-moments items ledger old new x y stretch = record {
  later = stretch.later;
  past = stretch.past;
  each = λ k image behind upto here.
      let front = stretch.each k image behind upto here in
      record {
        count = 0;
        enough = omega arith;
        cut = record { changes_before_attempts = inl (omega arith); others_before_changes = inl refl };
        holds = subst (λ (cs : List Change). HoldsState (after ledger cs) image) (take_all front.0 [] (omega arith)) front.1;
      };
  last = λ image here. record {
    count = 0;
    enough = omega arith;
    cut = record { changes_before_attempts = inl (omega arith); others_before_changes = inl refl };
    holds = stretch.all refl image here;
  };
}

pub quiet-told : (items : List Item) (ledger : List Change) (images images' : ℕ → Areas → Type 0) (old new : Option Told)
    → IfTold old new (Stretch ledger [] true images images') → IfTold old new (Moments (HoldsFront items ledger []) 0 images images')
quiet-told items ledger images images' old new stretch =
    if_told_map old new (Stretch ledger [] true images images') (Moments (HoldsFront items ledger []) 0 images images') (λ x y s. quiet-moments items ledger images images' x y s) stretch

spares : (images images' : ℕ → Areas → Type 0) (old new : Option Told) → IfTold old new (LeavesAreas images images') → IfTold old new (LeavesOthers images images')
spares images images' old new left = if_told_map old new (LeavesAreas images images') (LeavesOthers images images') (others-left images images') left

-- calls that leave the areas leave what Head selects
left-selects : (images images' : ℕ → Areas → Type 0) (old new : Option Told) → IfTold old new (LeavesAreas images images') → IfTold old new (λ before later. selected_area later.areas ≡ selected_area before.areas)
left-selects images images' old new left =
    if_told_map old new (LeavesAreas images images') (λ before later. selected_area later.areas ≡ selected_area before.areas) (λ x y l. ap selected_area l.reads) left

pub selects-brought : (event : Option Event) (old new : View) → IfTold old.told new.told (Brings event new.faults old.images new.images) → SelectsTheSame old new
selects-brought event old new call = left-selects old.images new.images old.told new.told (told-leaves event new.faults old.images new.images old.told new.told call)

selects-same : (told : Option Told) → IfTold told told (λ before later. selected_area later.areas ≡ selected_area before.areas)
selects-same None = tt
selects-same (Some now) = refl

pub selects-none : (view : View) → SelectsTheSame view view
selects-none view = selects-same view.told

selects-told : (old mid new : Option Told) → IfTold old mid (λ before later. selected_area later.areas ≡ selected_area before.areas)
    → IfTold mid new (λ before later. selected_area later.areas ≡ selected_area before.areas) → IfTold old new (λ before later. selected_area later.areas ≡ selected_area before.areas)
selects-told old mid None first second = tt
selects-told old None (Some z) first second = absurd second
selects-told None (Some y) (Some z) first second = absurd first
selects-told (Some x) (Some y) (Some z) first second = second ∙ first

pub selects-then : (old mid new : View) → SelectsTheSame old mid → SelectsTheSame mid new → SelectsTheSame old new
selects-then old mid new first second = selects-told old.told mid.told new.told first second

-- a call above the disk adds what it brought
pub adds-brought : (event : Option Event) (ledger : List Change) (old new : View) → IfTold old.told new.told (Brings event new.faults old.images new.images)
    → new.faults ≡ old.faults → KeepsLedger ledger old.told old.images → Adds (brought event new) ledger [] [] old new
adds-brought event ledger old new call disk keeps = record {
  trace = told-items event new.faults old.images new.images old.told new.told call;
  moments = quiet-told (brought event new) ledger old.images new.images old.told new.told
      (left_stretch old.told new.told ledger old.images new.images keeps (told-leaves event new.faults old.images new.images old.told new.told call));
  faults = same-faults event (moment_of new.told) new.faults old.faults disk;
  others = λ none. spares old.images new.images old.told new.told (told-leaves event new.faults old.images new.images old.told new.told call);
}

-- no call adds nothing
pub no-items : (old new : Option Told) → IfTold old new (λ before later. later.trace ≡ before.trace) → IfTold old new (AddsItems [])
no-items old new trace =
    if_told_map old new (λ before later. later.trace ≡ before.trace) (AddsItems [])
    (λ x y e. record { trace = e ∙ sym (append-nil x.trace); placed = tt; rising = λ i j d l m. absurd (omega arith) }) trace

none-told : (told : Option Told) → IfTold told told (λ before later. later.trace ≡ before.trace)
none-told None = tt
none-told (Some now) = refl

none-leaves : (images : ℕ → Areas → Type 0) (told : Option Told) → IfTold told told (LeavesAreas images images)
none-leaves images None = tt
none-leaves images (Some now) = record {
  later = omega arith;
  reads = refl;
  past = λ k image l. (λ h. h, λ h. h);
  each = λ k image low high at. absurd (omega arith);
}

pub adds-none : (ledger : List Change) (view : View) → KeepsLedger ledger view.told view.images → Adds [] ledger [] [] view view
adds-none ledger view keeps = record {
  trace = no-items view.told view.told (none-told view.told);
  moments = quiet-told [] ledger view.images view.images view.told view.told
      (left_stretch view.told view.told ledger view.images view.images keeps (none-leaves view.images view.told));
  faults = tt;
  others = λ none. spares view.images view.images view.told view.told (none-leaves view.images view.told);
}

-- ---- a call that changes the ledger

-- without items each front of the changes fits
any-cut : (k : ℕ) (changes : List Change) (n : ℕ) → IsCutAt k [] changes n
any-cut k changes n = record { changes_before_attempts = inr tt; others_before_changes = inr tt }

-- the changes were made
made-moments : (ledger changes : List Change) (old new : ℕ → Areas → Type 0) (x y : Told) → Stretch ledger changes true old new x y → Moments (HoldsFront [] ledger changes) (length changes) old new x y
made-moments ledger changes old new x y stretch = record {
  later = stretch.later;
  past = stretch.past;
  each = λ k image behind upto here.
      let front = stretch.each k image behind upto here in
      record { count = front.0; enough = omega arith; cut = any-cut k changes front.0; holds = front.1 };
  last = λ image here. record {
    count = length changes;
    enough = omega arith;
    cut = any-cut y.moments changes (length changes);
    holds = subst (λ (cs : List Change). HoldsState (after ledger cs) image) (sym (take_all (length changes) changes (omega arith))) (stretch.all refl image here);
  };
}

-- or the call that was to make them failed
failing-last : (ledger changes : List Change) (old new : ℕ → Areas → Type 0) (x y : Told) → KeepsLedger ledger (Some x) old → Stretch ledger changes false old new x y
    → (image : Areas) → new y.moments image → HoldsFront [] ledger changes 0 y.moments image
failing-last ledger changes old new x y keeps stretch image here =
    elim (cases_lt x.moments y.moments) [
      | inl moved ↦
          let front = stretch.each y.moments image moved (omega arith) here in
          record { count = front.0; enough = omega arith; cut = any-cut y.moments changes front.0; holds = front.1 }
      | inr still ↦
          let same : y.moments ≡ x.moments = omega (arith, still, stretch.later) in
          record {
            count = 0;
            enough = omega arith;
            cut = any-cut y.moments changes 0;
            holds = image_holds ledger x old keeps image ((stretch.past x.moments image (omega arith)).0 (subst (λ (n : ℕ). new n image) same here));
          }
    ]

failing-moments : (ledger changes : List Change) (old new : ℕ → Areas → Type 0) (x y : Told) → KeepsLedger ledger (Some x) old → Stretch ledger changes false old new x y
    → Moments (HoldsFront [] ledger changes) 0 old new x y
failing-moments ledger changes old new x y keeps stretch = record {
  later = stretch.later;
  past = stretch.past;
  each = λ k image behind upto here.
      let front = stretch.each k image behind upto here in
      record { count = front.0; enough = omega arith; cut = any-cut k changes front.0; holds = front.1 };
  last = failing-last ledger changes old new x y keeps stretch;
}

failing-told : (ledger changes : List Change) (images images' : ℕ → Areas → Type 0) (old new : Option Told) → KeepsLedger ledger old images
    → IfTold old new (Stretch ledger changes false images images') → IfTold old new (Moments (HoldsFront [] ledger changes) 0 images images')
failing-told ledger changes images images' old None keeps stretch = tt
failing-told ledger changes images images' None (Some y) keeps stretch = absurd stretch
failing-told ledger changes images images' (Some x) (Some y) keeps stretch = failing-moments ledger changes images images' x y keeps stretch

pub adds-made : (ledger changes : List Change) (old new : View) → IfTold old.told new.told (λ before later. later.trace ≡ before.trace)
    → IfTold old.told new.told (Stretch ledger changes true old.images new.images) → (AreNoFloors changes → SparesOthers old new) → Adds [] ledger changes [] old new
adds-made ledger changes old new trace stretch others = record {
  trace = no-items old.told new.told trace;
  moments = subst (λ (cs : List Change). IfTold old.told new.told (Moments (HoldsFront [] ledger cs) (length changes) old.images new.images)) (sym (append-nil changes))
      (if_told_map old.told new.told (Stretch ledger changes true old.images new.images) (Moments (HoldsFront [] ledger changes) (length changes) old.images new.images)
      (λ x y s. made-moments ledger changes old.images new.images x y s) stretch);
  faults = tt;
  others = λ none. others (subst AreNoFloors (append-nil changes) none);
}

pub adds-failing : (ledger changes : List Change) (old new : View) → KeepsLedger ledger old.told old.images → IfTold old.told new.told (λ before later. later.trace ≡ before.trace)
    → IfTold old.told new.told (Stretch ledger changes false old.images new.images) → (AreNoFloors changes → SparesOthers old new) → Adds [] ledger [] changes old new
adds-failing ledger changes old new keeps trace stretch others = record {
  trace = no-items old.told new.told trace;
  moments = failing-told ledger changes old.images new.images old.told new.told keeps stretch;
  faults = tt;
  others = others;
}

-- ---- calls that adjoin

-- pairs of a list whose first part is low and whose second is high
pairs-joined : {X : Type 0} (R : X → X → Type 0) (Low High : X → Type 0) → ((a b : X) → Low a → High b → R a b) → (xs ys : List X) → AllPairs R xs → AllPairs R ys → AllByRecursion Low xs → AllByRecursion High ys → AllPairs R (xs ++ ys)
pairs-joined R Low High over [] ys first second low high = second
pairs-joined R Low High over (x ∷ xs) ys first second low high =
    pairs-cons R x (xs ++ ys)
    (All-append (R x) xs ys (pairs-head R x xs first) (All-from_recursion (R x) ys (recursion-weaker High (R x) (λ y h. over x y low.0 h) ys high)))
    (pairs-joined R Low High over xs ys (pairs-tail R x xs first) second low.1 high)

pub items-then : (xs ys : List Item) (x y z : Told) → AddsItems xs x y → x.moments ≤ y.moments → AddsItems ys y z → y.moments ≤ z.moments → AddsItems (xs ++ ys) x z
items-then xs ys x y z m l n k = record {
  trace = n.trace ∙ ap (λ items. items ++ ys) m.trace ∙ append_assoc x.trace xs ys;
  placed = recursion-joined (λ (item : Item). (x.moments < item.moments) × (item.moments ≤ z.moments)) xs ys
      (recursion-weaker (λ (item : Item). (x.moments < item.moments) × (item.moments ≤ y.moments)) (λ item. (x.moments < item.moments) × (item.moments ≤ z.moments)) (λ item h. (h.0, let u = h.1 in omega arith)) xs m.placed)
      (recursion-weaker (λ (item : Item). (y.moments < item.moments) × (item.moments ≤ z.moments)) (λ item. (x.moments < item.moments) × (item.moments ≤ z.moments)) (λ item h. (let u = h.0 in omega arith, h.1)) ys n.placed);
  rising = pairs-joined (λ (a b : Item). a.moments < b.moments) (λ item. item.moments ≤ y.moments) (λ item. y.moments < item.moments) (λ a b low high. omega (arith, low, high)) xs ys m.rising n.rising
      (recursion-weaker (λ (item : Item). (x.moments < item.moments) × (item.moments ≤ y.moments)) (λ item. item.moments ≤ y.moments) (λ item h. h.1) xs m.placed)
      (recursion-weaker (λ (item : Item). (y.moments < item.moments) × (item.moments ≤ z.moments)) (λ item. y.moments < item.moments) (λ item h. h.0) ys n.placed);
}

module _ (xs ys : List Item) (ledger a b : List Change) (order : MayStandBefore xs a ys b) where
  front-later : (least k : ℕ) (image : Areas) → AllByRecursion (λ item. item.moments ≤ k) xs → HoldsFront ys (after ledger a) b least k image → HoldsFront (xs ++ ys) ledger (a ++ b) (length a + least) k image
  front-later least k image done front = record {
    count = length a + front.count;
    enough = let l = front.enough in omega (arith, l);
    cut = cut-later xs ys a b k front.count order done front.cut;
    holds = subst (λ (held : List Change). HoldsState held image) (sym (after-append ledger a (take front.count b)) ∙ ap (after ledger) (sym (take-append-add a b front.count))) front.holds;
  }

  front-earlier : (k : ℕ) (image : Areas) → AllByRecursion (λ item. k < item.moments) ys → HoldsFront xs ledger a 0 k image → HoldsFront (xs ++ ys) ledger (a ++ b) 0 k image
  front-earlier k image ahead front = record {
    count = min front.count (length a);
    enough = omega arith;
    cut = cut-earlier xs ys a b k front.count order ahead front.cut;
    holds = subst (λ (more : List Change). HoldsState (after ledger more) image) (sym (take-within front.count a b)) front.holds;
  }

  front-weaker : (low high k : ℕ) (image : Areas) → low ≤ high → HoldsFront (xs ++ ys) ledger (a ++ b) high k image → HoldsFront (xs ++ ys) ledger (a ++ b) low k image
  front-weaker low high k image l front = record { count = front.count; enough = let e = front.enough in omega (arith, l, e); cut = front.cut; holds = front.holds }

  moments-then : (least : ℕ) (p q r : ℕ → Areas → Type 0) (x y z : Told) → AddsItems xs x y → AddsItems ys y z
      → Moments (HoldsFront xs ledger a) (length a) p q x y → Moments (HoldsFront ys (after ledger a) b) least q r y z
      → Moments (HoldsFront (xs ++ ys) ledger (a ++ b)) (length a + least) p r x z
  moments-then least p q r x y z m n first second =
      let done : (k : ℕ) → y.moments ≤ k → AllByRecursion (λ item. item.moments ≤ k) xs =
      λ k l. recursion-weaker (λ (item : Item). (x.moments < item.moments) × (item.moments ≤ y.moments)) (λ item. item.moments ≤ k) (λ item h. let u = h.1 in omega (arith, u, l)) xs m.placed in
      let ahead : (k : ℕ) → k ≤ y.moments → AllByRecursion (λ item. k < item.moments) ys =
      λ k l. recursion-weaker (λ (item : Item). (y.moments < item.moments) × (item.moments ≤ z.moments)) (λ item. k < item.moments) (λ item h. let u = h.0 in omega (arith, u, l)) ys n.placed in
      record {
        later = omega (arith, first.later, second.later);
        past = past_then x.moments y.moments p q r first.later first.past second.past;
        each = λ k image behind upto left.
            elim (cases_lt y.moments k) [
              | inl later ↦ front-weaker 0 (length a + 0) k image (omega arith) (front-later 0 k image (done k (omega (arith, later))) (second.each k image later upto left))
              | inr before ↦ front-earlier k image (ahead k before) (first.each k image behind before ((second.past k image before).0 left))
            ];
        last = λ image left. front-later least z.moments image (done z.moments second.later) (second.last image left);
      }

  items-told : (least : ℕ) (p q r : ℕ → Areas → Type 0) (s t u : Option Told) → IfTold s t (AddsItems xs) → IfTold t u (AddsItems ys)
      → IfTold s t (Moments (HoldsFront xs ledger a) (length a) p q) → IfTold t u (Moments (HoldsFront ys (after ledger a) b) least q r)
      → IfTold s u (AddsItems (xs ++ ys)) × IfTold s u (Moments (HoldsFront (xs ++ ys) ledger (a ++ b)) (length a + least) p r)
  items-told least p q r s t None m n first second = (tt, tt)
  items-told least p q r s None (Some z) m n first second = absurd n
  items-told least p q r None (Some y) (Some z) m n first second = absurd m
  items-told least p q r (Some x) (Some y) (Some z) m n first second =
      (items-then xs ys x y z m first.later n second.later, moments-then least p q r x y z m n first second)

-- of a list without Floors each part has none
pub floors-left : (a b : List Change) → AreNoFloors (a ++ b) → AreNoFloors a
floors-left [] b none = tt
floors-left (change ∷ a) b none = (none.0, floors-left a b none.1)

pub floors-right : (a b : List Change) → AreNoFloors (a ++ b) → AreNoFloors b
floors-right [] b none = none
floors-right (change ∷ a) b none = floors-right a b none.1

-- calls that adjoin add up, where none of the first failed
pub adds-append : (xs ys : List Item) (ledger a b failing : List Change) → MayStandBefore xs a ys (b ++ failing) → (first second third : View) → Adds xs ledger a [] first second → second.faults ≡ first.faults
    → Adds ys (after ledger a) b failing second third → Adds (xs ++ ys) ledger (a ++ b) failing first third
adds-append xs ys ledger a b failing order first second third s disk t =
    let front : IfTold first.told second.told (Moments (HoldsFront xs ledger a) (length a) first.images second.images) =
    subst (λ (cs : List Change). IfTold first.told second.told (Moments (HoldsFront xs ledger cs) (length a) first.images second.images)) (append-nil a) s.moments in
    let both = items-told xs ys ledger a (b ++ failing) order (length b) first.images second.images third.images first.told second.told third.told s.trace t.trace front t.moments in
    let joined : IfTold first.told third.told (Moments (HoldsFront (xs ++ ys) ledger ((a ++ b) ++ failing)) (length a + length b) first.images third.images) =
    subst (λ (cs : List Change). IfTold first.told third.told (Moments (HoldsFront (xs ++ ys) ledger cs) (length a + length b) first.images third.images)) (sym (append_assoc a b failing)) both.1 in
    record {
      trace = both.0;
      moments = subst (λ (n : ℕ). IfTold first.told third.told (Moments (HoldsFront (xs ++ ys) ledger ((a ++ b) ++ failing)) n first.images third.images)) (sym (length-append a b)) joined;
      faults = recursion-joined (λ (item : Item). item.faults ≡ first.faults) xs ys s.faults
          (recursion-weaker (λ (item : Item). item.faults ≡ second.faults) (λ item. item.faults ≡ first.faults) (λ item e. e ∙ disk) ys t.faults);
      others = λ none.
          let parts : AreNoFloors (a ++ (b ++ failing)) = subst AreNoFloors (append_assoc a b failing) none in
          others-told (HoldsFront xs ledger (a ++ [])) (HoldsFront ys (after ledger a) (b ++ failing)) (length a) (length b) first.images second.images third.images first.told second.told third.told
          s.moments t.moments (s.others (subst AreNoFloors (sym (append-nil a)) (floors-left a (b ++ failing) parts))) (t.others (floors-right a (b ++ failing) parts));
    }
