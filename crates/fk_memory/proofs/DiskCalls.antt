-- What the trait asks of each call of a disk in memory, from what the call does to the host's record.
use Rattle.std.proofs.Common.{◌≡◌, ℕ, ◌≤◌, ◌||◌, Bool, true, false, List, [], ◌∷◌, ◌++◌, length, take, refl, ap, ◌∙◌, sym, subst, arith, if◌then◌else◌, Some, None, Result, Ok, Err, is_err, OnOk, OnErr, IfOk, IfSome, ltb}
use Rattle.std.specs.Option.{ForSome}
use Rattle.std.proofs.lemmas.Bool.Decides.{nat_tests}
use Rattle.fk_base.specs.declared.memory.Failed.{Failed}
use Rattle.fk_host.specs.declared.disk.Area.{Area}
use Rattle.fk_host.specs.declared.disk.Area.TheVariants.{Head, One, Two}
use Rattle.fk_memory.specs.declared.host.Call.{Call}
use Rattle.fk_memory.specs.declared.host.Call.TheVariants.{Other, Write, Cut as Cuts, Sync}
use Rattle.fk_host.specs.Count.{counted, HasCause}
use Rattle.fk_host.specs.Disk.{Areas, Told, area_of, Written, Torn, Cut, Same, InArea, Synced, IfTold, Passes, Calls, LeavesHost}
use Rattle.fk_memory.specs.declared.host.Texts.{Texts}
use Rattle.fk_memory.specs.Area.{AreaState, MayLeave, at_rest, is_same_area, areas_after, area_after, after_call, after_write, after_cut, after_sync, reads_after}
use Rattle.fk_memory.specs.Host.{HostState, after_disk_call, told_of, leaves_of, above_of}
use Rattle.fk_memory.specs.HostRecord.{texts}
use Rattle.fk_memory.specs.Sound.{area_reads}
use Rattle.fk_memory.proofs.Moments.{told_after, other_passes, write_passes, failed_write_passes, cut_passes, failed_cut_passes, sync_passes, failed_sync_passes, area_after-push, areas_are}

not_both : (b : Bool) → b ≡ true → b ≡ false → ⊥
not_both true holds fails = cc
not_both false holds fails = cc

-- a fact of what is told before and after, where the host is not short
pub if_told : (old new : HostState) (Fact : Told → Told → Type 0)
    → (new.is_short ≡ false → (old.is_short ≡ false) × Fact (told_after old.trace old.first old.calls) (told_after new.trace new.first new.calls))
    → IfTold (told_of old) (told_of new) Fact
if_told old new Fact fact =
    elim new.is_short as (λ b. (b ≡ false → (old.is_short ≡ false) × Fact (told_after old.trace old.first old.calls) (told_after new.trace new.first new.calls))
    → IfTold (told_of old) (if b then None else Some (told_after new.trace new.first new.calls)) Fact) [
      | true ↦ λ f. tt
      | false ↦ λ f. rw (f refl).0 (f refl).1
    ] fact

-- a call that leaves the host able to tell has been kept
kept : (old new : HostState) (call : Call) (failed : Bool) → new ≡ after_disk_call call failed new.is_short old → new.is_short ≡ false
    → (old.is_short ≡ false) × (new.first ≡ old.first) × (new.calls ≡ old.calls ++ call ∷ []) × (new.faults ≡ (if failed then counted old.faults else old.faults)) × (new.trace ≡ old.trace)
kept old new call failed state told =
    let same : new ≡ after_disk_call call failed false old = subst (λ (b : Bool). new ≡ after_disk_call call failed b old) told state in
    (sym (ap (λ h. h.is_short) same) ∙ told, ap (λ h. h.first) same, ap (λ h. h.calls) same, ap (λ h. h.faults) same, ap (λ h. h.trace) same)

called : (old new : HostState) (call : Call) (failed : Bool) (Reads Leaves : Areas → Areas → Type 0)
    → new ≡ after_disk_call call failed new.is_short old
    → (new.is_short ≡ false → old.is_short ≡ false → Passes Reads Leaves (MayLeave old.first old.calls) (MayLeave old.first (old.calls ++ call ∷ [])) (told_after old.trace old.first old.calls) (told_after old.trace old.first (old.calls ++ call ∷ [])))
    → Calls told_of leaves_of old new Reads Leaves
called old new call failed Reads Leaves state passes =
    if_told old new (Passes Reads Leaves (leaves_of old) (leaves_of new)) (λ told.
    let k = kept old new call failed state told in
    (k.0, rw (k.1, k.2, k.4) (passes told k.0)))

-- a call of the disk leaves the children
above_same : (call : Call) (failed is_short : Bool) (old : HostState) → above_of (after_disk_call call failed is_short old) ≡ above_of old
above_same call failed true old = refl
above_same call failed false old = refl

pub leaves_host : (old new : HostState) (call : Call) (failed : Bool) → new ≡ after_disk_call call failed new.is_short old → LeavesHost told_of above_of old new
leaves_host old new call failed state = record {
  trace = if_told old new (λ before after. after.trace ≡ before.trace) (λ told. let k = kept old new call failed state told in (k.0, k.4));
  rest = ap above_of state ∙ above_same call failed new.is_short old;
}

pub has_cause : {T : Type 0} (old new : HostState) (call : Call) (failed : Bool) (result : Result T Failed)
    → is_err result ≡ (failed || new.is_short) → new ≡ after_disk_call call failed new.is_short old → HasCause old.faults new.faults result
has_cause old new call failed (Ok x) says state = grind (arith, ap (λ h. h.faults) state)
has_cause old new call failed (Err e) says state = grind (arith, ap (λ h. h.faults) state)

ok_not_failed : (a b : Bool) → false ≡ (a || b) → a ≡ false
ok_not_failed true b is = cc
ok_not_failed false b is = refl

err_failed : (a b : Bool) → true ≡ (a || b) → b ≡ false → a ≡ true
err_failed true b is told = refl
err_failed false b is told = cc

-- what is asked of a place holds of what a read gives of the area
within : (old : HostState) (of : Area) (at : ℕ) → ForSome (told_of old) (λ now. at ≤ length (area_of of now.areas)) → old.is_short ≡ false → at ≤ length (area_after old.first old.calls of).reads
within old of at asked told =
    let here : at ≤ length (area_of of (areas_after old.first old.calls)) =
    asked (told_after old.trace old.first old.calls) (ap (λ (b : Bool). if b then None else Some (told_after old.trace old.first old.calls)) told) in
    subst (λ (bytes : List ℕ). at ≤ length bytes) (area_reads old.first old.calls of) here

pub write_ok : {T : Type 0} (old new : HostState) (of : Area) (at : ℕ) (bytes : List ℕ) (failed : Bool) (done : ℕ) (result : Result T Failed)
    → ForSome (told_of old) (λ now. at ≤ length (area_of of now.areas)) → is_err result ≡ (failed || new.is_short)
    → new ≡ after_disk_call (Write of at bytes failed done) failed new.is_short old
    → OnOk result (Calls told_of leaves_of old new (InArea of (Written at bytes)) (InArea of (Torn at (length bytes))))
write_ok old new of at bytes failed done (Err e) asked says state = tt
write_ok old new of at bytes failed done (Ok x) asked says state =
    let fine : failed ≡ false = ok_not_failed failed new.is_short says in
    called old new (Write of at bytes false done) false (InArea of (Written at bytes)) (InArea of (Torn at (length bytes)))
    (subst (λ (b : Bool). new ≡ after_disk_call (Write of at bytes b done) b new.is_short old) fine state)
    (λ told before. write_passes old.trace old.first old.calls of at bytes done (within old of at asked before))

pub write_err : {T : Type 0} (old new : HostState) (of : Area) (at : ℕ) (bytes : List ℕ) (failed : Bool) (done : ℕ) (result : Result T Failed)
    → ForSome (told_of old) (λ now. at ≤ length (area_of of now.areas)) → is_err result ≡ (failed || new.is_short)
    → new ≡ after_disk_call (Write of at bytes failed done) failed new.is_short old
    → OnErr result (Calls told_of leaves_of old new (InArea of (Torn at (length bytes))) (InArea of (Torn at (length bytes))))
write_err old new of at bytes failed done (Ok x) asked says state = tt
write_err old new of at bytes failed done (Err e) asked says state =
    called old new (Write of at bytes failed done) failed (InArea of (Torn at (length bytes))) (InArea of (Torn at (length bytes))) state
    (λ told before. rw (err_failed failed new.is_short says told) (failed_write_passes old.trace old.first old.calls of at bytes done (within old of at asked before)))

pub cut_ok : {T : Type 0} (old new : HostState) (of : Area) (len : ℕ) (failed : Bool) (done : ℕ) (result : Result T Failed)
    → is_err result ≡ (failed || new.is_short) → new ≡ after_disk_call (Cuts of len failed done) failed new.is_short old
    → OnOk result (Calls told_of leaves_of old new (InArea of (λ old new. new ≡ take len old)) (InArea of (Cut len)))
cut_ok old new of len failed done (Err e) says state = tt
cut_ok old new of len failed done (Ok x) says state =
    let fine : failed ≡ false = ok_not_failed failed new.is_short says in
    called old new (Cuts of len false done) false (InArea of (λ old new. new ≡ take len old)) (InArea of (Cut len))
    (subst (λ (b : Bool). new ≡ after_disk_call (Cuts of len b done) b new.is_short old) fine state)
    (λ told before. cut_passes old.trace old.first old.calls of len done)

pub cut_err : {T : Type 0} (old new : HostState) (of : Area) (len : ℕ) (failed : Bool) (done : ℕ) (result : Result T Failed)
    → is_err result ≡ (failed || new.is_short) → new ≡ after_disk_call (Cuts of len failed done) failed new.is_short old
    → OnErr result (Calls told_of leaves_of old new (InArea of (Cut len)) (InArea of (Cut len)))
cut_err old new of len failed done (Ok x) says state = tt
cut_err old new of len failed done (Err e) says state =
    called old new (Cuts of len failed done) failed (InArea of (Cut len)) (InArea of (Cut len)) state
    (λ told before. rw (err_failed failed new.is_short says told) (failed_cut_passes old.trace old.first old.calls of len done))

pub sync_ok : {T : Type 0} (old new : HostState) (of : Area) (failed : Bool) (result : Result T Failed)
    → is_err result ≡ (failed || new.is_short) → new ≡ after_disk_call (Sync of failed) failed new.is_short old
    → OnOk result (IfSome (told_of new) (λ now. Calls told_of leaves_of old new Same (Synced of now.areas)))
sync_ok old new of failed (Err e) says state = tt
sync_ok old new of failed (Ok x) says state =
    let fine : failed ≡ false = ok_not_failed failed new.is_short says in
    let same : new ≡ after_disk_call (Sync of false) false new.is_short old = subst (λ (b : Bool). new ≡ after_disk_call (Sync of b) b new.is_short old) fine state in
    let all : Calls told_of leaves_of old new Same (Synced of (areas_after new.first new.calls)) =
    called old new (Sync of false) false Same (Synced of (areas_after new.first new.calls)) same (λ told before.
    let k = kept old new (Sync of false) false same told in
    rw (k.1, k.2) (sync_passes old.trace old.first old.calls of)) in
    elim new.is_short as (λ b. IfSome (if b then None else Some (told_after new.trace new.first new.calls)) (λ (now : Told). Calls told_of leaves_of old new Same (Synced of now.areas))) [ true ↦ tt | false ↦ all ]

pub sync_err : {T : Type 0} (old new : HostState) (of : Area) (failed : Bool) (result : Result T Failed)
    → is_err result ≡ (failed || new.is_short) → new ≡ after_disk_call (Sync of failed) failed new.is_short old
    → OnErr result (Calls told_of leaves_of old new Same Same)
sync_err old new of failed (Ok x) says state = tt
sync_err old new of failed (Err e) says state =
    called old new (Sync of failed) failed Same Same state
    (λ told before. rw (err_failed failed new.is_short says told) (failed_sync_passes old.trace old.first old.calls of))

pub other_called : (old new : HostState) (failed : Bool) → new ≡ after_disk_call Other failed new.is_short old → Calls told_of leaves_of old new Same Same
other_called old new failed state = called old new Other failed Same Same state (λ told before. other_passes old.trace old.first old.calls)

-- what holds of an answer and what a read gave holds of it and what a read gives
pub ok_told : {T : Type 0} (result : Result T Failed) (Fact : T → Areas → Type 0) (old new : HostState) (failed : Bool)
    → new ≡ after_disk_call Other failed new.is_short old
    → IfOk result (λ x. Fact x (areas_after old.first old.calls)) → IfOk result (λ x. IfSome (told_of new) (λ now. Fact x now.areas))
ok_told (Err e) Fact old new failed state fact = tt
ok_told (Ok x) Fact old new failed state fact =
    let here : new.is_short ≡ false → Fact x (areas_after new.first new.calls) = λ told.
    let k = kept old new Other failed state told in
    rw (k.1, k.2) (subst (Fact x) (sym (other_passes old.trace old.first old.calls).reads) fact) in
    elim new.is_short as (λ b. (b ≡ false → Fact x (areas_after new.first new.calls)) → IfSome (if b then None else Some (told_after new.trace new.first new.calls)) (λ (now : Told). Fact x now.areas)) [
      | true ↦ λ f. tt
      | false ↦ λ f. f refl
    ] here

not_past : (end : ℕ) → ltb 1099511627776 end ≡ false → end ≤ 1099511627776
not_past end h = grind (arith, nat_tests)

pub write_within : {T : Type 0} (old new : HostState) (end : ℕ) (a : Bool) (result : Result T Failed) → is_err result ≡ ((a || ltb 1099511627776 end) || new.is_short) → OnOk result (end ≤ 1099511627776)
write_within old new end a (Err e) says = tt
write_within old new end true (Ok x) says = cc
write_within old new end false (Ok x) says = not_past end (ok_not_failed (ltb 1099511627776 end) new.is_short says)

-- what a read gives after a call is told by what it gave
pub reads_after_is : (area : Area) (call : Call) (m : AreaState) → reads_after area call m.reads ≡ (after_call area call m).reads
reads_after_is area Other m = refl
reads_after_is area (Write of at bytes failed done) m = elim (is_same_area of area) as (λ b. (if b then after_write at bytes failed done (at_rest m.reads) else at_rest m.reads).reads ≡ (if b then after_write at bytes failed done m else m).reads) [ true ↦ refl | false ↦ refl ]
reads_after_is area (Cuts of len failed done) m = elim (is_same_area of area) as (λ b. (if b then after_cut len failed done (at_rest m.reads) else at_rest m.reads).reads ≡ (if b then after_cut len failed done m else m).reads) [ true ↦ refl | false ↦ refl ]
reads_after_is area (Sync of failed) m = elim (is_same_area of area) as (λ b. (if b then after_sync failed (at_rest m.reads) else at_rest m.reads).reads ≡ (if b then after_sync failed m else m).reads) [
  | true ↦ elim failed as (λ f. (after_sync f (at_rest m.reads)).reads ≡ (after_sync f m).reads) [ true ↦ refl | false ↦ refl ]
  | false ↦ refl
]

-- the three texts, after a call was done to each
pub texts_after : (first : Areas) (calls : List Call) (call : Call) (old new : Texts) → texts old ≡ areas_after first calls
    → (new.head.items ≡ reads_after Head call old.head.items) × (new.one.items ≡ reads_after One call old.one.items) × (new.two.items ≡ reads_after Two call old.two.items)
    → texts new ≡ areas_after first (calls ++ call ∷ [])
texts_after first calls call old new before done =
    areas_are _ _
    (done.0 ∙ ap (reads_after Head call) (ap (λ a. a.head) before) ∙ reads_after_is Head call (area_after first calls Head) ∙ sym (ap (λ m. m.reads) (area_after-push first calls call Head)))
    (done.1 ∙ ap (reads_after One call) (ap (λ a. a.one) before) ∙ reads_after_is One call (area_after first calls One) ∙ sym (ap (λ m. m.reads) (area_after-push first calls call One)))
    (done.2 ∙ ap (reads_after Two call) (ap (λ a. a.two) before) ∙ reads_after_is Two call (area_after first calls Two) ∙ sym (ap (λ m. m.reads) (area_after-push first calls call Two)))

pub not_err : {T E : Type 0} (r : Result T E) (P : Type 0) → is_err r ≡ false → OnOk r P → P
not_err (Ok x) P fine p = p
not_err (Err e) P fine p = absurd (not_both true refl fine)

second_false : (a b : Bool) → false ≡ (a || b) → b ≡ false
second_false true b is = cc
second_false false b is = sym is

-- what the code keeps of what a read gives, after a call that left the areas
pub reads_kept : (old new : HostState) (failed : Bool) (present : Areas) → false ≡ (failed || new.is_short) → new ≡ after_disk_call Other failed new.is_short old
    → (new.is_short ≡ false → present ≡ areas_after new.first new.calls) → present ≡ areas_after old.first old.calls
reads_kept old new failed present says state kept_now =
    let told : new.is_short ≡ false = second_false failed new.is_short says in
    let k = kept old new Other failed state told in
    kept_now told ∙ ap (λ first. areas_after first new.calls) k.1 ∙ ap (areas_after old.first) k.2 ∙ (other_passes old.trace old.first old.calls).reads
