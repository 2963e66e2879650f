-- The same where a host may tell or not, in the form in which the calls' proofs ask for it.
use Rattle.std.proofs.Common.{◌≡◌, ℕ, ◌+◌, ◌≤◌, List, [], ◌∷◌, ◌++◌, length, take, drop, ap, ◌∙◌, sym, subst, arith, Option, Some, None, IfSome, Result, Ok, Err, OnOk, OnErr}
use Rattle.std.specs.Option.{ForSome}
use Rattle.std.proofs.lemmas.List.{length-append, length-take}
use Rattle.fk_host.specs.declared.disk.Area.{Area}
use Rattle.fk_host.specs.Disk.{Areas, Told, IfTold, Passes, Same, Synced, InArea, Torn, Written, area_of}
use Rattle.fk_journal.specs.Entries.{Content, IsContent, body, entry_bytes, place_behind, IsClosedBehind}
use Rattle.fk_journal.specs.Keeps.{Log, Keeps, StandsOn, selected_area, selected, IsSettled, LeavesAllBut, LeavesOthers, IsAppend}
use Rattle.fk_journal.specs.Puts.{Puts, HasPut, IsHeldNow, IsHeld}
use Rattle.fk_journal.proofs.Told.{if_told_map, if_told_then, if_told_with, if_told_both}
use Rattle.fk_journal.proofs.Areas.{in_used, bytes_of}
use Rattle.fk_journal.proofs.Tails.{front}
use Rattle.fk_journal.proofs.PutLemmas.{written_bound, torn_bound, puts_write, puts_sync, has_put, others_put, others_then, append_torn, append_both, append_done, append_bytes}

pub on_ok_of : {T E : Type 0} (r : Result T E) (P : Type 0) → P → OnOk r P
on_ok_of (Ok x) P p = p
on_ok_of (Err e) P p = tt

-- a sync, whatever it answers
pub sync_either : {T E : Type 0} (used : Area) (r : Result T E) (s t : Option Told) (a b : ℕ → Areas → Type 0) → OnOk r (IfSome t (λ now. IfTold s t (Passes Same (Synced used now.areas) a b)))
    → OnErr r (IfTold s t (Passes Same Same a b)) → IfTold s t (Passes Same Same a b)
sync_either used (Err e) s t a b ok err = err
sync_either used (Ok x) s None a b ok err = tt
sync_either used (Ok x) s (Some y) a b ok err =
    if_told_map s (Some y) (Passes Same (Synced used y.areas) a b) (Passes Same Same a b) (λ p q pass. record {
      moments = pass.moments;
      reads = pass.reads;
      past = pass.past;
      now = λ image left. let r = pass.now image left in (r.0, r.1, r.2.0);
    }) ok

pub put_moments : (used : Area) (s t u : Option Told) (a b c : ℕ → Areas → Type 0) (at : ℕ) (bytes : List ℕ)
    → IfTold s t (Passes (InArea used (Written at bytes)) (InArea used (Torn at (length bytes))) a b) → IfTold t u (Passes Same Same b c) → IfTold s u (Puts used at (length bytes) a c)
put_moments used s t u a b c at bytes first second =
    if_told_then s t u _ _ (Puts used at (length bytes) a c) (λ x y z p q. puts_sync used at (length bytes) (Written at bytes) Same (written_bound at bytes) (λ from image same. same) a b c x y z p q) first second

pub put_write : (used : Area) (s t : Option Told) (a b : ℕ → Areas → Type 0) (at count : ℕ)
    → IfTold s t (Passes (InArea used (Torn at count)) (InArea used (Torn at count)) a b) → IfTold s t (Puts used at count a b)
put_write used s t a b at count first = if_told_map s t _ (Puts used at count a b) (λ x y p. puts_write used at count (Torn at count) (torn_bound at count) a b x y p) first

pub put_ok : {T E : Type 0} (used : Area) (r : Result T E) (s t u : Option Told) (a b c : ℕ → Areas → Type 0) (at : ℕ) (bytes : List ℕ)
    → IfTold s t (Passes (InArea used (Written at bytes)) (InArea used (Torn at (length bytes))) a b)
    → OnOk r (IfSome u (λ now. IfTold t u (Passes Same (Synced used now.areas) b c))) → OnOk r (IfTold s u (HasPut used at bytes c))
put_ok used (Err e) s t u a b c at bytes first second = tt
put_ok used (Ok k) s t None a b c at bytes first second = tt
put_ok used (Ok k) s None (Some z) a b c at bytes first second = absurd second
put_ok used (Ok k) None (Some y) (Some z) a b c at bytes first second = first
put_ok used (Ok k) (Some x) (Some y) (Some z) a b c at bytes first second = has_put used at bytes (InArea used (Torn at (length bytes))) a b c x y z first second

pub put_others : (used : Area) (s t : Option Told) (at count : ℕ) (a b : ℕ → Areas → Type 0) → IfTold s t (Puts used at count a b) → IfTold s t (LeavesAllBut used a b)
put_others used s t at count a b puts = if_told_map s t (Puts used at count a b) (LeavesAllBut used a b) (λ x y p. others_put used at count a b x y p) puts

pub entry_others : (used : Area) (s t u : Option Told) (at other count more : ℕ) (a b c : ℕ → Areas → Type 0) → IfTold s t (Puts used at count a b) → IfTold t u (Puts used other more b c) → IfTold s u (LeavesAllBut used a c)
entry_others used s t u at other count more a b c first second =
    if_told_then s t u (Puts used at count a b) (Puts used other more b c) (LeavesAllBut used a c)
    (λ x y z p q. others_then used a b c x y z p.later p.past q.past (others_put used at count a b x y p) (others_put used other more b c y z q)) first second

-- the closing gate is inside the area, and so is the place behind it
closed_length : (contents : List Content) (area : List ℕ) → IsClosedBehind contents area → place_behind contents + 1 ≤ length area
closed_length contents area held = omega (arith, ap length held.3.bytes, length-append (front contents) (held.0 ∷ held.1))

held_length : (used : Area) (contents : List Content) (x : Told) (a : ℕ → Areas → Type 0) → IsHeldNow used contents x a → place_behind contents + 1 ≤ length (area_of used x.areas)
held_length used contents x a held = subst (λ (bytes : List ℕ). place_behind contents + 1 ≤ length bytes) (bytes_of used x.areas held.selects) (closed_length contents (selected x.areas) held.closed)

pub behind_fits : (used : Area) (s : Option Told) (contents : List Content) (gate : ℕ) (a : ℕ → Areas → Type 0) → gate ≡ place_behind contents → IsHeld used contents s a
    → ForSome s (λ now. gate + 1 ≤ length (area_of used now.areas))
behind_fits used s contents gate a is held now told =
    let here : IsHeldNow used contents now a = subst (λ (o : Option Told). IsHeld used contents o a) told held in
    let fits = held_length used contents now a here in
    omega (arith, is, fits)

-- no write makes an area shorter
written_length : (at : ℕ) (bytes old new : List ℕ) → at ≤ length old → Written at bytes old new → at ≤ length new
written_length at bytes old new inside written =
    omega (arith, inside, ap length written, length-append (take at old ++ bytes) (drop (at + length bytes) old), length-append (take at old) bytes, length-take at old)

pub gate_fits : (used : Area) (s t : Option Told) (contents : List Content) (gate : ℕ) (bytes : List ℕ) (a b : ℕ → Areas → Type 0) → gate ≡ place_behind contents → IsHeld used contents s a
    → IfTold s t (HasPut used (gate + 1) bytes b) → ForSome t (λ now. gate ≤ length (area_of used now.areas))
gate_fits used s None contents gate bytes a b is held put now told = cc
gate_fits used None (Some y) contents gate bytes a b is held put now told = absurd put
gate_fits used (Some x) (Some y) contents gate bytes a b is held put now told =
    let fits = held_length used contents x a held in
    let same : y ≡ now = cc in
    let long = written_length (gate + 1) bytes (area_of used x.areas) (area_of used y.areas) (omega (arith, is, fits)) (in_used used (Written (gate + 1) bytes) x.areas y.areas put.reads) in
    let here : gate ≤ length (area_of used y.areas) = omega (arith, long) in
    subst (λ (n : Told). gate ≤ length (area_of used n.areas)) same here

pub entry_torn : (used : Area) (s t : Option Told) (contents : List Content) (content : Content) (gate count : ℕ) (a b : ℕ → Areas → Type 0) → gate ≡ place_behind contents → IsHeld used contents s a
    → IfTold s t (Puts used (gate + 1) count a b) → IfTold s t (IsAppend contents content a b)
entry_torn used s t contents content gate count a b is held puts =
    if_told_with s t (λ now. IsHeldNow used contents now a) (Puts used (gate + 1) count a b) (IsAppend contents content a b)
    (λ x y h p. append_torn used contents content count a b x y h (subst (λ (n : ℕ). Puts used (n + 1) count a b x y) is p)) held puts

-- what a first put is, in the words of the entry
pub record IsFirst (used : Area) (contents : List Content) (content : Content) (a b : ℕ → Areas → Type 0) (x y : Told) : Type 0 where
  pub held : IsHeldNow used contents x a
  pub puts : Puts used (place_behind contents + 1) (length (body content ++ 0 ∷ [])) a b x y
  pub done : HasPut used (place_behind contents + 1) (body content ++ 0 ∷ []) b x y

pub first_put : (used : Area) (s t : Option Told) (contents : List Content) (content : Content) (gate : ℕ) (bytes : List ℕ) (a b : ℕ → Areas → Type 0)
    → bytes ≡ body content ++ 0 ∷ [] → gate ≡ place_behind contents → IsHeld used contents s a
    → IfTold s t (Puts used (gate + 1) (length bytes) a b) → IfTold s t (HasPut used (gate + 1) bytes b) → IfTold s t (IsFirst used contents content a b)
first_put used s t contents content gate bytes a b bytes_are is held puts done =
    if_told_with s t (λ now. IsHeldNow used contents now a) (λ x y. Puts used (gate + 1) (length bytes) a b x y × HasPut used (gate + 1) bytes b x y) (IsFirst used contents content a b)
    (λ x y h p. record {
      held = h;
      puts = subst (λ (w : List ℕ). Puts used (place_behind contents + 1) (length w) a b x y) bytes_are (subst (λ (n : ℕ). Puts used (n + 1) (length bytes) a b x y) is p.0);
      done = subst (λ (w : List ℕ). HasPut used (place_behind contents + 1) w b x y) bytes_are (subst (λ (n : ℕ). HasPut used (n + 1) bytes b x y) is p.1);
    }) held (if_told_both s t _ _ puts done)

pub entry_moments : (used : Area) (s t u : Option Told) (contents : List Content) (content : Content) (gate : ℕ) (a b c : ℕ → Areas → Type 0) → IsContent content → gate ≡ place_behind contents
    → IfTold s t (IsFirst used contents content a b) → IfTold t u (Puts used gate 1 b c) → IfTold s u (IsAppend contents content a c)
entry_moments used s t u contents content gate a b c one is first second =
    if_told_then s t u (IsFirst used contents content a b) (Puts used gate 1 b c) (IsAppend contents content a c)
    (λ x y z p q. append_both used contents content a b c x y z one p.held p.puts p.done (subst (λ (n : ℕ). Puts used n 1 b c y z) is q)) first second

pub entry_held : {T E : Type 0} (used : Area) (r : Result T E) (s t u : Option Told) (contents : List Content) (content : Content) (gate : ℕ) (a b c : ℕ → Areas → Type 0) → IsContent content → gate ≡ place_behind contents
    → IfTold s t (IsFirst used contents content a b) → IfTold t u (Puts used gate 1 b c) → OnOk r (IfTold t u (HasPut used gate (1 ∷ []) c)) → OnOk r (IsHeld used (contents ++ content ∷ []) u c)
entry_held used (Err e) s t u contents content gate a b c one is first second done = tt
entry_held used (Ok k) s t None contents content gate a b c one is first second done = tt
entry_held used (Ok k) s None (Some z) contents content gate a b c one is first second done = absurd second
entry_held used (Ok k) None (Some y) (Some z) contents content gate a b c one is first second done = absurd first
entry_held used (Ok k) (Some x) (Some y) (Some z) contents content gate a b c one is first second done =
    append_done used contents content a b c x y z one first.held first.puts first.done (subst (λ (n : ℕ). Puts used n 1 b c y z) is second) (subst (λ (n : ℕ). HasPut used n (1 ∷ []) c y z) is done)

pub entry_written : {T E : Type 0} (used : Area) (r : Result T E) (s t u : Option Told) (contents : List Content) (content : Content) (gate : ℕ) (a b c : ℕ → Areas → Type 0) → gate ≡ place_behind contents
    → IfTold s t (IsFirst used contents content a b) → OnOk r (IfTold t u (HasPut used gate (1 ∷ []) c))
    → OnOk r (IfTold s u (λ before after. Written gate (entry_bytes content ++ 0 ∷ []) (selected before.areas) (selected after.areas)))
entry_written used (Err e) s t u contents content gate a b c is first second = tt
entry_written used (Ok k) s t u contents content gate a b c is first second =
    if_told_then s t u (IsFirst used contents content a b) (HasPut used gate (1 ∷ []) c) _
    (λ x y z p q. subst (λ (n : ℕ). Written n (entry_bytes content ++ 0 ∷ []) (selected x.areas) (selected z.areas)) (sym is)
    (append_bytes used contents content a b c x y z p.held p.done (subst (λ (n : ℕ). HasPut used n (1 ∷ []) c y z) is q))) first second

pub entry_calls : {T E : Type 0} (used other : Area) (r : Result T E) (s t u : Option Told) (at gate : ℕ) (bytes more : List ℕ) (b c : ℕ → Areas → Type 0)
    → IfTold s t (HasPut used at bytes b) → OnOk r (IfTold t u (HasPut other gate more c)) → OnOk r (IfTold s u (λ before after. after.moments ≡ before.moments + 4))
entry_calls used other (Err e) s t u at gate bytes more b c first second = tt
entry_calls used other (Ok k) s t u at gate bytes more b c first second =
    if_told_then s t u (HasPut used at bytes b) (HasPut other gate more c) _ (λ x y z p q. omega (arith, p.moments, q.moments)) first second

-- what the journal keeps, in the words of its area, and back
pub held_of : (log : Log) (contents : List Content) (s : Option Told) (a : ℕ → Areas → Type 0) → Keeps log contents s a → IsHeld log.area contents s a
held_of log contents None a keeps = tt
held_of log contents (Some x) a keeps = record { selects = keeps.stands; closed = keeps.held.0; settled = keeps.held.1 }

pub keeps_of : (log : Log) (used : Area) (contents : List Content) (s : Option Told) (a : ℕ → Areas → Type 0) → log.area ≡ used → log.end ≡ place_behind contents → IsHeld used contents s a → Keeps log contents s a
keeps_of log used contents None a same behind held = record { behind = behind; stands = tt; held = tt }
keeps_of log used contents (Some x) a same behind held = record { behind = behind; stands = held.selects ∙ sym same; held = (held.closed, held.settled) }

pub held_stands : (used : Area) (contents : List Content) (s : Option Told) (a : ℕ → Areas → Type 0) → IsHeld used contents s a → StandsOn used s
held_stands used contents None a held = tt
held_stands used contents (Some x) a held = held.selects

pub held_both : (used : Area) (contents : List Content) (s : Option Told) (a : ℕ → Areas → Type 0) → IsHeld used contents s a → IfSome s (λ now. IsClosedBehind contents (selected now.areas) × IsSettled now a)
held_both used contents None a held = tt
held_both used contents (Some x) a held = (held.closed, held.settled)

-- the area that is used is the one that Head selects
pub others_selected : (used : Area) (s t : Option Told) (a b : ℕ → Areas → Type 0) → StandsOn used s → IfTold s t (LeavesAllBut used a b) → IfTold s t (LeavesOthers a b)
others_selected used s t a b stands left =
    if_told_with s t (λ now. selected_area now.areas ≡ used) (LeavesAllBut used a b) (LeavesOthers a b)
    (λ x y is o. subst (λ (area : Area). LeavesAllBut area a b x y) (sym is) o) stands left

pub held_at : (log : Log) (used : Area) (contents : List Content) (s : Option Told) (a : ℕ → Areas → Type 0) → used ≡ log.area → Keeps log contents s a → IsHeld used contents s a
held_at log used contents s a same keeps = subst (λ (area : Area). IsHeld area contents s a) (sym same) (held_of log contents s a keeps)

pub others_at : (log : Log) (used : Area) (contents : List Content) (s t : Option Told) (a b : ℕ → Areas → Type 0) → used ≡ log.area → Keeps log contents s a → IfTold s t (LeavesAllBut used a b) → IfTold s t (LeavesOthers a b)
others_at log used contents s t a b same keeps left =
    others_selected used s t a b (subst (λ (area : Area). StandsOn area s) (sym same) keeps.stands) left
