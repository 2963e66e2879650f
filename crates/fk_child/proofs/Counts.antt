-- At most two children run for each record that is owed, and each record that is yet to be settled is one that is live.
use Rattle.std.proofs.Common.{◌≡◌, ◌≢◌, ℕ, ◌+◌, ◌*◌, ◌<◌, ◌≤◌, zero, suc, Bool, true, not, eqb, nat_eq, List, [], ◌∷◌, ◌++◌, length, map, get_or, ap, subst, arith}
use Rattle.std.specs.Cmp.{nat_eq_equiv, unsigned_Decides}
use Rattle.std.specs.List.{All, AllPairs, Contains, filter, list_any}
use Rattle.std.proofs.lemmas.List.{length-append, length-map}
use Rattle.std.proofs.lemmas.List.Elements.{All-map, All-weaker, All-contains, Contains-append_left, Contains-append_right}
use Rattle.std.proofs.lemmas.List.Sums.{length-filter, count_by-le-length}
use Rattle.std.proofs.lemmas.Map.Made.{length-le_from_is_member, IsDistinct-from_AllPairs}
use Rattle.std.proofs.lemmas.Bool.{eqb-true}
use Rattle.fk_base.specs.declared.purpose.Purpose.{Purpose}
use Rattle.fk_base.specs.declared.purpose.Purpose.TheVariants.{Open, Close}
use Rattle.fk_trace.specs.declared.change.OpenRecord.{OpenRecord}
use Rattle.fk_trace.specs.declared.change.Change.{Change}
use Rattle.fk_trace.specs.Trace.{Item, Child, running}
use Rattle.fk_trace.specs.Ledger.{live}
use Rattle.fk_trace.proofs.Lists.{Contains-map, Contains-unmap, list_any-at, list_any-from}
use Rattle.fk_cycle.specs.Kept.{Kept}
use Rattle.fk_cycle.specs.Stands.{Obligation, Stands, record_of, is_owed}
use Rattle.fk_child.specs.Crew.{obligation_of, obligations_but}
use Rattle.fk_child.proofs.Pieces.{pairs-head, pairs-tail}

-- a list of distinct numbers that another list has is no longer than that
pub few : (xs ys : List ℕ) → AllPairs (λ a b. a ≢ b) xs → ((n : ℕ) → Contains xs n → Contains ys n) → length xs ≤ length ys
few xs ys apart has =
    length-le_from_is_member nat_eq_equiv xs ys (IsDistinct-from_AllPairs unsigned_Decides xs apart)
    (λ q t. let at = list_any-at (nat_eq q) xs t in list_any-from (nat_eq q) ys at.0 (has at.0 at.1) at.2)

pairs-at : {X : Type 0} (R : X → X → Type 0) (x : X) (xs : List X) → All (R x) xs → AllPairs R xs → (i j : ℕ) (d : X) → i < j → j < length (x ∷ xs) → R (get_or (x ∷ xs) i d) (get_or (x ∷ xs) j d)
pairs-at R x xs h t zero zero d l m = absurd (omega arith)
pairs-at R x xs h t zero (suc j) d l m = h j d (omega arith)
pairs-at R x xs h t (suc i) zero d l m = absurd (omega arith)
pairs-at R x xs h t (suc i) (suc j) d l m = t i j d (omega arith) (omega arith)

pub pairs-cons : {X : Type 0} (R : X → X → Type 0) (x : X) (xs : List X) → All (R x) xs → AllPairs R xs → AllPairs R (x ∷ xs)
pairs-cons R x xs h t = pairs-at R x xs h t

-- a number for each purpose
abbrev code : Purpose → ℕ
code (Open id) = 2 * id
code (Close id) = 2 * id + 1

code-one : (a b : Purpose) → code a ≡ code b → a ≡ b
code-one (Open a) (Open b) e = ap Open (let same : a ≡ b = omega arith in same)
code-one (Open a) (Close b) e = absurd (omega arith)
code-one (Close a) (Open b) e = absurd (omega arith)
code-one (Close a) (Close b) e = ap Close (let same : a ≡ b = omega arith in same)

codes-apart : (cs : List Child) → AllPairs (λ (a b : Child). a.purpose ≢ b.purpose) cs → AllPairs (λ a b. a ≢ b) (map (λ (c : Child). code c.purpose) cs)
codes-apart [] apart = λ i j d l m. absurd (omega arith)
codes-apart (c ∷ cs) apart =
    pairs-cons (λ a b. a ≢ b) (code c.purpose) (map (λ (x : Child). code x.purpose) cs)
    (All-map (λ n. code c.purpose ≢ n) (λ (x : Child). code x.purpose) cs
    (All-weaker (λ (x : Child). c.purpose ≢ x.purpose) (λ (x : Child). code c.purpose ≢ code x.purpose) (λ x differ e. differ (code-one c.purpose x.purpose e)) cs (pairs-head (λ (a b : Child). a.purpose ≢ b.purpose) c cs apart)))
    (codes-apart cs (pairs-tail (λ (a b : Child). a.purpose ≢ b.purpose) c cs apart))

abbrev codes_of : List Obligation → List ℕ
codes_of live = map (λ (o : Obligation). 2 * o.id) live ++ map (λ (o : Obligation). 2 * o.id + 1) live

code-owed : (live : List Obligation) (purpose : Purpose) → is_owed live (record_of purpose) ≡ true → Contains (codes_of live) (code purpose)
code-owed live (Open id) owed =
    let at = list_any-at (λ (o : Obligation). eqb o.id id) live owed in
    let same : at.0.id ≡ id = eqb-true at.0.id id at.2 in
    subst (λ n. Contains (codes_of live) (2 * n)) same
    (Contains-append_left (map (λ (o : Obligation). 2 * o.id) live) (map (λ (o : Obligation). 2 * o.id + 1) live) (2 * at.0.id) (Contains-map (λ (o : Obligation). 2 * o.id) live at.0 at.1))
code-owed live (Close id) owed =
    let at = list_any-at (λ (o : Obligation). eqb o.id id) live owed in
    let same : at.0.id ≡ id = eqb-true at.0.id id at.2 in
    subst (λ n. Contains (codes_of live) (2 * n + 1)) same
    (Contains-append_right (map (λ (o : Obligation). 2 * o.id) live) (map (λ (o : Obligation). 2 * o.id + 1) live) (2 * at.0.id + 1) (Contains-map (λ (o : Obligation). 2 * o.id + 1) live at.0 at.1))

-- an open and a close run at most for each record that is owed
pub runs-few : (kept : List Kept) (past : List Item) (ends : List ℕ) (live : List Obligation) → Stands kept past ends live → length (running past) ≤ 2 * length live
runs-few kept past ends live stands =
    let xs : List ℕ = map (λ (c : Child). code c.purpose) (running past) in
    let least : length xs ≤ length (codes_of live) = few xs (codes_of live) (codes-apart (running past) stands.orderly.apart) (λ n m.
    let at = Contains-unmap (λ (c : Child). code c.purpose) (running past) n m in
    let owed = All-contains (λ (c : Child). is_owed live (record_of c.purpose) ≡ true) (running past) at.0 stands.held at.1 in
    subst (λ k. Contains (codes_of live) k) at.2 (code-owed live at.0.purpose owed)) in
    let a = length-map (running past) (λ (c : Child). code c.purpose) in
    let b = length-append (map (λ (o : Obligation). 2 * o.id) live) (map (λ (o : Obligation). 2 * o.id + 1) live) in
    let d = length-map live (λ (o : Obligation). 2 * o.id) in
    let e = length-map live (λ (o : Obligation). 2 * o.id + 1) in
    omega arith

-- no more is owed than is live
pub owed-few : (unsettled : List ℕ) (ledger : List Change) → length (obligations_but unsettled ledger) ≤ length (live ledger)
owed-few unsettled ledger =
    let kept : OpenRecord → Bool = λ item. not (list_any (λ id. eqb id item.id) unsettled) in
    let a = length-map (filter kept (live ledger)) obligation_of in
    let b = length-filter kept (live ledger) in
    let d = count_by-le-length kept (live ledger) in
    omega arith
