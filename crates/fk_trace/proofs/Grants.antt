-- What a turn's answer says of its datagram.
use Rattle.std.proofs.Common.{◌≡◌, ◌⊎◌, ℕ, ◌≤◌, Bool, true, false, cond, nat_eq, List, [], ◌∷◌, Option, Some, None, refl, sym, ap, ◌∙◌, subst, arith, inl, inr}
use Rattle.std.specs.Prelude.{nat_lt, ◌&&◌}
use Rattle.std.specs.Cmp.Lexicographic.{pointwise}
use Rattle.std.proofs.lemmas.Bool.{false_from_ne_true, ltb-false, le-ltb}
use Rattle.std.proofs.lemmas.Slice.Eq.{bytes_eq-Decides}
use Rattle.fk_base.specs.declared.address.Ip4.{Ip4}
use Rattle.fk_trace.specs.declared.change.OpenRecord.{OpenRecord}
use Rattle.fk_trace.specs.declared.change.Change.{Change}
use Rattle.fk_trace.specs.declared.change.Change.TheVariants.{Open as OpenChange}
use Rattle.fk_trace.specs.declared.refusal.LogWhy.{LogWhy}
use Rattle.fk_trace.specs.declared.refusal.LogWhy.TheVariants.{Replay, Stale}
use Rattle.fk_trace.specs.Ledger.{Key, key_of, seen, is_seen, IsSeen, floor_of, next_id, opens, dones, kept, rise, after_one, after}
use Rattle.fk_trace.specs.Decision.{Input, FeedTurn, Permit, Verdict, Room, Rules, Answer, IsGranted, record_of, has_place, floor_at, rise_at, making_placed, making, answer, answer_made, answer_by, answer_formed, answer_to, recorded_by}
use Rattle.fk_trace.specs.Decision.Input.{Quiet, Datagram}
use Rattle.fk_trace.specs.Decision.Verdict.{Granted, Refused}
use Rattle.fk_trace.specs.Decision.Answer.{Nothing, Refuses, Opens}
use Rattle.fk_trace.proofs.Lists.{Contains-map, Contains-unmap, list_any-at, list_any-none}
use Rattle.fk_trace.proofs.Ledgers.{seen-kept, next_id-rise}
use Rattle.fk_trace.proofs.Made.{AreMade, unbarred}

-- what isn't seen is not among the digests
pub fresh-unseen : (digest : List ℕ) (ledger : List Change) → is_seen digest ledger ≡ false → IsSeen digest ledger → ⊥
fresh-unseen digest ledger unseen m =
    let at = Contains-unmap (λ (key : Key). key.digest) (seen ledger) digest m in
    let differs = list_any-none (λ (key : Key). pointwise nat_eq key.digest digest) (seen ledger) unseen at.0 at.1 in
    let same : pointwise nat_eq at.0.digest digest ≡ true = (bytes_eq-Decides at.0.digest digest).1 at.2 in
    cc

-- and what is not among them isn't seen
pub unseen-fresh : (digest : List ℕ) (ledger : List Change) → (IsSeen digest ledger → ⊥) → is_seen digest ledger ≡ false
unseen-fresh digest ledger fresh =
    false_from_ne_true (is_seen digest ledger) (λ known.
    let at = list_any-at (λ (key : Key). pointwise nat_eq key.digest digest) (seen ledger) known in
    fresh (subst (λ (other : List ℕ). IsSeen other ledger) ((bytes_eq-Decides at.0.digest digest).0 at.2) (Contains-map (λ (key : Key). key.digest) (seen ledger) at.0 at.1)))

-- what is granted is opened
pub opens-granted : (rules : Rules) (ledger : List Change) (turn : FeedTurn) (item : OpenRecord) (changes : List Change) (words : List (List ℕ))
    → (granted : IsGranted rules ledger turn item changes words) → answer rules ledger turn ≡ Opens item granted.permit changes
opens-granted rules ledger turn item changes words granted =
    let moment : ℕ = turn.moment in
    let permit : Permit = granted.permit in
    let made : OpenRecord = record_of rules ledger moment granted.datagram permit in
    let other : Answer = answer_by rules ledger moment granted.datagram (rules.admit moment granted.source granted.datagram) in
    let by_room : Answer = answer_made made permit (making rules.room moment ledger (OpenChange made)) in
    let room : making rules.room moment ledger (OpenChange made) ≡ Some changes = ap (λ (r : OpenRecord). making rules.room moment ledger (OpenChange r)) (sym granted.recorded) ∙ granted.room in
    ap (answer_to rules ledger moment) granted.brought
    ∙ ap (answer_formed rules ledger moment granted.source granted.datagram) granted.formed
    ∙ ap (λ (known : Bool). cond known (Refuses Replay) other) (unseen-fresh (rules.digest granted.datagram) ledger granted.fresh)
    ∙ ap (answer_by rules ledger moment granted.datagram) granted.granted
    ∙ ap (λ (stale : Bool). cond stale (Refuses Stale) by_room) (le-ltb permit.stamp (floor_of ledger) granted.current)
    ∙ ap (answer_made made permit) room
    ∙ ap (λ (record_made : OpenRecord). Opens record_made permit changes) (sym granted.recorded)

module _ (item : OpenRecord) (permit : Permit) (changes : List Change) where
  opens_with_room : (room : Option (List Change)) (made : OpenRecord) (given : Permit) → answer_made made given room ≡ Opens item permit changes → (item ≡ made) × (given ≡ permit) × (room ≡ Some changes)
  opens_with_room (Some others) made given e = (cc, cc, cc)
  opens_with_room None made given e = absurd cc

  opens_unseen : (known : Bool) (other : Answer) → cond known (Refuses Replay) other ≡ Opens item permit changes → (known ≡ false) × (other ≡ Opens item permit changes)
  opens_unseen true other e = absurd cc
  opens_unseen false other e = (refl, e)

  opens_current : (stale : Bool) (other : Answer) → cond stale (Refuses Stale) other ≡ Opens item permit changes → (stale ≡ false) × (other ≡ Opens item permit changes)
  opens_current true other e = absurd cc
  opens_current false other e = (refl, e)

  opens_granted : (rules : Rules) (ledger : List Change) (moment : ℕ) (datagram : List ℕ) (verdict : Verdict) → answer_by rules ledger moment datagram verdict ≡ Opens item permit changes
      → (verdict ≡ Granted permit) × (item ≡ record_of rules ledger moment datagram permit) × (making rules.room moment ledger (OpenChange item) ≡ Some changes) × (floor_of ledger ≤ permit.stamp)
  opens_granted rules ledger moment datagram (Granted given) e =
      let made : OpenRecord = record_of rules ledger moment datagram given in
      let current = opens_current (nat_lt given.stamp (floor_of ledger)) (answer_made made given (making rules.room moment ledger (OpenChange made))) e in
      let both = opens_with_room (making rules.room moment ledger (OpenChange made)) made given current.1 in (
        ap Granted both.1,
        both.0 ∙ ap (record_of rules ledger moment datagram) both.1,
        ap (λ (r : OpenRecord). making rules.room moment ledger (OpenChange r)) both.0 ∙ both.2,
        subst (λ (p : Permit). floor_of ledger ≤ p.stamp) both.1 (ltb-false given.stamp (floor_of ledger) current.0),
      )
  opens_granted rules ledger moment datagram (Refused why) e = absurd cc

  opens_formed : (rules : Rules) (ledger : List Change) (moment : ℕ) (source : Ip4) (datagram : List ℕ) (shape : Option LogWhy) → answer_formed rules ledger moment source datagram shape ≡ Opens item permit changes
      → (shape ≡ None) × (is_seen (rules.digest datagram) ledger ≡ false) × (rules.admit moment source datagram ≡ Granted permit) × (item ≡ record_of rules ledger moment datagram permit)
      × (making rules.room moment ledger (OpenChange item) ≡ Some changes) × (floor_of ledger ≤ permit.stamp)
  opens_formed rules ledger moment source datagram (Some why) e = absurd cc
  opens_formed rules ledger moment source datagram None e =
      let unseen = opens_unseen (is_seen (rules.digest datagram) ledger) (answer_by rules ledger moment datagram (rules.admit moment source datagram)) e in
      let both = opens_granted rules ledger moment datagram (rules.admit moment source datagram) unseen.1 in
      (refl, unseen.0, both.0, both.1, both.2, both.3)

  opens_brought : (rules : Rules) (ledger : List Change) (moment : ℕ) (input : Input) → answer_to rules ledger moment input ≡ Opens item permit changes
      → (source : Ip4) × (datagram : List ℕ) × (input ≡ Datagram source datagram) × (answer_formed rules ledger moment source datagram (rules.misshapen datagram) ≡ Opens item permit changes)
  opens_brought rules ledger moment Quiet e = absurd cc
  opens_brought rules ledger moment (Datagram source datagram) e = (source, datagram, refl, e)

  -- what is opened was granted
  pub granted-opens : (rules : Rules) (ledger : List Change) (turn : FeedTurn) → answer rules ledger turn ≡ Opens item permit changes → IsGranted rules ledger turn item changes permit.opening
  granted-opens rules ledger turn e =
      let brought = opens_brought rules ledger turn.moment turn.input e in
      let formed = opens_formed rules ledger turn.moment brought.0 brought.1 (rules.misshapen brought.1) brought.3 in
      record {
        source = brought.0;
        datagram = brought.1;
        permit = permit;
        brought = brought.2;
        formed = formed.0;
        fresh = fresh-unseen (rules.digest brought.1) ledger formed.1;
        granted = formed.2;
        current = formed.5;
        recorded = formed.3;
        room = formed.4;
        opening = refl;
      }

-- what is made for a record: it alone, or first the Floor with which the ledger begins anew
abbrev pub AreFor : Room → ℕ → List Change → OpenRecord → List Change → Type 0
AreFor room moment ledger item changes = (changes ≡ OpenChange item ∷ []) ⊎ (changes ≡ rise_at room moment ledger ∷ OpenChange item ∷ [])

pub making-made : (room : Room) (moment : ℕ) (ledger : List Change) (item : OpenRecord) (changes : List Change) → making room moment ledger (OpenChange item) ≡ Some changes
    → AreFor room moment ledger item changes
making-made room moment ledger item changes e =
    let change : Change = OpenChange item in
    let first : Change = rise_at room moment ledger in
    let anew : Option (List Change) = cond (room.fits (after ledger (first ∷ change ∷ []))) (Some (first ∷ change ∷ [])) None in
    (elim (has_place room ledger change) as (λ (b : Bool). cond b (making_placed room moment ledger change) None ≡ Some changes → AreFor room moment ledger item changes) [
      | true ↦ elim (room.fits (after ledger (change ∷ []))) as (λ (c : Bool). cond c (Some (change ∷ [])) anew ≡ Some changes → AreFor room moment ledger item changes) [
        | true ↦ λ f. inl cc
        | false ↦ elim (room.fits (after ledger (first ∷ change ∷ []))) as (λ (d : Bool). cond d (Some (first ∷ change ∷ [])) None ≡ Some changes → AreFor room moment ledger item changes) [
          | true ↦ λ f. inr cc
          | false ↦ λ f. absurd cc
        ]
      ]
      | false ↦ λ f. absurd cc
    ]) e

-- what is made for a record may be made
for-made : (MayEnd : List Change → ℕ → Type 0) (room : Room) (moment : ℕ) (ledger : List Change) (item : OpenRecord) (changes : List Change) → item.id ≡ next_id ledger
    → (IsSeen item.digest.0 ledger → ⊥) → floor_of ledger ≤ item.stamp → AreFor room moment ledger item changes → AreMade MayEnd ledger changes
for-made MayEnd room moment ledger item changes numbered fresh current (inl e) =
    subst (λ (cs : List Change). AreMade MayEnd ledger cs) (sym e) ((numbered, fresh, unbarred ledger (key_of item) fresh current), tt)
for-made MayEnd room moment ledger item changes numbered fresh current (inr e) =
    let floor : ℕ = floor_at room.keep moment ledger in
    let anew : List Change = after_one ledger (rise floor ledger) in
    let unseen : IsSeen item.digest.0 anew → ⊥ = λ known.
    let at = Contains-unmap (λ (key : Key). key.digest) (seen (kept floor ledger)) item.digest.0 known in
    fresh (subst (λ (digest : List ℕ). IsSeen digest ledger) at.2 (Contains-map (λ (key : Key). key.digest) (seen ledger) at.0 (seen-kept floor ledger ledger at.0 at.1))) in
    subst (λ (cs : List Change). AreMade MayEnd ledger cs) (sym e)
    ((refl, grind arith), ((numbered ∙ sym (next_id-rise floor ledger), unseen, unbarred ledger (key_of item) fresh current), tt))

-- what a turn's answer makes may be made
pub granted-made : (MayEnd : List Change → ℕ → Type 0) (rules : Rules) (ledger : List Change) (turn : FeedTurn) (item : OpenRecord) (changes : List Change) (words : List (List ℕ))
    → IsGranted rules ledger turn item changes words → AreMade MayEnd ledger changes
granted-made MayEnd rules ledger turn item changes words granted =
    let digest : item.digest.0 ≡ rules.digest granted.datagram = ap (λ (r : OpenRecord). r.digest.0) granted.recorded in
    let stamp : item.stamp ≡ granted.permit.stamp = ap (λ (r : OpenRecord). r.stamp) granted.recorded in
    for-made MayEnd rules.room turn.moment ledger item changes (ap (λ (r : OpenRecord). r.id) granted.recorded)
    (subst (λ (d : List ℕ). IsSeen d ledger → ⊥) (sym digest) granted.fresh)
    (subst (λ (n : ℕ). floor_of ledger ≤ n) (sym stamp) granted.current)
    (making-made rules.room turn.moment ledger item changes granted.room)

pub answer-made : (MayEnd : List Change → ℕ → Type 0) (rules : Rules) (ledger : List Change) (turn : FeedTurn) (a : Answer) → answer rules ledger turn ≡ a → AreMade MayEnd ledger (recorded_by a)
answer-made MayEnd rules ledger turn Nothing e = tt
answer-made MayEnd rules ledger turn (Refuses why) e = tt
answer-made MayEnd rules ledger turn (Opens item permit changes) e = granted-made MayEnd rules ledger turn item changes permit.opening (granted-opens item permit changes rules ledger turn e)

-- it makes one record, and settles nothing
for-opens : (room : Room) (moment : ℕ) (ledger : List Change) (item : OpenRecord) (changes : List Change) → AreFor room moment ledger item changes → (opens changes ≡ item ∷ []) × (dones changes ≡ [])
for-opens room moment ledger item changes (inl e) = (ap opens e, ap dones e)
for-opens room moment ledger item changes (inr e) = (ap opens e, ap dones e)

-- what an answer makes is for its record
pub answer-for : (rules : Rules) (ledger : List Change) (turn : FeedTurn) (item : OpenRecord) (permit : Permit) (changes : List Change) → answer rules ledger turn ≡ Opens item permit changes
    → AreFor rules.room turn.moment ledger item changes
answer-for rules ledger turn item permit changes e = making-made rules.room turn.moment ledger item changes (granted-opens item permit changes rules ledger turn e).room

pub opens-answer : (rules : Rules) (ledger : List Change) (turn : FeedTurn) (item : OpenRecord) (permit : Permit) (changes : List Change) → answer rules ledger turn ≡ Opens item permit changes
    → opens changes ≡ item ∷ []
opens-answer rules ledger turn item permit changes e = (for-opens rules.room turn.moment ledger item changes (answer-for rules ledger turn item permit changes e)).0

pub dones-answer : (rules : Rules) (ledger : List Change) (turn : FeedTurn) (a : Answer) → answer rules ledger turn ≡ a → dones (recorded_by a) ≡ []
dones-answer rules ledger turn Nothing e = refl
dones-answer rules ledger turn (Refuses why) e = refl
dones-answer rules ledger turn (Opens item permit changes) e = (for-opens rules.room turn.moment ledger item changes (answer-for rules ledger turn item permit changes e)).1
