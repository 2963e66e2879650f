-- How a record is settled.
use Rattle.std.proofs.Common.{◌≡◌, ◌≢◌, ℕ, zero, suc, Bool, true, false, not, ◌||◌, eqb, List, [], ◌∷◌, ◌++◌, map, get_or, Some, refl, sym, ap, ◌∙◌, subst, arith}
use Rattle.std.specs.Prelude.{slice_get}
use Rattle.std.specs.List.{All, AllPairs, Contains, filter, list_any, remove}
use Rattle.std.proofs.lemmas.List.Elements.{All-contains, All-head, All-map}
use Rattle.fk_trace.specs.declared.change.OpenRecord.{OpenRecord}
use Rattle.fk_trace.specs.declared.change.Change.{Change}
use Rattle.fk_trace.specs.declared.change.Change.TheVariants.{Done}
use Rattle.fk_trace.specs.Ledger.{after, live, next_id, IsLedger}
use Rattle.fk_trace.proofs.Lists.{Contains-tail, filter-map, All-by}
use Rattle.fk_trace.proofs.Ledgers.{filter-filter, live-push_done, next_id-push}
use Rattle.fk_run.specs.Place.{Place, changed}
use Rattle.fk_run.proofs.Ledgers.{live-kept_done}
use Rattle.fk_cycle.specs.Stands.{Obligation, Stands}
use Rattle.fk_host.specs.Disk.{Above, IfTold}
use Rattle.fk_host.specs.Count.{counted}
use Rattle.fk_ledger.specs.Book.{Book, live_ids}
use Rattle.fk_ledger.specs.Holds.{KeepsLedger}
use Rattle.fk_ledger.specs.Stretch.{Stretch}
use Rattle.fk_child.specs.View.{View, MakesCalls, Adds, SparesOthers}
use Rattle.fk_child.specs.Crew.{CrewState, IsTied, StandsAt, obligation_of, obligations_but}
use Rattle.fk_child.specs.Calls.{SettlesFirst, FailsToSettle}
use Rattle.fk_child.proofs.Pieces.{pairs-head, pairs-tail, remove-distinct}
use Rattle.fk_child.proofs.Images.{adds-made, adds-failing}
use Rattle.fk_child.proofs.Others.{others-select}
use Rattle.fk_child.proofs.Counts.{pairs-cons}
use Rattle.fk_child.proofs.Records.{live-apart}
use Rattle.fk_child.proofs.Ties.{with_host}

-- what is read at a place
pub read-at : (xs : List ℕ) (i x d : ℕ) → slice_get xs i ≡ Some x → get_or xs i d ≡ x
read-at [] i x d at = absurd cc
read-at (y ∷ xs) zero x d at = cc
read-at (y ∷ xs) (suc i) x d at = read-at xs i x d at

ids-apart : (items : List OpenRecord) → AllPairs (λ (a b : OpenRecord). a.id ≢ b.id) items → AllPairs (λ a b. a ≢ b) (map (λ (item : OpenRecord). item.id) items)
ids-apart [] apart = λ i j d l m. absurd (omega arith)
ids-apart (item ∷ items) apart =
    pairs-cons (λ a b. a ≢ b) item.id (map (λ (x : OpenRecord). x.id) items)
    (All-map (λ n. item.id ≢ n) (λ (x : OpenRecord). x.id) items (pairs-head (λ (a b : OpenRecord). a.id ≢ b.id) item items apart))
    (ids-apart items (pairs-tail (λ (a b : OpenRecord). a.id ≢ b.id) item items apart))

-- a settled record is live no more
ids-settled : (ledger : List Change) (id : ℕ) → live_ids (ledger ++ Done id ∷ []) ≡ filter (λ n. not (eqb id n)) (live_ids ledger)
ids-settled ledger id =
    ap (map (λ (item : OpenRecord). item.id)) (live-push_done ledger id) ∙ sym (filter-map (λ (item : OpenRecord). item.id) (λ n. not (eqb id n)) (live ledger))

owed-settled : (ledger : List Change) (id : ℕ) (others : List ℕ) → obligations_but (id ∷ others) ledger ≡ obligations_but others (ledger ++ Done id ∷ [])
owed-settled ledger id others =
    let this : OpenRecord → Bool = λ item. eqb id item.id in
    let among : OpenRecord → Bool = λ item. list_any (λ other. eqb other item.id) others in
    ap (map obligation_of) (filter-filter this among (λ item. this item || among item) (λ item. refl) (live ledger))
    ∙ sym (ap (λ (items : List OpenRecord). map obligation_of (filter (λ item. not (among item)) items)) (live-push_done ledger id))

module _ (crew : CrewState) (above : Above) (place : Place) (tied : IsTied crew above place) (id : ℕ) (others : List ℕ) (first : crew.unsettled ≡ id ∷ others) where
  pub first-lives : Contains (live_ids place.ledger) id
  first-lives = All-head (Contains (live_ids place.ledger)) id others (subst (λ (ids : List ℕ). All (Contains (live_ids place.ledger)) ids) first tied.waits)

  pub first-owed : Contains crew.owed id
  first-owed = subst (λ (ids : List ℕ). Contains ids id) (sym tied.owes) first-lives

  pub tied-settled : (crew' : CrewState) (index : ℕ) → IsLedger place.ledger → slice_get crew.owed index ≡ Some id → crew'.owed ≡ remove crew.owed index
      → crew'.children ≡ crew.children → crew'.kept ≡ crew.kept → crew'.unsettled ≡ others → IsTied crew' above (changed place (Done id ∷ []))
  tied-settled crew' index is at owes holds keeps waits =
      let once = subst (λ (ids : List ℕ). AllPairs (λ a b. a ≢ b) ids) first tied.once in
      let apart = subst (λ (ids : List ℕ). AllPairs (λ a b. a ≢ b) ids) (sym tied.owes) (ids-apart (live place.ledger) (live-apart place.ledger is)) in
      let left : crew'.owed ≡ live_ids (place.ledger ++ Done id ∷ []) =
      owes ∙ remove-distinct crew.owed index id apart at ∙ ap (filter (λ n. not (eqb id n))) tied.owes ∙ sym (ids-settled place.ledger id) in
      let same_next : next_id (place.ledger ++ Done id ∷ []) ≡ next_id place.ledger = next_id-push place.ledger (Done id) in
      record {
        owes = left;
        runs = holds ∙ tied.runs;
        stands = rw (waits, keeps) (subst (λ (l : List Obligation). Stands crew.kept place.past place.ends l) (ap (λ (ids : List ℕ). obligations_but ids place.ledger) first ∙ owed-settled place.ledger id others) tied.stands);
        waits = rw waits (All-by (Contains (live_ids (place.ledger ++ Done id ∷ []))) others (λ other m.
            let was = All-contains (Contains (live_ids place.ledger)) (id ∷ others) other (subst (λ (ids : List ℕ). All (Contains (live_ids place.ledger)) ids) first tied.waits) (Contains-tail id others other m) in
            live-kept_done place.ledger id other (λ same. All-contains (λ n. id ≢ n) others other (pairs-head (λ a b. a ≢ b) id others once) m (sym same)) was));
        once = rw waits (pairs-tail (λ a b. a ≢ b) id others once);
        unused = λ other next. tied.unused other (omega arith);
        known = tied.known;
        below = tied.below;
      }

module _ (crew crew' : CrewState) (old new : View) (place : Place) (book book' : Book) (id owed : ℕ) (e : place.ledger ≡ book.changes) (same : owed ≡ id)
    (trace : IfTold old.told new.told (λ before later. later.trace ≡ before.trace)) (spares : SparesOthers old new) where
  stretch-settled : (whole : Bool) → IfTold old.told new.told (Stretch book.changes (Done owed ∷ []) whole old.images new.images)
      → IfTold old.told new.told (Stretch place.ledger (Done id ∷ []) whole old.images new.images)
  stretch-settled whole stretch =
      subst (λ (n : ℕ). IfTold old.told new.told (Stretch place.ledger (Done n ∷ []) whole old.images new.images)) same
      (subst (λ (l : List Change). IfTold old.told new.told (Stretch l (Done owed ∷ []) whole old.images new.images)) (sym e) stretch)

  -- the first of the records is settled
  pub settles-first : (index : ℕ) (others : List ℕ) → StandsAt (with_host crew old) place → crew.unsettled ≡ id ∷ others → slice_get crew.owed index ≡ Some id
      → crew'.owed ≡ remove crew.owed index → crew'.children ≡ crew.children → crew'.kept ≡ crew.kept → crew'.unsettled ≡ others
      → book' ≡ record book { changes = after book.changes (Done owed ∷ []) } → KeepsLedger book'.changes new.told new.images
      → IfTold old.told new.told (Stretch book.changes (Done owed ∷ []) true old.images new.images) → new.above ≡ old.above → new.faults ≡ old.faults → MakesCalls 4 old new
      → SettlesFirst id book book' place (with_host crew old) (with_host crew' new)
  settles-first index others at first placed owes holds keeps waits changes kept stretch above disk calls =
      let changes' : book' ≡ record book { changes = after book.changes (Done id ∷ []) } =
      changes ∙ ap (λ (n : ℕ). let b : Book = record book { changes = after book.changes (Done n ∷ []) } in b) same in
      let ledger : book'.changes ≡ (changed place (Done id ∷ [])).ledger = ap (λ (b : Book). b.changes) changes' ∙ ap (λ (l : List Change). after l (Done id ∷ [])) (sym e) in
      record {
        first = first ∙ ap (λ (ids : List ℕ). id ∷ ids) (sym waits);
        book = changes';
        calls = calls;
        adds = adds-made place.ledger (Done id ∷ []) old new trace (stretch-settled true stretch) (λ none. spares);
        selects = others-select old new spares;
        disk = disk;
        stands = record {
          tied = subst (λ (a : Above). IsTied crew' a (changed place (Done id ∷ []))) (sym above)
              (tied-settled crew old.above place at.tied id others first crew' index at.keeps.follow placed owes holds keeps waits);
          keeps = subst (λ (l : List Change). KeepsLedger l new.told new.images) ledger kept;
        };
      }

  -- the disk failed
  pub fails-to-settle : (others : List ℕ) → StandsAt (with_host crew old) place → crew.unsettled ≡ id ∷ others → crew' ≡ record crew { unsettled = others } → book' ≡ record book { is_spent = true }
      → IfTold old.told new.told (Stretch book.changes (Done owed ∷ []) false old.images new.images) → new.above ≡ old.above → new.faults ≡ counted old.faults
      → FailsToSettle book book' place (with_host crew old) (with_host crew' new)
  fails-to-settle others at first is spent stretch above disk =
      let waits : crew'.unsettled ≡ others = ap (λ (s : CrewState). s.unsettled) is in
      record {
        id = id;
        first = first ∙ ap (λ (ids : List ℕ). id ∷ ids) (sym waits);
        crew = is ∙ ap (λ (ids : List ℕ). let s : CrewState = record crew { unsettled = ids } in s) (sym waits);
        book = spent;
        adds = adds-failing place.ledger (Done id ∷ []) old new at.keeps trace (stretch-settled false stretch) (λ none. spares);
        disk = disk;
        above = above;
      }
