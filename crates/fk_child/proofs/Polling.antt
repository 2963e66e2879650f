-- How the children that run are polled one after another.
use Rattle.std.proofs.Common.{◌≡◌, ℕ, ◌+◌, ◌*◌, ◌<◌, ◌≤◌, true, List, [], ◌∷◌, ◌++◌, length, Option, Some, None, refl, sym, ap, ◌∙◌, subst, arith, append_assoc, append-nil, inl}
use Rattle.std.specs.List.{AllZip, cons_option}
use Rattle.std.proofs.lemmas.List.{length-append, length-map, length_push}
use Rattle.fk_trace.specs.declared.change.OpenRecord.{OpenRecord}
use Rattle.fk_trace.specs.Trace.{Item, Child, running, past_after}
use Rattle.fk_trace.specs.Idle.{child_numbered, moments_with, ends_after}
use Rattle.fk_trace.specs.Ledger.{live}
use Rattle.fk_trace.specs.Attempts.{IsPollOf}
use Rattle.fk_trace.specs.Settled.{settled_in}
use Rattle.fk_trace.proofs.Settled.{past_after-append, settled_in-append}
use Rattle.fk_run.specs.Place.{Place, behind}
use Rattle.fk_child.specs.declared.items.EndItem.{EndItem}
use Rattle.fk_child.specs.Crew.{CrewState, CrewHost, StandsAt}
use Rattle.fk_child.specs.Calls.{PollsAll, ends_in, end_item, polled_number}
use Rattle.fk_child.specs.Private.{with_children, StandsPolling, PollsNext, MayPoll, PartlyPolled}
use Rattle.fk_child.proofs.Counts.{runs-few, owed-few}
use Rattle.fk_child.proofs.Images.{adds-none, adds-append, selects-none, selects-then, calls-none, calls-then, calls-same}
use Rattle.fk_child.proofs.Ties.{running-rising}

ends_after-append : (moment : ℕ) (ends : List ℕ) (a b : List Item) → ends_after moment ends (a ++ b) ≡ ends_after moment (ends_after moment ends a) b
ends_after-append moment ends [] b = refl
ends_after-append moment ends (item ∷ a) b = ends_after-append moment (moments_with moment item.event ends) a b

cons_option-append : {X : Type 0} (o : Option X) (xs ys : List X) → cons_option o (xs ++ ys) ≡ cons_option o xs ++ ys
cons_option-append None xs ys = refl
cons_option-append (Some x) xs ys = refl

ends_in-append : (past a b : List Item) → ends_in past (a ++ b) ≡ ends_in past a ++ ends_in (past_after past a) b
ends_in-append past [] b = refl
ends_in-append past (item ∷ a) b =
    let told : Option EndItem = end_item item.event (child_numbered (polled_number item.event) past) in
    ap (cons_option told) (ends_in-append (item ∷ past) a b) ∙ cons_option-append told (ends_in (item ∷ past) a) (ends_in (past_after (item ∷ past) a) b)

one_at_most : {X : Type 0} (o : Option X) → length (cons_option o []) ≤ 1
one_at_most None = omega arith
one_at_most (Some x) = omega arith

pub behind-append : (moment : ℕ) (place : Place) (a b : List Item) → behind moment (behind moment place a) b ≡ behind moment place (a ++ b)
behind-append moment place a b =
    let past = past_after-append place.past a b in
    let ends = ends_after-append moment place.ends a b in
    cc

AllZip-joined : {A B : Type 0} (R : A → B → Type 0) (xs : List A) (ys : List B) (x : A) (y : B) → AllZip R xs ys → R x y → AllZip R (xs ++ x ∷ []) (ys ++ y ∷ [])
AllZip-joined R [] [] x y h r = (r, tt)
AllZip-joined R [] (z ∷ zs) x y h r = absurd h
AllZip-joined R (z ∷ zs) [] x y h r = absurd h
AllZip-joined R (z ∷ zs) (w ∷ ws) x y h r = (h.0, AllZip-joined R zs ws x y h.1 r)

module _ (moment : ℕ) (place : Place) (old : CrewHost) (stands : StandsAt old place) where
  -- no more children run than there is room for the ends of
  pub runs-room : length (running place.past) ≤ 2 * length old.crew.owed
  runs-room =
      let runs = runs-few old.crew.kept place.past place.ends _ stands.tied.stands in
      let owed = owed-few old.crew.unsettled place.ledger in
      let owes = ap length stands.tied.owes ∙ length-map (live place.ledger) (λ (item : OpenRecord). item.id) in
      omega arith

  -- none is polled yet
  pub none-polled : (crew' : CrewState) → old.crew.unsettled ≡ [] → crew'.owed ≡ old.crew.owed → crew'.children ≡ old.crew.children → crew'.kept ≡ old.crew.kept → crew'.ends ≡ []
      → crew'.unsettled ≡ old.crew.unsettled → PartlyPolled moment 0 place old (record { crew = crew'; host = old.host })
  none-polled crew' settled owes holds keeps none waits = record {
    polled = [];
    rest = running place.past;
    found = [];
    items = [];
    ran = refl;
    counted = refl;
    answered = tt;
    calls = calls-none old.host;
    adds = adds-none place.ledger old.host stands.keeps;
    selects = selects-none old.host;
    disk = refl;
    stands = record {
      queue = holds ∙ stands.tied.runs ∙ sym (append-nil (running place.past));
      stands = record {
        tied = record {
          owes = owes ∙ stands.tied.owes;
          runs = refl;
          stands = rw (waits, keeps) stands.tied.stands;
          waits = rw waits stands.tied.waits;
          once = rw waits stands.tied.once;
          unused = stands.tied.unused;
          known = stands.tied.known;
          below = stands.tied.below;
        };
        keeps = stands.keeps;
      };
    };
    ends = none;
    few = let e = ap length none in omega arith;
    unsettled = waits ∙ settled;
  }

  may-poll_first : (now : CrewHost) (count : ℕ) (polled rest found : List Child) (items : List Item) → running place.past ≡ polled ++ rest → length polled ≡ count → count < length (running place.past)
      → StandsPolling rest found now (behind moment place items) → length now.crew.ends ≤ count → now.crew.owed ≡ old.crew.owed → MayPoll now
  may-poll_first now count polled [] found items ran counted below at few owes =
      absurd (let e = ap length ran in let n = length-append polled [] in omega arith)
  may-poll_first now count polled (child ∷ rest) found items ran counted below at few owes = record {
    place = behind moment place items;
    child = child;
    rest = rest;
    found = found;
    stands = at;
    room = let most = runs-room in let same = ap length owes in omega arith;
  }

  -- the next may be polled
  pub may-poll_next : (now : CrewHost) (count : ℕ) → PartlyPolled moment count place old now → count < length (running place.past) → now.crew.owed ≡ old.crew.owed → MayPoll now
  may-poll_next now count part below owes = may-poll_first now count part.polled part.rest part.found part.items part.ran part.counted below part.stands part.few owes

  more-polled_first : (now next : CrewHost) (count : ℕ) (part : PartlyPolled moment count place old now) (rest : List Child) → part.rest ≡ rest → count < length (running place.past)
      → PollsNext moment now next → PartlyPolled moment (count + 1) place old next
  more-polled_first now next count part [] left below polls =
      absurd (let e = ap length part.ran in let n = length-append part.polled part.rest in let z = ap length left in let m = part.counted in omega arith)
  more-polled_first now next count part (child ∷ rest) left below polls =
      let at = subst (λ (cs : List Child). StandsPolling cs part.found now (behind moment place part.items)) left part.stands in
      let one = polls (behind moment place part.items) child rest part.found at in
      let here = behind-append moment place part.items (one.item ∷ []) in
      let past = past_after place.past part.items in
      record {
        polled = part.polled ++ child ∷ [];
        rest = rest;
        found = one.found;
        items = part.items ++ one.item ∷ [];
        ran = part.ran ∙ ap (λ (cs : List Child). part.polled ++ cs) left ∙ sym (append_assoc part.polled (child ∷ []) rest);
        counted = let m = part.counted in let n = length_push part.polled child in omega arith;
        answered = AllZip-joined (λ (c : Child) (item : Item). IsPollOf c item.event) part.polled part.items child one.item part.answered one.polled;
        calls = calls-same (length part.items + 1) (length (part.items ++ one.item ∷ [])) old.host next.host (let n = length_push part.items one.item in omega (arith, n))
            (calls-then (length part.items) 1 old.host now.host next.host part.calls one.calls);
        adds = adds-append part.items (one.item ∷ []) place.ledger [] [] [] (record { attempts = inl refl; others = inl refl }) old.host now.host next.host part.adds part.disk one.adds;
        selects = selects-then old.host now.host next.host part.selects one.selects;
        disk = one.disk ∙ part.disk;
        stands = subst (StandsPolling rest one.found next) here one.stands;
        ends = one.ends ∙ ap (λ (es : List EndItem). es ++ ends_in past (one.item ∷ [])) part.ends ∙ sym (ends_in-append place.past part.items (one.item ∷ []));
        few =
            let e = ap length one.ends in
            let n = length-append now.crew.ends (ends_in past (one.item ∷ [])) in
            let most = one_at_most (end_item one.item.event (child_numbered (polled_number one.item.event) past)) in
            let m = part.few in
            omega arith;
        unsettled = one.unsettled ∙ ap (λ (ids : List ℕ). ids ++ settled_in past (one.item ∷ [])) part.unsettled ∙ sym (settled_in-append place.past part.items (one.item ∷ []));
      }

  -- one more is polled
  pub more-polled : (now next : CrewHost) (count : ℕ) → PartlyPolled moment count place old now → count < length (running place.past) → PollsNext moment now next → PartlyPolled moment (count + 1) place old next
  more-polled now next count part below polls = more-polled_first now next count part part.rest refl below polls

  all-polled_first : (now : CrewHost) (count : ℕ) (part : PartlyPolled moment count place old now) (rest : List Child) → part.rest ≡ rest → length (running place.past) ≤ count → PollsAll moment place old now
  all-polled_first now count part (child ∷ rest) left above =
      absurd (let e = ap length part.ran in let n = length-append part.polled part.rest in let z = ap length left in let m = part.counted in omega arith)
  all-polled_first now count part [] left above =
      let ran : running place.past ≡ part.polled = part.ran ∙ ap (λ (cs : List Child). part.polled ++ cs) left ∙ append-nil part.polled in
      let at = part.stands in
      let queue : now.crew.children ≡ part.found = at.queue ∙ ap (λ (cs : List Child). cs ++ part.found) left in
      let whole : part.found ++ part.rest ≡ now.crew.children = ap (λ (cs : List Child). part.found ++ cs) left ∙ append-nil part.found ∙ sym queue in
      record {
        items = part.items;
        polled = record {
          order = running place.past;
          answered = subst (λ (cs : List Child). AllZip (λ (c : Child) (item : Item). IsPollOf c item.event) cs part.items) (sym ran) part.answered;
          rising = running-rising place.past stands.tied.stands.orderly.numbered;
          each = λ child. (λ h. h, λ h. h);
        };
        goes = record {
          calls = part.calls;
          adds = part.adds;
          selects = part.selects;
          disk = part.disk;
          stands = subst (λ (cs : List Child). StandsAt (with_children cs now) (behind moment place part.items)) whole at.stands;
        };
        ends = part.ends;
        unsettled = part.unsettled;
      }

  -- all are polled
  pub all-polled : (now : CrewHost) (count : ℕ) → PartlyPolled moment count place old now → length (running place.past) ≤ count → PollsAll moment place old now
  all-polled now count part above = all-polled_first now count part part.rest refl above
