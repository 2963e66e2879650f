-- A datagram is refused, or recorded and opened.
use Rattle.std.proofs.Common.{◌≡◌, ℕ, ◌+◌, ◌≤◌, Bool, true, false, cond, List, [], ◌∷◌, ◌++◌, Option, Some, None, Result, Ok, Err, inl, inr, map, refl, sym, ap, subst, ◌∙◌, append-nil, arith}
use Rattle.std.specs.Prelude.{IsErrAnd}
use Rattle.std.proofs.lemmas.Bool.{le-ltb}
use Rattle.std.specs.List.{cons_option, AllByRecursion}
use Rattle.fk_base.specs.declared.address.Ip4.{Ip4}
use Rattle.fk_base.specs.declared.grant.Grant.{Grant}
use Rattle.fk_base.specs.declared.purpose.Purpose.{Purpose}
use Rattle.fk_base.specs.declared.purpose.Purpose.TheVariants.{Open}
use Rattle.fk_trace.specs.declared.change.OpenRecord.{OpenRecord}
use Rattle.fk_trace.specs.declared.change.Change.{Change}
use Rattle.fk_trace.specs.declared.change.Change.TheVariants.{Open as OpenChange}
use Rattle.fk_trace.specs.declared.refusal.LogWhy.{LogWhy}
use Rattle.fk_trace.specs.declared.refusal.LogWhy.TheVariants.{Replay, Stale, Full}
use Rattle.fk_trace.specs.Trace.{Event, Item, attempt_of}
use Rattle.fk_trace.specs.Trace.Event.{Turn, Began, StartFailed, Ended, Runs, PollFailed}
use Rattle.fk_trace.specs.Ledger.{opens, AreNoFloors, after, is_seen, floor_of, IsSeen, MayMake}
use Rattle.fk_trace.specs.Decision.{FeedTurn, Permit, Rules, Verdict, Answer, making, answer_made, answer_formed, answer_by, record_of, recorded_by}
use Rattle.fk_trace.specs.Decision.Input.{Quiet}
use Rattle.fk_trace.specs.Decision.Answer.{Refuses, Opens}
use Rattle.fk_trace.specs.Attempts.{IsAttempt, AttemptsThatOpen}
use Rattle.fk_trace.proofs.Grants.{fresh-unseen, making-made, opens-answer}
use Rattle.fk_trace.proofs.Ledgers.{after-append}
use Rattle.fk_run.specs.Left.{is_attempt}
use Rattle.fk_run.specs.Place.{Place, behind, changed}
use Rattle.fk_host.specs.Count.{counted}
use Rattle.fk_host.specs.Disk.{IfTold, Above}
use Rattle.fk_log.specs.Line.{Line}
use Rattle.fk_log.specs.Line.Line.{RefusedLine, GrantedLine, OpenedLine}
use Rattle.fk_log.specs.Log.{input_lines, attempt_line, attempt_lines}
use Rattle.fk_log.specs.Log.RefusalLine.{Untold}
use Rattle.fk_log.specs.Writing.{Output, Logs}
use Rattle.fk_conf.specs.declared.conf.Conf.{Conf}
use Rattle.fk_ledger.specs.Book.{Book, room_within, making_record, calls_of, live_ids}
use Rattle.fk_ledger.specs.Payloads.{greatest_stamp}
use Rattle.fk_ledger.specs.Holds.{KeepsLedger}
use Rattle.fk_ledger.specs.Stretch.{Stretch}
use Rattle.fk_child.specs.View.{View, MakesCalls, StandsOnArea, SparesOthers, Adds}
use Rattle.fk_child.specs.Crew.{CrewState, IsTied, StandsAt}
use Rattle.fk_child.specs.Calls.{Goes, AwaitsOpen, is_begun, recorded}
use Rattle.fk_turn.specs.declared.policy.Policy.{Policy}
use Rattle.fk_turn.specs.declared.turn_err.TurnErr.{TurnErr}
use Rattle.fk_turn.specs.declared.turn_err.TurnErr.TheVariants.{Disk, NoMemory}
use Rattle.fk_turn.specs.Daemon.{DaemonState, Scene, DaemonStands, AtRest, scene}
use Rattle.fk_turn.specs.Rules.{HasRightCode, rules_by, permit_of}
use Rattle.fk_turn.specs.Serving.{calls_for}
use Rattle.fk_turn.specs.Parts.{answer_at, answering, Answers, AnswersWhole, FailsToRecord, WantsToAnswer, IsGrantedBy, IsDraftOf, IsLike, datagram_turn, reached, ServesPart}
use Rattle.fk_child.proofs.Images.{adds-append, adds-made, adds-failing, calls-none, calls-then, calls-same}
use Rattle.fk_log.proofs.Logged.{Logs-append}
use Rattle.fk_turn.proofs.Logging.{logs-nothing}
use Rattle.fk_turn.specs.declared.decision.Draft.{Draft}
use Rattle.fk_turn.proofs.Items.{tries-attempts}
use Rattle.fk_turn.proofs.Lines.{no_refusal-told}
use Rattle.fk_turn.proofs.Places.{place-same}
use Rattle.fk_turn.proofs.Making.{Fronts, fronts}
use Rattle.fk_turn.proofs.Assembly.{owes-live}
use Rattle.fk_turn.proofs.Parting.{crew_host, reached-nothing}
use Rattle.fk_child.proofs.Others.{area-kept}

-- the line of an attempt of an open
pub open-line : (moment id : ℕ) (words : List (List ℕ)) (event : Event) → IsAttempt (Open id) words event
    → cons_option (attempt_line moment (attempt_of event)) [] ≡ OpenedLine moment id words (is_begun event) ∷ []
open-line moment id words (Turn number) h = absurd h
open-line moment id words (Began number purpose others) h =
    ap (λ (p : Purpose). cons_option (attempt_line moment (attempt_of (Began number p others))) []) h.0 ∙ ap (λ (ws : List (List ℕ)). OpenedLine moment id ws true ∷ []) h.1
open-line moment id words (StartFailed purpose others) h =
    ap (λ (p : Purpose). cons_option (attempt_line moment (attempt_of (StartFailed p others))) []) h.0 ∙ ap (λ (ws : List (List ℕ)). OpenedLine moment id ws false ∷ []) h.1
open-line moment id words (Ended number good) h = absurd h
open-line moment id words (Runs number) h = absurd h
open-line moment id words (PollFailed number) h = absurd h

-- a datagram is refused, and told so
pub refuses : (policy : Policy) (place : Place) (moment : ℕ) (source : Ip4) (datagram : List ℕ) (why : LogWhy) (d : DaemonState) (h : View) (o0 o1 : Output)
    → answer_at policy place (datagram_turn moment source datagram) ≡ Refuses why
    → AtRest policy.conf.now (scene d h o0) place → Adds [] place.ledger [] [] h h → Logs (RefusedLine moment source why ∷ []) o0 o1
    → AnswersWhole policy place (datagram_turn moment source datagram) (scene d h o0) (scene d h o1)
refuses policy place moment source datagram why d h o0 o1 e rest adds line =
    let turn : FeedTurn = datagram_turn moment source datagram in
    let s1 : Scene = scene d h o1 in
    let stands : DaemonStands policy.conf.now s1 place = record {
      changes = rest.stands.changes;
      limit = rest.stands.limit;
      room = rest.stands.room;
      keep = rest.stands.keep;
      unspent = rest.stands.unspent;
      area = rest.stands.area;
      stands = rest.stands.stands;
      number = rest.stands.number;
    } in
    let serves : ServesPart policy.conf.now moment place (answering turn (Refuses why) []) (scene d h o0) s1 = record {
      adds = adds;
      disk = refl;
      logs = line;
      stands = subst (DaemonStands policy.conf.now s1) (reached-nothing moment place) stands;
    } in
    record {
      opened = [];
      attempts = subst (λ (a : Answer). AttemptsThatOpen a []) (sym e) refl;
      calls = calls-same 0 (calls_for [] place.ledger (recorded_by (answer_at policy place turn))) h h (ap (λ (a : Answer). calls_for [] place.ledger (recorded_by a)) (sym e)) (calls-none h);
      serves = subst (λ (a : Answer). ServesPart policy.conf.now moment place (answering turn a []) (scene d h o0) s1) (sym e) serves;
      settled = rest.settled;
    }

module _ (policy : Policy) (place : Place) (moment : ℕ) (source : Ip4) (datagram : List ℕ) (grant : Grant) (granted : IsGrantedBy policy place.ledger moment source datagram grant) (item : OpenRecord)
    (made : item ≡ record_of (rules_by policy) place.ledger moment datagram (permit_of policy.access.now grant)) where
  abbrev rules : Rules
  rules = rules_by policy

  abbrev permit : Permit
  permit = permit_of policy.access.now grant

  abbrev turn : FeedTurn
  turn = datagram_turn moment source datagram

  abbrev made_of_permit : OpenRecord
  made_of_permit = record_of rules place.ledger moment datagram permit

  -- what is answered then depends on the room alone
  by-room : answer_at policy place turn ≡ answer_made item permit (making rules.room moment place.ledger (OpenChange item))
  by-room =
      ap (λ (shape : Option LogWhy). answer_formed rules place.ledger moment source datagram shape) granted.formed
      ∙ ap (λ (known : Bool). cond known (Refuses Replay) (answer_by rules place.ledger moment datagram (rules.admit moment source datagram))) granted.unseen
      ∙ ap (λ (verdict : Verdict). answer_by rules place.ledger moment datagram verdict) granted.admitted
      ∙ ap (λ (stale : Bool). cond stale (Refuses Stale) (answer_made made_of_permit permit (making rules.room moment place.ledger (OpenChange made_of_permit))))
      (le-ltb permit.stamp (floor_of place.ledger) granted.current)
      ∙ ap (λ (x : OpenRecord). answer_made x permit (making rules.room moment place.ledger (OpenChange x))) (sym made)

  module _ (d : DaemonState) (h0 : View) (o0 : Output) (rest : AtRest policy.conf.now (scene d h0 o0) place) where
    -- the room in the ledger is that of the rules
    room-is : making_record d.book item ≡ making rules.room moment place.ledger (OpenChange item)
    room-is =
        ap (λ (n : ℕ). making (room_within n d.book.limit d.book.keep) item.moment d.book.changes (OpenChange item)) rest.stands.room
        ∙ ap (λ (n : ℕ). making (room_within policy.conf.now.room n d.book.keep) item.moment d.book.changes (OpenChange item)) rest.stands.limit
        ∙ ap (λ (n : ℕ). making (room_within policy.conf.now.room policy.conf.now.live n) item.moment d.book.changes (OpenChange item)) rest.stands.keep
        ∙ ap (λ (n : ℕ). making rules.room n d.book.changes (OpenChange item)) (ap (λ (x : OpenRecord). x.moment) made)
        ∙ ap (λ (cs : List Change). making rules.room moment cs (OpenChange item)) rest.stands.changes

    pub full-refused : making_record d.book item ≡ None → answer_at policy place turn ≡ Refuses Full
    full-refused full = by-room ∙ ap (answer_made item permit) (sym room-is ∙ full)

    pub room-opens : (changes : List Change) → making_record d.book item ≡ Some changes → answer_at policy place turn ≡ Opens item permit changes
    room-opens changes some = by-room ∙ ap (answer_made item permit) (sym room-is ∙ some)

    -- what is made for the record at the place
    pub room-fronts : (changes : List Change) → making_record d.book item ≡ Some changes → Fronts place item changes
    room-fronts changes some = fronts rules.room moment place item changes (making-made rules.room moment place.ledger item changes (sym room-is ∙ some))

    -- the disk failed in the call that records
    pub fails-record : (changes : List Change) (book : Book) (h1 : View) → answer_at policy place turn ≡ Opens item permit changes
        → IfTold h0.told h1.told (λ before later. later.trace ≡ before.trace)
        → IfTold h0.told h1.told (Stretch d.book.changes changes false h0.images h1.images) → (AreNoFloors changes → SparesOthers h0 h1)
        → h1.faults ≡ counted h0.faults → book.changes ≡ d.book.changes
        → FailsToRecord policy place turn (scene d h0 o0) (scene (record d { book = book }) h1 o0)
    fails-record changes book h1 opens trace stretch spares faults same = record {
      item = item;
      permit = permit;
      making = changes;
      given = opens;
      adds = adds-failing place.ledger changes h0 h1 rest.stands.stands.keeps trace
          (subst (λ (cs : List Change). IfTold h0.told h1.told (Stretch cs changes false h0.images h1.images)) rest.stands.changes stretch) spares;
      disk = faults;
      logs = logs-nothing o0;
      book = same ∙ rest.stands.changes;
      parks = rest.stands.stands.tied.owes ∙ ap live_ids (sym (same ∙ rest.stands.changes));
    }

    -- the record was made
    module _ (changes : List Change) (made_fronts : Fronts place item changes) (book : Book) (h1 : View) (opened : answer_at policy place turn ≡ Opens item permit changes)
        (trace : IfTold h0.told h1.told (λ before later. later.trace ≡ before.trace)) (above : h1.above ≡ h0.above)
        (stretch : IfTold h0.told h1.told (Stretch d.book.changes changes true h0.images h1.images)) (spares : AreNoFloors changes → SparesOthers h0 h1) (faults : h1.faults ≡ h0.faults)
        (kept : book ≡ record d.book { changes = after d.book.changes changes; area = book.area; reserved = book.reserved }) where
      -- the place before its record, behind what stands before it
      abbrev pub front_place : Place
      front_place = changed place made_fronts.front

      abbrev open_place : Place
      open_place = recorded front_place item

      made-ledger : after place.ledger changes ≡ open_place.ledger
      made-ledger = ap (after place.ledger) made_fronts.placed ∙ after-append place.ledger made_fronts.front (OpenChange item ∷ [])

      changes-are : book.changes ≡ after place.ledger changes
      changes-are = ap (λ (b : Book). b.changes) kept ∙ ap (λ (cs : List Change). after cs changes) rest.stands.changes

      adds1 : Adds [] place.ledger changes [] h0 h1
      adds1 = adds-made place.ledger changes h0 h1 trace
          (subst (λ (cs : List Change). IfTold h0.told h1.told (Stretch cs changes true h0.images h1.images)) rest.stands.changes stretch) spares

      -- its open is yet to be attempted
      pub awaits-open : (id : ℕ) → id ≡ item.id → (KeepsLedger book.changes h1.told h1.images) → AwaitsOpen id item.due item front_place (crew_host d.crew h1)
      awaits-open id same keeps = record {
        numbered = sym same;
        next = ap (λ (x : OpenRecord). x.id) made ∙ sym made_fronts.next;
        until = refl;
        tied = subst (λ (a : Above). IsTied d.crew a front_place) (sym above) (made_fronts.tied d.crew h0.above rest.stands.stands.tied);
        keeps = subst (λ (cs : List Change). KeepsLedger cs h1.told h1.images) (changes-are ∙ made-ledger) keeps;
      }

      made-opens : opens changes ≡ item ∷ []
      made-opens = opens-answer rules place.ledger turn item permit changes opened

      -- what calls behind the record add
      adds-behind : (items : List Item) (h2 : View) → AllByRecursion (λ x. is_attempt x.event ≡ true) items → Adds items open_place.ledger [] [] h1 h2 → Adds items place.ledger changes [] h0 h2
      adds-behind items h2 attempts more =
          subst (λ (cs : List Change). Adds items place.ledger cs [] h0 h2) (append-nil changes)
          (adds-append [] items place.ledger changes [] [] (record { attempts = inl refl; others = inr attempts }) h0 h1 h2 adds1 faults
          (subst (λ (cs : List Change). Adds items cs [] [] h1 h2) (sym made-ledger) more))

      module _ (stanza : ℕ) (numbered : stanza ≡ grant.stanza) (o1 : Output) (granted-line : Logs (GrantedLine moment source item.id stanza item.due ∷ []) o0 o1) (crew : CrewState) (h2 : View) where
        abbrev granted_lines : List Line
        granted_lines = map (λ (x : OpenRecord). GrantedLine moment source x.id grant.stanza x.due) (opens changes)

        grant-logs : Logs granted_lines o0 o1
        grant-logs = subst (λ (items : List OpenRecord). Logs (map (λ (x : OpenRecord). GrantedLine moment source x.id grant.stanza x.due) items) o0 o1) (sym made-opens)
            (subst (λ (n : ℕ). Logs (GrantedLine moment source item.id n item.due ∷ []) o0 o1) numbered granted-line)

        -- memory was wanting in the host's start
        pub wants-start : MakesCalls (calls_of d.book.changes changes) h0 h1 → Goes 1 moment open_place [] (crew_host d.crew h1) (crew_host crew h2)
            → WantsToAnswer policy place turn (scene d h0 o0) (scene (record { book = book; crew = crew; turns = d.turns }) h2 o1)
        wants-start calls goes = record {
          source = source;
          datagram = datagram;
          brought = refl;
          formed = granted.formed;
          fresh = fresh-unseen (rules.digest datagram) place.ledger granted.unseen;
          code = inr (permit, granted.admitted);
          changes = changes;
          front = inr (
            sym (ap recorded_by opened),
            (λ none. let one : item ∷ [] ≡ [] = sym made-opens ∙ none in cc),
            calls-same (calls_of d.book.changes changes + 1) (calls_for [] place.ledger changes + 1) h0 h2
                (let same = ap (λ (cs : List Change). calls_of cs changes) rest.stands.changes in omega arith) (calls-then (calls_of d.book.changes changes) 1 h0 h1 h2 calls goes.calls),
          );
          adds = adds-behind [] h2 tt goes.adds;
          disk = goes.disk ∙ faults;
          logs = subst (λ (a : Answer). Logs (input_lines moment turn.input Untold changes a) o0 o1) (sym opened) grant-logs;
          book = changes-are;
          parks = goes.stands.tied.owes ∙ ap live_ids (sym (changes-are ∙ made-ledger));
        }

        -- its open was attempted
        pub opens-whole : MakesCalls (calls_of d.book.changes changes) h0 h1 → StandsOnArea book.area h1 → (opening : List (List ℕ)) (begun : Bool) (attempt : Item) (o2 : Output) → opening ≡ permit.opening
            → IsAttempt (Open item.id) opening attempt.event → begun ≡ is_begun attempt.event
            → Goes 1 moment open_place (attempt ∷ []) (crew_host d.crew h1) (crew_host crew h2) → Logs (OpenedLine moment item.id opening begun ∷ []) o1 o2 → crew.unsettled ≡ []
            → AnswersWhole policy place turn (scene d h0 o0) (scene (record { book = book; crew = crew; turns = d.turns }) h2 o2)
        opens-whole calls stood opening begun attempt o2 words tried is goes line settled =
            let s2 : Scene = scene (record { book = book; crew = crew; turns = d.turns }) h2 o2 in
            let lines : OpenedLine moment item.id opening begun ∷ [] ≡ attempt_lines moment (attempt ∷ []) =
            ap (λ (b : Bool). OpenedLine moment item.id opening b ∷ []) is ∙ sym (open-line moment item.id opening attempt.event tried) in
            let given : Answer = Opens item permit changes in
            let at : Place = reached moment place (answering turn given (attempt ∷ [])) in
            let there : behind moment open_place (attempt ∷ []) ≡ at = place-same (behind moment open_place (attempt ∷ [])) at refl refl (sym made-ledger) refl in
            let serves : ServesPart policy.conf.now moment place (answering turn given (attempt ∷ [])) (scene d h0 o0) s2 = record {
              adds = adds-behind (attempt ∷ []) h2 (tries-attempts (attempt ∷ []) ((Open item.id, opening, tried), tt)) goes.adds;
              disk = goes.disk ∙ faults;
              logs = Logs-append granted_lines (attempt_lines moment (attempt ∷ [])) o0 o1 o2 grant-logs (subst (λ (xs : List Line). Logs xs o1 o2) lines line);
              stands = record {
                changes = changes-are;
                limit = ap (λ (b : Book). b.limit) kept ∙ rest.stands.limit;
                room = ap (λ (b : Book). b.room) kept ∙ rest.stands.room;
                keep = ap (λ (b : Book). b.keep) kept ∙ rest.stands.keep;
                unspent = ap (λ (b : Book). b.is_spent) kept ∙ rest.stands.unspent;
                area = area-kept book book h1 h2 refl goes.selects stood;
                stands = subst (StandsAt (crew_host crew h2)) there goes.stands;
                number = rest.stands.number;
              };
            } in
            record {
              opened = attempt ∷ [];
              calls = calls-same (calls_of d.book.changes changes + 1) (calls_for (attempt ∷ []) place.ledger (recorded_by (answer_at policy place turn))) h0 h2
                  (let same = ap (λ (cs : List Change). calls_of cs changes) rest.stands.changes in let made_is = ap (λ (a : Answer). calls_of place.ledger (recorded_by a)) opened in omega arith)
                  (calls-then (calls_of d.book.changes changes) 1 h0 h1 h2 calls goes.calls);
              attempts = subst (λ (a : Answer). AttemptsThatOpen a (attempt ∷ [])) (sym opened) (subst (λ (ws : List (List ℕ)). IsAttempt (Open item.id) ws attempt.event) words tried);
              serves = subst (λ (a : Answer). ServesPart policy.conf.now moment place (answering turn a (attempt ∷ [])) (scene d h0 o0) s2) (sym opened) serves;
              settled = settled;
            }

-- what is answered where memory was wanting
pub wanting : {T : Type 0} (policy : Policy) (place : Place) (at : FeedTurn) (old new : Scene) (r : Result T TurnErr) → IsErrAnd r (λ e. e ≡ NoMemory)
    → WantsToAnswer policy place at old new → Answers policy place at old new r
wanting policy place at old new (Ok x) h w = absurd h
wanting {T = T} policy place at old new (Err e) h w = subst (λ (x : TurnErr). Answers {T = T} policy place at old new (Err x)) (sym h) w

-- a daemon that has made room stands where it stood
pub like-rests : (conf : Conf) (d e : DaemonState) (h : View) (o : Output) (place : Place) → IsLike d e → AtRest conf (scene d h o) place → AtRest conf (scene e h o) place
like-rests conf d e h o place like rest =
    let tied = rest.stands.stands.tied in
    let alike : DaemonState = record { book = record d.book { reserved = e.book.reserved }; crew = record d.crew { room = e.crew.room }; turns = d.turns } in
    let same : AtRest conf (scene alike h o) place = record {
      stands = record {
        changes = rest.stands.changes;
        limit = rest.stands.limit;
        room = rest.stands.room;
        keep = rest.stands.keep;
        unspent = rest.stands.unspent;
        area = rest.stands.area;
        stands = record {
          tied = record {
            owes = tied.owes;
            runs = tied.runs;
            stands = tied.stands;
            waits = tied.waits;
            once = tied.once;
            unused = tied.unused;
            known = tied.known;
            below = tied.below;
          };
          keeps = rest.stands.stands.keeps;
        };
        number = rest.stands.number;
      };
      settled = rest.settled;
    } in
    subst (λ (x : DaemonState). AtRest conf (scene x h o) place) (sym like) same

-- memory was wanting before the record
pub wants-before : (policy : Policy) (place : Place) (moment : ℕ) (source : Ip4) (datagram : List ℕ) (d e : DaemonState) (h : View) (o : Output)
    → AtRest policy.conf.now (scene d h o) place → (rules_by policy).misshapen datagram ≡ None → is_seen ((rules_by policy).digest datagram) d.book.changes ≡ false
    → HasRightCode policy moment source datagram → Adds [] place.ledger [] [] h h → IsLike d e → WantsToAnswer policy place (datagram_turn moment source datagram) (scene d h o) (scene e h o)
wants-before policy place moment source datagram d e h o rest formed unseen code adds like =
    let at : FeedTurn = datagram_turn moment source datagram in
    let unseen_there : is_seen ((rules_by policy).digest datagram) place.ledger ≡ false =
    ap (is_seen ((rules_by policy).digest datagram)) (sym rest.stands.changes) ∙ unseen in
    record {
      source = source;
      datagram = datagram;
      brought = refl;
      formed = formed;
      fresh = fresh-unseen ((rules_by policy).digest datagram) place.ledger unseen_there;
      code = code;
      changes = [];
      front = inl (refl, calls-none h);
      adds = adds;
      disk = refl;
      logs = subst (λ (xs : List Line). Logs xs o o) (sym (no_refusal-told moment at.input (answer_at policy place at))) (logs-nothing o);
      book = (like-rests policy.conf.now d e h o place like rest).stands.changes;
      parks = owes-live policy.conf.now (scene e h o) place (like-rests policy.conf.now d e h o place like rest).stands;
    }

-- the record of a draft may follow
pub draft-follows : (policy : Policy) (ledger : List Change) (moment : ℕ) (source : Ip4) (datagram : List ℕ) (grant : Grant) (draft : Draft) → IsGrantedBy policy ledger moment source datagram grant
    → IsDraftOf policy ledger moment datagram grant draft → MayMake ledger (OpenChange draft.item)
draft-follows policy ledger moment source datagram grant draft granted is = (
  ap (λ (x : OpenRecord). x.id) is.item,
  subst (λ (x : OpenRecord). IsSeen x.digest.0 ledger → ⊥) (sym is.item) (fresh-unseen ((rules_by policy).digest datagram) ledger granted.unseen),
)

-- and its stamp may be recorded
pub draft-stamp : (policy : Policy) (ledger : List Change) (moment : ℕ) (source : Ip4) (datagram : List ℕ) (grant : Grant) (draft : Draft) → IsGrantedBy policy ledger moment source datagram grant
    → IsDraftOf policy ledger moment datagram grant draft → (floor_of ledger ≤ draft.item.stamp) × (draft.item.stamp ≤ greatest_stamp)
draft-stamp policy ledger moment source datagram grant draft granted is =
    subst (λ (x : OpenRecord). (floor_of ledger ≤ x.stamp) × (x.stamp ≤ greatest_stamp)) (sym is.item) (granted.current, granted.stamp)

-- what was answered over a daemon that has made room
pub answers-from : {T : Type 0} (policy : Policy) (place : Place) (at : FeedTurn) (d e : DaemonState) (h : View) (o : Output) (new : Scene) (r : Result T TurnErr)
    → Answers policy place at (scene e h o) new r → Answers policy place at (scene d h o) new r
answers-from policy place at d e h o new (Ok x) a = record {
  opened = a.opened;
  attempts = a.attempts;
  calls = a.calls;
  serves = record { adds = a.serves.adds; disk = a.serves.disk; logs = a.serves.logs; stands = a.serves.stands };
  settled = a.settled;
}
answers-from policy place at d e h o new (Err Disk) a = record {
  item = a.item;
  permit = a.permit;
  making = a.making;
  given = a.given;
  adds = a.adds;
  disk = a.disk;
  logs = a.logs;
  book = a.book;
  parks = a.parks;
}
answers-from policy place at d e h o new (Err NoMemory) a = record {
  source = a.source;
  datagram = a.datagram;
  brought = a.brought;
  formed = a.formed;
  fresh = a.fresh;
  code = a.code;
  changes = a.changes;
  front = a.front;
  adds = a.adds;
  disk = a.disk;
  logs = a.logs;
  book = a.book;
  parks = a.parks;
}

-- a turn that brought nothing is answered nothing
pub quietly : (policy : Policy) (place : Place) (moment : ℕ) (d : DaemonState) (h : View) (o : Output) → AtRest policy.conf.now (scene d h o) place → Adds [] place.ledger [] [] h h
    → AnswersWhole policy place (record { moment = moment; input = Quiet }) (scene d h o) (scene d h o)
quietly policy place moment d h o rest adds = record {
  opened = [];
  attempts = refl;
  calls = calls-none h;
  serves = record { adds = adds; disk = refl; logs = logs-nothing o; stands = subst (DaemonStands policy.conf.now (scene d h o)) (reached-nothing moment place) rest.stands };
  settled = rest.settled;
}
