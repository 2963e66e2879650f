-- Two lists of whole turns that brought the same, one after another, and went well, are alike and have the same lines.
use Rattle.std.proofs.Common.{◌≡◌, ℕ, List, [], ◌∷◌, ◌++◌, length, map, refl, sym, ap, ◌∙◌, subst, inl, inr}
use Rattle.std.specs.List.{flat_map}
use Rattle.std.proofs.lemmas.List.{length-map}
use Rattle.fk_trace.specs.declared.change.Change.{Change}
use Rattle.fk_trace.specs.declared.change.Change.TheVariants.{Done}
use Rattle.fk_trace.specs.Trace.{Item}
use Rattle.fk_trace.specs.Ledger.{after, dones}
use Rattle.fk_trace.specs.Decision.{FeedTurn, Rules, answer}
use Rattle.fk_run.specs.Place.{Place}
use Rattle.fk_run.specs.Turn.{TakenTurn, WholeTurn, after_turn}
use Rattle.fk_run.specs.Run.Ending.{AtEnd}
use Rattle.fk_run.specs.Legal.{LegalTurns}
use Rattle.fk_log.specs.Line.{Line}
use Rattle.fk_log.specs.Line.Line.{TurnLine}
use Rattle.fk_log.specs.Log.{settled_lines, poll_lines, attempt_lines, input_lines, told_before, turn_lines, lines_of_turns}
use Rattle.fk_log.specs.Log.RefusalLine.{Told}
use Rattle.fk_trial.proofs.GoingWell.{Well}
use Rattle.fk_trial.proofs.Alike.{Alike, alike-append, same-poll_lines, same-attempt_lines}
use Rattle.fk_trial.proofs.Numbers.{AreCounted, counted_to, counted-front, counted-behind, same-count}
use Rattle.fk_trial.proofs.SameTurns.{AreLike, well-front, well-behind, same-items, same-changes, like-after}

told_in_all : (turns : List TakenTurn) → told_before turns Told ≡ Told
told_in_all [] = refl
told_in_all (next ∷ later) = refl

-- the lines of a turn, of what they are made of
abbrev lines_by : Rules → FeedTurn → ℕ → List Line → List Change → List Change → List Line → List Line
lines_by rules turn number polls changes ledger attempts =
    TurnLine turn.moment number
    ∷ polls
    ++ settled_lines turn.moment changes
    ++ input_lines turn.moment turn.input Told changes (answer rules (after ledger (map Done (dones changes))) turn)
    ++ attempts

same-lines : (rules : Rules) (p q : Place) (a b : TakenTurn) → AreLike p q → a.turn ≡ b.turn → Alike a.items b.items → a.changes ≡ b.changes
    → turn_lines rules p Told a ≡ turn_lines rules q Told b
same-lines rules p q a b like turn items changes =
    let polls_a : List Line = poll_lines a.turn.moment p.past a.items in
    let polls_b : List Line = poll_lines b.turn.moment q.past b.items in
    let attempts_a : List Line = attempt_lines a.turn.moment a.items in
    let attempts_b : List Line = attempt_lines b.turn.moment b.items in
    let polls : polls_a ≡ polls_b = same-poll_lines a.turn.moment p.past q.past a.items b.items like.past items ∙ ap (λ (t : FeedTurn). poll_lines t.moment q.past b.items) turn in
    let attempts : attempts_a ≡ attempts_b = same-attempt_lines a.turn.moment a.items b.items items ∙ ap (λ (t : FeedTurn). attempt_lines t.moment b.items) turn in
    ap (λ (t : FeedTurn). lines_by rules t p.number polls_a a.changes p.ledger attempts_a) turn
    ∙ ap (λ (n : ℕ). lines_by rules b.turn n polls_a a.changes p.ledger attempts_a) like.number
    ∙ ap (λ (lines : List Line). lines_by rules b.turn q.number lines a.changes p.ledger attempts_a) polls
    ∙ ap (λ (made : List Change). lines_by rules b.turn q.number polls_b made p.ledger attempts_a) changes
    ∙ ap (λ (ledger : List Change). lines_by rules b.turn q.number polls_b b.changes ledger attempts_a) like.ledger
    ∙ ap (λ (lines : List Line). lines_by rules b.turn q.number polls_b b.changes q.ledger lines) attempts

abbrev pub items_of : List TakenTurn → List Item
items_of turns = flat_map (λ taken. taken.items) turns

abbrev pub changes_of : List TakenTurn → List Change
changes_of turns = flat_map (λ taken. taken.changes) turns

-- what is the same of two lists of turns from like places
pub record AreSame (rules : Rules) (p q : Place) (a b : List TakenTurn) : Type 0 where
  pub items : Alike (items_of a) (items_of b)
  pub changes : changes_of a ≡ changes_of b
  pub lines : lines_of_turns rules p Told a ≡ lines_of_turns rules q Told b

first-whole : (rules : Rules) (place : Place) (taken : TakenTurn) (later : List TakenTurn) → LegalTurns rules place AtEnd (taken ∷ later)
    → WholeTurn rules place taken × LegalTurns rules (after_turn place taken) AtEnd later
first-whole rules place taken later legal = elim legal [ inl w ↦ w | inr cut ↦ absurd (let never = cut.0 in cc) ]

pub same-turns : (rules : Rules) (p q : Place) (n : ℕ) (a b : List TakenTurn) → AreLike p q → map (λ taken. taken.turn) a ≡ map (λ taken. taken.turn) b
    → LegalTurns rules p AtEnd a → LegalTurns rules q AtEnd b → Well (items_of a) → Well (items_of b) → AreCounted n (items_of a) → AreCounted n (items_of b)
    → AreSame rules p q a b
same-turns rules p q n [] [] like turns la lb wa wb ca cb = record { items = tt; changes = refl; lines = refl }
same-turns rules p q n [] (y ∷ b) like turns la lb wa wb ca cb = absurd cc
same-turns rules p q n (x ∷ a) [] like turns la lb wa wb ca cb = absurd cc
same-turns rules p q n (x ∷ a) (y ∷ b) like turns la lb wa wb ca cb =
    let turn : x.turn ≡ y.turn = cc in
    let later : map (λ (taken : TakenTurn). taken.turn) a ≡ map (λ (taken : TakenTurn). taken.turn) b = cc in
    let legal_a = first-whole rules p x a la in
    let legal_b = first-whole rules q y b lb in
    let well_a : Well x.items = well-front x.items (items_of a) wa in
    let well_b : Well y.items = well-front y.items (items_of b) wb in
    let count_a : AreCounted n x.items = counted-front n x.items (items_of a) ca in
    let count_b : AreCounted n y.items = counted-front n y.items (items_of b) cb in
    let items : Alike x.items y.items = same-items rules p q x y n like turn legal_a.0 legal_b.0 well_a well_b count_a count_b in
    let changes : x.changes ≡ y.changes = same-changes rules p q x y n like turn legal_a.0 legal_b.0 well_a well_b count_a count_b in
    let there : AreLike (after_turn p x) (after_turn q y) = like-after rules p q x y n like turn legal_a.0 legal_b.0 well_a well_b count_a count_b in
    let rest : AreSame rules (after_turn p x) (after_turn q y) a b =
    same-turns rules (after_turn p x) (after_turn q y) (counted_to n x.items) a b there later legal_a.1 legal_b.1
    (well-behind x.items (items_of a) wa) (well-behind y.items (items_of b) wb) (counted-behind n x.items (items_of a) ca)
    (subst (λ (k : ℕ). AreCounted k (items_of b)) (sym (same-count n x.items y.items items)) (counted-behind n y.items (items_of b) cb)) in
    record {
      items = alike-append x.items y.items (items_of a) (items_of b) items rest.items;
      changes = ap (λ (made : List Change). made ++ changes_of a) changes ∙ ap (λ (made : List Change). y.changes ++ made) rest.changes;
      lines =
          ap (λ told. turn_lines rules p told x ++ lines_of_turns rules (after_turn p x) Told a) (told_in_all a)
          ∙ ap (λ (lines : List Line). lines ++ lines_of_turns rules (after_turn p x) Told a) (same-lines rules p q x y like turn items changes)
          ∙ ap (λ (lines : List Line). turn_lines rules q Told y ++ lines) rest.lines
          ∙ ap (λ told. turn_lines rules q told y ++ lines_of_turns rules (after_turn q y) Told b) (sym (told_in_all b));
    }

-- as many turns
pub same-length : (a b : List TakenTurn) → map (λ taken. taken.turn) a ≡ map (λ taken. taken.turn) b → length a ≡ length b
same-length a b turns = sym (length-map a (λ (taken : TakenTurn). taken.turn)) ∙ ap length turns ∙ length-map b (λ (taken : TakenTurn). taken.turn)
