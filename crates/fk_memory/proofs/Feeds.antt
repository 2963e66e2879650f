-- The turns that a feed in memory has given.
use Rattle.std.proofs.Common.{◌≡◌, ◌⊎◌, ℕ, ◌+◌, ◌<◌, ◌≤◌, min, Bool, true, false, List, [], ◌∷◌, ◌++◌, length, take, map, Some, None, refl, sym, ap, ◌∙◌, subst, inl, inr, arith, nat_lt, append-nil, if◌then◌else◌, slice_get, Option, MatchOption}
use Rattle.std.proofs.Math.Seq.{take-append_seam}
use Rattle.std.proofs.lemmas.List.{take_all, take_more, map-append}
use Rattle.std.proofs.lemmas.Bool.{cases_lt}
use Rattle.std.proofs.lemmas.Bool.Decides.{nat_tests}
use Rattle.std.proofs.lemmas.Option.{slice_get_within, get_or_from_slice_get, slice_get-get_or}
use Rattle.fk_trace.specs.Decision.{FeedTurn}
use Rattle.fk_trace.specs.Decision.Input.{Quiet}
use Rattle.fk_host.specs.declared.feed.Input.TheVariants.{End}
use Rattle.fk_host.specs.declared.feed.Turn.{Turn}
use Rattle.fk_host.specs.Feed.{Given, turns_of, turns_of_input}
use Rattle.fk_memory.specs.Feed.{FeedState, cut_turn, given_by, end_moment, IsNext, after_turn}

-- what stands in front of a list is its first part
pub front_is : {X : Type 0} (front rest : List X) (len : ℕ) → length front ≡ len → take len (front ++ rest) ≡ front
front_is front rest len size = subst (λ (n : ℕ). take n (front ++ rest) ≡ front) size (take-append_seam front rest)

pub take_min : {X : Type 0} (xs : List X) (n : ℕ) → take (min (length xs) n) xs ≡ take n xs
take_min xs n = by_size (cases_lt n (length xs))
  where
    by_size : (n < length xs) ⊎ (length xs ≤ n) → take (min (length xs) n) xs ≡ take n xs
    by_size (inl below) = ap (λ k. take k xs) (omega (arith, below))
    by_size (inr above) = ap (λ k. take k xs) (let e : min (length xs) n ≡ length xs = omega (arith, above) in e) ∙ take_all (length xs) xs (omega arith) ∙ sym (take_all n xs above)

lt_true : (a b : ℕ) → a < b → nat_lt a b ≡ true
lt_true a b below = grind (arith, nat_tests)

lt_false : (a b : ℕ) → b ≤ a → nat_lt a b ≡ false
lt_false a b above = grind (arith, nat_tests)

given_turns : (feed : FeedState) (turn : Turn) (buffer : List ℕ) (next : Option FeedTurn) → slice_get feed.turns feed.given ≡ next
    → MatchOption next ((turn.input ≡ End) × (turn.moment ≡ end_moment feed.turns)) (λ next. turns_of turn buffer ≡ cut_turn next ∷ [])
    → given_by (after_turn feed) ≡ Some (record { turns = map cut_turn (take feed.given feed.turns) ++ turns_of turn buffer; port = feed.port })
given_turns feed turn buffer (Some next) is answer =
    let inside : feed.given < length feed.turns = slice_get_within feed.turns feed.given next is in
    let of : List FeedTurn → Option Given = λ turns. Some (record { turns = turns; port = feed.port }) in
    let more : take (feed.given + 1) feed.turns ≡ take feed.given feed.turns ++ next ∷ [] =
    take_more feed.turns feed.given next inside ∙ ap (λ t. take feed.given feed.turns ++ t ∷ []) (get_or_from_slice_get feed.turns feed.given next next is) in
    ap (λ (b : Bool). given_by (if b then record feed { given = feed.given + 1; has_ended = false } else record feed { has_ended = true })) (lt_true feed.given (length feed.turns) inside)
    ∙ ap of (ap (map cut_turn) more ∙ map-append cut_turn (take feed.given feed.turns) (next ∷ []) ∙ ap (λ ts. map cut_turn (take feed.given feed.turns) ++ ts) (sym answer))
given_turns feed turn buffer None is answer =
    let past : length feed.turns ≤ feed.given = past_end (cases_lt feed.given (length feed.turns)) in
    let of : List FeedTurn → Option Given = λ turns. Some (record { turns = turns; port = feed.port }) in
    ap (λ (b : Bool). given_by (if b then record feed { given = feed.given + 1; has_ended = false } else record feed { has_ended = true })) (lt_false feed.given (length feed.turns) past)
    ∙ ap of (sym (append-nil (map cut_turn (take feed.given feed.turns))) ∙ ap (λ input. map cut_turn (take feed.given feed.turns) ++ turns_of_input turn.moment buffer input) (sym answer.0))
  where
    past_end : (feed.given < length feed.turns) ⊎ (length feed.turns ≤ feed.given) → length feed.turns ≤ feed.given
    past_end (inl inside) = absurd (let e = sym is ∙ slice_get-get_or feed.turns feed.given (record { moment = 0; input = Quiet }) inside in cc)
    past_end (inr past) = past

-- a turn more is told
pub gives_turn : (old : FeedState) (fails_in : ℕ) (new : FeedState) (turn : Turn) (buffer : List ℕ) → IsNext old turn buffer → new ≡ after_turn (record old { fails_in = fails_in })
    → given_by new ≡ Some (record { turns = map cut_turn (take old.given old.turns) ++ turns_of turn buffer; port = old.port })
gives_turn old fails_in new turn buffer next state = ap given_by state ∙ given_turns (record old { fails_in = fails_in }) turn buffer (slice_get old.turns old.given) refl next

-- the next turn is the answer, and where there is none the end
abbrev pub Answers : List FeedTurn → Turn → List ℕ → Option FeedTurn → Type 0
Answers turns turn buffer next = MatchOption next ((turn.input ≡ End) × (turn.moment ≡ end_moment turns)) (λ next. turns_of turn buffer ≡ cut_turn next ∷ [])

pub next_is : (turns : List FeedTurn) (given : ℕ) (turn : Turn) (buffer : List ℕ) (next : FeedTurn) → slice_get turns given ≡ Some next → turns_of turn buffer ≡ cut_turn next ∷ []
    → Answers turns turn buffer (slice_get turns given)
next_is turns given turn buffer next is answer = subst (Answers turns turn buffer) (sym is) answer

pub end_is : (turns : List FeedTurn) (given : ℕ) (turn : Turn) (buffer : List ℕ) → slice_get turns given ≡ None → (turn.input ≡ End) × (turn.moment ≡ end_moment turns)
    → Answers turns turn buffer (slice_get turns given)
end_is turns given turn buffer is answer = subst (Answers turns turn buffer) (sym is) answer
