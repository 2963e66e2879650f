-- What the lines that were read say of the whole input.
use Rattle.std.proofs.Common.{◌≡◌, ℕ, ◌+◌, ◌<◌, List, [], ◌∷◌, ◌++◌, length, Option, Some, None, ⊎_elim, sym, ap, ◌∙◌, append-nil, append_assoc, length-append, zero-le, refl, inr, arith}
use Rattle.std.specs.List.{concat}
use Rattle.std.proofs.lemmas.List.{append_cancel_left}
use Rattle.std.proofs.lemmas.Bool.{cases_Bool}
use Rattle.fk_host.specs.Stream.{Takes}
use Rattle.fk_host.proofs.Streams.{Takes-append}
use Rattle.fk_input.specs.Lines.{pieces, IsPiece, input_limit}
use Rattle.fk_input.specs.Reading.{Reading, IsBounded, rest, TakesLine, FindsEnd}
use Rattle.fk_input.specs.Progress.{HasRead}
use Rattle.fk_input.proofs.Progress.{Reads-end}
use Rattle.fk_trace.specs.Decision.{FeedTurn}
use Rattle.fk_run.specs.Run.Ending.{AtEnd}
use Rattle.fk_trial.specs.declared.session.Stop.{Stop}
use Rattle.fk_trial.specs.declared.session.Stop.TheVariants as stop
use Rattle.fk_trial.specs.Lines.{IsTurnLine}
use Rattle.fk_trial.specs.Streams.{TakesAtMost}
use Rattle.fk_trial.specs.Trial.{HasTurns, WantsForLine}
use Rattle.fk_trial.specs.Sessions.{StopsAt, ending_of}

-- a piece takes at least one byte
some-byte : (piece : List ℕ) → IsPiece piece → 0 < length piece
some-byte [] is = absurd (cc)
some-byte (byte ∷ bytes) is = omega arith

pub line-advances : (old new : Reading) (before after : Option (List ℕ)) → TakesLine old new before after → old.offset < new.offset
line-advances old new before after t = omega (arith, t.offset, some-byte t.piece t.is_piece)

-- the lines that were read are the first ones of the input
pieces-so_far : (text : List ℕ) (now : Option (List ℕ)) (reader : Reading) (turns : List FeedTurn) → (h : HasRead IsTurnLine (Some text) now reader turns) → (others : List (List ℕ)) × (pieces text ≡ h.used ++ others)
pieces-so_far text None reader turns h = absurd h.taken
pieces-so_far text (Some left) reader turns h =
    ⊎_elim
    (λ e. ([], ap pieces (h.whole e).1 ∙ (h.whole e).0 ∙ sym (append-nil h.used)))
    (λ e. (pieces left, ap pieces h.taken ∙ h.apart e left))
    (cases_Bool reader.ended)

-- the turns so far are the first lines of the input, and memory was wanting for the last one
pub wants-for-line : (start now : Option (List ℕ)) (reader : Reading) (turns : List FeedTurn) (wanting : FeedTurn)
    → HasRead IsTurnLine start now reader (turns ++ wanting ∷ []) → WantsForLine start turns
wants-for-line None now reader turns wanting h = tt
wants-for-line (Some text) now reader turns wanting h =
    let at = pieces-so_far text now reader (turns ++ wanting ∷ []) h in
    (wanting, h.used, at.0, at.1, h.reads)

-- what a stop says of the input, the run that ended so says too
pub has-turns : (how : Stop) (line : ℕ) (before after : Option (List ℕ)) (turns : List FeedTurn) → StopsAt how line before after turns
    → HasTurns (ending_of how line) before after turns
has-turns stop.End line before after turns stops = stops
has-turns stop.BadLine line before after turns stops = stops
has-turns stop.LongInput line before after turns stops = stops
has-turns stop.ReadFault line before after turns stops = stops
has-turns stop.NoMemory line before after turns stops = inr stops

left-none : (text : List ℕ) (before left : Option (List ℕ)) (old new : Reading) (turns : List FeedTurn)
    → HasRead IsTurnLine (Some text) before old turns → FindsEnd old new before (rest new left) → left ≡ Some []
left-none text None left old new turns h f = absurd h.taken
left-none text (Some bytes) None old new turns h f = absurd f.nothing.2
left-none text (Some bytes) (Some others) old new turns h f =
    let empty : bytes ≡ [] = ⊎_elim
    (λ e. append_cancel_left (concat h.used) bytes [] (sym h.taken ∙ ((h.whole e).1 ∙ sym (append-nil (concat h.used)))))
    (λ none. none) f.left in
    let behind : bytes ≡ new.pending ++ others = f.nothing.2 in
    ap Some (sym (ap (λ v. v ++ others) f.nothing.1) ∙ (sym behind ∙ empty))

-- the whole input was read
pub turns-end : (start before left : Option (List ℕ)) (old new : Reading) (turns : List FeedTurn)
    → HasRead IsTurnLine start before old turns → FindsEnd old new before (rest new left) → HasTurns AtEnd start left turns
turns-end None before left old new turns h f = tt
turns-end (Some text) before left old new turns h f =
    (Reads-end IsTurnLine (Some text) before (rest new left) old new turns h f, left-none text before left old new turns h f)

-- nothing was taken
pub takes-nothing : (most : ℕ) (left : Option (List ℕ)) → TakesAtMost most left left
takes-nothing most None = ([], zero-le, tt)
takes-nothing most (Some text) = ([], zero-le, refl)

-- a bounded reader has used up this front of the input
front-bounded : (front : List ℕ) (start left : Option (List ℕ)) (reader : Reading)
    → Takes front start (rest reader left) → reader.offset ≡ length front → IsBounded reader → TakesAtMost (input_limit + 1) start left
front-bounded front None left reader taken offset bounded = ([], zero-le, tt)
front-bounded front (Some text) None reader taken offset bounded = absurd taken
front-bounded front (Some text) (Some others) reader taken offset bounded = (
  front ++ reader.pending,
  omega (arith, length-append front reader.pending),
  taken ∙ sym (append_assoc front reader.pending others),
)

-- a bounded reader has used up this piece behind the lines that were read
pub takes-bounded : (piece : List ℕ) (start before left : Option (List ℕ)) (old new : Reading) (turns : List FeedTurn)
    → HasRead IsTurnLine start before old turns
    → Takes piece before (rest new left) → new.offset ≡ old.offset + length piece → IsBounded new
    → TakesAtMost (input_limit + 1) start left
takes-bounded piece start before left old new turns h taken offset bounded =
    front-bounded (concat h.used ++ piece) start left new
    (Takes-append (concat h.used) piece start before (rest new left) h.taken taken)
    (omega (arith, offset, h.offset, length-append (concat h.used) piece))
    bounded
