-- What a call that reads the next line has used up, and what its answers say of it.
use Rattle.std.proofs.Common.{◌≡◌, ℕ, ◌+◌, ◌<◌, ◌≤◌, min, true, false, List, [], ◌∷◌, ◌++◌, length, Option, Some, None, IfSome, refl, sym, ap, ◌∙◌, subst, arith, append-nil}
use Rattle.std.proofs.lemmas.Bool.{le-ltb}
use Rattle.std.proofs.lemmas.List.{length_push}
use Rattle.fk_host.specs.Stream.{Takes}
use Rattle.fk_host.proofs.Streams.{Takes-append}
use Rattle.fk_input.specs.declared.line_reader.NextLine.{NextLine}
use Rattle.fk_input.specs.declared.line_reader.NextLine.TheVariants as answer
use Rattle.fk_input.specs.Lines.{is_fed, line_limit, input_limit}
use Rattle.fk_input.specs.Private.{UsesUp, Places}
use Rattle.fk_input.specs.Reading.{Reading, rest, TakesLine, TakesLongLine, PassesLimit, Says}
use Rattle.fk_input.proofs.Pieces.{pieces-unfed, IsPiece-push, pieces-fed, content-unfed, content-fed, is_fed-fed, is_fed-push}

-- the line holds the bytes that were used up since the call began
pub record IsWithinLine (old now : Reading) (before after : Option (List ℕ)) : Type 0 where
  pub unended : now.ended ≡ false
  pub within : now.offset ≤ input_limit
  pub len : length now.line ≤ line_limit
  pub unfed : is_fed now.line ≡ false
  pub taken : Takes now.line before after
  pub offset : now.offset ≡ old.offset + length now.line
  pub first : now.line ≡ [] → now.pending ≡ old.pending

-- one more byte of the line
pub within-placed : (old now mid new : Reading) (b : ℕ) (before left_now left : Option (List ℕ))
    → IsWithinLine old now before (rest now left_now)
    → UsesUp (b ∷ []) now mid left_now left
    → mid.ended ≡ false
    → Places None mid new b
    → IsWithinLine old new before (rest new left)
within-placed old now mid new b before left_now left w u ended p =
    let line : mid.line ++ b ∷ [] ≡ now.line ++ b ∷ [] = ap (λ v. v ++ b ∷ []) u.2 in
    let len : length (mid.line ++ b ∷ []) ≡ length now.line + 1 = ap length line ∙ length_push now.line b in
    let short : length now.line < line_limit = subst (λ (v : List ℕ). length v < line_limit) u.2 p.2 in
    subst (λ (r : Reading). IsWithinLine old r before (rest r left)) (sym p.3) (record {
      unended = ended;
      within = p.0;
      len = omega arith;
      unfed = ap is_fed line ∙ is_fed-push now.line b w.unfed p.1;
      taken = subst (λ (v : List ℕ). Takes v before (rest mid left)) (sym line) (Takes-append now.line (b ∷ []) before (rest now left_now) (rest mid left) w.taken u.0);
      offset = omega (arith, w.offset, u.1);
      first = λ h. absurd (let k = ap length h in omega arith);
    })

-- the byte with which the call answers
pub says-placed : (result : NextLine) (old now mid new : Reading) (b : ℕ) (before left_now left : Option (List ℕ))
    → old.ended ≡ false
    → IsWithinLine old now before (rest now left_now)
    → UsesUp (b ∷ []) now mid left_now left
    → mid.ended ≡ false
    → Places (Some result) mid new b
    → Says result old new before (rest new left)
says-placed answer.Line old now mid new b before left_now left unended w u ended p =
    let fed : b ∷ [] ≡ 10 ∷ [] = ap (λ v. v ∷ []) p.1 in
    let len = length_push now.line 10 in
    subst (λ (r : Reading). TakesLine old r before (rest r left)) (sym p.2) (record {
      unended = unended;
      piece = now.line ++ 10 ∷ [];
      is_piece = pieces-fed now.line [] w.unfed;
      taken = Takes-append now.line (10 ∷ []) before (rest now left_now) (rest mid left) w.taken (subst (λ (v : List ℕ). Takes v (rest now left_now) (rest mid left)) fed u.0);
      line = u.2 ∙ sym (content-fed now.line w.unfed);
      short = subst (λ (v : List ℕ). length v ≤ line_limit) (sym u.2) w.len;
      within = le-ltb input_limit (old.offset + min (length (now.line ++ 10 ∷ [])) (line_limit + 1)) (omega (arith, p.0, u.1, w.offset));
      offset = omega (arith, u.1, w.offset);
      fed = λ _. is_fed-fed now.line;
      last = λ h. absurd (cc);
    })
says-placed answer.End old now mid new b before left_now left unended w u ended p = absurd p
says-placed answer.LongLine old now mid new b before left_now left unended w u ended p =
    let len = length_push now.line b in
    let full : length now.line ≡ line_limit = ap length (sym u.2) ∙ p.2 in
    subst (λ (r : Reading). TakesLongLine old r before (rest r left)) (sym p.3) (record {
      unended = unended;
      front = now.line ++ b ∷ [];
      len = omega arith;
      unfed = is_fed-push now.line b w.unfed p.1;
      taken = Takes-append now.line (b ∷ []) before (rest now left_now) (rest mid left) w.taken u.0;
      within = omega (arith, p.0, u.1, w.offset);
      line = refl;
      offset = omega (arith, u.1, w.offset);
      ended = ended;
    })
says-placed answer.LongInput old now mid new b before left_now left unended w u ended p =
    let len = length_push now.line b in
    subst (λ (r : Reading). PassesLimit old r before (rest r left)) (sym p.1) (record {
      unended = unended;
      front = now.line ++ b ∷ [];
      len = omega (arith, w.len);
      is_piece = λ _. IsPiece-push now.line b w.unfed;
      taken = Takes-append now.line (b ∷ []) before (rest now left_now) (rest mid left) w.taken u.0;
      passes = omega (arith, p.0, u.1, w.offset, w.within);
      line = refl;
      offset = omega (arith, u.1, w.offset);
      ended = ended;
    })
says-placed answer.Failed old now mid new b before left_now left unended w u ended p = absurd p

-- all that was left, where the source has nothing more
left-is : (line pending : List ℕ) (before left : Option (List ℕ))
    → Takes line before (rest (record { pending = pending; line = line; offset = 0; ended = false }) left)
    → pending ≡ [] → IfSome left (λ bytes. bytes ≡ [])
    → IfSome before (λ bytes. bytes ≡ line)
left-is line pending None left t none end = tt
left-is line pending (Some bytes) None t none end = absurd t
left-is line pending (Some bytes) (Some more) t none end = t ∙ rw (none, end) (append-nil line)

-- the last line, which has no line feed
pub takes-last : (old now mid : Reading) (before left_now left : Option (List ℕ))
    → old.ended ≡ false
    → IsWithinLine old now before (rest now left_now)
    → UsesUp [] now mid left_now left
    → mid.ended ≡ true
    → now.pending ≡ []
    → mid.pending ≡ []
    → IfSome left_now (λ bytes. bytes ≡ [])
    → 0 < length mid.line
    → TakesLine old mid before (rest mid left)
takes-last old now mid before left_now left unended w u ended none empty end some =
    let some_line : 0 < length now.line = subst (λ (v : List ℕ). 0 < length v) u.2 some in
    record {
      unended = unended;
      piece = now.line;
      is_piece = pieces-unfed now.line w.unfed some_line;
      taken = subst (λ (v : List ℕ). Takes v before (rest mid left)) (append-nil now.line) (Takes-append now.line [] before (rest now left_now) (rest mid left) w.taken u.0);
      line = u.2 ∙ sym (content-unfed now.line w.unfed);
      short = subst (λ (v : List ℕ). length v ≤ line_limit) (sym u.2) w.len;
      within = le-ltb input_limit (old.offset + min (length now.line) (line_limit + 1)) (omega (arith, w.within, w.offset));
      offset = omega (arith, u.1, w.offset);
      fed = λ h. absurd (cc);
      last = λ _. (w.unfed, empty, left-is now.line now.pending before left_now w.taken none end);
    }
