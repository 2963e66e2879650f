-- How a text falls into its pieces.
use Rattle.std.proofs.Common.{◌≡◌, ◌≢◌, ℕ, ◌+◌, ◌<◌, ◌≤◌, eqb, true, false, List, [], ◌∷◌, ◌++◌, length, refl, sym, ap, ◌∙◌, ⊎_elim, arith, append_assoc, append-nil}
use Rattle.std.specs.List.{onto_first}
use Rattle.std.proofs.lemmas.Bool.{cases_Bool, or_parts, or_from, or_cases, ne_eqb, eqb-true}
use Rattle.std.proofs.lemmas.List.{length_push}
use Rattle.fk_input.specs.Lines.{pieces, IsPiece, is_fed, content}

-- a line feed ends a piece
pub pieces-fed : (front more : List ℕ) → is_fed front ≡ false → pieces (front ++ 10 ∷ more) ≡ (front ++ 10 ∷ []) ∷ pieces more
pieces-fed [] more h = refl
pieces-fed (b ∷ bs) more h =
    let u = or_parts (eqb b 10) (is_fed bs) h in
    rw u.0 (ap (onto_first b) (pieces-fed bs more u.1))

-- bytes without a line feed and one more byte are one piece
pub IsPiece-push : (front : List ℕ) (b : ℕ) → is_fed front ≡ false → IsPiece (front ++ b ∷ [])
IsPiece-push [] b h = ⊎_elim (λ e. rw e refl) (λ e. rw e refl) (cases_Bool (eqb b 10))
IsPiece-push (a ∷ bs) b h =
    let u = or_parts (eqb a 10) (is_fed bs) h in
    rw u.0 (ap (onto_first a) (IsPiece-push bs b u.1))

-- bytes without a line feed are one piece, where there are any
pub pieces-unfed : (bytes : List ℕ) → is_fed bytes ≡ false → 0 < length bytes → IsPiece bytes
pieces-unfed [] h some = absurd (omega arith)
pieces-unfed (b ∷ []) h some = rw (or_parts (eqb b 10) false h).0 refl
pieces-unfed (b ∷ c ∷ cs) h some =
    let u = or_parts (eqb b 10) (is_fed (c ∷ cs)) h in
    rw u.0 (ap (onto_first b) (pieces-unfed (c ∷ cs) u.1 (omega arith)))

pub content-unfed : (bytes : List ℕ) → is_fed bytes ≡ false → content bytes ≡ bytes
content-unfed [] h = refl
content-unfed (b ∷ bs) h =
    let u = or_parts (eqb b 10) (is_fed bs) h in
    rw u.0 (ap (λ v. b ∷ v) (content-unfed bs u.1))

pub content-fed : (front : List ℕ) → is_fed front ≡ false → content (front ++ 10 ∷ []) ≡ front
content-fed [] h = refl
content-fed (b ∷ bs) h =
    let u = or_parts (eqb b 10) (is_fed bs) h in
    rw u.0 (ap (λ v. b ∷ v) (content-fed bs u.1))

pub is_fed-fed : (front : List ℕ) → is_fed (front ++ 10 ∷ []) ≡ true
is_fed-fed [] = refl
is_fed-fed (b ∷ bs) = ⊎_elim (λ e. rw e refl) (λ e. rw e (is_fed-fed bs)) (cases_Bool (eqb b 10))

pub is_fed-push : (front : List ℕ) (b : ℕ) → is_fed front ≡ false → b ≢ 10 → is_fed (front ++ b ∷ []) ≡ false
is_fed-push [] b h other = or_from (eqb b 10) false (ne_eqb b 10 other) refl
is_fed-push (a ∷ bs) b h other =
    let u = or_parts (eqb a 10) (is_fed bs) h in
    or_from (eqb a 10) (is_fed (bs ++ b ∷ [])) u.0 (is_fed-push bs b u.1 other)

-- the line of a piece has no line feed
pub is_fed-content : (bytes : List ℕ) → is_fed (content bytes) ≡ false
is_fed-content [] = refl
is_fed-content (b ∷ bs) =
    ⊎_elim (λ e. rw e refl) (λ e. rw e (or_from (eqb b 10) (is_fed (content bs)) e (is_fed-content bs))) (cases_Bool (eqb b 10))

pub content-append : (front more : List ℕ) → is_fed front ≡ false → content (front ++ more) ≡ front ++ content more
content-append [] more h = refl
content-append (b ∷ bs) more h =
    let u = or_parts (eqb b 10) (is_fed bs) h in
    rw u.0 (ap (λ v. b ∷ v) (content-append bs more u.1))

onto_first-piece : (b : ℕ) (qs : List (List ℕ)) (c : ℕ) (cs : List ℕ) → onto_first b qs ≡ (b ∷ c ∷ cs) ∷ [] → qs ≡ (c ∷ cs) ∷ []
onto_first-piece b [] c cs h = absurd (cc)
onto_first-piece b (q ∷ qs) c cs h = cc

-- a piece with a line feed is its line and the line feed
pub piece-fed : (piece : List ℕ) → IsPiece piece → is_fed piece ≡ true → piece ≡ content piece ++ 10 ∷ []
piece-fed [] is fed = absurd (cc)
piece-fed (b ∷ []) is fed =
    ⊎_elim (λ e. rw e (ap (λ v. v ∷ []) (eqb-true b 10 e))) (λ e. absurd (cc)) (or_cases (eqb b 10) false fed)
piece-fed (b ∷ c ∷ cs) is fed =
    ⊎_elim
    (λ e. absurd (let h = rw e at is in cc))
    (λ e. rw e (ap (λ v. b ∷ v) (piece-fed (c ∷ cs) (onto_first-piece b (pieces (c ∷ cs)) c cs (rw e at is)) (rw e at fed))))
    (cases_Bool (eqb b 10))

-- a piece with a line feed is cut apart from what follows
pub pieces-piece : (piece more : List ℕ) → IsPiece piece → is_fed piece ≡ true → pieces (piece ++ more) ≡ piece ∷ pieces more
pieces-piece piece more is fed =
    let e = piece-fed piece is fed in
    ap (λ v. pieces (v ++ more)) e ∙ (ap pieces (append_assoc (content piece) (10 ∷ []) more) ∙ (pieces-fed (content piece) more (is_fed-content piece) ∙ ap (λ v. v ∷ pieces more) (sym e)))

pub length-piece : (piece : List ℕ) → IsPiece piece → length piece ≤ length (content piece) + 1
length-piece piece is =
    ⊎_elim
    (λ fed. let e = ap length (piece-fed piece is fed) in let n = length_push (content piece) 10 in omega arith)
    (λ unfed. let e = ap length (content-unfed piece unfed) in omega arith)
    (cases_Bool (is_fed piece))

-- the front is where the first piece of the text begins
pub record Begins (front text : List ℕ) : Type 0 where
  pub tail : List ℕ
  pub others : List (List ℕ)
  pub cut : pieces text ≡ (front ++ tail) ∷ others

begins-byte : (b : ℕ) (bs : List ℕ) (qs : List (List ℕ)) → eqb b 10 ≡ false → pieces bs ≡ qs → Begins (b ∷ []) (b ∷ bs)
begins-byte b bs [] e is = record { tail = []; others = []; cut = rw (e, is) refl }
begins-byte b bs (q ∷ qs) e is = record { tail = q; others = qs; cut = rw (e, is) refl }

begins-cons : (b : ℕ) (front bs : List ℕ) → eqb b 10 ≡ false → Begins front bs → Begins (b ∷ front) (b ∷ bs)
begins-cons b front bs e r = record { tail = r.tail; others = r.others; cut = rw e (ap (onto_first b) r.cut) }

pub begins-unfed : (front more : List ℕ) → is_fed front ≡ false → 0 < length front → Begins front (front ++ more)
begins-unfed [] more unfed some = absurd (omega arith)
begins-unfed (b ∷ []) more unfed some = begins-byte b more (pieces more) (or_parts (eqb b 10) false unfed).0 refl
begins-unfed (b ∷ c ∷ cs) more unfed some =
    let u = or_parts (eqb b 10) (is_fed (c ∷ cs)) unfed in
    begins-cons b (c ∷ cs) (c ∷ cs ++ more) u.0 (begins-unfed (c ∷ cs) more u.1 (omega arith))

pub begins-piece : (front more : List ℕ) → IsPiece front → 0 < length front → Begins front (front ++ more)
begins-piece front more is some =
    ⊎_elim
    (λ fed. record { tail = []; others = pieces more; cut = pieces-piece front more is fed ∙ ap (λ v. v ∷ pieces more) (sym (append-nil front)) })
    (λ unfed. begins-unfed front more unfed some)
    (cases_Bool (is_fed front))
