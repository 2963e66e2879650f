-- From the answers of a reader to what its input says.
use Rattle.std.proofs.Common.{◌≡◌, ℕ, ◌+◌, ◌<◌, ◌≤◌, true, false, List, [], ◌∷◌, ◌++◌, length, Option, Some, None, IfSome, refl, sym, ap, ◌∙◌, subst, inl, inr, ⊎_elim, arith, append_assoc, append-nil, length-append}
use Rattle.std.specs.List.{concat, filter, AllByRecursion}
use Rattle.std.proofs.lemmas.Bool.{cases_Bool, ltb-false, le-ltb, lt-ltb}
use Rattle.std.proofs.lemmas.List.Folds.{concat-append}
use Rattle.std.proofs.lemmas.List.Elements.{filter-append}
use Rattle.fk_host.specs.Stream.{Takes}
use Rattle.fk_host.proofs.Streams.{Takes-append}
use Rattle.fk_input.specs.declared.fault.Fault.{Fault}
use Rattle.fk_input.specs.declared.fault.LineFault.TheVariants.{BadLine, TooLong}
use Rattle.fk_input.specs.declared.line_reader.NextLine.{NextLine}
use Rattle.fk_input.specs.declared.line_reader.NextLine.TheVariants as answer
use Rattle.fk_input.specs.Lines.{pieces, is_fed, content, passes_limit, line_limit, input_limit, Reads, end, line, bad, long}
use Rattle.fk_input.specs.Reading.{Reading, rest, TakesLine, FindsEnd, TakesLongLine, PassesLimit, BreaksOff, IsBounded, Says}
use Rattle.fk_input.specs.Progress.{HasRead}
use Rattle.fk_input.proofs.Pieces.{pieces-unfed, content-unfed, pieces-piece, length-piece, content-append, begins-unfed, begins-piece}
use Rattle.fk_input.proofs.Readings.{Reads-append, length-Reads, short-Reads}

takes-nothing : (left : Option (List ℕ)) → Takes [] left (rest (record { pending = []; line = []; offset = 0; ended = false }) left)
takes-nothing None = tt
takes-nothing (Some bytes) = refl

-- a new reader has read nothing
pub HasRead-new : {T : Type 0} (IsLine : List ℕ → T → Type 0) (left : Option (List ℕ)) (reader : Reading)
    → reader ≡ record { pending = []; line = []; offset = 0; ended = false }
    → HasRead IsLine left (rest reader left) reader []
HasRead-new {T} IsLine left reader new =
    subst (λ (r : Reading). HasRead {T = T} IsLine left (rest r left) r []) (sym new) (record {
      used = [];
      taken = takes-nothing left;
      reads = end;
      offset = refl;
      within = omega arith;
      fed = λ _. refl;
      apart = λ _ more. refl;
      whole = λ h. absurd (cc);
    })

-- what was left at the start, by what was left behind the front of it
whole-left : (front piece : List ℕ) (start before : Option (List ℕ)) → Takes front start before → IfSome before (λ bytes. bytes ≡ piece) → IfSome start (λ text. text ≡ front ++ piece)
whole-left front piece None before taken all = tt
whole-left front piece (Some text) None taken all = absurd taken
whole-left front piece (Some text) (Some bytes) taken all = taken ∙ ap (λ v. front ++ v) all

concat-push : (used : List (List ℕ)) (piece : List ℕ) → concat (used ++ piece ∷ []) ≡ concat used ++ piece
concat-push used piece = concat-append used (piece ∷ []) ∙ ap (λ v. concat used ++ v) (append-nil piece)

-- the next line was read, and has a value
pub HasRead-line : {T : Type 0} (IsLine : List ℕ → T → Type 0) (start before after : Option (List ℕ)) (old new : Reading) (values : List T) (value : T)
    → HasRead IsLine start before old values
    → TakesLine old new before after
    → IsLine new.line value
    → HasRead IsLine start after new (values ++ value ∷ [])
HasRead-line {T} IsLine start before after old new values value h t is =
    let joined : concat (h.used ++ t.piece ∷ []) ≡ concat h.used ++ t.piece = concat-push h.used t.piece in
    let joined_len : length (concat (h.used ++ t.piece ∷ [])) ≡ length (concat h.used) + length t.piece = ap length joined ∙ length-append (concat h.used) t.piece in
    let short : length (content t.piece) ≤ line_limit = subst (λ (v : List ℕ). length v ≤ line_limit) t.line t.short in
    let says : IsLine (content t.piece) value = subst (λ (v : List ℕ). IsLine v value) t.line is in
    record {
      used = h.used ++ t.piece ∷ [];
      taken = subst (λ (v : List ℕ). Takes v start after) (sym joined) (Takes-append (concat h.used) t.piece start before after h.taken t.taken);
      reads = Reads-append IsLine h.reads (t.piece ∷ []) (value ∷ []) None old.offset (length h.used + 1) (omega (arith, h.offset)) (omega arith) (line t.within short says end);
      offset = omega (arith, t.offset, h.offset);
      within = omega (arith, t.offset, length-piece t.piece t.is_piece, ltb-false _ _ t.within);
      fed = λ e. filter-append is_fed h.used (t.piece ∷ []) ∙ rw (h.fed t.unended, t.fed e) refl;
      apart = λ e more.
          ap (λ v. pieces (v ++ more)) joined
          ∙ (ap pieces (append_assoc (concat h.used) t.piece more)
          ∙ (h.apart t.unended (t.piece ++ more)
          ∙ (ap (λ v. h.used ++ v) (pieces-piece t.piece more t.is_piece (t.fed e))
          ∙ sym (append_assoc h.used (t.piece ∷ []) (pieces more)))));
      whole = λ e. (
        ap pieces joined ∙ (h.apart t.unended t.piece ∙ ap (λ v. h.used ++ v) t.is_piece),
        subst (λ (v : List ℕ). IfSome start (λ text. text ≡ v)) (sym joined) (whole-left (concat h.used) t.piece start before h.taken (t.last e).2),
      );
    }

each-left : (left : Option (List ℕ)) (P Q : List ℕ → Type 0) → ((bytes : List ℕ) → P bytes → Q bytes) → IfSome left P → IfSome left Q
each-left None P Q f h = tt
each-left (Some bytes) P Q f h = f bytes h

behind-front : (front : List ℕ) (before after : Option (List ℕ)) → Takes front before after → (P : List ℕ → Type 0) → ((more : List ℕ) → P (front ++ more)) → IfSome before P
behind-front front None after taken P f = tt
behind-front front (Some bytes) None taken P f = absurd taken
behind-front front (Some bytes) (Some more) taken P f = subst P (sym taken) (f more)

-- what is left says the rest of what the whole says
goes-on : {T : Type 0} (IsLine : List ℕ → T → Type 0) (start before : Option (List ℕ)) (reader : Reading) (values more : List T) (fault : Option Fault)
    → HasRead IsLine start before reader values
    → reader.ended ≡ false
    → IfSome before (λ bytes. Reads IsLine reader.offset (length values + 1) (pieces bytes) more fault)
    → IfSome start (λ text. Reads IsLine 0 1 (pieces text) (values ++ more) fault)
goes-on IsLine None before reader values more fault h unended behind = tt
goes-on IsLine (Some text) None reader values more fault h unended behind = absurd h.taken
goes-on {T} IsLine (Some text) (Some bytes) reader values more fault h unended behind =
    let cut : pieces text ≡ h.used ++ pieces bytes = ap pieces h.taken ∙ h.apart unended bytes in
    let number = length-Reads IsLine h.reads in
    subst (λ (ps : List (List ℕ)). Reads {T = T} IsLine 0 1 ps (values ++ more) fault) (sym cut)
    (Reads-append IsLine h.reads (pieces bytes) more fault reader.offset (length values + 1) (omega (arith, h.offset)) (omega arith) behind)

-- the reading ends with what is left
stops : {T : Type 0} (IsLine : List ℕ → T → Type 0) (start before : Option (List ℕ)) (reader : Reading) (values : List T) (fault : Option Fault)
    → HasRead IsLine start before reader values
    → reader.ended ≡ false
    → IfSome before (λ bytes. Reads IsLine reader.offset (length values + 1) (pieces bytes) [] fault)
    → IfSome start (λ text. Reads IsLine 0 1 (pieces text) values fault)
stops {T} IsLine start before reader values fault h unended behind =
    subst (λ (vs : List T). IfSome start (λ text. Reads {T = T} IsLine 0 1 (pieces text) vs fault)) (append-nil values)
    (goes-on IsLine start before reader values [] fault h unended behind)

-- What was read so far is a front of the input, and all its lines were taken.
pub Reads-so_far : {T : Type 0} (IsLine : List ℕ → T → Type 0) (start now : Option (List ℕ)) (reader : Reading) (values : List T)
    → HasRead IsLine start now reader values
    → (front : List ℕ) × Takes front start now × Reads IsLine 0 1 (pieces front) values None
Reads-so_far {T} IsLine start now reader values h =
    let P : List (List ℕ) → Type 0 = λ ps. Reads {T = T} IsLine 0 1 ps values None in
    let apart : pieces (concat h.used) ≡ h.used
    = ⊎_elim
    (λ e. (h.whole e).0)
    (λ e. ap pieces (sym (append-nil (concat h.used))) ∙ (h.apart e [] ∙ append-nil h.used))
    (cases_Bool reader.ended) in
    (concat h.used, h.taken, subst P (sym apart) h.reads)

-- at the end the whole input was read
pub Reads-end : {T : Type 0} (IsLine : List ℕ → T → Type 0) (start before after : Option (List ℕ)) (old new : Reading) (values : List T)
    → HasRead IsLine start before old values
    → FindsEnd old new before after
    → IfSome start (λ text. Reads IsLine 0 1 (pieces text) values None)
Reads-end {T} IsLine start before after old new values h f =
    let P : List (List ℕ) → Type 0 = λ ps. Reads {T = T} IsLine 0 1 ps values None in
    let seen : old.ended ≡ true → IfSome start (λ text. P (pieces text))
    = λ e. each-left start (λ text. text ≡ concat h.used) (λ text. P (pieces text)) (λ text is. subst P (sym (ap pieces is ∙ (h.whole e).0)) h.reads) (h.whole e).1 in
    ⊎_elim
    seen
    (λ e. ⊎_elim
    seen
    (λ none. stops IsLine start before old values None h e
    (each-left before (λ bytes. bytes ≡ []) (λ bytes. Reads {T = T} IsLine old.offset (length values + 1) (pieces bytes) [] None)
    (λ bytes is. subst (λ (ps : List (List ℕ)). Reads {T = T} IsLine old.offset (length values + 1) ps [] None) (sym (ap pieces is)) end) none))
    f.left)
    (cases_Bool old.ended)

-- the piece that was taken is the first of what was left
first-piece : (old new : Reading) (before after : Option (List ℕ)) (t : TakesLine old new before after)
    → IfSome before (λ bytes. (others : List (List ℕ)) × (pieces bytes ≡ t.piece ∷ others))
first-piece old new before after t =
    ⊎_elim
    (λ e. each-left before (λ bytes. bytes ≡ t.piece) (λ bytes. (others : List (List ℕ)) × (pieces bytes ≡ t.piece ∷ others)) (λ bytes is. ([], ap pieces is ∙ t.is_piece)) (t.last e).2)
    (λ e. behind-front t.piece before after t.taken (λ bytes. (others : List (List ℕ)) × (pieces bytes ≡ t.piece ∷ others)) (λ more. (pieces more, pieces-piece t.piece more t.is_piece (t.fed e))))
    (cases_Bool new.ended)

-- the line that was read is no line of the input's grammar
pub Reads-bad_line : {T : Type 0} (IsLine : List ℕ → T → Type 0) (start before after : Option (List ℕ)) (old new : Reading) (values : List T)
    → HasRead IsLine start before old values
    → TakesLine old new before after
    → ((value : T) → IsLine new.line value → ⊥)
    → IfSome start (λ text. Reads IsLine 0 1 (pieces text) values (Some (record { line = length values + 1; what = BadLine })))
Reads-bad_line {T} IsLine start before after old new values h t none =
    let fault : Option Fault = Some (record { line = length values + 1; what = BadLine }) in
    let P : List (List ℕ) → Type 0 = λ ps. Reads {T = T} IsLine old.offset (length values + 1) ps [] fault in
    let no_value : (value : T) → IsLine (content t.piece) value → ⊥ = λ value is. none value (subst (λ (v : List ℕ). IsLine v value) (sym t.line) is) in
    stops IsLine start before old values fault h t.unended
    (each-left before (λ bytes. (others : List (List ℕ)) × (pieces bytes ≡ t.piece ∷ others)) (λ bytes. P (pieces bytes))
    (λ bytes first. subst P (sym first.1) (bad t.within (inr no_value))) (first-piece old new before after t))

-- the line is above its limit
pub Reads-long_line : {T : Type 0} (IsLine : List ℕ → T → Type 0) (start before after : Option (List ℕ)) (old new : Reading) (values : List T)
    → HasRead IsLine start before old values
    → TakesLongLine old new before after
    → IfSome start (λ text. Reads IsLine 0 1 (pieces text) values (Some (record { line = length values + 1; what = BadLine })))
Reads-long_line {T} IsLine start before after old new values h t =
    let fault : Option Fault = Some (record { line = length values + 1; what = BadLine }) in
    let P : List (List ℕ) → Type 0 = λ ps. Reads {T = T} IsLine old.offset (length values + 1) ps [] fault in
    stops IsLine start before old values fault h t.unended
    (behind-front t.front before after t.taken (λ bytes. P (pieces bytes))
    (λ more.
    let b = begins-unfed t.front more t.unfed (omega (arith, t.len)) in
    let n = length-append t.front b.tail in
    let within : passes_limit old.offset (t.front ++ b.tail) ≡ false = le-ltb input_limit _ (omega (arith, t.len, t.within)) in
    let above : line_limit < length (content (t.front ++ b.tail)) = rw (content-append t.front b.tail t.unfed) (omega (arith, t.len, length-append t.front (content b.tail))) in
    subst P (sym b.cut) (bad within (inl above))))

-- the input is above its limit
pub Reads-limit : {T : Type 0} (IsLine : List ℕ → T → Type 0) (start before after : Option (List ℕ)) (old new : Reading) (values : List T)
    → HasRead IsLine start before old values
    → PassesLimit old new before after
    → IfSome start (λ text. Reads IsLine 0 1 (pieces text) values (Some (record { line = length values + 1; what = TooLong })))
Reads-limit {T} IsLine start before after old new values h t =
    let fault : Option Fault = Some (record { line = length values + 1; what = TooLong }) in
    let P : List (List ℕ) → Type 0 = λ ps. Reads {T = T} IsLine old.offset (length values + 1) ps [] fault in
    stops IsLine start before old values fault h t.unended
    (behind-front t.front before after t.taken (λ bytes. P (pieces bytes))
    (λ more.
    let b = begins-piece t.front more (t.is_piece h.within) (omega (arith, t.passes, h.within)) in
    let n = length-append t.front b.tail in
    let passes : passes_limit old.offset (t.front ++ b.tail) ≡ true = lt-ltb input_limit _ (omega (arith, t.len, t.passes)) in
    subst P (sym b.cut) (long passes)))

none-fed : (front : List ℕ) → is_fed front ≡ false → filter is_fed (pieces front) ≡ []
none-fed [] unfed = refl
none-fed (b ∷ bs) unfed = ap (filter is_fed) (pieces-unfed (b ∷ bs) unfed (omega arith)) ∙ rw unfed refl

rest-empty : (reader : Reading) (left : Option (List ℕ)) → reader.pending ≡ [] → rest reader left ≡ left
rest-empty reader None none = refl
rest-empty reader (Some bytes) none = ap (λ v. Some (v ++ bytes)) none

all-append : (P : List ℕ → Type 0) (xs ys : List (List ℕ)) → AllByRecursion P xs → AllByRecursion P ys → AllByRecursion P (xs ++ ys)
all-append P [] ys all more = more
all-append P (x ∷ xs) ys all more = (all.0, all-append P xs ys all.1 more)

short-front : (front : List ℕ) → is_fed front ≡ false → length front ≤ line_limit → AllByRecursion (λ piece. length (content piece) ≤ line_limit) (pieces front)
short-front [] unfed short = tt
short-front (b ∷ bs) unfed short =
    rw (pieces-unfed (b ∷ bs) unfed (omega arith), content-unfed (b ∷ bs) unfed) (short, tt)

-- At a failure of the source the lines that were read are those whose line feed was taken, and nothing that was taken breaks a
-- rule.
pub Reads-broken : {T : Type 0} (IsLine : List ℕ → T → Type 0) (start before left : Option (List ℕ)) (old new : Reading) (values : List T)
    → HasRead IsLine start before old values
    → BreaksOff old new before (rest new left)
    → (front : List ℕ) × Takes front start left × Reads IsLine 0 1 (filter is_fed (pieces front)) values None
    × AllByRecursion (λ piece. length (content piece) ≤ line_limit) (pieces front) × (length front ≤ input_limit)
Reads-broken {T} IsLine start before left old new values h b =
    let P : List (List ℕ) → Type 0 = λ ps. Reads {T = T} IsLine 0 1 ps values None in
    let S : List (List ℕ) → Type 0 = λ ps. AllByRecursion (λ piece. length (content piece) ≤ line_limit) ps in
    let apart : pieces (concat h.used ++ b.front) ≡ h.used ++ pieces b.front = h.apart b.unended b.front in
    let cut : filter is_fed (pieces (concat h.used ++ b.front)) ≡ h.used
    = ap (filter is_fed) apart
    ∙ (filter-append is_fed h.used (pieces b.front)
    ∙ (ap (λ v. v ++ filter is_fed (pieces b.front)) (h.fed b.unended)
    ∙ (ap (λ v. h.used ++ v) (none-fed b.front b.unfed) ∙ append-nil h.used))) in
    let taken : Takes (concat h.used ++ b.front) start left
    = subst (λ (o : Option (List ℕ)). Takes (concat h.used ++ b.front) start o) (rest-empty new left b.pending)
    (Takes-append (concat h.used) b.front start before (rest new left) h.taken b.taken) in (
      concat h.used ++ b.front,
      taken,
      subst P (sym cut) h.reads,
      subst S (sym apart) (all-append (λ piece. length (content piece) ≤ line_limit) h.used (pieces b.front) (short-Reads IsLine h.reads) (short-front b.front b.unfed b.short)),
      omega (arith, length-append (concat h.used) b.front, h.offset, b.offset, b.within),
    )

takes-pending : (reader : Reading) (left : Option (List ℕ)) → Takes reader.pending (rest reader left) left
takes-pending reader None = tt
takes-pending reader (Some bytes) = refl

bounded : (front : List ℕ) (start left : Option (List ℕ)) (new : Reading) → Takes front start (rest new left) → new.offset ≡ length front → IsBounded new
    → (bytes : List ℕ) × (length bytes ≤ input_limit + 1) × Takes bytes start left
bounded front start left new taken offset bound =
    (front ++ new.pending, omega (arith, length-append front new.pending), Takes-append front new.pending start (rest new left) left taken (takes-pending new left))

-- Behind any answer no more bytes were taken from the source than show that an input is above its limit.
pub Says-bounded : {T : Type 0} (IsLine : List ℕ → T → Type 0) (result : NextLine) (start before left : Option (List ℕ)) (old new : Reading) (values : List T)
    → HasRead IsLine start before old values
    → Says result old new before (rest new left)
    → IsBounded new
    → (bytes : List ℕ) × (length bytes ≤ input_limit + 1) × Takes bytes start left
Says-bounded IsLine answer.Line start before left old new values h t bound =
    bounded (concat h.used ++ t.piece) start left new (Takes-append (concat h.used) t.piece start before (rest new left) h.taken t.taken) (omega (arith, h.offset, t.offset, length-append (concat h.used) t.piece)) bound
Says-bounded IsLine answer.End start before left old new values h t bound =
    bounded (concat h.used ++ []) start left new (Takes-append (concat h.used) [] start before (rest new left) h.taken t.nothing.2) (omega (arith, h.offset, t.offset, length-append (concat h.used) [])) bound
Says-bounded IsLine answer.LongLine start before left old new values h t bound =
    bounded (concat h.used ++ t.front) start left new (Takes-append (concat h.used) t.front start before (rest new left) h.taken t.taken) (omega (arith, h.offset, t.offset, length-append (concat h.used) t.front)) bound
Says-bounded IsLine answer.LongInput start before left old new values h t bound =
    bounded (concat h.used ++ t.front) start left new (Takes-append (concat h.used) t.front start before (rest new left) h.taken t.taken) (omega (arith, h.offset, t.offset, length-append (concat h.used) t.front)) bound
Says-bounded IsLine answer.Failed start before left old new values h t bound =
    bounded (concat h.used ++ t.front) start left new (Takes-append (concat h.used) t.front start before (rest new left) h.taken t.taken) (omega (arith, h.offset, t.offset, length-append (concat h.used) t.front)) bound
