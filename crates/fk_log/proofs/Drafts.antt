-- How the pieces of a line go to the sink one after another.
use Rattle.std.proofs.Common.{◌≡◌, ◌≢◌, ℕ, ◌+◌, ◌<◌, List, [], ◌∷◌, ◌++◌, true, false, Option, Result, Ok, Err, IsErr, take, drop, length, get_or, add-one, drop-cons, refl, sym, ap, subst, ◌∙◌, append_assoc, append-nil, arith}
use Rattle.std.specs.List.{flat_map}
use Rattle.std.specs.Result.{OnOk, OnErr}
use Rattle.std.proofs.lemmas.Grind.{flat_map-append}
use Rattle.std.proofs.lemmas.List.{take-append-drop, take_more, length-drop}
use Rattle.fk_base.specs.declared.memory.Failed.{Failed}
use Rattle.fk_host.specs.Count.{counted, HasCause}
use Rattle.fk_host.specs.Stream.{Gives}
use Rattle.fk_host.proofs.Streams.{Gives-nil, Gives-append}
use Rattle.fk_log.specs.Private.{Desk, Moves, Puts}
use Rattle.fk_log.specs.Writing.{GivesPart}

lacks-longer : (p q : List ℕ) → p ≢ [] → p ++ q ≢ []
lacks-longer [] q lacks = λ none. lacks refl
lacks-longer (x ∷ xs) q lacks = λ none. cc

-- what lacks something of a text lacks something of a longer one
pub GivesPart-longer : (p q : List ℕ) (a b : Option (List ℕ)) → GivesPart p a b → GivesPart (p ++ q) a b
GivesPart-longer p q a b part = record {
  front = part.front;
  missing = part.missing ++ q;
  cut = ap (λ t. t ++ q) part.cut ∙ append_assoc part.front part.missing q;
  lacks = lacks-longer part.missing q part.lacks;
  given = part.given;
}

-- a whole piece, and then a front of the next
pub GivesPart-behind : (p q : List ℕ) (a b c : Option (List ℕ)) → Gives p a b → GivesPart q b c → GivesPart (p ++ q) a c
GivesPart-behind p q a b c whole part = record {
  front = p ++ part.front;
  missing = part.missing;
  cut = ap (λ t. p ++ t) part.cut ∙ sym (append_assoc p part.front part.missing);
  lacks = part.lacks;
  given = Gives-append p part.front a b c whole part.given;
}

kept-append : (p q a b c first later : List ℕ) → a ++ p ≡ first ++ b → b ++ q ≡ later ++ c → a ++ (p ++ q) ≡ (first ++ later) ++ c
kept-append p q a b c first later one two =
    sym (append_assoc a p q) ∙ ap (λ t. t ++ q) one ∙ append_assoc first b q ∙ ap (λ t. first ++ t) two ∙ sym (append_assoc first later c)

kept-behind : (p q a b first : List ℕ) → a ++ p ≡ first ++ b → a ++ (p ++ q) ≡ first ++ (b ++ q)
kept-behind p q a b first one = sym (append_assoc a p q) ∙ ap (λ t. t ++ q) one ∙ append_assoc first b q

pub Moves-append : (p q : List ℕ) (a b c : Desk) → Moves p a b → Moves q b c → Moves (p ++ q) a c
Moves-append p q a b c one two = record {
  moved = one.moved ++ two.moved;
  kept = kept-append p q a.pending b.pending c.pending one.moved two.moved one.kept two.kept;
  given = Gives-append one.moved two.moved a.written b.written c.written one.given two.given;
}

part-behind : (p q : List ℕ) (a b c : Desk) → Moves p a b → GivesPart (b.pending ++ q) b.written c.written → GivesPart (a.pending ++ (p ++ q)) a.written c.written
part-behind p q a b c one part =
    subst (λ (t : List ℕ). GivesPart t a.written c.written) (sym (kept-behind p q a.pending b.pending one.moved one.kept))
    (GivesPart-behind one.moved (b.pending ++ q) a.written b.written c.written one.given part)

-- no text
pub Puts-nil : (d : Desk) → Puts {T = Unit {0}} [] (Ok tt) d d
Puts-nil d = record {
  ok = record { moved = []; kept = append-nil d.pending; given = Gives-nil d.written };
  err = tt;
  cause = refl;
}

-- a text was put, and then the next
pub Puts-append : {T U : Type 0} (p q : List ℕ) (x : T) (r : Result U Failed) (a b c : Desk) → Puts p (Ok x) a b → Puts q r b c → Puts (p ++ q) r a c
Puts-append p q x (Ok y) a b c one two = record {
  ok = Moves-append p q a b c one.ok two.ok;
  err = tt;
  cause = two.cause ∙ one.cause;
}
Puts-append p q x (Err e) a b c one two = record {
  ok = tt;
  err = part-behind p q a b c one.ok two.err;
  cause = two.cause ∙ ap counted one.cause;
}

not_err : false ≡ true → ⊥
not_err is = cc

-- what holds of a failed call
pub at_err : {T : Type 0} (P : Type 0) (r : Result T Failed) → P → OnErr r P
at_err P (Ok x) holds = tt
at_err P (Err e) holds = holds

-- a text was not put wholly, so neither was a longer one
pub Puts-cut : {T U : Type 0} (p q : List ℕ) (e : Failed) (r : Result U Failed) (a b : Desk) → IsErr r → Puts {T = T} p (Err e) a b → Puts (p ++ q) r a b
Puts-cut p q e (Ok y) a b is one = absurd (not_err is)
Puts-cut p q e (Err f) a b is one = record {
  ok = tt;
  err = subst (λ (t : List ℕ). GivesPart t a.written b.written) (append_assoc a.pending p q)
      (GivesPart-longer (a.pending ++ p) q a.written b.written one.err);
  cause = one.cause;
}

pub Puts-same : {T : Type 0} (p q : List ℕ) (r : Result T Failed) (a b : Desk) → p ≡ q → Puts p r a b → Puts q r a b
Puts-same p q r a b same puts = subst (λ (t : List ℕ). Puts t r a b) same puts

-- the first bytes of a piece, and not all, are a front of it that lacks something
pub GivesPart-cut : (bytes : List ℕ) (n : ℕ) (a b : Option (List ℕ)) → n < length bytes → Gives (take n bytes) a b → GivesPart bytes a b
GivesPart-cut bytes n a b short given = record {
  front = take n bytes;
  missing = drop n bytes;
  cut = sym (take-append-drop n bytes);
  lacks = λ none. let len : length (drop n bytes) ≡ 0 = ap length none in absurd (omega (arith, length-drop n bytes));
  given = given;
}

-- the next of some texts was put
pub Puts-next : {X : Type 0} (f : X → List ℕ) (xs : List X) (i : ℕ) (d : X) (a b c : Desk) → i < length xs
    → Puts {T = Unit {0}} (flat_map f (take i xs)) (Ok tt) a b → Puts {T = Unit {0}} (f (get_or xs i d)) (Ok tt) b c
    → Puts {T = Unit {0}} (flat_map f (take (i + 1) xs)) (Ok tt) a c
Puts-next f xs i d a b c within before one =
    let text : flat_map f (take (i + 1) xs) ≡ flat_map f (take i xs) ++ f (get_or xs i d) =
    ap (flat_map f) (take_more xs i d within) ∙ flat_map-append f (take i xs) (get_or xs i d ∷ []) ∙ ap (λ t. flat_map f (take i xs) ++ t) (append-nil (f (get_or xs i d))) in
    Puts-same _ _ (Ok tt) a c (sym text) (Puts-append _ _ tt (Ok tt) a b c before one)

-- the next of some texts was not put wholly
pub Puts-stops : {X U : Type 0} (f : X → List ℕ) (xs : List X) (i : ℕ) (d : X) (e : Failed) (r : Result U Failed) (a b c : Desk) → i < length xs → IsErr r
    → Puts {T = Unit {0}} (flat_map f (take i xs)) (Ok tt) a b → Puts {T = Unit {0}} (f (get_or xs i d)) (Err e) b c → Puts (flat_map f xs) r a c
Puts-stops f xs i d e r a b c within err before one =
    let x = get_or xs i d in
    let rest : drop i xs ≡ x ∷ drop (i + 1) xs = drop-cons xs i d within ∙ ap (λ n. x ∷ drop n xs) (sym (add-one i)) in
    let all : xs ≡ take i xs ++ x ∷ drop (i + 1) xs = sym (take-append-drop i xs) ∙ ap (λ t. take i xs ++ t) rest in
    let text : flat_map f xs ≡ (flat_map f (take i xs) ++ f x) ++ flat_map f (drop (i + 1) xs) =
    ap (flat_map f) all ∙ flat_map-append f (take i xs) (x ∷ drop (i + 1) xs) ∙ sym (append_assoc (flat_map f (take i xs)) (f x) (flat_map f (drop (i + 1) xs))) in
    Puts-same _ _ r a c (sym text) (Puts-cut (flat_map f (take i xs) ++ f x) (flat_map f (drop (i + 1) xs)) e r a c err
    (Puts-append _ _ tt (Err e) a b c before one))

-- what was pending could not be written
pub Puts-unwritten : {T : Type 0} (text : List ℕ) (r : Result T Failed) (a b : Desk) → IsErr r → GivesPart a.pending a.written b.written → b.faults ≡ counted a.faults → Puts text r a b
Puts-unwritten text (Ok y) a b is part cause = absurd (not_err is)
Puts-unwritten text (Err e) a b is part cause = record { ok = tt; err = GivesPart-longer a.pending text a.written b.written part; cause = cause }

-- what was pending was written, and then the text or a part of it
pub Puts-written : {T : Type 0} (text : List ℕ) (r : Result T Failed) (a b : Desk) (between : Option (List ℕ)) (count : ℕ)
    → b.pending ≡ [] → Gives a.pending a.written between → count ≡ a.faults
    → OnOk r (Gives text between b.written) → OnErr r ((n : ℕ) × (n < length text) × Gives (take n text) between b.written) → HasCause count b.faults r → Puts text r a b
Puts-written text (Ok y) a b between count none before same given part cause = record {
  ok = record {
    moved = a.pending ++ text;
    kept = sym (ap (λ t. (a.pending ++ text) ++ t) none ∙ append-nil (a.pending ++ text));
    given = Gives-append a.pending text a.written between b.written before given;
  };
  err = tt;
  cause = cause ∙ same;
}
Puts-written text (Err e) a b between count none before same given part cause = record {
  ok = tt;
  err = GivesPart-behind a.pending text a.written between b.written before (GivesPart-cut text part.0 between b.written part.1 part.2);
  cause = cause ∙ ap counted same;
}

-- the text is pending
pub Puts-kept : (text : List ℕ) (a b : Desk) → b.pending ≡ a.pending ++ text → b.written ≡ a.written → b.faults ≡ a.faults → Puts {T = Unit {0}} text (Ok tt) a b
Puts-kept text a b kept written faults = record {
  ok = record { moved = []; kept = sym kept; given = subst (λ (w : Option (List ℕ)). Gives [] a.written w) (sym written) (Gives-nil a.written) };
  err = tt;
  cause = faults;
}

-- over a draft that was empty, a text was not put wholly
pub part_of_text : (text : List ℕ) (e : Failed) (a b : Desk) → a.pending ≡ [] → Puts {T = Unit {0}} text (Err e) a b → GivesPart text a.written b.written
part_of_text text e a b none puts = subst (λ (t : List ℕ). GivesPart (t ++ text) a.written b.written) none puts.err

-- over a draft that was empty, a text was put, and then not written wholly
pub part_at_end : (text : List ℕ) (a b : Desk) (after : Option (List ℕ)) → a.pending ≡ [] → Puts {T = Unit {0}} text (Ok tt) a b
    → GivesPart b.pending b.written after → GivesPart text a.written after
part_at_end text a b after none puts part =
    let whole : text ≡ puts.ok.moved ++ b.pending = sym (ap (λ t. t ++ text) none) ∙ puts.ok.kept in
    subst (λ (t : List ℕ). GivesPart t a.written after) (sym whole)
    (GivesPart-behind puts.ok.moved b.pending a.written b.written after puts.ok.given part)
