-- What the pieces of a line leave of the output.
use Rattle.std.proofs.Common.{◌≡◌, ℕ, ◌+◌, ◌<◌, Bool, true, false, List, [], ◌∷◌, ◌++◌, length, take, drop, get_or, ap, sym, subst, ◌∙◌, add-one, drop-cons, append_assoc, append-nil}
use Rattle.std.proofs.lemmas.Grind.{flat_map-append}
use Rattle.std.proofs.lemmas.List.{take-append-drop, take_more}
use Rattle.std.specs.List.{flat_map}
use Rattle.fk_host.specs.Count.{counted}
use Rattle.fk_host.proofs.Streams.{Gives-append}
use Rattle.fk_log.specs.Printing.{SinkView, Prints}
use Rattle.fk_log.proofs.Drafts.{GivesPart-longer, GivesPart-behind}

-- a text was printed whole, and then another tried
pub prints-behind : (p q : List ℕ) (is_broken : Bool) (a b c : SinkView) → Prints p false a b → Prints q is_broken b c → Prints (p ++ q) is_broken a c
prints-behind p q false a b c first later = (Gives-append p q a.written b.written c.written first.0 later.0, later.1 ∙ first.1)
prints-behind p q true a b c first later = (GivesPart-behind p q a.written b.written c.written first.0 later.0, later.1 ∙ ap counted first.1)

-- a front of a text was printed, and nothing else was tried
pub prints-longer : (p q : List ℕ) (a b : SinkView) → Prints p true a b → Prints (p ++ q) true a b
prints-longer p q a b broken = (GivesPart-longer p q a.written b.written broken.0, broken.1)

-- the next of some texts was printed
pub prints-next : {X : Type 0} (f : X → List ℕ) (xs : List X) (i : ℕ) (d : X) (a b c : SinkView) → i < length xs
    → Prints (flat_map f (take i xs)) false a b → Prints (f (get_or xs i d)) false b c → Prints (flat_map f (take (i + 1) xs)) false a c
prints-next f xs i d a b c within before one =
    let text : flat_map f (take (i + 1) xs) ≡ flat_map f (take i xs) ++ f (get_or xs i d) =
    ap (flat_map f) (take_more xs i d within) ∙ flat_map-append f (take i xs) (get_or xs i d ∷ []) ∙ ap (λ t. flat_map f (take i xs) ++ t) (append-nil (f (get_or xs i d))) in
    subst (λ (t : List ℕ). Prints t false a c) (sym text) (prints-behind (flat_map f (take i xs)) (f (get_or xs i d)) false a b c before one)

-- the next of some texts was not printed wholly
pub prints-stops : {X : Type 0} (f : X → List ℕ) (xs : List X) (i : ℕ) (d : X) (end : List ℕ) (a b c : SinkView) → i < length xs
    → Prints (flat_map f (take i xs)) false a b → Prints (f (get_or xs i d)) true b c → Prints (flat_map f xs ++ end) true a c
prints-stops f xs i d end a b c within before one =
    let x = get_or xs i d in
    let rest : drop i xs ≡ x ∷ drop (i + 1) xs = drop-cons xs i d within ∙ ap (λ n. x ∷ drop n xs) (sym (add-one i)) in
    let all : xs ≡ take i xs ++ x ∷ drop (i + 1) xs = sym (take-append-drop i xs) ∙ ap (λ t. take i xs ++ t) rest in
    let text : flat_map f xs ≡ (flat_map f (take i xs) ++ f x) ++ flat_map f (drop (i + 1) xs) =
    ap (flat_map f) all ∙ flat_map-append f (take i xs) (x ∷ drop (i + 1) xs) ∙ sym (append_assoc (flat_map f (take i xs)) (f x) (flat_map f (drop (i + 1) xs))) in
    prints-longer (flat_map f xs) end a c
    (subst (λ (t : List ℕ). Prints t true a c) (sym text)
    (prints-longer (flat_map f (take i xs) ++ f x) (flat_map f (drop (i + 1) xs)) a c (prints-behind (flat_map f (take i xs)) (f x) true a b c before one)))
