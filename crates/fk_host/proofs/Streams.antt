-- How the pieces of one call and the next make one piece.
use Rattle.std.proofs.Common.{◌≡◌, ◌+◌, ◌-◌, List, [], ◌++◌, ℕ, Option, Some, None, length, take, drop, refl, sym, ap, subst, ◌∙◌, append_assoc, append-nil}
use Rattle.std.proofs.lemmas.List.{take_rest}
use Rattle.std.proofs.Math.Seq.{take-add}
use Rattle.fk_host.specs.Stream.{Takes, Gives}

-- where nothing is taken, all is left
pub Takes-nil : (a : Option (List ℕ)) → Takes [] a a
Takes-nil None = tt
Takes-nil (Some bytes) = refl

-- two pieces taken one after the other are one piece
pub Takes-append : (p q : List ℕ) (a b c : Option (List ℕ)) → Takes p a b → Takes q b c → Takes (p ++ q) a c
Takes-append p q None b c first second = tt
Takes-append p q (Some x) None c first second = absurd first
Takes-append p q (Some x) (Some y) None first second = absurd second
Takes-append p q (Some x) (Some y) (Some z) first second =
    rw (first, second) (sym (append_assoc p q z))

-- where nothing is given, nothing is added
pub Gives-nil : (a : Option (List ℕ)) → Gives [] a a
Gives-nil None = tt
Gives-nil (Some bytes) = ap Some (sym (append-nil bytes))

-- two pieces given one after the other are one piece
pub Gives-append : (p q : List ℕ) (a b c : Option (List ℕ)) → Gives p a b → Gives q b c → Gives (p ++ q) a c
Gives-append p q None b c first second = tt
Gives-append p q (Some x) None c first second = absurd (cc)
Gives-append p q (Some x) (Some y) c first second =
    let front : y ≡ x ++ p = cc in
    second ∙ ap Some (ap (λ v. v ++ q) front ∙ append_assoc x p q)

-- the first bytes of a piece, and then the first of the rest of it
pub Gives-next : (bytes : List ℕ) (sent n : ℕ) (a b c : Option (List ℕ))
    → Gives (take sent bytes) a b
    → Gives (take n (take (length bytes - sent) (drop sent bytes))) b c
    → Gives (take (sent + n) bytes) a c
Gives-next bytes sent n a b c first second =
    let piece : take (sent + n) bytes ≡ take sent bytes ++ take n (take (length bytes - sent) (drop sent bytes))
    = take-add sent n bytes ∙ ap (λ v. take sent bytes ++ take n v) (sym (take_rest bytes sent)) in
    subst (λ (v : List ℕ). Gives v a c) (sym piece) (Gives-append _ _ a b c first second)
