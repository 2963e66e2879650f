-- What the lines of an input say: one reading at most, and one reading behind another.
use Rattle.std.proofs.Common.{◌≡◌, ℕ, suc, ◌+◌, ◌≤◌, false, List, [], ◌∷◌, ◌++◌, length, Option, Some, None, refl, ap, subst, inl, inr, ⊎_elim, arith, length-append}
use Rattle.std.specs.List.{concat, AllByRecursion}
use Rattle.fk_input.specs.declared.fault.Fault.{Fault}
use Rattle.fk_input.specs.declared.fault.LineFault.TheVariants.{BadLine, TooLong}
use Rattle.std.proofs.lemmas.Bool.{cases_Bool, cases_lt}
use Rattle.fk_input.specs.Lines.{content, passes_limit, line_limit, Reads, end, line, bad, long}

-- where a line has one value at most, an input has one reading at most
pub Reads-one : {T : Type 0} (IsLine : List ℕ → T → Type 0)
    → ((text : List ℕ) (a b : T) → IsLine text a → IsLine text b → a ≡ b)
    → {offset number : ℕ} {ps : List (List ℕ)} {values others : List T} {fault other : Option Fault}
    → Reads IsLine offset number ps values fault
    → Reads IsLine offset number ps others other
    → (values ≡ others) × (fault ≡ other)
Reads-one IsLine one end end = (refl, refl)
Reads-one IsLine one (line within short is rest) (line within' short' is' rest') =
    let e = one _ _ _ is is' in
    let r = Reads-one IsLine one rest rest' in
    (cc, r.1)
Reads-one IsLine one (line within short is rest) (bad within' fault) =
    ⊎_elim (λ above. absurd (omega arith)) (λ none. absurd (none _ is)) fault
Reads-one IsLine one (line within short is rest) (long passes) = absurd (cc)
Reads-one IsLine one (bad within fault) (line within' short is rest) =
    ⊎_elim (λ above. absurd (omega arith)) (λ none. absurd (none _ is)) fault
Reads-one IsLine one (bad within fault) (bad within' fault') = (refl, refl)
Reads-one IsLine one (bad within fault) (long passes) = absurd (cc)
Reads-one IsLine one (long passes) (line within short is rest) = absurd (cc)
Reads-one IsLine one (long passes) (bad within fault) = absurd (cc)
Reads-one IsLine one (long passes) (long passes') = (refl, refl)

-- a reading without a fault has a value for each piece
pub length-Reads : {T : Type 0} (IsLine : List ℕ → T → Type 0)
    → {offset number : ℕ} {ps : List (List ℕ)} {values : List T}
    → Reads IsLine offset number ps values None
    → length values ≡ length ps
length-Reads IsLine end = refl
length-Reads IsLine (line within short is rest) = ap suc (length-Reads IsLine rest)

-- in a reading without a fault no line is above its limit
pub short-Reads : {T : Type 0} (IsLine : List ℕ → T → Type 0)
    → {offset number : ℕ} {ps : List (List ℕ)} {values : List T}
    → Reads IsLine offset number ps values None
    → AllByRecursion (λ piece. length (content piece) ≤ line_limit) ps
short-Reads IsLine end = tt
short-Reads IsLine (line within short is rest) = (short, short-Reads IsLine rest)

-- the same reading at an equal offset and number
moved : {T : Type 0} (IsLine : List ℕ → T → Type 0) {ps : List (List ℕ)} {values : List T} {fault : Option Fault}
    → (a b n m : ℕ) → a ≡ b → n ≡ m → Reads IsLine a n ps values fault → Reads IsLine b m ps values fault
moved IsLine {ps} {values} {fault} a b n m same_offset same_number r =
    subst (λ (k : ℕ). Reads IsLine b k ps values fault) same_number (subst (λ (k : ℕ). Reads IsLine k n ps values fault) same_offset r)

-- a reading goes on where another one ended without a fault
pub Reads-append : {T : Type 0} (IsLine : List ℕ → T → Type 0)
    → {offset number : ℕ} {ps : List (List ℕ)} {values : List T}
    → Reads IsLine offset number ps values None
    → (qs : List (List ℕ)) (more : List T) (fault : Option Fault) (at next : ℕ)
    → at ≡ offset + length (concat ps)
    → next ≡ number + length ps
    → Reads IsLine at next qs more fault
    → Reads IsLine offset number (ps ++ qs) (values ++ more) fault
Reads-append IsLine end qs more fault at next same_offset same_number behind =
    moved IsLine _ _ _ _ (omega arith) (omega arith) behind
Reads-append IsLine (line within short is rest) qs more fault at next same_offset same_number behind =
    line within short is (Reads-append IsLine rest qs more fault at next (omega (arith, length-append {A = ℕ})) (omega arith) behind)

abbrev HasReading : {T : Type 0} → (List ℕ → Option T) → ℕ → ℕ → List (List ℕ) → Type 0
HasReading {T} value_of offset number ps =
    (values : List T) × (fault : Option Fault) × Reads (λ text value. value_of text ≡ Some value) offset number ps values fault

reading-from : {T : Type 0} (value_of : List ℕ → Option T) (offset number : ℕ) (p : List ℕ) (ps : List (List ℕ)) (value : Option T)
    → passes_limit offset p ≡ false
    → length (content p) ≤ line_limit
    → value_of (content p) ≡ value
    → HasReading value_of (offset + length p) (number + 1) ps
    → HasReading value_of offset number (p ∷ ps)
reading-from value_of offset number p ps None within short is behind =
    ([], Some (record { line = number; what = BadLine }), bad within (inr (λ value h. cc)))
reading-from value_of offset number p ps (Some value) within short is behind =
    (value ∷ behind.0, behind.1, line within short is behind.2)

-- whatever its lines mean, an input has a reading
pub Reads-some : {T : Type 0} (value_of : List ℕ → Option T) (offset number : ℕ) (ps : List (List ℕ))
    → (values : List T) × (fault : Option Fault) × Reads (λ text value. value_of text ≡ Some value) offset number ps values fault
Reads-some value_of offset number [] = ([], None, end)
Reads-some value_of offset number (p ∷ ps) =
    ⊎_elim
    (λ passes. ([], Some (record { line = number; what = TooLong }), long passes))
    (λ within. ⊎_elim
    (λ above. ([], Some (record { line = number; what = BadLine }), bad within (inl above)))
    (λ short. reading-from value_of offset number p ps (value_of (content p)) within short refl (Reads-some value_of (offset + length p) (number + 1) ps))
    (cases_lt line_limit (length (content p))))
    (cases_Bool (passes_limit offset p))
