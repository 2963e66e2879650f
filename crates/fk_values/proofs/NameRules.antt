-- The rule of a name, found by the name.
use Rattle.std.proofs.Common.{◌≡◌, ℕ, Bool, List, [], ◌∷◌, map, Some, None, refl, sym, ◌∙◌, ap, inl, inr}
use Rattle.std.specs.Prelude.{find}
use Rattle.std.specs.Option.{option_map}
use Rattle.std.specs.Str.{bytes_eq}
use Rattle.std.proofs.lemmas.Bool.{cases_Bool}
use Rattle.fk_values.specs.Settings.{NameRule, rule_of}

pub find-map : {X Y : Type 0} (f : X → Y) (p : Y → Bool) → (xs : List X) → find p (map f xs) ≡ option_map f (find (λ x. p (f x)) xs)
find-map f p [] = refl
find-map f p (x ∷ xs) =
    elim (cases_Bool (p (f x))) [
      | inl passes ↦ rw passes refl
      | inr fails ↦ rw fails (find-map f p xs)
    ]

-- a name that is found has its rule
pub rule_of-found : {N : Type 0} (rule : N → NameRule) (names : List N) (text : List ℕ) (name : N) →
    Some name ≡ find (λ n. bytes_eq (rule n).name text) names → rule_of (map rule names) text ≡ Some (rule name)
rule_of-found rule names text name found =
    find-map rule (λ r. bytes_eq r.name text) names ∙ sym (ap (option_map rule) found)

-- a name that is not found has none
pub rule_of-missing : {N : Type 0} (rule : N → NameRule) (names : List N) (text : List ℕ) →
    None ≡ find (λ n. bytes_eq (rule n).name text) names → rule_of (map rule names) text ≡ None
rule_of-missing rule names text missing =
    find-map rule (λ r. bytes_eq r.name text) names ∙ sym (ap (option_map rule) missing)
