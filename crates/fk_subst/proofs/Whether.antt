-- The test whether a text has a template, and what is wrong with a text.
use Rattle.std.proofs.Common.{zero, suc, ◌≡◌, ◌≢◌, ℕ, ◌+◌, ◌<◌, ◌≤◌, Bool, true, false, not, ◌&&◌, ◌||◌, List, [], ◌∷◌, length, drop, refl, sym, ◌∙◌, ap, ⊎_elim, arith}
use Rattle.std.specs.Prelude.{nat_le}
use Rattle.std.proofs.lemmas.Bool.{and_from, and_parts, or_from, or_parts, not-true, not_from_false, leb-true, le-leb, false_from_ne_true}
use Rattle.fk_subst.specs.declared.fault.CommandFault.{CommandFault}
use Rattle.fk_subst.specs.declared.fault.CommandFault.TheVariants.{Empty, TooLong, UnknownName, NoMemory}
use Rattle.fk_subst.specs.Template.{words_in}
use Rattle.fk_subst.specs.CommandFault.{begins_unknown, FirstCommandFault, IsFaultless, has_unknown, is_template}
use Rattle.fk_subst.proofs.Known.{IsKnown, IsKnown-places, known_places}

none_unknown : (text : List ℕ) → IsKnown text → has_unknown text ≡ false
none_unknown [] known = refl
none_unknown (byte ∷ more) known = or_from (begins_unknown (byte ∷ more)) (has_unknown more) known.0 (none_unknown more known.1)

all_known : (text : List ℕ) → has_unknown text ≡ false → IsKnown text
all_known [] none = tt
all_known (byte ∷ more) none =
    let parts = or_parts (begins_unknown (byte ∷ more)) (has_unknown more) none in
    (parts.0, all_known more parts.1)

some_words : (words : List (List ℕ)) → words ≢ [] → 1 ≤ length words
some_words [] some = absurd (some refl)
some_words (word ∷ words) some = omega arith

pub is_template-faultless : (text : List ℕ) → IsFaultless text → is_template text ≡ true
is_template-faultless text right =
    let count = length (words_in text) in
    let some : nat_le 1 count ≡ true = le-leb 1 count (some_words (words_in text) right.some) in
    let few : nat_le count 32 ≡ true = le-leb count 32 right.few in
    let short : nat_le (length text) 512 ≡ true = le-leb (length text) 512 right.short in
    let known : not (has_unknown text) ≡ true = not_from_false (has_unknown text) (none_unknown text (IsKnown-places text right.known)) in
    and_from (nat_le 1 count && nat_le count 32 && nat_le (length text) 512) (not (has_unknown text))
    (and_from (nat_le 1 count && nat_le count 32) (nat_le (length text) 512) (and_from (nat_le 1 count) (nat_le count 32) some few) short) known

IsFaultless-template : (text : List ℕ) → is_template text ≡ true → IsFaultless text
IsFaultless-template text is =
    let count = length (words_in text) in
    let last = and_parts (nat_le 1 count && nat_le count 32 && nat_le (length text) 512) (not (has_unknown text)) is in
    let sizes = and_parts (nat_le 1 count && nat_le count 32) (nat_le (length text) 512) last.0 in
    let counts = and_parts (nat_le 1 count) (nat_le count 32) sizes.0 in
    record {
      some = λ none. absurd (let size = ap (λ (words : List (List ℕ)). length words) none in let some = leb-true 1 count counts.0 in omega (arith, size, some));
      short = leb-true (length text) 512 sizes.1;
      few = leb-true count 32 counts.1;
      known = known_places text (all_known text (not-true (has_unknown text) last.1));
    }

faultless : (text : List ℕ) (fault : CommandFault) → IsFaultless text → FirstCommandFault text fault → ⊥
faultless text Empty right fault = right.some fault
faultless text TooLong right fault =
    let short = right.short in let few = right.few in
    ⊎_elim (λ long. omega (arith, long)) (λ many. omega (arith, many)) fault.1
faultless text (UnknownName place) right fault = let known = right.known place in let unknown = fault.2.unknown in cc
faultless text NoMemory right fault = fault

pub is_template-fault : (text : List ℕ) (fault : CommandFault) → FirstCommandFault text fault → is_template text ≡ false
is_template-fault text fault found = false_from_ne_true (is_template text) (λ is. faultless text fault (IsFaultless-template text is) found)
