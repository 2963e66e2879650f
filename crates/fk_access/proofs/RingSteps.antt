-- The pairs of keys that are made of what is kept, and what that says of the settings of a stanza.
use Rattle.std.proofs.Common.{◌≡◌, ℕ, zero, suc, ◌+◌, ◌<◌, ◌≤◌, Bool, true, false, List, [], ◌∷◌, ◌++◌, length, take, Option, Some, refl, sym, ◌∙◌, ap, subst, inl, inr, arith, if◌then◌else◌, add-one}
use Rattle.std.specs.Prelude.{slice_get, unwrap_or}
use Rattle.std.specs.List.{AllZip}
use Rattle.std.specs.Option.{option_and_then}
use Rattle.std.proofs.lemmas.Bool.{cases_Bool, cases_lt}
use Rattle.fk_base.specs.declared.hash_kind.HashKind.TheVariants.{Sha256}
use Rattle.fk_base.specs.declared.moment.TheConstants.{GREATEST_MOMENT}
use Rattle.fk_lines.specs.Lines.{Setting}
use Rattle.fk_values.specs.Given.{given_at}
use Rattle.fk_values.specs.KeyOf.{key_by}
use Rattle.fk_values.specs.Settings.{read_of}
use Rattle.fk_values.specs.Values.{hash_in, number_within}
use Rattle.fk_access.specs.declared.access_name.AccessName.TheVariants.{KeyBase64, HmacKeyBase64}
use Rattle.fk_access.specs.declared.body.Body.{Body}
use Rattle.fk_access.specs.declared.key_ring.TimedKeys.{TimedKeys}
use Rattle.fk_access.specs.declared.stanza.Stanza.{Stanza}
use Rattle.fk_access.specs.AccessFault.{settings_lack}
use Rattle.fk_access.specs.AccessTable.{access_rule}
use Rattle.fk_access.specs.KeyPairs.{begun_pair, ended_pairs, given_behind, has_last_pair, is_of_pair, key_pairs}
use Rattle.fk_access.specs.Private.{AreWhole, IsKept, IsPairGiven, IsTimedAt, given_in_body, pairs_in_body}
use Rattle.fk_access.specs.ReadsAccess.{IsGiven, IsPairOf, IsSaid}
use Rattle.fk_access.specs.StanzaKeys.{lacks_first}
use Rattle.fk_access.proofs.PairSteps.{ended_length}

-- a list at the place of one of its items

take-item : {X : Type 0} (xs : List X) (at : ℕ) (x : X) → slice_get xs at ≡ Some x → take (suc at) xs ≡ take at xs ++ x ∷ []
take-item [] at x is = cc
take-item (y ∷ xs) zero x is = let e : y ≡ x = cc in ap (λ z. z ∷ []) e
take-item (y ∷ xs) (suc at) x is = ap (λ zs. y ∷ zs) (take-item xs at x is)

take-whole : {X : Type 0} (xs : List X) (n : ℕ) → length xs ≤ n → take n xs ≡ xs
take-whole [] zero all = refl
take-whole [] (suc n) all = refl
take-whole (x ∷ xs) zero all = absurd (omega arith)
take-whole (x ∷ xs) (suc n) all = ap (λ zs. x ∷ zs) (take-whole xs n (omega arith))

push_timed : (givens : List (List (Option Setting))) (ring : List TimedKeys) (given : List (Option Setting)) (timed : TimedKeys) →
    AllZip IsTimedAt givens ring → IsTimedAt given timed → AllZip IsTimedAt (givens ++ given ∷ []) (ring ++ timed ∷ [])
push_timed [] [] given timed each is = (is, tt)
push_timed [] (t ∷ ring) given timed each is = absurd each
push_timed (g ∷ givens) [] given timed each is = absurd each
push_timed (g ∷ givens) (t ∷ ring) given timed each is = (each.0, push_timed givens ring given timed each.1 is)

pub timed_begins : (ended : List (List (Option Setting))) (ring : List TimedKeys) → ring ≡ [] → AllZip IsTimedAt (take 0 ended) ring
timed_begins ended ring none = subst (λ (r : List TimedKeys). AllZip IsTimedAt [] r) (sym none) tt

pub timed_goes_on : (ended : List (List (Option Setting))) (at : ℕ) (given : List (Option Setting)) (ring next : List TimedKeys) (timed : TimedKeys) →
    slice_get ended at ≡ Some given → IsTimedAt given timed → next ≡ ring ++ timed ∷ [] → AllZip IsTimedAt (take at ended) ring →
    AllZip IsTimedAt (take (at + 1) ended) next
timed_goes_on ended at given ring next timed here is next_is each =
    subst (λ (r : List TimedKeys). AllZip IsTimedAt (take (at + 1) ended) r) (sym next_is)
    (subst (λ (g : List (List (Option Setting))). AllZip IsTimedAt g (ring ++ timed ∷ []))
    (sym (ap (λ (n : ℕ). take n ended) (add-one at) ∙ take-item ended at given here))
    (push_timed (take at ended) ring given timed each is))

pub timed_ends : (ended : List (List (Option Setting))) (at : ℕ) (ring : List TimedKeys) → length ended ≤ at → AllZip IsTimedAt (take at ended) ring →
    AllZip IsTimedAt ended ring
timed_ends ended at ring all each = subst (λ (g : List (List (Option Setting))). AllZip IsTimedAt g ring) (take-whole ended at all) each

pub timed_length : (givens : List (List (Option Setting))) (ring : List TimedKeys) → AllZip IsTimedAt givens ring → length ring ≡ length givens
timed_length [] [] each = refl
timed_length [] (t ∷ ring) each = absurd each
timed_length (g ∷ givens) [] each = absurd each
timed_length (g ∷ givens) (t ∷ ring) each = ap suc (timed_length givens ring each.1)

pub timed_last : (body : Body) (ring next : List TimedKeys) (timed : TimedKeys) → has_last_pair (length body.ended) (given_at body.pair) ≡ true →
    AllZip IsTimedAt body.ended ring → IsTimedAt body.pair timed → next ≡ ring ++ timed ∷ [] → AllZip IsTimedAt (pairs_in_body body) next
timed_last body ring next timed last each is next_is =
    subst (λ (r : List TimedKeys). AllZip IsTimedAt (pairs_in_body body) r) (sym next_is)
    (subst (λ (b : Bool). AllZip IsTimedAt (body.ended ++ (if b then body.pair ∷ [] else [])) (ring ++ timed ∷ [])) (sym last)
    (push_timed body.ended ring body.pair timed each is))

no_more : (givens : List (List (Option Setting))) → givens ++ [] ≡ givens
no_more [] = refl
no_more (g ∷ givens) = ap (λ (gs : List (List (Option Setting))). g ∷ gs) (no_more givens)

pub timed_none : (body : Body) (ring : List TimedKeys) → has_last_pair (length body.ended) (given_at body.pair) ≡ false →
    AllZip IsTimedAt body.ended ring → AllZip IsTimedAt (pairs_in_body body) ring
timed_none body ring last each =
    subst (λ (b : Bool). AllZip IsTimedAt (body.ended ++ (if b then body.pair ∷ [] else [])) ring) (sym last)
    (subst (λ (g : List (List (Option Setting))). AllZip IsTimedAt g ring) (sym (no_more body.ended)) each)

pub timed_same : (given other : List (Option Setting)) (timed : TimedKeys) → ((number : ℕ) → is_of_pair number ≡ true → given_at given number ≡ given_at other number) →
    IsTimedAt given timed → IsTimedAt other timed
timed_same given other timed same is = record {
  key = ap (option_and_then (key_by (access_rule KeyBase64).name)) (sym (same 3 refl)) ∙ is.key;
  mac_key = ap (option_and_then (key_by (access_rule HmacKeyBase64).name)) (sym (same 4 refl)) ∙ is.mac_key;
  kind = is.kind ∙ ap (λ (g : Option Setting). unwrap_or (read_of hash_in g) Sha256) (same 5 refl);
  until = is.until ∙ ap (λ (g : Option Setting). read_of (number_within 0 GREATEST_MOMENT) g) (same 13 refl);
}

-- the settings of a stanza say what was made

pair_said : (settings : List Setting) (given : List (Option Setting)) (timed : TimedKeys) → IsPairGiven settings given → IsTimedAt given timed → IsPairOf settings timed
pair_said settings given timed same is = record {
  key = ap (option_and_then (key_by (access_rule KeyBase64).name)) (sym (same 3 refl)) ∙ is.key;
  mac_key = ap (option_and_then (key_by (access_rule HmacKeyBase64).name)) (sym (same 4 refl)) ∙ is.mac_key;
  kind = is.kind ∙ ap (λ (g : Option Setting). unwrap_or (read_of hash_in g) Sha256) (same 5 refl);
  until = is.until ∙ ap (λ (g : Option Setting). read_of (number_within 0 GREATEST_MOMENT) g) (same 13 refl);
}

ring_said : (pairs : List (List Setting)) (givens : List (List (Option Setting))) (ring : List TimedKeys) → AllZip IsPairGiven pairs givens →
    AllZip IsTimedAt givens ring → AllZip IsPairOf pairs ring
ring_said [] [] [] same each = tt
ring_said [] [] (t ∷ ring) same each = absurd each
ring_said [] (g ∷ givens) ring same each = absurd same
ring_said (p ∷ pairs) [] ring same each = absurd same
ring_said (p ∷ pairs) (g ∷ givens) [] same each = absurd each
ring_said (p ∷ pairs) (g ∷ givens) (t ∷ ring) same each = (pair_said p g t same.0 each.0, ring_said pairs givens ring same.1 each.1)

last_same : (m n : ℕ) (f g : ℕ → Option Setting) → m ≡ n → f 3 ≡ g 3 → f 4 ≡ g 4 → f 5 ≡ g 5 → f 13 ≡ g 13 → has_last_pair m f ≡ has_last_pair n g
last_same m n f g size a b c d = rw (size, a, b, c, d) refl

last_is : (settings : List Setting) (body : Body) → IsKept settings body →
    has_last_pair (length (ended_pairs settings)) (given_behind settings) ≡ has_last_pair (length body.ended) (given_at body.pair)
last_is settings body kept =
    last_same (length (ended_pairs settings)) (length body.ended) (given_behind settings) (given_at body.pair)
    (ended_length (ended_pairs settings) body.ended kept.ended_are)
    (sym (kept.pair_is 3 refl)) (sym (kept.pair_is 4 refl)) (sym (kept.pair_is 5 refl)) (sym (kept.pair_is 13 refl))

both : (pairs : List (List Setting)) (givens : List (List (Option Setting))) (pair : List Setting) (given : List (Option Setting)) (b : Bool) →
    AllZip IsPairGiven pairs givens → IsPairGiven pair given →
    AllZip IsPairGiven (pairs ++ (if b then pair ∷ [] else [])) (givens ++ (if b then given ∷ [] else []))
both [] [] pair given true each is = (is, tt)
both [] [] pair given false each is = tt
both [] (g ∷ givens) pair given b each is = absurd each
both (p ∷ pairs) [] pair given b each is = absurd each
both (p ∷ pairs) (g ∷ givens) pair given b each is = (each.0, both pairs givens pair given b each.1 is)

pairs_are : (settings : List Setting) (body : Body) → IsKept settings body → AllZip IsPairGiven (key_pairs settings) (pairs_in_body body)
pairs_are settings body kept =
    subst (λ (b : Bool). AllZip IsPairGiven (ended_pairs settings ++ (if b then begun_pair settings ∷ [] else [])) (pairs_in_body body))
    (sym (last_is settings body kept))
    (both (ended_pairs settings) body.ended (begun_pair settings) body.pair (has_last_pair (length body.ended) (given_at body.pair)) kept.ended_are kept.pair_is)

given_is : (settings : List Setting) (body : Body) → IsKept settings body → (number : ℕ) → given_in_body body number ≡ given_behind settings number
given_is settings body kept number = elim (cases_Bool (is_of_pair number)) [
  | inl paired ↦ rw paired (kept.pair_is number paired)
  | inr alone ↦ rw alone (kept.rest_is number alone)
]

pub same_given : (settings : List Setting) (body : Body) → IsKept settings body → given_in_body body ≡ given_behind settings
same_given settings body kept = λ i n. given_is settings body kept n i

pub lack_is : (settings : List Setting) (body : Body) → IsKept settings body → settings_lack settings ≡ lacks_first (length body.ended) (given_in_body body)
lack_is settings body kept =
    ap (λ (n : ℕ). lacks_first n (given_behind settings)) (ended_length (ended_pairs settings) body.ended kept.ended_are)
    ∙ ap (lacks_first (length body.ended)) (sym (same_given settings body kept))

pub stanza_said : (settings : List Setting) (body : Body) (stanza : Stanza) → IsKept settings body → IsGiven (given_in_body body) stanza →
    AllZip IsTimedAt (pairs_in_body body) stanza.ring → IsSaid settings stanza
stanza_said settings body stanza kept fields ring = record {
  fields = subst (λ (g : ℕ → Option Setting). IsGiven g stanza) (same_given settings body kept) fields;
  ring = ring_said (key_pairs settings) (pairs_in_body body) stanza.ring (pairs_are settings body kept) ring;
}

-- how many pairs there are

pub some_ended : (ended : ℕ) (given : ℕ → Option Setting) → has_last_pair ended given ≡ false → 1 ≤ ended
some_ended zero given last = cc
some_ended (suc ended) given last = omega arith

pub few_last : (body : Body) → AreWhole body → has_last_pair (length body.ended) (given_at body.pair) ≡ true → length body.ended < 4
few_last body whole last = elim (cases_lt (length body.ended) 4) [
  | inl lt ↦ lt
  | inr many ↦ absurd (
      let few = whole.few in
      let full : length body.ended ≡ 4 = omega arith in
      let e : true ≡ false = sym last ∙ ap (λ (n : ℕ). has_last_pair n (given_at body.pair)) full ∙ whole.room full in cc)
]
