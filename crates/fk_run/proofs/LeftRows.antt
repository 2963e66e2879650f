-- What a crash leaves of one turn, worked by hand: a turn in which a record is made, by four calls of the disk, and its open started.
use Rattle.std.proofs.Common.{◌≡◌, ℕ, true, false, List, [], ◌∷◌, refl, sym, subst, arith, inl, inr}
use Rattle.std.specs.List.{AllByRecursion}
use Rattle.fk_base.specs.declared.purpose.Purpose.TheVariants.{Open}
use Rattle.fk_trace.specs.declared.change.OpenRecord.{OpenRecord}
use Rattle.fk_trace.specs.declared.change.Change.{Change}
use Rattle.fk_trace.specs.declared.change.Change.TheVariants.{Open as OpenChange}
use Rattle.fk_trace.specs.Trace.{Item}
use Rattle.fk_trace.specs.Trace.Event.{Turn, Began}
use Rattle.fk_run.specs.Left.{items_by, items_behind, is_attempt, IsCutAt}

-- the turn begins at moment 3, the calls of the disk are those of moments 4 to 7, and the open is started at moment 8
abbrev start : Item
start = record { event = Turn 1; moments = 3; faults = 0 }

abbrev attempt : Item
attempt = record { event = Began 1 (Open 1) []; moments = 8; faults = 0 }

abbrev items : List Item
items = start ∷ attempt ∷ []

module _ (item : OpenRecord) where
  abbrev changes : List Change
  changes = OpenChange item ∷ []

  either : (k : ℕ) → items_by k items ≡ start ∷ [] → items_behind k items ≡ attempt ∷ [] → IsCutAt k items changes 0 × IsCutAt k items changes 1
  either k by behind = (
    record {
      changes_before_attempts = inr (subst (AllByRecursion (λ (i : Item). is_attempt i.event ≡ false)) (sym by) (refl, tt));
      others_before_changes = inl refl;
    },
    record {
      changes_before_attempts = inl (omega arith);
      others_before_changes = inr (subst (AllByRecursion (λ (i : Item). is_attempt i.event ≡ true)) (sym behind) (refl, tt));
    },
  )

  -- a crash at each of the four calls leaves the record or not
  first_call : IsCutAt 4 items changes 0 × IsCutAt 4 items changes 1
  first_call = either 4 refl refl

  second_call : IsCutAt 5 items changes 0 × IsCutAt 5 items changes 1
  second_call = either 5 refl refl

  third_call : IsCutAt 6 items changes 0 × IsCutAt 6 items changes 1
  third_call = either 6 refl refl

  fourth_call : IsCutAt 7 items changes 0 × IsCutAt 7 items changes 1
  fourth_call = either 7 refl refl

  -- one at the start of the open has it
  started_has_it : IsCutAt 8 items changes 0 → ⊥
  started_has_it cut = elim cut.changes_before_attempts [ inl few ↦ omega (arith, few) | inr none ↦ let never : true ≡ false = none.1.0 in cc ]

  -- one before the turn has not
  unbegun_has_not : IsCutAt 2 items changes 1 → ⊥
  unbegun_has_not cut = elim cut.others_before_changes [ inl none ↦ omega (arith, none) | inr all ↦ let never : false ≡ true = all.0 in cc ]
