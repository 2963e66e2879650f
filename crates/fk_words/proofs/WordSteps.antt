-- What is known while the words of a command line are read one by one.
use Rattle.std.proofs.Common.{◌≡◌, ◌≢◌, ℕ, zero, suc, ◌+◌, ◌-◌, ◌<◌, ◌≤◌, Bool, true, false, List, [], ◌∷◌, ◌++◌, length, take, drop, Option, Some, None, refl, sym, ◌∙◌, ap, arith, if◌then◌else◌, inl, inr, add-one}
use Rattle.std.specs.Prelude.{◌||◌, find, not, unwrap_or}
use Rattle.std.specs.List.{list_any, slice_get}
use Rattle.std.specs.Option.{option_and_then, option_map_or, option_or}
use Rattle.std.specs.Str.{bytes_eq}
use Rattle.std.proofs.Math.Nat.{eq-or-lt_of_le}
use Rattle.std.proofs.Math.Seq.{drop-cons, drop-length}
use Rattle.std.proofs.lemmas.Bool.{cases_Bool}
use Rattle.std.proofs.lemmas.List.{length-take-le, take_more}
use Rattle.std.proofs.lemmas.List.Folds.{list_any_more}
use Rattle.std.proofs.lemmas.Option.{get_or_from_slice_get, slice_get_within}
use Rattle.fk_words.specs.declared.tool.Tool.{Tool}
use Rattle.fk_words.specs.declared.command_option.CommandOption.{CommandOption}
use Rattle.fk_words.specs.declared.word_fault.WordFault.{WordFault}
use Rattle.fk_words.specs.declared.word_fault.WordFault.TheVariants.{Unknown, Twice, NoValue, BadValue}
use Rattle.fk_words.specs.CommandOptions.{OptionRule, option_rule}
use Rattle.fk_words.specs.declared.operand.Operand.{Operand}
use Rattle.fk_words.specs.declared.option_set.OptionSet.{OptionSet}
use Rattle.fk_words.specs.Operands.{command_read, command_word, fko_commands, fko_read, is_operand, operand_fault, operand_fault_at}
use Rattle.fk_words.specs.WordFaults.{awaits_value, begins_option, fault_at, first_fault_at, is_value_at, known_fault, option_fault, option_of, value_fault}
use Rattle.fk_words.specs.WordPlaces.{word_at, word_behind, words_behind}

-- places

pub drop_at : (words : List (List ℕ)) (at : ℕ) (word : List ℕ) → slice_get words at ≡ Some word → drop at words ≡ word ∷ drop (at + 1) words
drop_at words at word is =
    let within = slice_get_within words at word is in
    let next : suc at ≡ at + 1 = omega arith in
    drop-cons words at word within
    ∙ ap (λ (w : List ℕ). w ∷ drop (suc at) words) (get_or_from_slice_get words at word word is)
    ∙ ap (λ (n : ℕ). word ∷ drop n words) next

pub take_at : (words : List (List ℕ)) (at : ℕ) (word : List ℕ) → slice_get words at ≡ Some word → take (at + 1) words ≡ take at words ++ word ∷ []
take_at words at word is =
    let within = slice_get_within words at word is in
    take_more words at word within ∙ ap (λ (w : List ℕ). take at words ++ w ∷ []) (get_or_from_slice_get words at word word is)

pub list_any_take : (p : List ℕ → Bool) (words : List (List ℕ)) (i at : ℕ) → i ≤ at → list_any p (take i words) ≡ true → list_any p (take at words) ≡ true
list_any_take p words zero at few is = cc
list_any_take p [] (suc i) at few is = cc
list_any_take p (word ∷ words) (suc i) zero few is = absurd (omega arith)
list_any_take p (word ∷ words) (suc i) (suc at) few is =
    elim (cases_Bool (p word)) [
      | inl passes ↦ rw passes refl
      | inr fails ↦
          let rest : list_any p (take i words) ≡ true = rw fails at is in
          let less : i ≤ at = omega arith in
          rw fails (list_any_take p words i at less rest)
    ]

or_right : (a b : Bool) → b ≡ true → (a || b) ≡ true
or_right true b is = refl
or_right false b is = is

or_neither : (a b : Bool) → a ≡ false → b ≡ false → (a || b) ≡ false
or_neither a b a_is b_is = ap (λ (x : Bool). x || b) a_is ∙ b_is

pub one_is_met : (p : List ℕ → Bool) (words : List (List ℕ)) (i at : ℕ) (word : List ℕ) → i < at → slice_get words i ≡ Some word → p word ≡ true →
    true ≡ list_any p (take at words)
one_is_met p words i at word less is passes =
    let within = slice_get_within words i word is in
    let more = list_any_more p words i word within in
    let here = or_right (list_any p (take i words)) _ (ap p (get_or_from_slice_get words i word word is) ∙ passes) in
    let next : i + 1 ≤ at = omega arith in
    sym (list_any_take p words (i + 1) at next (more ∙ here))

pub none_is_met : (p : List ℕ → Bool) (words : List (List ℕ)) (i : ℕ) (word : List ℕ) → slice_get words i ≡ Some word →
    list_any p (take i words) ≡ false → p word ≡ false → list_any p (take (i + 1) words) ≡ false
none_is_met p words i word is before fails =
    let within = slice_get_within words i word is in
    list_any_more p words i word within
    ∙ or_neither (list_any p (take i words)) _ before (ap p (get_or_from_slice_get words i word word is) ∙ fails)

-- the first such word

pub is_found : (words : List (List ℕ)) (at : ℕ) (word text : List ℕ) → slice_get words at ≡ Some word → bytes_eq word text ≡ true →
    words_behind text (drop at words) ≡ Some (drop (at + 1) words)
is_found words at word text is same =
    ap (words_behind text) (drop_at words at word is)
    ∙ ap (λ (b : Bool). if b then Some (drop (at + 1) words) else words_behind text (drop (at + 1) words)) same

pub is_passed : (words : List (List ℕ)) (at : ℕ) (word text : List ℕ) → slice_get words at ≡ Some word → bytes_eq word text ≡ false →
    words_behind text (drop at words) ≡ words_behind text (drop (at + 1) words)
is_passed words at word text is other =
    ap (words_behind text) (drop_at words at word is)
    ∙ ap (λ (b : Bool). if b then Some (drop (at + 1) words) else words_behind text (drop (at + 1) words)) other

pub is_missing : (words : List (List ℕ)) (text : List ℕ) → words_behind text (drop (length words) words) ≡ None
is_missing words text = ap (words_behind text) (drop-length words)

pub behind_is : (words : List (List ℕ)) (at : ℕ) (word text : List ℕ) → slice_get words at ≡ Some word → Some (drop at words) ≡ words_behind text words →
    Some word ≡ word_behind text words
behind_is words at word text is found =
    ap (λ (behind : List (List ℕ)). slice_get behind 0) (sym (drop_at words at word is))
    ∙ ap (λ (behind : Option (List (List ℕ))). option_and_then (λ b. slice_get b 0) behind) found

pub nothing_behind : (words : List (List ℕ)) (at : ℕ) (text : List ℕ) → at ≡ length words → Some (drop at words) ≡ words_behind text words →
    None ≡ word_behind text words
nothing_behind words at text is found =
    ap (λ (behind : List (List ℕ)). slice_get behind 0) (sym (ap (λ (n : ℕ). drop n words) is ∙ drop-length words))
    ∙ ap (λ (behind : Option (List (List ℕ))). option_and_then (λ b. slice_get b 0) behind) found

-- the value of an option

pub value_is_missing : (rule : OptionRule) (place : ℕ) (words : List (List ℕ)) → words ≡ [] → value_fault rule place words ≡ Some (NoValue place)
value_is_missing rule place words is = ap (value_fault rule place) is

pub value_is_option : (rule : OptionRule) (place : ℕ) (words rest : List (List ℕ)) (value : List ℕ) → words ≡ value ∷ rest → begins_option value ≡ true →
    value_fault rule place words ≡ Some (NoValue place)
value_is_option rule place words rest value is begins =
    ap (value_fault rule place) is
    ∙ ap (λ (b : Bool). if not b then (if rule.is_value value then None else Some (BadValue (place + 1))) else Some (NoValue place)) begins

pub value_is_wrong : (rule : OptionRule) (place : ℕ) (words rest : List (List ℕ)) (value : List ℕ) → words ≡ value ∷ rest → begins_option value ≡ false →
    rule.is_value value ≡ false → value_fault rule place words ≡ Some (BadValue (place + 1))
value_is_wrong rule place words rest value is begins wrong =
    ap (value_fault rule place) is
    ∙ ap (λ (b : Bool). if not b then (if rule.is_value value then None else Some (BadValue (place + 1))) else Some (NoValue place)) begins
    ∙ ap (λ (b : Bool). if b then None else Some (BadValue (place + 1))) wrong

pub value_is_right : (rule : OptionRule) (place : ℕ) (words rest : List (List ℕ)) (value : List ℕ) → words ≡ value ∷ rest → begins_option value ≡ false →
    rule.is_value value ≡ true → value_fault rule place words ≡ None
value_is_right rule place words rest value is begins right =
    ap (value_fault rule place) is
    ∙ ap (λ (b : Bool). if not b then (if rule.is_value value then None else Some (BadValue (place + 1))) else Some (NoValue place)) begins
    ∙ ap (λ (b : Bool). if b then None else Some (BadValue (place + 1))) right

-- the tests of an option

pub stood_before : (rule : OptionRule) (before : List (List ℕ)) (place : ℕ) (behind : List (List ℕ)) →
    list_any (λ word. bytes_eq word rule.word) before ≡ true → known_fault rule before place behind ≡ Some (Twice place)
stood_before rule before place behind is =
    ap (λ (b : Bool). if b then Some (Twice place) else (if rule.has_value then value_fault rule place behind else None)) is

pub is_flag : (rule : OptionRule) (before : List (List ℕ)) (place : ℕ) (behind : List (List ℕ)) →
    list_any (λ word. bytes_eq word rule.word) before ≡ false → rule.has_value ≡ false → known_fault rule before place behind ≡ None
is_flag rule before place behind is none =
    ap (λ (b : Bool). if b then Some (Twice place) else (if rule.has_value then value_fault rule place behind else None)) is
    ∙ ap (λ (b : Bool). if b then value_fault rule place behind else None) none

pub is_valued : (rule : OptionRule) (before : List (List ℕ)) (place : ℕ) (behind : List (List ℕ)) →
    list_any (λ word. bytes_eq word rule.word) before ≡ false → rule.has_value ≡ true →
    known_fault rule before place behind ≡ value_fault rule place behind
is_valued rule before place behind is one =
    ap (λ (b : Bool). if b then Some (Twice place) else (if rule.has_value then value_fault rule place behind else None)) is
    ∙ ap (λ (b : Bool). if b then value_fault rule place behind else None) one

place_is : (words : List (List ℕ)) (at : ℕ) (word : List ℕ) → slice_get words at ≡ Some word → length (take at words) + 1 ≡ at + 1
place_is words at word is =
    let within = slice_get_within words at word is in
    let few : at ≤ length words = omega arith in
    ap (λ (n : ℕ). n + 1) (length-take-le at words few)

pub word_is : (words : List (List ℕ)) (at : ℕ) (word : List ℕ) → slice_get words at ≡ Some word → word_at words at ≡ word
word_is words at word is = ap (λ (w : Option (List ℕ)). unwrap_or w []) is

-- the word at a place

pub value_is_tested : (tool : Tool) (words : List (List ℕ)) (at : ℕ) → is_value_at tool words at ≡ true → None ≡ fault_at tool words at
value_is_tested tool words at is =
    sym (ap (λ (b : Bool). if b then None else option_fault (take at words) (drop (at + 1) words) (option_of tool (word_at words at))) is)

pub option_is_tested : (tool : Tool) (words : List (List ℕ)) (at : ℕ) (word : List ℕ) (found : Option CommandOption) → is_value_at tool words at ≡ false →
    slice_get words at ≡ Some word → option_of tool word ≡ found →
    fault_at tool words at ≡ option_fault (take at words) (drop (at + 1) words) found
option_is_tested tool words at word found other is known =
    ap (λ (b : Bool). if b then None else option_fault (take at words) (drop (at + 1) words) (option_of tool (word_at words at))) other
    ∙ ap (λ (w : List ℕ). option_fault (take at words) (drop (at + 1) words) (option_of tool w)) (word_is words at word is)
    ∙ ap (option_fault (take at words) (drop (at + 1) words)) known

pub option_is_known : (tool : Tool) (words : List (List ℕ)) (at : ℕ) (word : List ℕ) (option : CommandOption) → is_value_at tool words at ≡ false →
    slice_get words at ≡ Some word → Some option ≡ option_of tool word →
    known_fault (option_rule option) (take at words) (at + 1) (drop (at + 1) words) ≡ fault_at tool words at
option_is_known tool words at word option other is known =
    sym (option_is_tested tool words at word (Some option) other is (sym known)
    ∙ ap (λ (place : ℕ). known_fault (option_rule option) (take at words) place (drop (at + 1) words)) (place_is words at word is))

pub option_is_unknown : (tool : Tool) (words : List (List ℕ)) (at : ℕ) (word : List ℕ) → is_value_at tool words at ≡ false →
    slice_get words at ≡ Some word → None ≡ option_of tool word → Some (Unknown (at + 1)) ≡ fault_at tool words at
option_is_unknown tool words at word other is unknown =
    sym (option_is_tested tool words at word None other is (sym unknown) ∙ ap (λ (place : ℕ). Some (Unknown place)) (place_is words at word is))

pub awaits_by : (tool : Tool) (word : List ℕ) (found : Option CommandOption) → found ≡ option_of tool word →
    option_map_or (λ option. (option_rule option).has_value) found false ≡ awaits_value tool word
awaits_by tool word found is = ap (λ (o : Option CommandOption). option_map_or (λ option. (option_rule option).has_value) o false) is

pub first_is_no_value : (tool : Tool) (words : List (List ℕ)) (at : ℕ) → at ≡ 0 → false ≡ is_value_at tool words at
first_is_no_value tool words at is = sym (ap (is_value_at tool words) is)

pub value_behind : (tool : Tool) (words : List (List ℕ)) (at : ℕ) (word : List ℕ) → at ≢ 0 → slice_get words (at - 1) ≡ Some word →
    awaits_value tool word ≡ is_value_at tool words at
value_behind tool words zero word some is = absurd (some refl)
value_behind tool words (suc before) word some is =
    let same : suc before - 1 ≡ before = omega arith in
    sym (ap (awaits_value tool) (word_is words before word (ap (slice_get words) (sym same) ∙ is)))

-- the first fault of so many places

pub first_is : (fault : ℕ → Option WordFault) (at count : ℕ) (found : WordFault) → first_fault_at fault at ≡ None → fault at ≡ Some found → at < count →
    first_fault_at fault count ≡ Some found
first_is fault at zero found none here lt = absurd (omega arith)
first_is fault at (suc count) found none here lt =
    let within : at ≤ count = omega arith in
    elim (eq-or-lt_of_le within) [
      | inl same ↦
          ap (λ (n : ℕ). option_or (first_fault_at fault n) (fault n)) (sym same)
          ∙ ap (λ (f : Option WordFault). option_or f (fault at)) none ∙ here
      | inr less ↦ ap (λ (f : Option WordFault). option_or f (fault count)) (first_is fault at count found none here less)
    ]

pub none_goes_on : (fault : ℕ → Option WordFault) (at : ℕ) → first_fault_at fault at ≡ None → fault at ≡ None → first_fault_at fault (at + 1) ≡ None
none_goes_on fault at none here =
    ap (first_fault_at fault) (add-one at) ∙ ap (λ (f : Option WordFault). option_or f (fault at)) none ∙ here

-- the words behind a command

pub drop_one : (words : List (List ℕ)) → 1 ≤ length words → length words ≡ length (drop 1 words) + 1
drop_one [] some = absurd (omega arith)
drop_one (first ∷ others) some = omega arith

pub word_missing : (words : List (List ℕ)) (at : ℕ) → length words ≤ at → word_at words at ≡ []
word_missing [] zero all = refl
word_missing [] (suc at) all = refl
word_missing (word ∷ words) zero all = absurd (omega arith)
word_missing (word ∷ words) (suc at) all = word_missing words at (omega arith)

pub command_is : (words : List (List ℕ)) (first : List ℕ) (found : Option OptionSet) → slice_get words 0 ≡ Some first →
    find (λ command. bytes_eq (command_word command) first) fko_commands ≡ found → fko_read words ≡ command_read found (drop 1 words)
command_is [] first found is named = cc
command_is (word ∷ words) first found is named =
    let same : word ≡ first = cc in
    ap (λ (w : List ℕ). command_read (find (λ command. bytes_eq (command_word command) w) fko_commands) words) same
    ∙ ap (λ (c : Option OptionSet). command_read c words) named

pub word_behind_first : (words : List (List ℕ)) (at : ℕ) (word : List ℕ) → slice_get words (at + 1) ≡ Some word → word_at (drop 1 words) at ≡ word
word_behind_first words at word is = by words (ap (slice_get words) (sym (add-one at)) ∙ is)
  where
    by : (ws : List (List ℕ)) → slice_get ws (suc at) ≡ Some word → word_at (drop 1 ws) at ≡ word
    by [] found = cc
    by (first ∷ others) found = word_is others at word found

pub no_operand : (operands : List Operand) (words : List (List ℕ)) (at : ℕ) → slice_get operands at ≡ None →
    Some (Unknown (at + 2)) ≡ operand_fault_at operands words at
no_operand operands words at is = sym (ap (operand_fault (at + 2) (word_at words at)) is)

pub operand_is : (operands : List Operand) (words : List (List ℕ)) (at : ℕ) (operand : Operand) (word : List ℕ) → slice_get operands at ≡ Some operand →
    word_at words at ≡ word → operand_fault_at operands words at ≡ operand_fault (at + 2) word (Some operand)
operand_is operands words at operand word is spelled =
    ap (operand_fault (at + 2) (word_at words at)) is ∙ ap (λ (w : List ℕ). operand_fault (at + 2) w (Some operand)) spelled

pub operand_begins : (place : ℕ) (operand : Operand) (word : List ℕ) → begins_option word ≡ true → operand_fault place word (Some operand) ≡ Some (Unknown place)
operand_begins place operand word begins =
    ap (λ (b : Bool). if not b then (if is_operand operand word then None else Some (BadValue place)) else Some (Unknown place)) begins

pub operand_by : (place : ℕ) (operand : Operand) (word : List ℕ) (right : Bool) → begins_option word ≡ false → is_operand operand word ≡ right →
    operand_fault place word (Some operand) ≡ (if right then None else Some (BadValue place))
operand_by place operand word right begins is =
    ap (λ (b : Bool). if not b then (if is_operand operand word then None else Some (BadValue place)) else Some (Unknown place)) begins
    ∙ ap (λ (b : Bool). if b then None else Some (BadValue place)) is
