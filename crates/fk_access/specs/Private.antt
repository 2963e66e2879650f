-- What the contracts of this crate's private functions alone speak of: how far a reader has come. No public contract cites
-- it, so no caller has to believe it.
use Rattle.std.specs.Prelude.{◌≡◌, ℕ, ◌≤◌, true, false, is_some, length, All, List, [], ◌∷◌, ◌++◌, Option, Some, None, if◌then◌else◌}
use Rattle.std.specs.List.{AllZip, list_all}
use Rattle.std.specs.Str.{bytes_eq}
use Rattle.fk_base.specs.Characters.{is_line_byte}
use Rattle.fk_lines.specs.Lines.{NumberedLine, Setting}
use Rattle.fk_lines.specs.declared.lines.Line.{Line}
use Rattle.fk_values.specs.Given.{given_at}
use Rattle.fk_values.specs.Settings.{given_by, rule_of, settings_of}
use Rattle.fk_access.specs.declared.access_err.AccessWhat.{AccessWhat}
use Rattle.fk_access.specs.declared.access_err.AccessErr.{AccessErr}
use Rattle.fk_access.specs.declared.access_err.AccessErr.TheVariants.{Fault, NoMemory}
use Rattle.fk_access.specs.declared.access_name.AccessName.{AccessName}
use Rattle.fk_access.specs.declared.body.Body.{Body}
use Rattle.fk_access.specs.declared.key_ring.TimedKeys.{TimedKeys}
use Rattle.fk_access.specs.AccessFault.{lines_fault}
use Rattle.fk_access.specs.AccessTable.{access_rule, access_rules, source_name}
use Rattle.fk_access.specs.KeyPairs.{begun_pair, ended_pairs, has_last_pair, is_of_pair}
use Rattle.fk_access.specs.ReadsAccess.{IsTimedBy}
use Rattle.fk_access.specs.StanzaKeys.{hmac_key, sealing_key}

-- a line that begins a stanza
pub record IsSourceLine (line : Line) : Type 0 where
  pub name : bytes_eq source_name line.name.now ≡ true
  pub bytes : list_all is_line_byte line.value.now ≡ true

-- the setting has this name
abbrev pub IsNamed : Setting → AccessName → Type 0
IsNamed setting name = rule_of access_rules setting.name ≡ Some (access_rule name)

-- the answer has this cause, or memory ran out where there is none
abbrev pub IsErrAt : Option (ℕ × AccessWhat) → AccessErr → Type 0
IsErrAt fault (Fault line what) = fault ≡ Some (line, what)
IsErrAt fault NoMemory = fault ≡ None

-- the answer has this cause, and memory did not run out
abbrev pub IsFaultAt : Option (ℕ × AccessWhat) → AccessErr → Type 0
IsFaultAt fault (Fault line what) = fault ≡ Some (line, what)
IsFaultAt fault NoMemory = ⊥

-- both keys are given
pub record HasKeys (given : List (Option Setting)) : Type 0 where
  pub key : is_some (sealing_key (given_at given)) ≡ true
  pub mac_key : is_some (hmac_key (given_at given)) ≡ true

-- of the names of a pair this gives what these settings do
abbrev pub IsPairGiven : List Setting → List (Option Setting) → Type 0
IsPairGiven settings given = (number : ℕ) → is_of_pair number ≡ true → given_at given number ≡ given_by access_rules settings number

-- Each pair that is ended has its keys, and there is room for the one that is begun.
pub record AreWhole (body : Body) : Type 0 where
  pub keys : All HasKeys body.ended
  pub few : length body.ended ≤ 4
  pub room : length body.ended ≡ 4 → has_last_pair 4 (given_at body.pair) ≡ false

-- these settings of a stanza set what is kept of them
pub record IsKept (settings : List Setting) (body : Body) : Type 0 where
  pub rest_is : (number : ℕ) → is_of_pair number ≡ false → given_at body.rest number ≡ given_by access_rules settings number
  pub pair_is : IsPairGiven (begun_pair settings) body.pair
  pub ended_are : AllZip IsPairGiven (ended_pairs settings) body.ended
  pub whole : AreWhole body

-- the pair that was begun has its keys and is ended, and nothing of another one is given
pub record EndsPair (old new : Body) : Type 0 where
  pub lines : List (Option Setting)
  pub same : (number : ℕ) → is_of_pair number ≡ true → given_at lines number ≡ given_at old.pair number
  pub keys : HasKeys lines
  pub ended : new.ended ≡ old.ended ++ lines ∷ []
  pub rest : new.rest ≡ old.rest
  pub none : (number : ℕ) → given_at new.pair number ≡ None

-- what is given by what is kept
abbrev pub given_in_body : Body → ℕ → Option Setting
given_in_body body number = given_at (if is_of_pair number then body.pair else body.rest) number

-- what gives each pair of a stanza that was read
abbrev pub pairs_in_body : Body → List (List (Option Setting))
pairs_in_body body = body.ended ++ (if has_last_pair (length body.ended) (given_at body.pair) then body.pair ∷ [] else [])

-- the pair says this
abbrev pub IsTimedAt : List (Option Setting) → TimedKeys → Type 0
IsTimedAt given timed = IsTimedBy (given_at given) timed

-- the lines of a stanza were read: they have no fault, and set what is kept
pub record IsBody (lines : List NumberedLine) (body : Body) : Type 0 where
  pub faultless : lines_fault [] lines ≡ None
  pub kept : IsKept (settings_of lines) body
