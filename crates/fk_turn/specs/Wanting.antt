-- Where in a turn memory may be wanting: before its datagram is recorded, or in the host's own start.
use Rattle.std.specs.Prelude.{◌≡◌, ◌≢◌, ◌⊎◌, ℕ, []}
use Rattle.fk_trace.specs.Ledger.{opens}
use Rattle.fk_run.specs.Place.{Place}
use Rattle.fk_run.specs.Turn.{TakenTurn}
use Rattle.fk_run.specs.Ending.{WantsAtDatagram, WantsAtClose}
use Rattle.fk_turn.specs.declared.policy.Policy.{Policy}
use Rattle.fk_turn.specs.Rules.{BringsRightCode, rules_by}

-- the turn's datagram has the right shape and a right HMAC, and was not seen
pub record IsWorthMemory (policy : Policy) (place : Place) (taken : TakenTurn) : Type 0 where
  pub datagram : WantsAtDatagram (rules_by policy) place taken
  pub code : BringsRightCode policy taken.turn

-- Before a record of such a datagram was made. `Called n` says that the host was called for what was served and n times more.
pub record WantsBeforeRecord (policy : Policy) (place : Place) (taken : TakenTurn) (Called : ℕ → Type 0) : Type 0 where
  pub cause : IsWorthMemory policy place taken
  pub unrecorded : opens taken.changes ≡ []
  pub calls : Called 0

-- In the host's own start, the last call of the turn, which brought nothing: that of the open of the record that was made, or of a
-- close that is due.
pub record WantsInStart (policy : Policy) (place : Place) (taken : TakenTurn) (Called : ℕ → Type 0) : Type 0 where
  pub cause : (IsWorthMemory policy place taken × (opens taken.changes ≢ [])) ⊎ WantsAtClose (rules_by policy) place taken
  pub calls : Called 1

abbrev pub WantsMemoryAt : Policy → Place → TakenTurn → (ℕ → Type 0) → Type 0
WantsMemoryAt policy place taken Called = WantsBeforeRecord policy place taken Called ⊎ WantsInStart policy place taken Called
