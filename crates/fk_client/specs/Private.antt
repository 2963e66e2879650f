-- What the contracts of this crate's private functions speak of. No public contract cites it, so no caller has to believe it.
use Rattle.std.specs.Prelude.{◌≡◌, ℕ, List}
use Rattle.fk_client.specs.Faults.{Fault}
use Rattle.fk_client.specs.Faults.Fault.{Common, EntropyFails}
use Rattle.fk_client.specs.declared.sent.Packet.{Packet}
use Rattle.fk_client.specs.declared.settled.Settings.{Settings}
use Rattle.fk_client.specs.Outside.{EntropyView, undrawn}
use Rattle.fk_client.specs.Running.{Draws, IsPacket}
use Rattle.fk_program.specs.Faults.Fault.{WantsMemory}

-- bytes were drawn, and memory was wanting
abbrev pub DrawsInVain : ℕ → Fault → EntropyView → EntropyView → Type 0
DrawsInVain count EntropyFails old new = new ≡ undrawn old
DrawsInVain count (Common WantsMemory) old new = (drawn : List ℕ) × Draws count drawn old new
DrawsInVain count _ old new = ⊥

-- bytes were drawn, and they make this packet
pub record DrawsPacket (settings : Settings) (moment : ℕ) (packet : Packet) (old new : EntropyView) : Type 0 where
  pub drawn : List ℕ
  pub draws : Draws 24 drawn old new
  pub makes : IsPacket settings moment drawn packet
