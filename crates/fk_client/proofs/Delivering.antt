-- What comes of drawn bytes, put together.
use Rattle.std.proofs.Common.{◌≡◌, ℕ, Bool, true, false, inl, inr}
use Rattle.fk_base.specs.declared.status.Status.{Status}
use Rattle.fk_client.specs.declared.sent.Packet.{Packet}
use Rattle.fk_client.specs.declared.settled.Settings.{Settings}
use Rattle.fk_client.specs.ClientText.{shown_text}
use Rattle.fk_client.specs.Faults.{Fault, Tells}
use Rattle.fk_program.specs.Telling.{Shows}
use Rattle.fk_client.specs.Faults.Fault.{Common, LacksSetting, EntropyFails, LinkFails}
use Rattle.fk_program.specs.Faults.Fault.{WrongWords, FileNotHeld, FileNotRead, WrongFile, WantsMemory}
use Rattle.fk_client.specs.Outside.{Outside}
use Rattle.fk_client.specs.Private.{DrawsInVain, DrawsPacket}
use Rattle.fk_client.specs.Running.{Delivers, SendsBy, SendsPacket}

-- no packet was made
pub in-vain : (is_shown : Bool) (settings : Settings) (moment : ℕ) (fault : Fault) (old new : Outside) (answer : Status)
    → DrawsInVain 24 fault old.entropy new.entropy → new.link ≡ old.link → Tells fault old.sink new.sink answer → SendsBy is_shown settings moment old new answer
in-vain is_shown settings moment EntropyFails old new answer draws link tells = inl (record { entropy = draws; link = link; told = tells })
in-vain is_shown settings moment (Common WantsMemory) old new answer draws link tells = inr (draws.0, draws.1, inl (link, tells))
in-vain is_shown settings moment (Common (WrongWords why)) old new answer draws link tells = absurd draws
in-vain is_shown settings moment (Common (FileNotHeld name)) old new answer draws link tells = absurd draws
in-vain is_shown settings moment (Common (FileNotRead name)) old new answer draws link tells = absurd draws
in-vain is_shown settings moment (Common (WrongFile name line what)) old new answer draws link tells = absurd draws
in-vain is_shown settings moment (LacksSetting name what) old new answer draws link tells = absurd draws
in-vain is_shown settings moment LinkFails old new answer draws link tells = absurd draws

-- a packet was made, and delivered
pub delivered : (is_shown : Bool) (settings : Settings) (moment : ℕ) (packet : Packet) (old new : Outside) (answer : Status)
    → DrawsPacket settings moment packet old.entropy new.entropy → Delivers is_shown packet old new answer → SendsBy is_shown settings moment old new answer
delivered is_shown settings moment packet old new answer draws delivers = inr (draws.drawn, draws.draws, inr (packet, draws.makes, delivers))

pub as-shown : (is_shown : Bool) (packet : Packet) (old new : Outside) (answer : Status) → is_shown ≡ true → new.link ≡ old.link
    → Shows (shown_text packet) old.sink new.sink answer → Delivers is_shown packet old new answer
as-shown true packet old new answer is link shows = (link, shows)
as-shown false packet old new answer is link shows = absurd cc

pub as-sent : (is_shown : Bool) (packet : Packet) (old new : Outside) (answer : Status) → is_shown ≡ false
    → SendsPacket packet old.link new.link old.sink new.sink answer → Delivers is_shown packet old new answer
as-sent true packet old new answer is sends = absurd cc
as-sent false packet old new answer is sends = sends
