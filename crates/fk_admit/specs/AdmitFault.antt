-- The answers where nothing is granted.
use Rattle.std.specs.Prelude.{◌≡◌, ◌<◌, List, None, Err}
use Rattle.fk_access.specs.declared.stanza.Stanza.{Stanza}
use Rattle.fk_packet.specs.Shape.{shape_fault}
use Rattle.fk_admit.specs.Admit.{admitted, blocks_in_all}
use Rattle.fk_admit.specs.Arrival.{Arrival}
use Rattle.fk_admit.specs.declared.refusal.AdmitFault.{AdmitFault}
use Rattle.fk_admit.specs.declared.refusal.AdmitFault.TheVariants.{Refused, NoMemory}

-- a refusal is the one that the rules say; memory can be wanting only for a datagram of the right shape, behind a right HMAC
abbrev pub IsAdmitFault : List Stanza → Arrival → AdmitFault → Type 0
IsAdmitFault access arrival (Refused why) = admitted access arrival ≡ Err why
IsAdmitFault access arrival NoMemory = (shape_fault arrival.datagram ≡ None) × (0 < blocks_in_all access arrival)
