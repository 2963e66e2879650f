-- Worked rows: what Head selects.
use Rattle.std.proofs.Common.{◌≡◌, List, [], ◌∷◌, refl}
use Rattle.fk_host.specs.declared.disk.Area.TheVariants.{One, Two}
use Rattle.fk_host.specs.Disk.{Areas}
use Rattle.fk_journal.specs.Entries.{Content, area_bytes}
use Rattle.fk_journal.specs.Keeps.{selected_area, selected}

abbrev two_entries : List Content
two_entries = record { kind = 1; payload = 7 ∷ [] } ∷ record { kind = 2; payload = [] } ∷ []

-- Head `01`, an empty journal in One, and two entries in Two
abbrev copied : Areas
copied = record { head = 1 ∷ []; one = 2 ∷ 0 ∷ []; two = area_bytes two_entries }

selected_row : selected copied ≡ 2 ∷ 1 ∷ 0 ∷ 0 ∷ 0 ∷ 1 ∷ 1 ∷ 7 ∷ 1 ∷ 0 ∷ 0 ∷ 0 ∷ 0 ∷ 2 ∷ 0 ∷ []
selected_row = refl

-- the same with Head empty, `02`, and `ff 00`
empty_row : selected (record copied { head = [] }) ≡ 2 ∷ 0 ∷ []
empty_row = refl

even_row : selected_area (record copied { head = 2 ∷ [] }) ≡ One
even_row = refl

odd_row : selected_area (record copied { head = 255 ∷ 0 ∷ [] }) ≡ Two
odd_row = refl
