use Rattle.fk_rows.proofs.packet.call_unpack.Given as goal

abbrev pub ghosts-unpacked : goal.ghosts-unpacked
ghosts-unpacked a = record { name = a.blank.name; parts = a.blank.parts }
