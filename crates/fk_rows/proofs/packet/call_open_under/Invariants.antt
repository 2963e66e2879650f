use Rattle.fk_rows.proofs.packet.call_open_under.Given as goal

abbrev pub ghosts-opened_under : goal.ghosts-opened_under
ghosts-opened_under a = record { name = a.blank.name; parts = a.blank.parts }
