use Rattle.fk_rows.proofs.cbc.call_open.Given as goal

abbrev pub ghosts-opened : goal.ghosts-opened
ghosts-opened a = record { name = a.blank.name; parts = a.blank.parts }
