use Rattle.fk_rows.proofs.cbc.call_zeros_back.Given as goal

abbrev pub ghosts-zeros_come_back : goal.ghosts-zeros_come_back
ghosts-zeros_come_back a = record { name = a.blank.name; parts = a.blank.parts }
