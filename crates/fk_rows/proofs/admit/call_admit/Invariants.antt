use Rattle.fk_rows.proofs.admit.call_admit.Given as goal

abbrev pub ghosts-admitted : goal.ghosts-admitted
ghosts-admitted a = record { name = a.blank.name; parts = a.blank.parts }
