use Rattle.fk_speed.proofs.packed.Given as goal

abbrev pub ghosts-last_opened : goal.ghosts-last_opened
ghosts-last_opened a = record { name = a.blank.name; parts = a.blank.parts }
