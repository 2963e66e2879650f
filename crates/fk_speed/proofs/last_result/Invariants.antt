use Rattle.fk_speed.proofs.last_result.Given as goal

abbrev pub ghosts-decrypted : goal.ghosts-decrypted
ghosts-decrypted a = record { name = a.blank.name; parts = a.blank.parts }
