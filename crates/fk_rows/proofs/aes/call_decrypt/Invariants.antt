use Rattle.fk_rows.proofs.aes.call_decrypt.Given as goal

abbrev pub ghosts-decrypted : goal.ghosts-decrypted
ghosts-decrypted a = record { name = a.blank.name; parts = a.blank.parts }
