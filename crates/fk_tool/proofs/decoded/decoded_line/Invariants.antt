use Rattle.fk_tool.proofs.decoded.decoded_line.Given as goal

-- the counter is one of its own
abbrev pub ghosts-opened : goal.ghosts-opened
ghosts-opened a = record { name = a.blank.name; parts = a.blank.parts }
