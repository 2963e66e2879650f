use Rattle.fk_turn.proofs.decision.decide.Given as goal

-- the counter is one of its own
abbrev pub ghosts-ask_stanzas : goal.ghosts-ask_stanzas
ghosts-ask_stanzas a = record { name = a.blank.name; parts = a.blank.parts }
