use Rattle.bx_sat.proofs.solving.decide.Given as goal

abbrev pub ghosts-decide_steadily : goal.ghosts-decide_steadily
ghosts-decide_steadily a = record { name = a.blank.name; parts = a.blank.parts }
