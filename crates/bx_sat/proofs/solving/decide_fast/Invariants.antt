use Rattle.bx_sat.proofs.solving.decide_fast.Given as goal

abbrev pub ghosts-decide_fast_steadily : goal.ghosts-decide_fast_steadily
ghosts-decide_fast_steadily a = record { name = a.blank.name; parts = a.blank.parts }
