use Rattle.bx_verdict.proofs.settled.judge_to_the_end.Given as goal

abbrev pub ghosts-judge_steadily : goal.ghosts-judge_steadily
ghosts-judge_steadily a = record { name = a.blank.name; parts = a.blank.parts }
