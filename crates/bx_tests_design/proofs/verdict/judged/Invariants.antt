use Rattle.bx_tests_design.proofs.verdict.judged.Given as goal

abbrev pub ghosts-judged_steadily : goal.ghosts-judged_steadily
ghosts-judged_steadily a = record { name = a.blank.name; parts = a.blank.parts }
