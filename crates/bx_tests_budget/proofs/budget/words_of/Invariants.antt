use Rattle.bx_tests_budget.proofs.budget.words_of.Given as goal

abbrev pub ghosts-words_of_steady : goal.ghosts-words_of_steady
ghosts-words_of_steady a = record { name = a.blank.name; parts = a.blank.parts }
