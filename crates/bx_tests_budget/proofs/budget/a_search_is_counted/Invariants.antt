use Rattle.bx_tests_budget.proofs.budget.a_search_is_counted.Given as goal

abbrev pub ghosts-counts_of : goal.ghosts-counts_of
ghosts-counts_of g a = record { name = a.blank.name; parts = a.blank.parts }
