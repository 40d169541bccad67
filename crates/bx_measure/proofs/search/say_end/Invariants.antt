use Rattle.bx_measure.proofs.search.say_end.Given as goal

abbrev pub ghosts-search : goal.ghosts-search
ghosts-search a = record { name = a.blank.name; parts = a.blank.parts }
