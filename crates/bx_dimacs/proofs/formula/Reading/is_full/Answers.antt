use Rattle.bx_dimacs.proofs.Showing.{full_shown}
use Rattle.bx_dimacs.proofs.formula.Reading.is_full.Goals as goal

pub returns-clause-whole : goal.returns-clause-whole
returns-clause-whole c = λ text shows. full_shown c.args.self.now text c.len.result c.len.ensures shows
