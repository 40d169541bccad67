use Rattle.std.proofs.Common.{◌<◌, length, arith}
use Rattle.std.proofs.lemmas.Bool.Decides.{nat_tests}
use Rattle.bx_dimacs.proofs.Parting.{lines_cut}
use Rattle.bx_dimacs.proofs.scan.Lines.cut.Goals as goal

pub returns-clause-some : goal.returns-clause-some
returns-clause-some c =
    let some : 0 < length c.args.self.now.rest.now = grind (arith, nat_tests) in
    lines_cut c.args.self.now.rest.now c.split_at.result.0.now c.split_at.result.1.now c.without_first-self.result.now c.end_of-end.result some c.end_of-end.ensures.end c.split_at.ensures.front c.split_at.ensures.back c.without_first-self.ensures.rest
