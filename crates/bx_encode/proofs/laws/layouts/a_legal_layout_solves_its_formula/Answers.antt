-- Family by family.
use Rattle.bx_encode.proofs.Solving.{solved}
use Rattle.bx_encode.proofs.laws.layouts.a_legal_layout_solves_its_formula.Goals as goal

pub returns : goal.returns
returns c N permit L bits network legal are = solved N permit L network legal bits are
