-- A solution means a legal layout, and the bits of a legal layout are a solution.
use Rattle.std.proofs.Common.{subst}
use Rattle.bx_grid.specs.declared.ratio.Ratio.{Ratio}
use Rattle.bx_encode.proofs.HavingBits.{has-bits}
use Rattle.bx_encode.proofs.Solving.{solved}
use Rattle.bx_decode.specs.Meaning.{AreTrue}
use Rattle.bx_decode.proofs.Legal.{legal}
use Rattle.bx_decode.proofs.Reading.{means-some}
use Rattle.bx_decode.proofs.laws.a_formula_has_a_solution_exactly_where_a_legal_layout_exists.Goals as goal

pub returns : goal.returns
returns c N permit r network grid = (
  (λ (bits, all).
      let (L, means) = means-some N permit r bits all in
      (L, means.ratio, legal N permit r bits L network grid all means)),
  (λ (L, same, is_legal).
      let (bits, are) = has-bits N L is_legal.placed in
      (bits, subst (λ (q : Ratio). AreTrue N permit q bits) same (solved N permit L network is_legal bits are))),
)
