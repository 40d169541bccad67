use Rattle.bx_layout.proofs.Valuations.{one-valuation}
use Rattle.bx_layout.proofs.laws.grids.a_grid_has_one_valuation.Goals as goal

pub returns : goal.returns
returns c = one-valuation
