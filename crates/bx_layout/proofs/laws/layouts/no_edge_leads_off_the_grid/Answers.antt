use Rattle.bx_layout.proofs.Walks.{stays-on-grid}
use Rattle.bx_layout.proofs.laws.layouts.no_edge_leads_off_the_grid.Goals as goal

pub returns : goal.returns
returns c = stays-on-grid
