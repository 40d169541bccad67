use Rattle.bx_grid.proofs.Neighbours.{below-next_row, below-next_zone}
use Rattle.bx_grid.proofs.laws.tiles.a_border_leads_to_the_next_row.Goals as goal

pub returns-clause-row : goal.returns-clause-row
returns-clause-row c = below-next_row

pub returns-clause-zone : goal.returns-clause-zone
returns-clause-zone c = below-next_zone
