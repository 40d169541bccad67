-- Under a permit that bars no form of the table the same layouts are legal as under that of all forms.
use Rattle.std.specs.Prelude.{◌↔◌}
use Rattle.bx_grid.specs.declared.ratio.Ratio.{Ratio}
use Rattle.bx_layout.specs.Legal.{IsLegal, LacksLayout}
use Rattle.bx_layout.specs.Permits.{PermitTest, all_forms}
use Rattle.bx_layout.specs.declared.layout.Layout.{Layout}
use Rattle.bx_layout.proofs.Permitted.{under-all}
use Rattle.bx_network.specs.Networks.{Network}
use Rattle.bx_design.specs.Permits.{AllowsEachForm}
use Rattle.bx_design.proofs.Grids.{has-form}

pub under-each : (N : Network) (permit : PermitTest) (L : Layout) → AllowsEachForm permit → IsLegal N all_forms L → IsLegal N permit L
under-each N permit L each legal = record {
  grid = legal.grid;
  placed = legal.placed;
  ends = legal.ends;
  stays = legal.stays;
  balanced = legal.balanced;
  alone = legal.alone;
  permitted = λ t form inside has. each L.ratio t form (has-form N L t form has);
}

pub each-legal : (N : Network) (permit : PermitTest) (L : Layout) → AllowsEachForm permit → IsLegal N permit L ↔ IsLegal N all_forms L
each-legal N permit L each = ((λ legal. under-all N permit L legal), (λ legal. under-each N permit L each legal))

pub each-lacking : (N : Network) (permit : PermitTest) (r : Ratio) → AllowsEachForm permit → LacksLayout N permit r ↔ LacksLayout N all_forms r
each-lacking N permit r each = (
  (λ lacks L same legal. lacks L same (under-each N permit L each legal)),
  (λ lacks L same legal. lacks L same (under-all N permit L legal)),
)
