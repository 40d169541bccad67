-- A layout that is legal under a permit is legal under every larger one.
use Rattle.std.proofs.Common.{refl}
use Rattle.bx_layout.specs.declared.layout.Layout.{Layout}
use Rattle.bx_network.specs.Networks.{Network}
use Rattle.bx_layout.specs.Legal.{IsLegal}
use Rattle.bx_layout.specs.Permits.{PermitTest, IsWider, all_forms}

pub under-larger : (N : Network) (permit larger : PermitTest) (L : Layout) → IsWider permit larger → IsLegal N permit L → IsLegal N larger L
under-larger N permit larger L wider legal = record {
  grid = legal.grid;
  placed = legal.placed;
  ends = legal.ends;
  stays = legal.stays;
  balanced = legal.balanced;
  alone = legal.alone;
  permitted = λ t form inside has. wider L.ratio t form (legal.permitted t form inside has);
}

pub under-all : (N : Network) (permit : PermitTest) (L : Layout) → IsLegal N permit L → IsLegal N all_forms L
under-all N permit L legal = under-larger N permit all_forms L (λ ratio t form allowed. refl) legal
