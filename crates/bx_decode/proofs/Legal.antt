-- A layout that true bits mean is legal.
use Rattle.std.proofs.Common.{Bool, List, sym, subst}
use Rattle.bx_grid.specs.declared.ratio.Ratio.{Ratio}
use Rattle.bx_grid.specs.Tiles.{IsGrid}
use Rattle.bx_layout.specs.declared.layout.Layout.{Layout}
use Rattle.bx_layout.specs.Legal.{IsLegal}
use Rattle.bx_layout.specs.Permits.{PermitTest}
use Rattle.bx_network.specs.Networks.{Network, IsNetwork}
use Rattle.bx_decode.specs.Meaning.{AreTrue, Means}
use Rattle.bx_decode.proofs.Placing.{placed, has-its-ends, stays-on-grid}
use Rattle.bx_decode.proofs.Balancing.{balanced, alone}
use Rattle.bx_decode.proofs.Permitting.{permitted}

own : (N : Network) (permit : PermitTest) (L : Layout) (bits : List Bool) → IsNetwork N → IsGrid L.ratio → AreTrue N permit L.ratio bits → Means N L.ratio bits L → IsLegal N permit L
own N permit L bits network grid all means = record {
  grid = grid;
  placed = placed N permit L bits all means;
  ends = has-its-ends N permit L bits all means;
  stays = stays-on-grid N permit L bits all means;
  balanced = balanced N permit L bits network all means;
  alone = alone N permit L bits network all means;
  permitted = permitted N permit L bits network all means;
}

pub legal : (N : Network) (permit : PermitTest) (r : Ratio) (bits : List Bool) (L : Layout) → IsNetwork N → IsGrid r → AreTrue N permit r bits → Means N r bits L → IsLegal N permit L
legal N permit r bits L network grid all means =
    let same = sym means.ratio in
    own N permit L bits network (subst IsGrid same grid) (subst (λ (q : Ratio). AreTrue N permit q bits) same all) (subst (λ (q : Ratio). Means N q bits L) same means)
