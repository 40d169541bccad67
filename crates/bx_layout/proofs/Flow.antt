-- What goes out of a tile of a sound grid comes in at the tile below, and so does an edge that leaves a
-- tile of a legal layout.
use Rattle.std.proofs.Common.{◌≡◌, ℕ, ◌+◌, ◌%◌, Some, None, refl, ◌∙◌, ap}
use Rattle.std.specs.Prelude.{Option, IsSome, option_map, option_and_then}
use Rattle.bx_forms.specs.declared.side.Side.{Side}
use Rattle.bx_forms.specs.declared.side.Side.TheVariants.{Left, Right}
use Rattle.bx_forms.specs.Sides.{opposite}
use Rattle.bx_grid.specs.Tiles.{IsTile, below, border, zone_of}
use Rattle.bx_grid.proofs.Neighbours.{below-above, below-inside, below-next_zone}
use Rattle.bx_network.specs.Networks.{Network}
use Rattle.bx_layout.specs.declared.layout.Layout.{Layout}
use Rattle.bx_layout.specs.Grids.{FormGrid, IsSound, LosesNothing, sends, sends_from}
use Rattle.bx_layout.specs.Layouts.{edge_on, enters, leaves}
use Rattle.bx_layout.specs.Legal.{IsLegal}
use Rattle.bx_layout.specs.Permits.{PermitTest}
use Rattle.bx_layout.specs.Ways.{Goes, IsRowClocked}

some-of : (o : Option ℕ) → IsSome o → (u : ℕ) × (o ≡ Some u)
some-of None h = cc
some-of (Some u) h = (u, refl)

opposite-opposite : (side : Side) → opposite (opposite side) ≡ side
opposite-opposite Left = refl
opposite-opposite Right = refl

pub nothing-lost : (g : FormGrid) → IsSound g → LosesNothing g
nothing-lost g sound t side h s =
    let found = some-of (below g.ratio t side) ((sound t h).stays side s) in
    let u = found.0 in
    let met = (sound u (below-inside g.ratio t u side found.1)).meets (opposite side) in (
      u,
      found.1,
      met
          ∙ ap (λ v. sends_from g v (opposite (opposite side))) (below-above g.ratio t u side found.1)
          ∙ ap (sends g t) (opposite-opposite side)
          ∙ s,
    )

-- what leaves a tile on a side enters the tile below it there
comes-below : (L : Layout) (t u e : ℕ) (side : Side) → below L.ratio t side ≡ Some u → leaves L t side ≡ Some e → enters L u (opposite side) ≡ Some e
comes-below L t u e side next out =
    ap (λ (o : Option ℕ). option_and_then (edge_on L) (option_map (λ v. border v (opposite (opposite side))) o)) (below-above L.ratio t u side next)
    ∙ ap (leaves L t) (opposite-opposite side)
    ∙ out

pub row-clocked : (N : Network) (permit : PermitTest) (L : Layout) → IsLegal N permit L → IsRowClocked L
row-clocked N permit L legal t e side inside out = at (below L.ratio t side) refl
  where
    at : (o : Option ℕ) → below L.ratio t side ≡ o → (u : ℕ) × Goes L e t u side × (zone_of L.ratio u ≡ (zone_of L.ratio t + 1) % 4)
    at None off = let none = legal.stays t side inside off in absurd (cc)
    at (Some u) next = (u, record { out = out; next = next; comes = comes-below L t u e side next out }, below-next_zone L.ratio t u side next)
