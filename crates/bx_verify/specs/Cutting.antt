-- What a design's dots are cut into, and what is wrong with a design whose nodes are to have given places.
use Rattle.std.specs.Prelude.{◌≡◌, List, Option, Some, None}
use Rattle.bx_cert.specs.declared.parts.Spot.{Spot}
use Rattle.bx_dots.specs.Cuts.{IsCut}
use Rattle.bx_grid.specs.declared.ratio.Ratio.{Ratio}
use Rattle.bx_layout.specs.Grids.{FormGrid}
use Rattle.bx_library.specs.Tiles.{Tiles}
use Rattle.bx_network.specs.Networks.{Network}
use Rattle.bx_siqad.specs.Designs.{Drawing}
use Rattle.bx_verify.specs.Failing.{IsUncut, Fits}
use Rattle.bx_verify.specs.declared.verdict.Part.{Part}
use Rattle.bx_verify.specs.declared.verdict.Part.TheVariants as part

-- this form grid, or none where something is in the way of one
abbrev pub IsCutInto : Tiles → Drawing → Option FormGrid → Type 0
IsCutInto lib design (Some g) = IsCut lib design.ratio design.dots g
IsCutInto lib design None = IsUncut lib design.ratio design.dots

module _ (N : Network) (lib : Tiles) (design : Drawing) (r : Ratio) (spots : List Spot) where
  -- the design has this ratio, and its dots are cut into the form grid of a layout with these places
  pub record IsRightDesign : Type 0 where
    pub sides : design.ratio ≡ r
    pub grid : FormGrid
    pub cut : IsCut lib design.ratio design.dots grid
    pub fits : Fits N grid spots

  -- its dots are cut into another form grid
  pub record IsOtherDesign : Type 0 where
    pub sides : design.ratio ≡ r
    pub grid : FormGrid
    pub cut : IsCut lib design.ratio design.dots grid
    pub other : ¬ Fits N grid spots

  -- what is wrong first of size, dots and network, or nothing
  abbrev pub IsWrongDesign : Option Part → Type 0
  IsWrongDesign None = IsRightDesign
  IsWrongDesign (Some part.Size) = ¬ (design.ratio ≡ r)
  IsWrongDesign (Some part.Dots) = (design.ratio ≡ r) × IsUncut lib design.ratio design.dots
  IsWrongDesign (Some part.Network) = IsOtherDesign
  IsWrongDesign (Some part.Last) = ⊥
  IsWrongDesign (Some part.Missing) = ⊥
  IsWrongDesign (Some part.Proof) = ⊥
