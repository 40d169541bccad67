-- The design of a layout that was found: there is one, it has a text, and the library cuts it into the grid of the layout.
use Rattle.std.proofs.Common.{◌≡◌, List, Option, Some, None, length, refl, sym, ap, ◌∙◌, subst, arith}
use Rattle.std.specs.Prelude.{All}
use Rattle.bx_design.specs.declared.solution.LaidOut.{LaidOut}
use Rattle.bx_dots.specs.Cuts.{IsCut}
use Rattle.bx_dots.specs.GridDots.{AreOffered, IsNear}
use Rattle.bx_dots.proofs.Cutting.{cut_of_dots}
use Rattle.bx_dots.proofs.Near.{near_of}
use Rattle.bx_grid.specs.Orders.{IsRatio}
use Rattle.bx_grid.specs.Tiles.{tile_count}
use Rattle.bx_grid.specs.declared.ratio.Ratio.{Ratio}
use Rattle.bx_layout.specs.Grids.{FormGrid, IsSound}
use Rattle.bx_library.specs.Dots.{IsAscending, HaveSameDots}
use Rattle.bx_library.specs.Tiles.{Tiles, IsLibrary}
use Rattle.bx_library.specs.declared.dot.Dot.{Dot}
use Rattle.bx_library.proofs.DotSets.{one_ascending}
use Rattle.bx_logic.proofs.Members.{AllByRecursion-from_member, Contains-from_member}
use Rattle.bx_siqad.specs.Designs.{Drawing, IsDot, IsDrawing}
use Rattle.bx_siqad.specs.Texts.{IsTextOf, design_text}
use Rattle.bx_engine.specs.Answers.{Draws, IsDrawn}

-- ---- one design

module _ (lib : Tiles) where
  same-drawing : (grid : FormGrid) (a b : Drawing) → Draws lib grid a → Draws lib grid b → a ≡ b
  same-drawing grid a b x y =
      let have : HaveSameDots a.dots b.dots = λ dot. (λ h. (y.dots dot).1 ((x.dots dot).0 h), λ h. (x.dots dot).1 ((y.dots dot).0 h)) in
      let dots : a.dots ≡ b.dots = one_ascending a.dots b.dots x.ascending y.ascending have in
      ap (λ (r : Ratio). drawing r a.dots) (x.ratio ∙ sym y.ratio) ∙ ap (λ (ds : List Dot). drawing b.ratio ds) dots
    where
      drawing : Ratio → List Dot → Drawing
      drawing r ds = record { ratio = r; dots = ds }

  pub one-drawn : (found : Option LaidOut) (a b : Option Drawing) → IsDrawn lib found a → IsDrawn lib found b → a ≡ b
  one-drawn (Some laid) (Some a) (Some b) x y = ap Some (same-drawing laid.grid a b x y)
  one-drawn (Some laid) None b x y = absurd x
  one-drawn (Some laid) (Some a) None x y = absurd y
  one-drawn None a b x y = x ∙ sym y

-- ---- its text, and what is read from it

near-dot : (r : Ratio) (dot : Dot) → IsRatio r → IsNear r dot → IsDot dot
near-dot r dot is near = record {
  n = omega (arith, near.column, is.width);
  m = omega (arith, near.row, is.height);
  l = omega (arith, near.atom);
}

-- dots that stand near a grid make a design of it
pub drawing-is : (q r : Ratio) (dots : List Dot) → q ≡ r → IsRatio r → All (IsNear r) dots → IsAscending dots → IsDrawing (record { ratio = q; dots = dots })
drawing-is q r dots same is near ascending = record {
  ratio = subst IsRatio (sym same) is;
  dots = AllByRecursion-from_member IsDot dots (λ dot m. let (k, low, at) = Contains-from_member dot dots m in near-dot r dot is (subst (IsNear r) at (near k dot low)));
  ascending = ascending;
}

module _ (lib : Tiles) (library : IsLibrary lib) (grid : FormGrid) (drawing : Drawing) (draws : Draws lib grid drawing) where
  pub drawn-text : IsRatio grid.ratio → IsTextOf drawing (design_text drawing)
  drawn-text is = record {
    is = record {
      ratio = subst IsRatio (sym draws.ratio) is;
      dots = AllByRecursion-from_member IsDot drawing.dots (λ dot m. near-dot grid.ratio dot is (near_of lib grid dot library ((draws.dots dot).0 (Contains-from_member dot drawing.dots m))));
      ascending = draws.ascending;
    };
    spelled = refl;
  }

  pub drawn-cut : length grid.tiles ≡ tile_count grid.ratio → IsSound grid → AreOffered lib grid → IsCut lib grid.ratio drawing.dots grid
  drawn-cut whole sound offered = cut_of_dots lib grid drawing.dots library whole sound offered draws.dots
