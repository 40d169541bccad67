use Rattle.std.proofs.Common.{Vec, Global, ◌∙◌, ◌<◌, length, ap, sym, subst}
use Rattle.bx_library.specs.declared.dot.Dot.{Dot}
use Rattle.bx_library.specs.Tiles.{IsLibrary}
use Rattle.bx_dots.proofs.Listing.{pushed_form, listed_empty}
use Rattle.bx_dots.proofs.dots.by_tile.Goals as goal
use Rattle.bx_dots.proofs.dots.by_tile.Goals.{in-Some+in_ok-push_moved, in_default}

pub loop-tile-preserved : goal.loop-tile-preserved
loop-tile-preserved c =
    let lib = c.args.library.now in
    let g = c.args.grid.now in
    elim c.match-tile.branch [
      | in-Some+in_ok-push_moved w ↦ record {
        listed = ap (λ (v : Vec Dot Global). v.items) w.dots-is
            ∙ pushed_form lib g c.loop-tile.tile w.in-Some.form c.loop-tile.dots.items w.push_moved.new.dots.items w.dots.result.now c.ratio-ratio.result w.of-origin.result.n w.of-origin.result.m
            c.ratio-ratio.ensures.same w.of-origin.ensures.n w.of-origin.ensures.m w.dots.ensures.dots (sym c.tile.ensures ∙ w.in-Some.is) c.loop-tile.invariant.listed w.in_ok-push_moved.ensures;
        kept = λ some. w.dots.ensures.kept;
      }
      | in_default w ↦ record {
        listed = ap (λ (v : Vec Dot Global). v.items) w.dots-is ∙ listed_empty lib g c.loop-tile.tile c.loop-tile.dots.items (sym c.tile.ensures ∙ w.in_default.is) c.loop-tile.invariant.listed;
        kept = subst (λ (v : Vec Dot Global). 0 < length v.items → IsLibrary lib) (sym w.dots-is) c.loop-tile.invariant.kept;
      }
    ]
