use Rattle.std.proofs.Common.{None, get_or, arith, rules}
use Rattle.std.specs.Prelude.{◌≢◌}
use Rattle.bx_layout.proofs.Verdicts.{pushed, some-tile}
use Rattle.bx_dots.specs.declared.fault.CutFault.TheVariants.{NoMemory}
use Rattle.bx_dots.specs.Cuts.{ReadsAs}
use Rattle.bx_dots.specs.Reading.{IsStrangeFault}
use Rattle.bx_dots.proofs.cuts.read_tiles.Goals as goal

pub returns-in_err-read_tile-clause-err : goal.returns-in_err-read_tile-clause-err
returns-in_err-read_tile-clause-err c =
    let lib = c.args.library.now in
    let dots = c.args.dots.now in
    let fault = c.in_err-read_tile.field-0.0 in
    let told : fault ≢ NoMemory → IsStrangeFault lib c.args.ratio dots fault = λ other.
    let (is, strange) = c.in_err-read_tile.ensures.err other in
    record {
      tile = c.loop-tile.tile;
      is = is;
      inside = c.loop-tile-test.true;
      strange = strange;
      first = λ u below strange. strange (get_or c.loop-tile.tiles.items u None) (c.loop-tile.invariant.reads u below);
    }
    in
    search rules

pub loop-tile-preserved : goal.loop-tile-preserved
loop-tile-preserved c =
    let items = c.loop-tile.tiles.ok.0 in
    record {
      kept = λ some. c.read_tile.ensures.kept;
      count = omega (arith, c.in_ok-push.ensures.len);
      reads = pushed (ReadsAs c.args.library.now c.args.ratio c.args.dots.now) c.loop-tile.tiles.items c.push.new.self.items c.in_ok-read_tile.field-0 c.loop-tile.tile
          c.in_ok-push.ensures.items (omega (arith, items)) c.loop-tile.invariant.reads c.in_ok-read_tile.ensures.ok;
    }

pub returns-clause-kept : goal.returns-clause-kept
returns-clause-kept c = λ other.
    let some = some-tile c.args.ratio.w c.args.ratio.h c.requires.grid.wide c.requires.grid.high in
    c.loop-tile.invariant.kept (omega arith)
