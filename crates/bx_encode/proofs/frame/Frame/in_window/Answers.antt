-- The test that runs is that of the definition.
use Rattle.std.proofs.Common.{sym}
use Rattle.std.proofs.lemmas.Bool.Decides.{same_from_decides}
use Rattle.bx_grid.specs.Tiles.{y_of}
use Rattle.bx_encode.proofs.Windows.{window-exact}
use Rattle.bx_encode.proofs.frame.Frame.in_window.Goals as goal

pub returns : goal.returns
returns c = sym (same_from_decides _ _ (window-exact c.args.self.now.net.now c.node_count-nodes.ensures.network c.args.v (y_of c.args.self.now.ratio c.args.t) c.args.self.now.ratio.h c.requires.node) c.in_window.ensures)
