use Rattle.std.proofs.Common.{sym, subst}
use Rattle.bx_library.specs.Dots.{IsAscending}
use Rattle.bx_engine.proofs.load.design.cut_design.Goals as goal

pub cut-requires-clause-ascending : goal.cut-requires-clause-ascending
cut-requires-clause-ascending c = subst IsAscending (sym c.dots.ensures.dots) c.dots.ensures.kept.ascending
