use Rattle.std.proofs.Common.{List, sym, subst}
use Rattle.bx_library.specs.Dots.{IsAscending}
use Rattle.bx_library.specs.declared.dot.Dot.{Dot}
use Rattle.bx_verify.proofs.places.cut_design.Goals as goal

pub cut-requires-clause-ascending : goal.cut-requires-clause-ascending
cut-requires-clause-ascending c = subst (λ (dots : List Dot). IsAscending dots) (sym c.dots.ensures.dots) c.dots.ensures.kept.ascending
