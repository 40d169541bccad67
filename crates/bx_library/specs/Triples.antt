-- Three numbers as the dot that they stand for.
use Rattle.bx_library.specs.declared.dot.Dot.{Dot}
use Rattle.bx_library.specs.declared.values.Triple.{Triple}

abbrev pub triple_dot : Triple → Dot
triple_dot t = record { m = t.m; l = t.l; n = t.n }
