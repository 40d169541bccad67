use Rattle.std.proofs.Common.{◌≡◌, take, map}
use Rattle.std.specs.Prelude.{All}
use Rattle.bx_library.specs.Tiles.{IsInside}
use Rattle.bx_library.specs.Triples.{triple_dot}
use Rattle.bx_library.proofs.forms.inside_dots.Given as goal

abbrev pub invariant-loop-k : goal.invariant-loop-k
invariant-loop-k l = record {
  same : l.dots.items ≡ take l.k (map triple_dot l.listed);
  inside : All (IsInside l.width l.height) (take l.k (map triple_dot l.listed));
}
