use Rattle.std.proofs.Common.{◌≡◌, ◌+◌, ◌≤◌, length, map, drop}
use Rattle.bx_cnf.specs.Literals.{Literal}
use Rattle.bx_search.specs.States.{current_level}
use Rattle.bx_search.specs.Marks.{with_marks}
use Rattle.bx_search.proofs.marks.Marks.mark_all.Given as goal

abbrev pub invariant-loop-lit : goal.invariant-loop-lit
invariant-loop-lit l = record {
  same : with_marks l.trail.entries (map (λ (x : Literal). x.var) (drop l.lit-index l.clause)) l.self ≡ with_marks l.trail.entries (map (λ (x : Literal). x.var) l.clause) l.initial.self;
  sized : length l.self.marked ≡ l.trail.vars;
  left : l.self.left ≤ l.initial.self.left + l.lit-index;
  here : l.self.here ≤ l.initial.self.here + l.lit-index;
  level : l.current ≡ current_level l.trail.entries;
}
