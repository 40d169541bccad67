-- The clauses so far, and the literals that stand before.
use Rattle.std.proofs.Common.{◌≡◌, ◌++◌, ◌∷◌, map, take}
use Rattle.bx_encode.specs.Variables.{isnt}
use Rattle.bx_encode.specs.declared.variable.Variable.TheVariants.{EdgeOn}
use Rattle.bx_encode.specs.Sizes.{Adds}
use Rattle.bx_encode.proofs.writer.Writer.add_each.Given as goal

abbrev pub invariant-loop-b : goal.invariant-loop-b
invariant-loop-b l = record {
  adds : Adds l.initial.self.clauses l.self.clauses (map (λ b. l.initial.self.list.items ++ isnt l.frame.net.now l.frame.ratio (EdgeOn l.e b) ∷ l.behind) (take l.b-index l.borders));
  before : l.self.list.items ≡ l.initial.self.list.items;
}
