use Rattle.std.proofs.Common.{ℕ, ◌<◌}
use Rattle.bx_forms.specs.declared.kind.Kind.TheVariants.{Input}
use Rattle.bx_network.specs.Networks.{HasPort}
use Rattle.bx_network.proofs.mapped.is_unused.Given as goal

abbrev pub invariant-loop-node : goal.invariant-loop-node
invariant-loop-node l = (v : ℕ) → v < l.node-index → HasPort l.mapped v Input l.input → ⊥
