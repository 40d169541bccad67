use Rattle.std.proofs.Common.{ℕ, ◌<◌}
use Rattle.bx_forms.specs.Forms.{IsFormWith}
use Rattle.bx_forms.proofs.form.Form.of_node.Given as goal

abbrev pub invariant-loop-number : goal.invariant-loop-number
invariant-loop-number l = (k : ℕ) → k < l.number → IsFormWith l.kind l.upper l.lower k → ⊥
