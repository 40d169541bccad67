use Rattle.std.proofs.Common.{None, subst}
use Rattle.bx_check.specs.Valued.{Sets}
use Rattle.bx_check.proofs.Taking.{left_less}
use Rattle.bx_check.proofs.assignment.Assignment.clear.Goals as goal

pub loop-lit-preserved : goal.loop-lit-preserved
loop-lit-preserved c =
    left_less c.loop-lit.self-inside.values c.unset.new.self c.loop-lit.self-inside.taken.items c.pop.new.self.items c.in-Some.lit c.loop-lit.invariant c.in-Some.ensures.items
    (subst (λ var. Sets c.loop-lit.self-inside.values c.unset.new.self var None) c.var.ensures.var c.unset.ensures)
