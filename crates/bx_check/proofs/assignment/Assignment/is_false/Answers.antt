use Rattle.std.proofs.Common.{sym, ◌∙◌, ap}
use Rattle.bx_check.specs.Valued.{value_of}
use Rattle.bx_check.proofs.Taking.{is_false_some}
use Rattle.bx_check.proofs.assignment.Assignment.is_false.Goals as goal

pub returns-in-Some : goal.returns-in-Some
returns-in-Some c =
    is_false_some c.self.inside.values c.self.inside.taken.items c.args.self.now c.args.lit c.in-Some.value c.is_positive.result c.self.invariant c.self.view_is c.var.ensures.formed.above
    (ap (value_of c.self.inside.values) (sym c.var.ensures.var) ∙ sym c.get.ensures ∙ c.in-Some.is) c.is_positive.ensures
