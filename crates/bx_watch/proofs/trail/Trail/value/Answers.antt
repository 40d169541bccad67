use Rattle.std.proofs.Common.{◌≡◌, ◌∙◌, ◌<◌, ◌-◌, length, Bool, Some, None, get_or, ap, sym, subst, arith}
use Rattle.std.specs.Bool.{beq}
use Rattle.std.proofs.lemmas.List.{get_or_default}
use Rattle.bx_cnf.specs.Assignments.{IsFree}
use Rattle.bx_watch.specs.Watching.{IsOver}
use Rattle.bx_watch.specs.Readings.{Assigned, IsValue, value_at}
use Rattle.bx_watch.proofs.Trails.{value-some, value-none}
use Rattle.bx_watch.proofs.trail.Trail.value.Goals as goal

pub returns-in-Some-clause-value : goal.returns-in-Some-clause-value
returns-in-Some-clause-value c =
    let values = c.self.inside.values.items in
    let over : IsOver (length values) c.args.lit = subst (λ (t : Assigned). IsOver t.vars c.args.lit) (sym c.self.view_is) c.requires in
    let within : c.args.lit.var - 1 < length values = omega (arith, over.0, over.1) in
    let known : value_at values c.args.lit.var ≡ Some c.in-Some.value = get_or_default values (c.args.lit.var - 1) None c.index.result.now within ∙ (sym (c.index.ensures ∙ ap (λ v. get_or values (v - 1) c.index.result.now) c.var.ensures.var) ∙ c.in-Some.is) in
    let shown : IsValue c.self.inside.literals.items c.args.lit (Some (beq c.in-Some.value c.args.lit.positive)) =
    value-some (length values) values c.self.inside.literals.items c.args.lit c.in-Some.value c.self.invariant.1 over known in
    subst (λ (b : Bool). IsValue c.args.self.now.literals c.args.lit (Some (beq c.in-Some.value b))) (sym c.is_positive.ensures)
    (subst (λ (t : Assigned). IsValue t.literals c.args.lit (Some (beq c.in-Some.value c.args.lit.positive))) c.self.view_is shown)

pub returns-in-None-clause-value : goal.returns-in-None-clause-value
returns-in-None-clause-value c =
    let values = c.self.inside.values.items in
    let over : IsOver (length values) c.args.lit = subst (λ (t : Assigned). IsOver t.vars c.args.lit) (sym c.self.view_is) c.requires in
    let within : c.args.lit.var - 1 < length values = omega (arith, over.0, over.1) in
    let known : value_at values c.args.lit.var ≡ None = get_or_default values (c.args.lit.var - 1) None c.index.result.now within ∙ (sym (c.index.ensures ∙ ap (λ v. get_or values (v - 1) c.index.result.now) c.var.ensures.var) ∙ c.in-None.is) in
    subst (λ (t : Assigned). IsFree t.literals c.args.lit) c.self.view_is (value-none (length values) values c.self.inside.literals.items c.args.lit c.self.invariant.1 known)
