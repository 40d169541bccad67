use Rattle.std.proofs.Common.{◌∙◌, Some, Bool, ap, subst}
use Rattle.bx_watch.specs.Readings.{IsValue}
use Rattle.bx_watch.proofs.ClauseReads.{read-false}
use Rattle.bx_watch.proofs.reading.Reading.with.Goals as goal

pub returns-in-Some-true : goal.returns-in-Some-true
returns-in-Some-true c trail clause apart is value below =
    c.with_true.ensures trail clause apart is (subst (IsValue trail c.args.lit) (c.in-Some-true.is ∙ ap (λ (b : Bool). Some b) c.in-Some-true.field-0-test) value) below

pub returns-in-Some-false : goal.returns-in-Some-false
returns-in-Some-false c trail clause apart is value below =
    read-false trail clause c.args.lit c.args.self is (subst (IsValue trail c.args.lit) (c.in-Some-false.is ∙ ap (λ (b : Bool). Some b) c.in-Some-false.field-0-test) value)

pub returns-in-None : goal.returns-in-None
returns-in-None c trail clause apart is value below = c.with_free.ensures trail clause is (subst (IsValue trail c.args.lit) c.in-None.is value) below
