use Rattle.bx_forms.specs.declared.side.Side.TheVariants.{Left}
use Rattle.bx_trace.specs.Passing.{Passes}
use Rattle.bx_trace.proofs.HandingOn.{side-found, one-exit}
use Rattle.bx_trace.proofs.passing.exit.Goals as goal

pub returns-then-passes : goal.returns-then-passes
returns-then-passes c = side-found (Passes c.args.form c.args.from) (one-exit c.args.form c.args.from c.requires) Left (c.passes.ensures.0 c.if-passes.true)
