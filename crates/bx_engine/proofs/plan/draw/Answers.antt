use Rattle.std.proofs.Common.{sym, subst}
use Rattle.bx_siqad.specs.Designs.{Drawing}
use Rattle.bx_engine.specs.Answers.{Draws}
use Rattle.bx_engine.proofs.plan.draw.Goals as goal

pub returns : goal.returns
returns c =
    subst (λ (d : Drawing). Draws c.args.library.now c.args.grid.now d) (sym c.new.ensures)
    (record { ratio = c.ratio.ensures.same; dots = c.in_ok-dots.ensures.same; ascending = c.in_ok-dots.ensures.ascending })
