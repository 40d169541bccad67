use Rattle.std.proofs.Common.{rules}
use Rattle.bx_engine.proofs.Permits.{library-solution, set-offered, drawable, small-budget}
use Rattle.bx_engine.proofs.plan.make_plan.Goals as goal

pub find_design-requires-clause-budget : goal.find_design-requires-clause-budget
find_design-requires-clause-budget g c κs lives = small-budget c.args.command.now.limits c.args.command.now.budget 67108864 (search rules) (search rules)

pub draw_found-requires : goal.draw_found-requires
draw_found-requires g c =
    drawable _ _ c.args.library.now (set-offered c.args.library.now c.same-permit.result c.offers.result c.offers.ensures c.same-permit.ensures) c.args.command.now.limits (search rules) _ _ _ c.in_ok-solution.ensures.minimal

pub returns-clause-solution : goal.returns-clause-solution
returns-clause-solution g c =
    library-solution c.args.library.now c.same-permit.result c.offers.result c.offers.ensures c.same-permit.ensures _ _ _ _ _ c.in_ok-solution.ensures.exact
