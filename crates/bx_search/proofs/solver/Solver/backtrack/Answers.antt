use Rattle.std.proofs.Common.{◌≡◌, ◌∙◌, ◌<◌, List, ap, sym, arith}
use Rattle.bx_search.specs.States.{Assigned, State, current_level}
use Rattle.bx_search.specs.Searching.{up_to}
use Rattle.bx_search.specs.Solving.{state_of}
use Rattle.bx_search.proofs.Trails.{level-push, up_to-push, up_to-whole}
use Rattle.bx_search.proofs.Solving.{then-becomes, becomes-is}
use Rattle.bx_search.proofs.solver.Solver.backtrack.Goals as goal

pub loop-self-preserved : goal.loop-self-preserved
loop-self-preserved c =
    let (last, split, becomes) = c.in_ok-free_last.ensures in
    let first = c.args.self.now in
    let here = c.loop-self.self in
    let next = c.free_last.new.self in
    let is_level : current_level here.trail.entries ≡ last.level = ap current_level split ∙ level-push 0 next.trail.entries last in
    let high : c.args.level < last.level = omega (arith, is_level, c.level.ensures.level, c.loop-self-test.true) in (
      becomes-is first next _ _ (then-becomes first here next _ _ c.loop-self.invariant.0 becomes)
          (ap (λ (s : State). record s { trail = next.trail.entries }) c.loop-self.invariant.0.state),
      sym (ap (up_to c.args.level) split ∙ up_to-push c.args.level next.trail.entries last high) ∙ c.loop-self.invariant.1,
    )

pub returns : goal.returns
returns c =
    let first = c.args.self.now in
    let here = c.loop-self.self in
    becomes-is first here _ _ c.loop-self.invariant.0
    (ap (λ (t : List Assigned). record (state_of first) { trail = t })
    (sym (up_to-whole c.args.level here.trail.entries c.level.ensures.formed.climbs (omega (arith, c.level.ensures.level, c.loop-self-test.false))) ∙ c.loop-self.invariant.1))
