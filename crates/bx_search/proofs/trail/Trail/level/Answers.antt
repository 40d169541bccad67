use Rattle.std.proofs.Common.{◌≡◌, ◌∙◌, ◌+◌, ◌-◌, Some, length, slice_get, ap, sym, arith}
use Rattle.std.proofs.lemmas.Option.{slice_get_within}
use Rattle.bx_search.specs.States.{Assigned, current_level}
use Rattle.bx_search.specs.Trails.{Assignment}
use Rattle.bx_search.proofs.Trails.{level-last}
use Rattle.bx_search.proofs.trail.Trail.level.Goals as goal

pub returns-in-Some-clause-level : goal.returns-in-Some-clause-level
returns-in-Some-clause-level c =
    let entries = c.deref.result.now in
    let last = c.in-Some.last.now in
    let at : slice_get entries (length entries - 1) ≡ Some last = sym c.in-Some.ensures.value in
    let count : length entries - 1 + 1 ≡ length entries = omega (arith, slice_get_within entries (length entries - 1) last at) in
    ap (λ (a : Assigned). a.level) c.last-in-Some.view_is
    ∙ level-last 0 entries (length entries - 1) last count at
    ∙ ap current_level (c.deref.ensures.value ∙ ap (λ (t : Assignment). t.entries) c.self.view_is)
