use Rattle.std.proofs.Common.{arith, sym, ◌∙◌, ap, length, ◌≡◌}
use Rattle.bx_grid.proofs.Prefixes.{of_areas, length-of_areas, order-whole}
use Rattle.bx_grid.proofs.ratios.Ratios.len.Goals as goal

pub loop-past-preserved : goal.loop-past-preserved
loop-past-preserved c =
    let e = length-of_areas c.self.inside.limits c.loop-past.past in
    let exact = c.count_of_area-more.ensures.exact in
    (omega (arith, e), omega arith)

pub returns : goal.returns
returns c =
    let last : c.loop-past.past ≡ c.self.inside.limits.area = omega arith in
    c.loop-past.invariant.0
    ∙ ap (λ n. length (of_areas c.self.inside.limits n)) last
    ∙ sym (order-whole c.self.inside.limits)
    ∙ ap length c.self.view_is
