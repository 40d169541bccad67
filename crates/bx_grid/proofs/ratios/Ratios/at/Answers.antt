use Rattle.std.proofs.Common.{arith, sym, ◌∙◌, ap, length, ◌≡◌, slice_get}
use Rattle.bx_grid.proofs.Prefixes.{of_areas, length-of_areas, order-here, order-whole}
use Rattle.bx_grid.proofs.ratios.Ratios.at.Goals as goal

pub returns-then-left-count : goal.returns-then-left-count
returns-then-left-count c =
    sym (ap (λ rs. slice_get rs c.args.k) c.self.view_is)
    ∙ order-here c.self.inside.limits c.loop-past.past c.loop-past.left c.args.k c.nth_of_area.result c.loop-past-test.true c.nth_of_area.ensures (sym c.loop-past.invariant)

pub loop-past-preserved : goal.loop-past-preserved
loop-past-preserved c =
    let e = length-of_areas c.self.inside.limits c.loop-past.past in
    let exact = c.count_of_area-count.ensures.exact in
    omega (arith, e)

pub unreachable-requires : goal.unreachable-requires
unreachable-requires c =
    let last : c.loop-past.past ≡ c.self.inside.limits.area = omega arith in
    let whole = ap (λ n. length (of_areas c.self.inside.limits n)) last ∙ sym (order-whole c.self.inside.limits) ∙ ap length c.self.view_is in
    omega (arith, whole)
