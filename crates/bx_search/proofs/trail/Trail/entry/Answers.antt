use Rattle.std.proofs.Common.{◌<◌, length, ap, subst, arith}
use Rattle.bx_watch.specs.Watching.{IsOver}
use Rattle.bx_search.specs.Trails.{Assignment}
use Rattle.bx_search.proofs.Trails.{entry-over}
use Rattle.bx_search.proofs.trail.Trail.entry.Goals as goal

pub returns-clause-over : goal.returns-clause-over
returns-clause-over c =
    let below : c.args.place < length c.self.inside.entries.items = omega (arith, c.requires, ap (λ (t : Assignment). length t.entries) c.self.view_is) in
    subst (λ (t : Assignment). IsOver t.vars c.index.result.now.literal) c.self.view_is
    (entry-over (length c.self.inside.levels.items) c.self.inside.entries.items c.args.place c.index.result.now c.self.invariant.0.over below c.index.ensures)
