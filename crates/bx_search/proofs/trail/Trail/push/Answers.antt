use Rattle.std.proofs.Common.{◌++◌, [], ◌∷◌, ◌-◌, ◌≤◌, ◌+◌, length, set, sym, subst}
use Rattle.bx_cnf.specs.Assignments.{IsFree}
use Rattle.bx_watch.specs.Watching.{IsOver}
use Rattle.bx_search.specs.States.{Assigned, literals_of, current_level}
use Rattle.bx_search.specs.Trails.{Assignment}
use Rattle.bx_search.proofs.Trails.{IsTrail, trail-push}
use Rattle.bx_search.proofs.trail.Trail.push.Goals as goal

pub invariant_of-self-2 : goal.invariant_of-self-2
invariant_of-self-2 c =
    let levels = c.self.inside.levels.items in
    let entries = c.self.inside.entries.items in
    let over : IsOver (length levels) c.args.entry.literal = subst (λ (t : Assignment). IsOver t.vars c.args.entry.literal) (sym c.self.view_is) c.requires.over in
    let free : IsFree (literals_of entries) c.args.entry.literal = subst (λ (t : Assignment). IsFree (literals_of t.entries) c.args.entry.literal) (sym c.self.view_is) c.requires.is_free in
    let low : current_level entries ≤ c.args.entry.level = subst (λ (t : Assignment). current_level t.entries ≤ c.args.entry.level) (sym c.self.view_is) c.requires.low in
    let high : c.args.entry.level ≤ current_level entries + 1 = subst (λ (t : Assignment). c.args.entry.level ≤ current_level t.entries + 1) (sym c.self.view_is) c.requires.high in
    rw (c.in_ok-push.ensures.items, c.var.ensures.var)
    (subst (λ (a : Assigned). IsTrail (set levels (a.literal.var - 1) a.level) (entries ++ c.args.entry ∷ [])) (sym c.entry.view_is)
    (trail-push levels entries c.args.entry c.self.invariant over free low high))
