use Rattle.std.proofs.Common.{length, sym, subst, length-set}
use Rattle.std.proofs.lemmas.List.Elements.{All-push}
use Rattle.bx_cnf.specs.Assignments.{IsFree}
use Rattle.bx_watch.specs.Watching.{IsOver}
use Rattle.bx_watch.specs.Readings.{Assigned}
use Rattle.bx_watch.proofs.Trails.{AreApart-assigned, AreValues-assigned}
use Rattle.bx_watch.proofs.Ranks.{ArePlaces-assigned}
use Rattle.bx_watch.proofs.trail.Trail.push.Goals as goal

pub invariant_of-self-2 : goal.invariant_of-self-2
invariant_of-self-2 c =
    let values = c.self.inside.values.items in
    let trail = c.self.inside.literals.items in
    let over : IsOver (length values) c.args.lit = subst (λ (t : Assigned). IsOver t.vars c.args.lit) (sym c.self.view_is) c.requires.over in
    let free : IsFree trail c.args.lit = subst (λ (t : Assigned). IsFree t.literals c.args.lit) (sym c.self.view_is) c.requires.is_free in
    rw (length-set, c.in_ok-push.ensures.items, c.var.ensures.var, c.is_positive.ensures, c.len-place.ensures, c.self.inside.literals.ok.0) (
      record {
        over = All-push (IsOver (length values)) trail c.args.lit c.self.invariant.0.over over;
        apart = AreApart-assigned trail c.args.lit c.self.invariant.0.apart free;
      },
      AreValues-assigned (length values) values trail c.args.lit c.self.invariant.1 c.self.invariant.0.over over free,
      ArePlaces-assigned (length values) c.self.inside.places.items trail c.args.lit c.self.invariant.2 c.self.invariant.0.over over free,
    )
