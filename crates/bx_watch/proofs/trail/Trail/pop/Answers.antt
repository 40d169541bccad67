use Rattle.std.proofs.Common.{◌≡◌, ◌++◌, ◌∷◌, [], length, subst, length-set}
use Rattle.std.specs.Prelude.{All}
use Rattle.bx_watch.specs.Watching.{IsOver, AreApart}
use Rattle.bx_watch.specs.Readings.{AreValues, ArePlaces}
use Rattle.bx_watch.proofs.Trails.{All-front, AreApart-freed, AreValues-freed}
use Rattle.bx_watch.proofs.Ranks.{ArePlaces-freed}
use Rattle.bx_watch.proofs.trail.Trail.pop.Goals as goal

pub invariant_of-self-2 : goal.invariant_of-self-2
invariant_of-self-2 c =
    let values = c.self.inside.values.items in
    let trail = c.pop.new.self.items in
    let l = c.in_ok-lit.lit in
    let split : c.self.inside.literals.items ≡ trail ++ l ∷ [] = c.in_ok-lit.ensures.items in
    let over : All (IsOver (length values)) (trail ++ l ∷ []) = subst (All (IsOver (length values))) split c.self.invariant.0.over in
    let apart : AreApart (trail ++ l ∷ []) = subst AreApart split c.self.invariant.0.apart in
    let are : AreValues (length values) values (trail ++ l ∷ []) = subst (AreValues (length values) values) split c.self.invariant.1 in
    rw (length-set, c.var.ensures.var) (
      record { over = All-front (IsOver (length values)) trail l over; apart = AreApart-freed trail l apart },
      AreValues-freed (length values) values trail l are over apart,
      ArePlaces-freed (length values) c.self.inside.places.items trail l (subst (ArePlaces (length values) c.self.inside.places.items) split c.self.invariant.2),
    )
