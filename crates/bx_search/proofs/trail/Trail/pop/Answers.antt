use Rattle.std.proofs.Common.{◌≡◌, ◌∙◌, ◌++◌, [], ◌∷◌, Option, ap, subst}
use Rattle.std.specs.Prelude.{option_to_list}
use Rattle.bx_search.specs.States.{Assigned}
use Rattle.bx_search.proofs.Trails.{IsTrail, trail-front}
use Rattle.bx_search.proofs.trail.Trail.pop.Goals as goal

pub invariant_of-self : goal.invariant_of-self
invariant_of-self c =
    let front = c.pop.new.self.items in
    let split : c.self.inside.entries.items ≡ front ++ c.unwrap-last.result ∷ [] =
    c.pop.ensures.items ∙ ap (λ (o : Option Assigned). front ++ option_to_list o) c.unwrap-last.ensures in
    trail-front c.self.inside.levels.items front c.unwrap-last.result (subst (IsTrail c.self.inside.levels.items) split c.self.invariant)
