use Rattle.std.proofs.Common.{◌∙◌, List, ℕ, ap, subst, sym}
use Rattle.bx_queue.specs.Stamps.{IsSearched, nearer}
use Rattle.bx_queue.proofs.Places.{searched-freed, variable-inside}
use Rattle.bx_queue.proofs.queue.MoveFront.freed.Goals as goal

pub invariant_of-self : goal.invariant_of-self
invariant_of-self c =
    subst (IsSearched _ _ _) (sym (c.nearer-self-inside.ensures ∙ ap (λ (s : List ℕ). nearer s c.args.var c.self.inside.place) c.deref.ensures.value))
    (searched-freed _ _ _ _ c.args.var c.self.invariant (variable-inside _ _ _ c.args.var c.self.view_is c.requires.within))
