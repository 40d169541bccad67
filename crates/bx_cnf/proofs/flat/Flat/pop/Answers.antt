use Rattle.std.proofs.Common.{◌≡◌, ◌∷◌, ◌-◌, length, take, get_or, arith, ap, ◌∙◌}
use Rattle.bx_cnf.proofs.Flats.{sized, list_popped}
use Rattle.bx_cnf.proofs.flat.Flat.pop.Goals as goal

pub overflow_sub-k : goal.overflow_sub-k
overflow_sub-k g c = let size = sized _ _ _ c.self.view_is in omega (arith, size, c.requires)

pub start_of-start-requires : goal.start_of-start-requires
start_of-start-requires g c = rw c.deref.ensures.value (omega arith)

pub invariant_of-self : goal.invariant_of-self
invariant_of-self g c =
    let starts : c.start_of-start.result ≡ get_or (0 ∷ c.self.inside.ends.items) (c.len-k.result - 1) 0 = c.start_of-start.ensures ∙ ap (λ ends. get_or (0 ∷ ends) (c.len-k.result - 1) 0) c.deref.ensures.value in
    (list_popped _ _ _ _ _ (c.len-k.result - 1) _ c.self.view_is c.self.invariant (omega arith) starts c.truncate.ensures.items c.truncate-2.ensures.items).0

pub returns : goal.returns
returns g c =
    let starts : c.start_of-start.result ≡ get_or (0 ∷ c.self.inside.ends.items) (c.len-k.result - 1) 0 = c.start_of-start.ensures ∙ ap (λ ends. get_or (0 ∷ ends) (c.len-k.result - 1) 0) c.deref.ensures.value in
    let size = sized _ _ _ c.self.view_is in
    let same : c.len-k.result - 1 ≡ length c.args.self.now - 1 = omega (arith, size) in
    (list_popped _ _ _ _ _ (c.len-k.result - 1) _ c.self.view_is c.self.invariant (omega arith) starts c.truncate.ensures.items c.truncate-2.ensures.items).1 ∙ ap (λ n. take n c.args.self.now) same
