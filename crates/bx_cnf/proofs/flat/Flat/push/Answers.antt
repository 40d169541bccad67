use Rattle.std.proofs.Common.{◌≡◌, ◌++◌, ◌∷◌, [], arith, ap, ◌∙◌}
use Rattle.bx_cnf.proofs.Flats.{list_pushed}
use Rattle.bx_cnf.proofs.flat.Flat.push.Goals as goal

pub invariant_of-self-2 : goal.invariant_of-self-2
invariant_of-self-2 g c =
    let ended : c.push.new.self.items ≡ c.self.inside.ends.items ++ c.len-2.result ∷ [] = c.in_ok-push.ensures.items ∙ ap (λ ends. ends ++ c.len-2.result ∷ []) c.reserve.ensures.items in
    (list_pushed _ _ _ _ _ _ c.len-2.result c.self.view_is c.self.invariant c.in_ok-extend_from_slice.ensures.items ended (omega (arith, c.len-2.ensures)) (omega (arith, c.has_room.ensures.0 c.if-not-has_room.false, c.len.ensures, c.len-2.ensures, c.in_ok-extend_from_slice.ensures.len))).0

pub returns-clause-ok : goal.returns-clause-ok
returns-clause-ok g c =
    let ended : c.push.new.self.items ≡ c.self.inside.ends.items ++ c.len-2.result ∷ [] = c.in_ok-push.ensures.items ∙ ap (λ ends. ends ++ c.len-2.result ∷ []) c.reserve.ensures.items in
    (list_pushed _ _ _ _ _ _ c.len-2.result c.self.view_is c.self.invariant c.in_ok-extend_from_slice.ensures.items ended (omega (arith, c.len-2.ensures)) (omega (arith, c.has_room.ensures.0 c.if-not-has_room.false, c.len.ensures, c.len-2.ensures, c.in_ok-extend_from_slice.ensures.len))).1
