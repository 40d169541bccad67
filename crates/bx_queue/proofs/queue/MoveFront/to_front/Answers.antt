use Rattle.std.proofs.Common.{◌∙◌, ◌-◌, ◌^◌, Bool, List, ℕ, ap, arith, rules}
use Rattle.bx_queue.specs.Stamps.{place_after, stamping}
use Rattle.std.proofs.lemmas.List.{take_at}
use Rattle.bx_queue.proofs.Places.{variable-inside, room-moved, length-moved, searched-written}
use Rattle.bx_queue.proofs.queue.MoveFront.to_front.Goals as goal

pub stamp_first-requires-clause-each : goal.stamp_first-requires-clause-each
stamp_first-requires-clause-each c =
    let h = variable-inside _ _ _ c.args.var c.self.view_is c.requires in
    let len = length-moved _ _ _ _ c.args.var c.self.invariant h in
    rw (c.deref_mut.ensures.value, c.move_to_front.ensures) (omega (arith, len, c.self.invariant.each))

pub stamp_first-requires-clause-room : goal.stamp_first-requires-clause-room
stamp_first-requires-clause-room c =
    let h = variable-inside _ _ _ c.args.var c.self.view_is c.requires in
    rw (c.deref_mut.ensures.value, c.move_to_front.ensures) (room-moved _ _ _ _ c.args.var c.self.invariant h)

pub stamp_first-requires-clause-few : goal.stamp_first-requires-clause-few
stamp_first-requires-clause-few c =
    let h = variable-inside _ _ _ c.args.var c.self.view_is c.requires in
    let len = length-moved _ _ _ _ c.args.var c.self.invariant h in
    rw c.move_to_front.ensures (omega (arith, len, c.self.invariant.few))

pub invariant_of-self : goal.invariant_of-self
invariant_of-self c =
    searched-written _ _ _ _ _ c.args.var c.first.result c.index-above.result.now _ _ _ c.self.invariant (variable-inside _ _ _ c.args.var c.self.view_is c.requires)
    c.move_to_front.ensures c.first.ensures c.index-above.ensures
    (take_at c.stamp_first.new.stamps _ c.self.inside.stamps.len (search (rules, c.stamp_first.auto.stamps))
    ∙ (c.stamp_first.ensures ∙ ap (λ (s : List ℕ). stamping (2 ^ 32 - 1) c.move_to_front.new.self s c.args.var c.index-above.result.now) c.deref_mut.ensures.value))
    (c.place_after-self-inside.ensures ∙ ap (λ (t : List Bool). place_after c.self.inside.ring t c.self.inside.place c.args.var) c.deref.ensures.value)
