use Rattle.std.proofs.Common.{◌∙◌, ap, arith}
use Rattle.bx_queue.specs.Queue.{moved_to_front}
use Rattle.bx_queue.proofs.Rings.{stands, beside-read, first-read, links-moved, ring-itself, linked_list-is}
use Rattle.bx_queue.proofs.ring.Ring.move_to_front.Goals as goal

pub index_mut-requires : goal.index_mut-requires
index_mut-requires c =
    let h = stands _ _ c.args.number c.self.view_is c.requires in
    let beside = beside-read _ _ c.args.number c.index-before.result.now c.index-behind.result.now c.self.invariant h c.index-before.ensures c.index-behind.ensures in
    omega (arith, beside.2)

pub index_mut-requires-2 : goal.index_mut-requires-2
index_mut-requires-2 c =
    let h = stands _ _ c.args.number c.self.view_is c.requires in
    let beside = beside-read _ _ c.args.number c.index-before.result.now c.index-behind.result.now c.self.invariant h c.index-before.ensures c.index-behind.ensures in
    omega (arith, beside.3, c.self.invariant.both)

pub index_mut-requires-4 : goal.index_mut-requires-4
index_mut-requires-4 c =
    let h = stands _ _ c.args.number c.self.view_is c.requires in
    let first = first-read _ _ c.args.number c.index-before.result.now c.index-behind.result.now c.index-first.result.now c.self.invariant h c.index-before.ensures c.index-behind.ensures c.index-first.ensures in
    omega (arith, first.1, c.self.invariant.both)

pub invariant_of-self : goal.invariant_of-self
invariant_of-self c =
    let h = stands _ _ c.args.number c.self.view_is c.requires in
    ring-itself _ _ _ (links-moved _ _ c.args.number c.index-before.result.now c.index-behind.result.now c.index-first.result.now c.self.invariant h c.index-before.ensures c.index-behind.ensures c.index-first.ensures)

pub returns : goal.returns
returns c =
    let h = stands _ _ c.args.number c.self.view_is c.requires in
    linked_list-is _ _ _ (links-moved _ _ c.args.number c.index-before.result.now c.index-behind.result.now c.index-first.result.now c.self.invariant h c.index-before.ensures c.index-behind.ensures c.index-first.ensures)
    ∙ ap (moved_to_front c.args.number) c.self.view_is
