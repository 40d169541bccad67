use Rattle.std.proofs.Common.{◌∙◌, ap}
use Rattle.std.proofs.lemmas.List.{get_or_read}
use Rattle.bx_queue.specs.Ring.{behind}
use Rattle.bx_queue.proofs.Rings.{ring-behind, ring-room, stands}
use Rattle.bx_queue.proofs.ring.Ring.behind.Goals as goal

pub returns : goal.returns
returns c =
    let h = stands _ _ c.args.number c.self.view_is c.requires in
    get_or_read c.self.inside.next.items c.args.number c.index.result.now (ring-room _ _ _ c.args.number c.self.invariant h) c.index.ensures 0
    ∙ (ring-behind _ _ _ c.args.number c.self.invariant h ∙ ap (behind c.args.number) c.self.view_is)
