use Rattle.std.proofs.Common.{◌≡◌, ◌<◌, Some, rules, length}
use Rattle.bx_desk.proofs.Slotted.{started_found}
use Rattle.bx_desk.proofs.memory.shelf.Shelf.started_at.Goals as goal

pub returns-clause-found : goal.returns-clause-found
returns-clause-found c =
    let is : c.args.self.now.started ≡ Some c.in_ok-at.at = search rules in
    let lt : c.in_ok-at.at < length c.args.self.now.slots.items = search rules in
    started_found c.args.self.now.started c.find.result c.args.self.now.slots.items c.index.result.now c.in_ok-at.at c.as_str.result.now is lt c.index.ensures c.as_str.ensures.value c.find.ensures.found
