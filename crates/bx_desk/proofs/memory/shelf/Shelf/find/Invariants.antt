-- The slots passed so far have other names.
use Rattle.std.proofs.Common.{◌≡◌, drop}
use Rattle.bx_desk.specs.Shelves.{index_from}
use Rattle.bx_desk.proofs.memory.shelf.Shelf.find.Given as goal

abbrev pub invariant-loop-at : goal.invariant-loop-at
invariant-loop-at l = index_from l.at l.name (drop l.at l.self.slots.items) ≡ index_from 0 l.name l.self.slots.items
