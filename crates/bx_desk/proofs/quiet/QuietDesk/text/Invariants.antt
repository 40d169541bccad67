-- No text before this one is held under the name.
use Rattle.std.proofs.Common.{◌≡◌, drop}
use Rattle.bx_desk.specs.Quiet.{text_under}
use Rattle.bx_desk.proofs.quiet.QuietDesk.text.Given as goal

abbrev pub invariant-loop-held : goal.invariant-loop-held
invariant-loop-held l = text_under (drop l.held-index l.held-items) l.name ≡ text_under l.self.held.items l.name
