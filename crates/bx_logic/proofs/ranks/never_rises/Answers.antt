use Rattle.std.proofs.Common.{ℕ, ◌≤◌, slice_index}
use Rattle.bx_logic.proofs.Cycles.{all-read}
use Rattle.bx_logic.proofs.ranks.never_rises.Goals as goal

pub returns-then-not-all_at_most : goal.returns-then-not-all_at_most
returns-then-not-all_at_most c = (
  λ t n m r. cc,
  λ never. c.if-not-all_at_most.ensures.1 (all-read (λ (m : ℕ). slice_index c.args.ranks.now m ≤ slice_index c.args.ranks.now c.loop-net.net) _ c.loop-net.net _
      c.arguments_at.ensures.reads (never c.loop-net.net)),
)
