use Rattle.std.proofs.Common.{◌≡◌, ◌<◌, ℕ, get_or}
use Rattle.bx_least_set.proofs.words.WordsLevel.least.Given as goal

abbrev pub invariant-loop-block : goal.invariant-loop-block
invariant-loop-block l = (j : ℕ) → j < l.block → get_or l.self-inside.words.items j 0 ≡ 0
