use Rattle.std.proofs.Common.{length}
use Rattle.bx_words.proofs.names.+writes_over.Given as goal

abbrev pub decreases-writes_over : goal.decreases-writes_over
decreases-writes_over l = length l.written.now
