use Rattle.std.proofs.Common.{length, sym, ◌∙◌, ap}
use Rattle.bx_least_set.proofs.WordBits.{length-numbers_of}
use Rattle.bx_least_set.proofs.words.Words.limit.Goals as goal

pub returns : goal.returns
returns c = sym (length-numbers_of c.self.inside.bound c.self.inside.words.items) ∙ ap length c.self.view_is
