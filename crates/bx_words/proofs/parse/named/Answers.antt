use Rattle.std.proofs.Common.{◌∙◌}
use Rattle.clap.specs.Matches.{found_of}
use Rattle.clap.proofs.WalkLemmas.{first_value-rows}
use Rattle.bx_words.specs.Verbs.{file_name}
use Rattle.bx_words.specs.Clap.{rows_in}
use Rattle.bx_words.proofs.parse.named.Goals as goal

pub returns : goal.returns
unfolding rows_in
returns c = c.get_str.ensures ∙ (rw c.name.ensures (first_value-rows (found_of c.args.matches.now) (file_name c.args.file)))
