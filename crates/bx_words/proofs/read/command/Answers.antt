use Rattle.std.proofs.Common.{rules}
use Rattle.bx_words.specs.declared.verbs.Verb.TheVariants.{Design, Verify, Sample}
use Rattle.bx_words.specs.Verbs.{line_of, opts_of}
use Rattle.bx_words.specs.Clap.{given_in, rows_in}
use Rattle.bx_words.proofs.Taken.{taken}
use Rattle.bx_words.proofs.read.command.Goals as goal

pub read_design-requires-clause-numbers : goal.read_design-requires-clause-numbers
read_design-requires-clause-numbers c = taken (opts_of (line_of Design)) (given_in (rows_in c.args.matches.now)) (search rules)

pub read_verify-requires-clause-numbers : goal.read_verify-requires-clause-numbers
read_verify-requires-clause-numbers c = taken (opts_of (line_of Verify)) (given_in (rows_in c.args.matches.now)) (search rules)

pub read_sample-requires : goal.read_sample-requires
read_sample-requires c = taken (opts_of (line_of Sample)) (given_in (rows_in c.args.matches.now)) (search rules)
