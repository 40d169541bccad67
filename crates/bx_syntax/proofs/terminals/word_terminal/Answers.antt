use Rattle.std.proofs.Common.{ap, ◌∙◌}
use Rattle.bx_syntax.specs.Tables.{word_at}
use Rattle.bx_syntax.proofs.Words.{table_is, name_found}
use Rattle.bx_syntax.proofs.terminals.word_terminal.Goals as goal

pub returns-in-Some-clause-found : goal.returns-in-Some-clause-found
returns-in-Some-clause-found c = c.word_of.ensures ∙ ap (word_at c.args.bytes.now) c.in-Some.ensures ∙ table_is c.args.bytes.now

pub returns-in-None-clause-found : goal.returns-in-None-clause-found
returns-in-None-clause-found c =
    name_found c.name_terminal.result _ _ (ap (word_at c.args.bytes.now) c.in-None.ensures ∙ table_is c.args.bytes.now) c.name_terminal.ensures.found
