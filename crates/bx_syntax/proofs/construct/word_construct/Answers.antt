use Rattle.std.proofs.Common.{ap, ◌∙◌}
use Rattle.bx_syntax.specs.Tables.{word_at}
use Rattle.bx_syntax.specs.Constructs.{construct_of}
use Rattle.bx_syntax.proofs.Words.{table_is}
use Rattle.bx_syntax.proofs.construct.word_construct.Goals as goal

pub returns-in-Some : goal.returns-in-Some
returns-in-Some c =
    c.terminal_construct.ensures ∙ ap (construct_of c.args.wanted) (c.word_of.ensures ∙ ap (word_at c.args.bytes.now) c.in-Some.ensures ∙ table_is c.args.bytes.now)

pub returns-in-None : goal.returns-in-None
returns-in-None c =
    c.name_construct.ensures c.args.bytes.now ∙ ap (construct_of c.args.wanted) (ap (word_at c.args.bytes.now) c.in-None.ensures ∙ table_is c.args.bytes.now)
