use Rattle.bx_syntax.specs.Terminals.{terminal_of}
use Rattle.bx_syntax.proofs.Mapped.{map_more}
use Rattle.bx_syntax.proofs.terminals.terminals.Goals as goal

pub loop-k-preserved : goal.loop-k-preserved
loop-k-preserved c =
    rw c.in_ok-push_back.ensures.items (map_more (terminal_of c.args.text.now) c.args.tokens.now.tokens c.loop-k.k c.token.result _ _ c.token.ensures.value c.in_ok-terminal.ensures.found c.loop-k.invariant)
