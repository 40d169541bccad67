use Rattle.std.proofs.Common.{◌≡◌, map, take}
use Rattle.bx_syntax.specs.Terminals.{terminal_of}
use Rattle.bx_syntax.proofs.terminals.terminals.Given as goal

-- the terminals of the first k tokens
abbrev pub invariant-loop-k : goal.invariant-loop-k
invariant-loop-k l = l.terminals.items ≡ map (terminal_of l.text) (take l.k l.tokens.tokens)
