use Rattle.std.proofs.Common.{◌≡◌, map, take}
use Rattle.bx_verilog.specs.Shown.{shown}
use Rattle.bx_verilog.specs.Uses.{uses_among}
use Rattle.bx_verilog.proofs.uses.uses_of.Given as goal

abbrev pub invariant-loop-mention : goal.invariant-loop-mention
invariant-loop-mention l = l.uses.items ≡ map (uses_among (map shown (take l.mention-index l.mentions))) l.names
