use Rattle.std.proofs.Common.{◌≡◌, map, take}
use Rattle.bx_verilog.proofs.sorted_names.SortedNames.of.Given as goal

abbrev pub invariant-loop-mention : goal.invariant-loop-mention
invariant-loop-mention l = map (λ name. name.now) l.names.items ≡ map (λ x. x.name.now) (take l.mention-index l.mentions)
