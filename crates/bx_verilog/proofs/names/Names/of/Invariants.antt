use Rattle.std.proofs.Common.{◌≡◌, ◌<◌, length, map, take}
use Rattle.std.specs.List.{All}
use Rattle.bx_verilog.specs.Mentions.{firsts}
use Rattle.bx_verilog.proofs.Sorting.{text_of, name_of, names_at}
use Rattle.bx_verilog.proofs.names.Names.of.Given as goal

abbrev pub invariant-loop-mention : goal.invariant-loop-mention
invariant-loop-mention l =
    let sorted = map text_of l.sorted-inside.names.items in
    record {
      within : All (λ place. place < length sorted) l.places.keys;
      named : names_at sorted l.places.keys ≡ firsts (map name_of (take l.mention-index l.mentions));
    }
