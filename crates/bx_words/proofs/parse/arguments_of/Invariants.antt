use Rattle.std.proofs.Common.{◌≡◌, map, take}
use Rattle.clap.specs.Walk.{rule_of}
use Rattle.bx_words.specs.Clap.{file_rule}
use Rattle.bx_words.proofs.parse.arguments_of.Given as goal

abbrev pub invariant-loop-file : goal.invariant-loop-file
invariant-loop-file l = map rule_of l.args.items ≡ map file_rule (take l.file-index l.files)
