use Rattle.std.proofs.Common.{◌≡◌, ◌++◌, map, take}
use Rattle.clap.specs.Walk.{rule_of}
use Rattle.bx_words.specs.Verbs.{line_of}
use Rattle.bx_words.specs.Clap.{file_rule}
use Rattle.bx_words.proofs.parse.file_arguments.Given as goal

abbrev pub invariant-loop-file : goal.invariant-loop-file
invariant-loop-file l =
    map rule_of l.args.items ≡ map file_rule (line_of l.fn.verb).read ++ map file_rule (take l.file-index l.file-items)
