use Rattle.std.proofs.Common.{◌≡◌, ◌++◌, map, take}
use Rattle.clap.specs.Walk.{rule_of}
use Rattle.bx_words.specs.Verbs.{files_of, line_of}
use Rattle.bx_words.specs.Clap.{file_rule, number_rule}
use Rattle.bx_words.proofs.parse.positional_arguments.Given as goal

abbrev pub invariant-loop-number : goal.invariant-loop-number
invariant-loop-number l =
    map rule_of l.args.items ≡ map file_rule (files_of (line_of l.fn.verb)) ++ map number_rule (take l.number-index l.number-items)
