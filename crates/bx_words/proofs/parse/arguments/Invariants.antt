use Rattle.std.proofs.Common.{◌≡◌, ◌++◌, map, take}
use Rattle.clap.specs.Walk.{rule_of}
use Rattle.bx_words.specs.Verbs.{files_of, line_of}
use Rattle.bx_words.specs.Clap.{file_rule, number_rule, option_rule}
use Rattle.bx_words.proofs.parse.arguments.Given as goal

abbrev pub invariant-loop-option : goal.invariant-loop-option
invariant-loop-option l =
    map rule_of l.args.items
    ≡ (map file_rule (files_of (line_of l.fn.verb)) ++ map number_rule (line_of l.fn.verb).numbers) ++ map option_rule (take l.option-index l.option-items)
