-- A command of `clap` that was built of a command's line: a new one without a help flag, to which the arguments
-- were added in their order.
use Rattle.std.specs.Prelude.{◌≡◌, true, List, [], map}
use Rattle.clap.specs.Built.{AddsArg, AddsInTurn}
use Rattle.clap.specs.Walk.{rule_of}
use Rattle.clap.specs.Simple.{app_of, new_shape}
use Rattle.clap.specs.declared.builder.arg.Arg.{Arg}
use Rattle.clap.specs.declared.builder.command.Command.{Command}
use Rattle.bx_words.specs.Verbs.{Line}
use Rattle.bx_words.specs.Clap.{rules_of}

pub record IsBuilt (line : Line) (c : Command) : Type 0 where
  pub start : Command
  pub args : List Arg
  pub chain : AddsInTurn AddsArg start args c
  pub rules : map rule_of args ≡ rules_of line
  pub app : app_of start ≡ record { top = record (new_shape line.name) { disable_help_flag = true }; subs = [] }
