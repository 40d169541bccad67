use Rattle.std.proofs.Common.{ap, ◌∙◌}
use Rattle.std.proofs.lemmas.Result.{IfOk-weaker}
use Rattle.clap.specs.Simple.{new_app}
use Rattle.bx_words.proofs.Parses.{helpless}
use Rattle.bx_words.proofs.parse.command_of.Goals as goal

pub returns : goal.returns
returns c =
    let new = c.new.ensures in
    let h = c.disable_help_flag.ensures in
    IfOk-weaker c.args-2.result _ _ (λ r chain. record {
      start = c.disable_help_flag.result;
      args = c.in_ok-args.args.items;
      chain = chain;
      rules = c.in_ok-args.ensures;
      app = helpless c.new.result c.disable_help_flag.result _ h (new.app ∙ ap new_app c.name-name.ensures);
    }) c.args-2.ensures
