use Rattle.std.proofs.Common.{sym, ap, ◌∙◌}
use Rattle.std.specs.Prelude.{option_and_then}
use Rattle.bx_trace.specs.Known.{entry}
use Rattle.bx_trace.proofs.Steps.{known-leaves, wire-leaves, handed-on}
use Rattle.bx_trace.proofs.border_edges.passed.Goals as goal

pub returns-in_err-from : goal.returns-in_err-from
returns-in_err-from c = λ L ratio b known.
    c.from_residual.ensures
    ∙ sym (wire-leaves L c.args.tile c.args.form b c.args.side c.source.result c.source.ensures ∙ ap (handed-on L c.args.tile) c.in_err-from.was)

pub returns-in_err-entering : goal.returns-in_err-entering
returns-in_err-entering c = λ L ratio b known.
    c.from_residual-in_err-entering.ensures
    ∙ sym (ap (option_and_then (entry c.args.edges.now)) c.in_err-entering.was)
    ∙ known-leaves L c.args.tile c.args.form b c.args.ratio ratio c.requires.tile c.args.edges.now known c.args.side c.source.result c.entering.result c.source.ensures c.in_ok-from.from c.in_ok-from.was c.entering.ensures

pub returns : goal.returns
returns c = λ L ratio b known.
    c.edge_on.ensures
    ∙ sym (ap (option_and_then (entry c.args.edges.now)) c.in_ok-entering.was)
    ∙ known-leaves L c.args.tile c.args.form b c.args.ratio ratio c.requires.tile c.args.edges.now known c.args.side c.source.result c.entering.result c.source.ensures c.in_ok-from.from c.in_ok-from.was c.entering.ensures
