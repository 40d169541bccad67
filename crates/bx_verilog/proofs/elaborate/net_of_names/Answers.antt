use Rattle.std.proofs.Common.{◌∙◌}
use Rattle.std.proofs.lemmas.Result.{err_from_is_err_and}
use Rattle.bx_verilog.proofs.Counting.{AreUses-from_mentions}
use Rattle.bx_verilog.proofs.elaborate.net_of_names.Goals as goal

pub returns-in_err-check-clause-faults : goal.returns-in_err-check-clause-faults
returns-in_err-check-clause-faults c =
    let p = err_from_is_err_and c.from_residual-in_err-check.result c.from_residual-in_err-check.ensures.1 in
    rw (p.1, p.2) (λ other.
    c.in_err-check.ensures.faults other c.args.module.now (AreUses-from_mentions _ c.args.mentions.now _ _ c.requires.mentions c.requires.names (c.deref.ensures.value ∙ c.in_ok-uses.ensures)))

pub checked_net-requires-clause-uses : goal.checked_net-requires-clause-uses
checked_net-requires-clause-uses c =
    AreUses-from_mentions c.args.module.now c.args.mentions.now _ _ c.requires.mentions c.requires.names (c.deref-2.ensures.value ∙ c.in_ok-uses.ensures)

pub checked_net-requires-clause-driven : goal.checked_net-requires-clause-driven
checked_net-requires-clause-driven c =
    c.in_ok-check.ensures.driven c.args.module.now (AreUses-from_mentions _ c.args.mentions.now _ _ c.requires.mentions c.requires.names (c.deref.ensures.value ∙ c.in_ok-uses.ensures))
