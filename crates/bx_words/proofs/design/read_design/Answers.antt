use Rattle.std.proofs.Common.{refl, arith}
use Rattle.bx_words.specs.declared.opts.Opt.TheVariants.{Budget, Workers}
use Rattle.bx_words.proofs.design.read_design.Goals as goal

pub value_at-budget-requires : goal.value_at-budget-requires
value_at-budget-requires c = c.requires.numbers Budget (3, omega arith, refl)

pub value_at-workers-requires : goal.value_at-workers-requires
value_at-workers-requires c = c.requires.numbers Workers (4, omega arith, refl)
