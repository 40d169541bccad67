use Rattle.std.proofs.Common.{refl, arith}
use Rattle.bx_words.specs.declared.opts.Opt.TheVariants.{Workers}
use Rattle.bx_words.proofs.others.read_verify.Goals as goal

pub value_at-workers-requires : goal.value_at-workers-requires
value_at-workers-requires c = c.requires.numbers Workers (0, omega arith, refl)
