use Rattle.std.proofs.Common.{refl, arith}
use Rattle.bx_words.specs.declared.opts.Opt.TheVariants.{Number, Gates, Extra}
use Rattle.bx_words.proofs.others.read_sample.Goals as goal

pub value_at-number-requires : goal.value_at-number-requires
value_at-number-requires c = c.requires Number (0, omega arith, refl)

pub value_at-gates-requires : goal.value_at-gates-requires
value_at-gates-requires c = c.requires Gates (1, omega arith, refl)

pub value_at-extra-requires : goal.value_at-extra-requires
value_at-extra-requires c = c.requires Extra (2, omega arith, refl)
