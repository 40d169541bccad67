use Rattle.std.proofs.Common.{refl, arith}
use Rattle.bx_words.specs.declared.opts.Opt.TheVariants.{Area, Width, Height}
use Rattle.bx_words.proofs.design.limits.Goals as goal

pub value_at-area-requires : goal.value_at-area-requires
value_at-area-requires c = c.requires Area (0, omega arith, refl)

pub value_at-width-requires : goal.value_at-width-requires
value_at-width-requires c = c.requires Width (1, omega arith, refl)

pub value_at-height-requires : goal.value_at-height-requires
value_at-height-requires c = c.requires Height (2, omega arith, refl)
