use Rattle.std.proofs.Common.{arith}
use Rattle.bx_engine.proofs.laws.effects.a_quiet_desk_is_never_blamed.Goals as goal

pub returns : goal.returns
returns c = λ before now. record { load = λ rose. omega (arith, rose); write = λ rose. omega (arith, rose); say = λ rose. omega (arith, rose) }
