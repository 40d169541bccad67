use Rattle.std.proofs.Common.{◌∙◌, subst}
use Rattle.std.specs.Prelude.{IfErr}
use Rattle.bx_verilog.specs.Formulas.{Text}
use Rattle.bx_engine.specs.Runs.{TextEnds}
use Rattle.bx_engine.proofs.sample.sample_module.Goals as goal

pub returns-clause-err : goal.returns-clause-err
returns-clause-err c = subst (λ (t : Text). IfErr c.module_of_text.result (TextEnds t)) (c.deref.ensures.value ∙ c.in_ok-text.ensures) c.module_of_text.ensures.err
