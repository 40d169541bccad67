use Rattle.std.proofs.Common.{◌≡◌, ◌∙◌, sym, subst, List, Err}
use Rattle.std.specs.Prelude.{◌≢◌, IfOk, IfErr}
use Rattle.std.proofs.lemmas.Result.{err_from_is_err_and}
use Rattle.bx_syntax.specs.declared.terminal.Terminal.{Terminal}
use Rattle.bx_syntax.specs.declared.stop.Stop.TheVariants.{NoMemory}
use Rattle.bx_syntax.specs.Grammar.{IsModule}
use Rattle.bx_syntax.specs.ReadsModules.{module_at}
use Rattle.bx_syntax.proofs.ModuleSteps.{module_found, module_only}
use Rattle.bx_syntax.proofs.Faults.{stop_is}
use Rattle.bx_syntax.proofs.read.tree_of.Goals as goal

pub returns-clause-found : goal.returns-clause-found
returns-clause-found c =
    subst (λ (ts : List Terminal). IfOk c.module.result (λ m. IsModule 256 m ts)) c.in_ok-terminals.ensures.found
    (module_found c.module.result _ _ c.module.ensures)

pub returns-clause-only : goal.returns-clause-only
returns-clause-only c m is =
    module_only c.module.result _ _ c.module.ensures m (subst (λ (ts : List Terminal). IsModule 256 m ts) (sym c.in_ok-terminals.ensures.found) is)

pub returns-in_err-terminals-clause-only : goal.returns-in_err-terminals-clause-only
returns-in_err-terminals-clause-only c m is =
    let p = err_from_is_err_and c.from_residual.result c.from_residual.ensures.1 in
    rw p.1 (p.2 ∙ c.in_err-terminals.ensures.failed)

pub returns-clause-stops : goal.returns-clause-stops
returns-clause-stops c =
    subst (λ (ts : List Terminal). IfErr c.module.result (λ e. e ≢ NoMemory → module_at 256 ts ≡ Err e)) c.in_ok-terminals.ensures.found
    (stop_is c.module.result _ _ c.module.ensures)
