use Rattle.std.proofs.Common.{◌+◌, get_or, length, sym, subst, arith, rules}
use Rattle.std.specs.Prelude.{IfOk, IsTrue, ◌↔◌}
use Rattle.bx_check.specs.Chunks.{AreBorders, PassFrom}
use Rattle.bx_check.proofs.Borders.{chunks_answer}
use Rattle.bx_check.proofs.chunks.do_all_pass.Goals as goal

pub returns : goal.returns
returns g c =
    let formula = c.args.clauses.now in
    let steps = c.args.steps.now.steps in
    chunks_answer c.are_all_yes.result formula steps c.args.workers c.as_slice-row.result.now c.deref.result.now (subst (AreBorders c.args.workers (length steps)) (sym c.as_slice-row.ensures.value) c.in_ok-borders.ensures)
    (omega (arith, c.deref.ensures.len, c.in_ok-answers.ensures.len)) (λ i d lt. subst (λ xs. IfOk (get_or xs i d) (λ yes. IsTrue yes ↔ PassFrom formula steps (get_or c.as_slice-row.result.now i 0) (get_or c.as_slice-row.result.now (i + 1) 0))) (sym c.deref.ensures.value) (let h = (c.in_ok-answers.ensures.each i d lt).1.met in search rules)) c.are_all_yes.ensures.all c.are_all_yes.ensures.one_no
