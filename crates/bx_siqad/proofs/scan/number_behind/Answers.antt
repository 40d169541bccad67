use Rattle.std.proofs.Common.{◌++◌, sym, ◌∙◌, arith}
use Rattle.std.proofs.lemmas.List.{append_cancel_left}
use Rattle.std.specs.Prelude.{decimal}
use Rattle.bx_siqad.proofs.scan.number_behind.Goals as goal

pub returns-in_err-n-clause-none : goal.returns-in_err-n-clause-none
returns-in_err-n-clause-none c = rw c.from_residual-in_err-n.ensures (λ n rest small at.
    c.in_err-n.ensures.none n rest (omega (arith, small, c.from.ensures)) (record {
      spelled = append_cancel_left c.args.word.now c.in_ok-behind.field-0.now (decimal n ++ rest) (sym c.in_ok-behind.ensures.found ∙ at.spelled);
      stops = at.stops;
    }))
