use Rattle.std.proofs.Common.{◌≡◌, get_or, true, false, Some, rules, arith}
use Rattle.std.specs.Prelude.{slice_get}
use Rattle.std.proofs.lemmas.Option.{slice_get-get_or}
use Rattle.bx_proof.specs.Steps.{Step}
use Rattle.bx_check.proofs.Sound.{no_step}
use Rattle.bx_check.proofs.Borders.{pass_one_more, pass_less, failure_here}
use Rattle.bx_check.proofs.checker.failure_between.Goals as goal

pub returns-then-not-branch : goal.returns-then-not-branch
returns-then-not-branch c =
    let steps = c.args.steps.now.steps in
    let k = c.loop-k.k in
    let s : Step = get_or steps k no_step in
    let at : slice_get steps k ≡ Some s = slice_get-get_or steps k no_step (omega (arith, c.requires.within)) in
    let failed : c.in_ok-passes.field-0 ≡ false = cc in
    (omega arith, failure_here c.args.clauses.now steps c.args.from k s c.in_ok-passes.field-0 (omega arith) c.loop-k.invariant.pass at (c.in_ok-passes.ensures.exact s at) failed)

pub loop-k-preserved : goal.loop-k-preserved
loop-k-preserved c =
    let passed : c.in_ok-passes.field-0 ≡ true = cc in
    record {
      fresh = search rules;
      pass = pass_one_more c.args.clauses.now c.args.steps.now.steps c.args.from c.loop-k.k c.loop-k.invariant.pass (λ s at. (c.in_ok-passes.ensures.exact s at).0 passed);
    }

pub returns : goal.returns
returns c = pass_less c.args.clauses.now c.args.steps.now.steps c.args.from c.args.to c.loop-k.k (omega arith) c.loop-k.invariant.pass
