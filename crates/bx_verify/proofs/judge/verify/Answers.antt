use Rattle.std.proofs.Common.{Ok, Err, rules}
use Rattle.bx_verify.specs.declared.fault.VerifyFault.TheVariants.{Map}
use Rattle.bx_verify.specs.declared.verdict.Verdict.TheVariants.{Minimal, Wrong}
use Rattle.bx_verify.proofs.Exact.{answer-once}
use Rattle.bx_verify.proofs.judge.verify.Goals as goal

pub returns-clause-minimal : goal.returns-clause-minimal
returns-clause-minimal g c = λ r mapped found none some.
    answer-once c.args.net.now c.args.library.now c.args.design.now c.args.cert.now c.answer.result (Ok (Minimal r)) c.answer.ensures.is (mapped, (found, none)) (search rules) some

pub returns-clause-wrong : goal.returns-clause-wrong
returns-clause-wrong g c = λ p k mapped first some.
    answer-once c.args.net.now c.args.library.now c.args.design.now c.args.cert.now c.answer.result (Ok (Wrong p k)) c.answer.ensures.is (mapped, first) (search rules) some

pub returns-clause-map : goal.returns-clause-map
returns-clause-map g c = λ fault un some.
    answer-once c.args.net.now c.args.library.now c.args.design.now c.args.cert.now c.answer.result (Err (Map fault)) c.answer.ensures.is un (search rules) some
