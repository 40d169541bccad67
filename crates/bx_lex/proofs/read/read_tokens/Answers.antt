use Rattle.std.proofs.Common.{rules, ◌≢◌, Ok, IfOk, IfErr}
use Rattle.bx_lex.specs.declared.token.LexFault.TheVariants.{NoMemory}
use Rattle.bx_lex.specs.Tokens.{HasTokens, HasFault}
use Rattle.bx_lex.proofs.Cuts.{tokens_spans}
use Rattle.bx_lex.proofs.Readings.{answered}
use Rattle.bx_lex.proofs.read.read_tokens.Goals as goal

pub returns-in_err-tokens-clause-exact : goal.returns-in_err-tokens-clause-exact
returns-in_err-tokens-clause-exact c = λ r reads given.
    let found : IfOk c.from_residual.result (λ found. HasTokens c.args.text.now found) = search rules in
    let faults : IfErr c.from_residual.result (λ fault. fault ≢ NoMemory → HasFault c.args.text.now fault) = search rules in
    answered c.args.text.now c.from_residual.result r found faults reads given

pub new-requires : goal.new-requires
new-requires c = tokens_spans c.args.text.now _ c.in_ok-tokens.ensures.found

pub returns-clause-exact : goal.returns-clause-exact
returns-clause-exact c = λ r reads given.
    answered c.args.text.now (Ok c.new.result) r (rw c.new.ensures c.in_ok-tokens.ensures.found) tt reads given
