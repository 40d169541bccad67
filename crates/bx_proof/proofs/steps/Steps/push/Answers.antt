use Rattle.std.proofs.Common.{◌≡◌, ◌++◌, ◌∷◌, [], sym, ◌∙◌}
use Rattle.bx_proof.proofs.Logs.{at_ok, on_ok, log_push}
use Rattle.bx_proof.proofs.steps.Steps.push.Goals as goal

pub invariant_of-self-else-is_err : goal.invariant_of-self-else-is_err
invariant_of-self-else-is_err c =
    let more : c.push-room.new.self ≡ c.self.inside.hints ++ c.args.hints.now ∷ [] = at_ok c.push-room.result (sym c.is_err.ensures.value ∙ c.if-is_err.false) c.push-room.ensures.ok in
    (log_push _ _ _ _ _ _ _ _ c.in_ok-push.ensures.ok more c.self.invariant c.self.view_is c.requires).0

pub returns-else-is_err-clause-ok : goal.returns-else-is_err-clause-ok
returns-else-is_err-clause-ok c =
    let more : c.push-room.new.self ≡ c.self.inside.hints ++ c.args.hints.now ∷ [] = at_ok c.push-room.result (sym c.is_err.ensures.value ∙ c.if-is_err.false) c.push-room.ensures.ok in
    on_ok c.push-room.result (log_push _ _ _ _ _ _ _ _ c.in_ok-push.ensures.ok more c.self.invariant c.self.view_is c.requires).1
