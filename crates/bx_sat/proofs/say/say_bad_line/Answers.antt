use Rattle.std.proofs.Common.{ap}
use Rattle.bx_desk.proofs.Saying.{says_as}
use Rattle.bx_sat.specs.Sayings.{bad_line_text}
use Rattle.bx_sat.proofs.Endings.{says_ends, says_ends_failed}
use Rattle.bx_sat.proofs.say.say_bad_line.Goals as goal

pub returns-in-Ok : goal.returns-in-Ok
returns-in-Ok g c = says_ends _ _ _ _ _ _ _ _ _ _ c.to_say-piece.ensures.empty c.to_say-piece.ensures.target c.in-Ok.is (says_as _ _ _ _ _ _ _ (ap (λ n. bad_line_text n c.args.line) c.as_bytes.ensures.value) c.put_line.ensures) c.end.ensures

pub returns-in-Err : goal.returns-in-Err
returns-in-Err g c = says_ends_failed _ _ _ _ _ _ _ _ c.to_say-piece.ensures.empty c.to_say-piece.ensures.target c.in-Err.is (says_as _ _ _ _ _ _ _ (ap (λ n. bad_line_text n c.args.line) c.as_bytes.ensures.value) c.put_line.ensures)
