use Rattle.std.proofs.Common.{sym, ap}
use Rattle.bx_lex.specs.declared.token.LexFault.{LexFault}
use Rattle.bx_engine.specs.Said.{lex_fault_text, refusal_text}
use Rattle.bx_desk.proofs.Saying.{says_as}
use Rattle.bx_engine.proofs.refusal.put_lex_fault.Goals as goal

pub returns-in-OpenComment : goal.returns-in-OpenComment
returns-in-OpenComment g c = says_as _ _ _ _ _ _ _ (ap (λ (f : LexFault). refusal_text (lex_fault_text f)) (sym c.in-OpenComment.is)) c.put_lex_place-in-OpenComment.ensures

pub returns-in-OpenAttribute : goal.returns-in-OpenAttribute
returns-in-OpenAttribute g c = says_as _ _ _ _ _ _ _ (ap (λ (f : LexFault). refusal_text (lex_fault_text f)) (sym c.in-OpenAttribute.is)) c.put_lex_place-in-OpenAttribute.ensures
