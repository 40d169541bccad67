use Rattle.bx_desk.proofs.Saying.{says_then, says_failed, says_as}
use Rattle.bx_engine.proofs.Lines.{refusal_is}
use Rattle.bx_engine.proofs.refusal.put_refusal.Goals as goal

pub returns-in_err-put_word : goal.returns-in_err-put_word
returns-in_err-put_word g c = says_as _ _ _ _ _ _ _ (refusal_is c.args.first.now c.args.further.now) (says_failed _ _ _ _ _ _ _ _ _ c.in_err-put_word.was c.from_residual.ensures.0 c.put_word.ensures)

pub returns-in_err-put_spaced : goal.returns-in_err-put_spaced
returns-in_err-put_spaced g c = says_as _ _ _ _ _ _ _ (refusal_is c.args.first.now c.args.further.now) (says_then _ _ _ _ _ _ _ _ _ _ _ c.in_ok-put_word.was c.put_word.ensures (says_failed _ _ _ _ _ _ _ _ _ c.in_err-put_spaced.was c.from_residual-in_err-put_spaced.ensures.0 c.put_spaced.ensures))

pub returns-in_err-put_words : goal.returns-in_err-put_words
returns-in_err-put_words g c = says_as _ _ _ _ _ _ _ (refusal_is c.args.first.now c.args.further.now) (says_then _ _ _ _ _ _ _ _ _ _ _ c.in_ok-put_word.was c.put_word.ensures (says_then _ _ _ _ _ _ _ _ _ _ _ c.in_ok-put_spaced.was c.put_spaced.ensures (says_failed _ _ _ _ _ _ _ _ _ c.in_err-put_words.was c.from_residual-in_err-put_words.ensures.0 c.put_words.ensures)))

pub returns : goal.returns
returns g c = says_as _ _ _ _ _ _ _ (refusal_is c.args.first.now c.args.further.now) (says_then _ _ _ _ _ _ _ _ _ _ _ c.in_ok-put_word.was c.put_word.ensures (says_then _ _ _ _ _ _ _ _ _ _ _ c.in_ok-put_spaced.was c.put_spaced.ensures (says_then _ _ _ _ _ _ _ _ _ _ _ c.in_ok-put_words.was c.put_words.ensures c.put_word-2.ensures)))
