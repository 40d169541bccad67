use Rattle.std.proofs.Common.{sym, ap}
use Rattle.bx_desk.proofs.Saying.{says_as}
use Rattle.bx_words.specs.declared.faults.WordFault.{WordFault}
use Rattle.bx_engine.specs.Said.{word_fault_text, refusal_text}
use Rattle.bx_engine.proofs.refusal.put_word_fault.Goals as goal

pub returns-in-Command : goal.returns-in-Command
returns-in-Command g c = says_as _ _ _ _ _ _ _ (ap (λ (f : WordFault). refusal_text (word_fault_text f)) (sym c.in-Command.is)) c.put_refusal.ensures

pub returns-in-Usage : goal.returns-in-Usage
returns-in-Usage g c = says_as _ _ _ _ _ _ _ (ap (λ (f : WordFault). refusal_text (word_fault_text f)) (sym c.in-Usage.is)) c.put_refusal-in-Usage.ensures

pub returns-in-Number : goal.returns-in-Number
returns-in-Number g c = says_as _ _ _ _ _ _ _ (ap (λ (f : WordFault). refusal_text (word_fault_text f)) (sym c.in-Number.is)) c.put_option.ensures

pub returns-in-Range : goal.returns-in-Range
returns-in-Range g c = says_as _ _ _ _ _ _ _ (ap (λ (f : WordFault). refusal_text (word_fault_text f)) (sym c.in-Range.is)) c.put_option-in-Range.ensures
