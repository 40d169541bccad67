use Rattle.bx_words.proofs.Asked.{asked}
use Rattle.bx_words.proofs.laws.words_without_a_fault_say_a_command.Goals as goal

pub returns : goal.returns
returns c = asked
