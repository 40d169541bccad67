use Rattle.bx_engine.proofs.Worth.{worth-is}
use Rattle.bx_engine.proofs.laws.worth.an_answer_is_worth_what_it_says.Goals as goal

pub returns : goal.returns
returns c = λ words task inputs m lib cert found design asks taken solves drawn. worth-is words task asks taken.net_text m taken.taken lib cert found solves taken.lib_text taken.taken_library design drawn
