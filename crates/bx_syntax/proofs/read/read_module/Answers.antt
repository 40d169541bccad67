use Rattle.std.proofs.Common.{Ok, Err, arith}
use Rattle.bx_syntax.proofs.Sizes.{spans_fit}
use Rattle.bx_syntax.proofs.Faults.{answered}
use Rattle.bx_syntax.proofs.read.read_module.Goals as goal

pub tree_of-requires-clause-whole : goal.tree_of-requires-clause-whole
tree_of-requires-clause-whole c = c.tokens_stand_in_order.ensures.whole _ _ c.requires.of_text

pub tree_of-requires-clause-few : goal.tree_of-requires-clause-few
tree_of-requires-clause-few c =
    omega (
      arith,
      spans_fit 0 _ _ (c.tokens_stand_in_order.ensures.spans _ _ c.requires.of_text),
      c.tokens_stand_in_order.ensures.whole _ _ c.requires.of_text,
      c.requires.short,
    )

pub fault_of-requires : goal.fault_of-requires
fault_of-requires c = record { whole = c.tokens_stand_in_order.ensures.whole _ _ c.requires.of_text; stops = c.in-Err.ensures.stops }

pub returns-in-Err-clause-only : goal.returns-in-Err-clause-only
returns-in-Err-clause-only c m is = c.fault_of.ensures.memory (c.in-Err.ensures.only m is)

pub returns-in-Err-clause-exact : goal.returns-in-Err-clause-exact
returns-in-Err-clause-exact c = λ f is given. answered c.args.text.now c.args.tokens.now (Err c.fault_of.result) (λ m. m) tt (λ other. c.fault_of.ensures.fault (λ none. other (c.fault_of.ensures.memory none))) f is given

pub returns-in-Ok-clause-exact : goal.returns-in-Ok-clause-exact
returns-in-Ok-clause-exact c = λ f is given. answered c.args.text.now c.args.tokens.now (Ok c.in-Ok.module) (λ m. m) c.in-Ok.ensures.found tt f is given

pub returns-in-Err-clause-faults : goal.returns-in-Err-clause-faults
returns-in-Err-clause-faults c = λ other. c.fault_of.ensures.fault (λ none. other (c.fault_of.ensures.memory none))
