use Rattle.std.proofs.Common.{Err, ap, sym, subst, ◌∙◌}
use Rattle.bx_syntax.specs.declared.fault.ReadFault.{ReadFault}
use Rattle.bx_syntax.specs.Faults.{HasReadFault}
use Rattle.bx_syntax.proofs.Faults.{bad_fault, deep_fault}
use Rattle.bx_syntax.proofs.read.fault_of.Goals as goal

pub returns-in-Bad-clause-fault : goal.returns-in-Bad-clause-fault
returns-in-Bad-clause-fault c = λ _.
    let is = c.in-Bad.is in
    subst (λ (f : ReadFault). HasReadFault c.args.text.now c.args.tokens.now f) (sym c.fault_with.ensures)
    (bad_fault c.args.text.now c.args.tokens.now c.in-Bad.left c.in-Bad.wanted c.place.result c.construct_at.result (c.requires.stops (λ none. cc) ∙ ap Err is) c.place.ensures c.construct_at.ensures)

pub returns-in-Deep-clause-fault : goal.returns-in-Deep-clause-fault
returns-in-Deep-clause-fault c = λ _.
    let is = c.in-Deep.is in
    deep_fault c.args.text.now c.args.tokens.now c.in-Deep.left c.place-in-Deep.result (c.requires.stops (λ none. cc) ∙ ap Err is) c.place-in-Deep.ensures
