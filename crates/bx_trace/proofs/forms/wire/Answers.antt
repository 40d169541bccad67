use Rattle.std.proofs.Common.{◌≡◌, ◌∙◌, ap, ap₂, sym, Some}
use Rattle.bx_layout.proofs.Wires.{number_of, number-left, number-right, number-both, wired, unwired}
use Rattle.bx_trace.proofs.forms.wire.Goals as goal
use Rattle.bx_trace.proofs.forms.wire.Goals.{in-None+in-Some-right, in-Some+in-None-right-2, in-Some+in-Some-right-2}

pub returns-in-None-right : goal.returns-in-None-right
returns-in-None-right c = unwired c.args.left c.args.right c.in-None.is c.in-None-right.is

pub returns : goal.returns
returns c = wired c.args.left c.args.right c.match-left.number c.from_number.result number c.from_number.ensures.same c.from_number.ensures.some
  where
    number : number_of c.args.left c.args.right ≡ c.match-left.number
    number = elim c.match-left.branch [
      | in-None+in-Some-right w ↦ ap₂ number_of w.in-None.is w.in-Some-right.is ∙ number-right w.in-Some-right.from ∙ sym (w.number-is ∙ w.beside.ensures)
      | in-Some+in-None-right-2 w ↦ ap₂ number_of w.in-Some.is w.in-None-right-2.is ∙ number-left w.in-Some.from ∙ sym (w.number-is ∙ w.beside-in-None-right-2.ensures)
      | in-Some+in-Some-right-2 w ↦
          ap₂ number_of w.in-Some.is w.in-Some-right-2.is
          ∙ number-both w.in-Some.from _ (λ same. c.requires w.in-Some.from w.in-Some.is (w.in-Some-right-2.is ∙ ap Some (sym same)))
          ∙ sym (w.number-is ∙ w.beside-in-Some-right-2.ensures)
    ]
