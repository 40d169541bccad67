use Rattle.std.proofs.Common.{sym, subst}
use Rattle.bx_desk.specs.Desk.{CanPut}
use Rattle.bx_desk.specs.declared.target.Target.{Target}
use Rattle.bx_desk.proofs.Put.{can_after}
use Rattle.bx_desk.proofs.piece.hand_on.Goals as goal

pub returns-in-File-clause-can : goal.returns-in-File-clause-can
returns-in-File-clause-can g c =
    let before = g.D.Desk.state c.args.desk.now in
    let after = g.D.Desk.state c.append.new.self in
    subst (λ (t : Target). CanPut t after) (sym c.in-File.is)
    (can_after c.append.result before after c.args.bytes.now c.append.ensures.ok c.append.ensures.err (subst (λ (t : Target). CanPut t before) c.in-File.is c.requires))
