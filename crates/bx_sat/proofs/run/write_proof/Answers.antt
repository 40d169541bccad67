use Rattle.bx_sat.proofs.Writing.{is_started, fails_started}
use Rattle.bx_sat.proofs.run.write_proof.Goals as goal

pub put_proof-requires-clause-started : goal.put_proof-requires-clause-started
put_proof-requires-clause-started g c = is_started (g.D.Desk.state c.args.desk.now) (g.D.Desk.state c.start.new.self) c.args.name.now c.in_ok-start.ensures.ok

pub returns-clause-err : goal.returns-clause-err
returns-clause-err g c = fails_started _ _ _ _ _ _ c.in_ok-start.ensures.ok c.put_proof.ensures.err
