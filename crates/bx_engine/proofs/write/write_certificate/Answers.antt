use Rattle.bx_engine.proofs.Endings.{is_started, writes_started}
use Rattle.bx_engine.proofs.write.write_certificate.Goals as goal

pub put_certificate-requires : goal.put_certificate-requires
put_certificate-requires g c = is_started (g.D.Desk.state c.args.desk.now) (g.D.Desk.state c.start.new.self) c.args.name.now c.in_ok-start.ensures.ok

pub returns-clause-ok : goal.returns-clause-ok
returns-clause-ok g c = (writes_started _ _ _ _ _ c.in_ok-start.ensures.ok (c.put_certificate.ensures.ok, c.put_certificate.ensures.err)).0

pub returns-clause-err : goal.returns-clause-err
returns-clause-err g c = (writes_started _ _ _ _ _ c.in_ok-start.ensures.ok (c.put_certificate.ensures.ok, c.put_certificate.ensures.err)).1
