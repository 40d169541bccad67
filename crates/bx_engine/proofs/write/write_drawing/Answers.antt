use Rattle.bx_engine.proofs.Endings.{is_started, writes_started}
use Rattle.bx_engine.proofs.write.write_drawing.Goals as goal

pub put_drawing-requires : goal.put_drawing-requires
put_drawing-requires g c = is_started (g.D.Desk.state c.args.desk.now) (g.D.Desk.state c.start.new.self) c.args.name.now c.in_ok-start.ensures.ok

pub returns-clause-ok : goal.returns-clause-ok
returns-clause-ok g c = (writes_started _ _ _ _ _ c.in_ok-start.ensures.ok (c.put_drawing.ensures.ok, c.put_drawing.ensures.err)).0

pub returns-clause-err : goal.returns-clause-err
returns-clause-err g c = (writes_started _ _ _ _ _ c.in_ok-start.ensures.ok (c.put_drawing.ensures.ok, c.put_drawing.ensures.err)).1
