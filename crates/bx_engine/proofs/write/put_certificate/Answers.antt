use Rattle.bx_engine.proofs.Endings.{can_write, file_ends, file_ends_failed}
use Rattle.bx_engine.proofs.write.put_certificate.Goals as goal

pub write_cert-requires : goal.write_cert-requires
write_cert-requires g c = can_write c.to_file-piece.result (g.D.Desk.state c.args.desk.now) c.to_file-piece.ensures.target c.requires

pub returns-in-Ok-clause-ok : goal.returns-in-Ok-clause-ok
returns-in-Ok-clause-ok g c = (file_ends _ _ _ _ _ _ _ _ _ c.to_file-piece.ensures.empty c.to_file-piece.ensures.target c.in-Ok.is c.write_cert.ensures.puts_out c.end.ensures.hands_on).0

pub returns-in-Ok-clause-err : goal.returns-in-Ok-clause-err
returns-in-Ok-clause-err g c = (file_ends _ _ _ _ _ _ _ _ _ c.to_file-piece.ensures.empty c.to_file-piece.ensures.target c.in-Ok.is c.write_cert.ensures.puts_out c.end.ensures.hands_on).1

pub returns-in-Err-clause-err : goal.returns-in-Err-clause-err
returns-in-Err-clause-err g c = file_ends_failed _ _ _ _ _ _ _ c.to_file-piece.ensures.empty c.to_file-piece.ensures.target c.in-Err.is c.write_cert.ensures.puts_out
