use Rattle.bx_desk.proofs.CallLaws.{started_file}
use Rattle.bx_desk.proofs.laws.a_started_file_holds_its_pieces_in_order.Goals as goal

pub returns : goal.returns
returns c = started_file
