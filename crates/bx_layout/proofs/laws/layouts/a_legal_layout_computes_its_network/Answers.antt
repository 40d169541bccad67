use Rattle.bx_layout.proofs.Soundness.{sound}
use Rattle.bx_layout.proofs.Computing.{computes}
use Rattle.bx_layout.proofs.laws.layouts.a_legal_layout_computes_its_network.Goals as goal

pub returns-clause-sound : goal.returns-clause-sound
returns-clause-sound c = sound

pub returns-clause-computes : goal.returns-clause-computes
returns-clause-computes c = computes
