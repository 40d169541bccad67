use Rattle.bx_trace.proofs.Meaning.{traced-sound, traced-computes}
use Rattle.bx_trace.proofs.laws.a_traced_grid_computes_its_network.Goals as goal

pub returns-clause-sound : goal.returns-clause-sound
returns-clause-sound c = traced-sound

pub returns-clause-computes : goal.returns-clause-computes
returns-clause-computes c = traced-computes
