use Rattle.bx_check.proofs.Sound.{sound_of}
use Rattle.bx_check.proofs.chunks.check_chunks.Goals as goal

pub returns-clause-sound : goal.returns-clause-sound
returns-clause-sound g c = sound_of c.is_accepted.result c.args.clauses.now c.args.steps.now c.is_accepted.ensures
