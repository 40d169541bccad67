use Rattle.bx_draw.proofs.Harmless.{escaped_harmless}
use Rattle.bx_draw.proofs.laws.an_escaped_name_is_harmless.Goals as goal

pub returns : goal.returns
returns c = escaped_harmless
