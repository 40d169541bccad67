use Rattle.bx_syntax.proofs.ReadsModules.{module_reads}
use Rattle.bx_syntax.proofs.module.module.Goals as goal

pub new-requires : goal.new-requires
new-requires c = record { terminals = c.args.terminals.now.items; is_module = module_reads 256 _ _ c.in_ok-name.ensures; few = c.requires }
