-- Trees that some text has, which are all that a module can be.
use Rattle.std.specs.Prelude.{◌<◌, List, length}
use Rattle.bx_syntax.specs.declared.terminal.Terminal.{Terminal}
use Rattle.bx_syntax.specs.Parts.{ModuleTree}
use Rattle.bx_syntax.specs.Grammar.{IsModule}

-- the tree of some terminals, fewer than 2 ^ 32, in which nothing nests deeper than 256
pub record IsTree (m : ModuleTree) : Type 0 where
  pub terminals : List Terminal
  pub is_module : IsModule 256 m terminals
  pub few : length terminals < 4294967296
