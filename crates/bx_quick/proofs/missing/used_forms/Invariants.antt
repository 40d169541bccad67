use Rattle.std.proofs.Common.{◌↔◌, ℕ, Some, Contains, take}
use Rattle.bx_forms.specs.FormSets.{IsIn}
use Rattle.bx_quick.proofs.missing.used_forms.Given as goal

abbrev pub invariant-loop-tile : goal.invariant-loop-tile
invariant-loop-tile l = (form : ℕ) → IsIn l.used form ↔ Contains (take l.tile-index l.tiles) (Some form)
