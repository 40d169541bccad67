-- Lines that can't be read.
use Rattle.std.specs.Prelude.{◌≡◌, ◌<◌, ℕ, Result, Err, ⊤}
use Rattle.bx_dimacs.specs.declared.fault.TextFault.{TextFault}
use Rattle.bx_dimacs.specs.declared.fault.TextFault.TheVariants.{BadLine, NoMemory}

-- lines are counted from 1
abbrev pub IsLine : TextFault → Type 0
IsLine (BadLine k) = 0 < k
IsLine NoMemory = ⊤

-- nothing is read of a text that is stuck, unless memory was refused
abbrev pub IsStuckAt : {T : Type 0} → Result T ℕ → TextFault → Type 0
IsStuckAt said (BadLine k) = said ≡ Err k
IsStuckAt said NoMemory = ⊤
