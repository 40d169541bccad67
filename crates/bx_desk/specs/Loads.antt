-- What a load leaves of a file that it could read.
use Rattle.std.specs.Prelude.{◌≡◌, ℕ, ◌+◌, ◌<◌, ◌≤◌, List, [], length, take, Result, Ok, Err}
use Rattle.bx_desk.specs.declared.desk.LoadFault.{LoadFault}
use Rattle.bx_desk.specs.declared.desk.LoadFault.TheVariants.{Failed, TooLong, NoMemory}

-- the file, or its first limit + 1 bytes where it has more than the limit; nothing where memory was refused
abbrev pub LoadsFile : {T : Type 0} → List ℕ → ℕ → Result T LoadFault → List ℕ → Type 0
LoadsFile file limit (Ok u) into = (into ≡ file) × (length file ≤ limit)
LoadsFile file limit (Err TooLong) into = (into ≡ take (limit + 1) file) × (limit < length file)
LoadsFile file limit (Err NoMemory) into = into ≡ []
LoadsFile file limit (Err Failed) into = ⊥
