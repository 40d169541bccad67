-- What can be wrong with a module that is in the grammar, and which of its faults is the first: they
-- have an order, and of one kind that of the least-numbered name comes first.
use Rattle.std.specs.Prelude.{◌≡◌, ◌⊎◌, ◌<◌, ◌≤◌, List, [], ◌∷◌, ◌++◌, All, Contains, length, flat_map}
use Rattle.bx_syntax.specs.Parts.{ModuleTree}
use Rattle.bx_verilog.specs.declared.fault.NetFault.{NetFault}
use Rattle.bx_verilog.specs.declared.fault.NetFault.TheVariants.{BadPort, NoOutput, TwoDrivers, NoDriver, Cycle, NoMemory}
use Rattle.bx_verilog.specs.Formulas.{Text, names_of}
use Rattle.bx_verilog.specs.Drives.{Drive, drives}
use Rattle.bx_verilog.specs.Mentions.{count, is_header, is_directed, is_output, is_driven, is_read, names, outputs}

pub data IsBadPort (m : ModuleTree) (n : Text) : Type 0 where
  twice_in_header : 2 ≤ count is_header m n → IsBadPort m n
  two_directions : 2 ≤ count is_directed m n → IsBadPort m n
  no_direction : 1 ≤ count is_header m n → count is_directed m n ≡ 0 → IsBadPort m n
  no_port : count is_header m n ≡ 0 → 1 ≤ count is_directed m n → IsBadPort m n

abbrev pub HasTwoDrivers : ModuleTree → Text → Type 0
HasTwoDrivers m n = 2 ≤ count is_driven m n

-- something reads it or it is an output, and nothing drives it
abbrev pub HasNoDriver : ModuleTree → Text → Type 0
HasNoDriver m n = ((1 ≤ count is_read m n) ⊎ (1 ≤ count is_output m n)) × (count is_driven m n ≡ 0)

-- something drives the first name and reads the second
pub record Reads (m : ModuleTree) (n other : Text) : Type 0 where
  pub drive : Drive
  pub among : Contains (drives m) drive
  pub driven : Contains drive.targets n
  pub read : Contains (flat_map names_of drive.arguments) other

-- it reads it, or reads one that depends on it
pub data DependsOn (m : ModuleTree) : Text → Text → Type 0 where
  directly : (n k : Text) → Reads m n k → DependsOn m n k
  through : (n k l : Text) → Reads m n k → DependsOn m k l → DependsOn m n l

abbrev pub IsOnCycle : ModuleTree → Text → Type 0
IsOnCycle m n = DependsOn m n n

-- no name has the fault
abbrev pub IsFree : (Text → Type 0) → Type 0
IsFree Fault = (n : Text) → Fault n → ⊥

-- the name has it, and none of a smaller number does
pub record IsLeast (m : ModuleTree) (Fault : Text → Type 0) (n : Text) : Type 0 where
  pub before : List Text
  pub after : List Text
  pub splits : names m ≡ before ++ n ∷ after
  pub has : Fault n
  pub none : All (λ other. Fault other → ⊥) before

-- how far a module is free of faults: it has good ports; an output too; no name with two drivers; none
-- without one that needs it; and no cycle
abbrev pub HasPorts : ModuleTree → Type 0
HasPorts m = IsFree (IsBadPort m)

abbrev pub HasOutput : ModuleTree → Type 0
HasOutput m = HasPorts m × (0 < length (outputs m))

abbrev pub IsDrivenOnce : ModuleTree → Type 0
IsDrivenOnce m = HasOutput m × IsFree (HasTwoDrivers m)

abbrev pub IsDriven : ModuleTree → Type 0
IsDriven m = IsDrivenOnce m × IsFree (HasNoDriver m)

abbrev pub IsAccepted : ModuleTree → Type 0
IsAccepted m = IsDriven m × IsFree (IsOnCycle m)

-- the first fault
abbrev pub IsFault : ModuleTree → NetFault → Type 0
IsFault m (BadPort n) = IsLeast m (IsBadPort m) n
IsFault m NoOutput = HasPorts m × (outputs m ≡ [])
IsFault m (TwoDrivers n) = HasOutput m × IsLeast m (HasTwoDrivers m) n
IsFault m (NoDriver n) = IsDrivenOnce m × IsLeast m (HasNoDriver m) n
IsFault m (Cycle n) = IsDriven m × IsLeast m (IsOnCycle m) n
IsFault m NoMemory = ⊥
