-- Nets: what each is driven by, what one reads and depends on, and which lists make a net.
use Rattle.std.specs.Prelude.{◌≡◌, ℕ, ◌<◌, false, List, [], length, map, slice_index_or, Contains, All}
use Rattle.bx_logic.specs.declared.op.Op.{Op}
use Rattle.bx_logic.specs.declared.op.Op.TheVariants.{Buf, Not}
use Rattle.bx_logic.specs.declared.driver.Driver.{Driver}
use Rattle.bx_logic.specs.declared.driver.Driver.TheVariants.{Input, Constant, Gate}

-- the nets that a driver reads
abbrev pub arguments_of : Driver → List ℕ
arguments_of (Input i) = []
arguments_of (Constant b) = []
arguments_of (Gate op args) = args

-- the driver of a net, and any driver where there is no such net
abbrev pub driver_at : List Driver → ℕ → Driver
driver_at drivers n = slice_index_or drivers n (Constant false)

-- the first net reads the second
abbrev pub Reads : List Driver → ℕ → ℕ → Type 0
Reads drivers n m = Contains (arguments_of (driver_at drivers n)) m

-- it reads it, or reads one that depends on it
pub data DependsOn (drivers : List Driver) : ℕ → ℕ → Type 0 where
  directly : (n m : ℕ) → Reads drivers n m → DependsOn drivers n m
  through : (n k m : ℕ) → Reads drivers n k → DependsOn drivers k m → DependsOn drivers n m

-- no net depends on itself
abbrev pub IsAcyclic : List Driver → Type 0
IsAcyclic drivers = (n : ℕ) → DependsOn drivers n n → ⊥

-- `Buf` and `Not` have one argument, and each other operation has at least one
abbrev pub HasArity : Op → List ℕ → Type 0
HasArity Buf args = length args ≡ 1
HasArity Not args = length args ≡ 1
HasArity _ args = 0 < length args

-- a driver reads nets among so many, has the number of one of so many inputs, and as many arguments
-- as its operation takes
abbrev pub IsDriver : ℕ → ℕ → Driver → Type 0
IsDriver inputs nets (Input i) = i < inputs
IsDriver inputs nets (Constant b) = Unit {0}
IsDriver inputs nets (Gate op args) = HasArity op args × All (λ m. m < nets) args

-- one net, and no other, is driven by this input
pub record IsDrivenOnce (drivers : List Driver) (i : ℕ) : Type 0 where
  pub net : ℕ
  pub driven : driver_at drivers net ≡ Input i
  pub only : (n : ℕ) → driver_at drivers n ≡ Input i → n ≡ net

-- a net as contracts see it: names, the name and the net of each output, and the driver of each net
pub record Netlist : Type 0 where
  pub name : List ℕ
  pub inputs : List (List ℕ)
  pub outputs : List (List ℕ × ℕ)
  pub drivers : List Driver

-- the net of these parts
abbrev pub netlist : List ℕ → List (List ℕ) → List (List ℕ × ℕ) → List Driver → Netlist
netlist name inputs outputs drivers = record { name = name; inputs = inputs; outputs = outputs; drivers = drivers }

-- the names and the nets of the outputs, in order
abbrev pub output_names : Netlist → List (List ℕ)
output_names net = map (λ (output : List ℕ × ℕ). output.0) net.outputs

abbrev pub output_nets : Netlist → List ℕ
output_nets net = map (λ (output : List ℕ × ℕ). output.1) net.outputs

-- the lists make a net
pub record IsNet (net : Netlist) : Type 0 where
  -- there are few enough for numbers of 32 bits
  pub few_inputs : length net.inputs < 4294967296
  pub few_outputs : length net.outputs < 4294967296
  pub few_nets : length net.drivers < 4294967296
  -- each number in a driver, and each that an output has, stands for something
  pub drivers : All (IsDriver (length net.inputs) (length net.drivers)) net.drivers
  pub outputs : All (λ n. n < length net.drivers) (output_nets net)
  -- each input drives one net
  pub inputs : (i : ℕ) → i < length net.inputs → IsDrivenOnce net.drivers i
  pub acyclic : IsAcyclic net.drivers
