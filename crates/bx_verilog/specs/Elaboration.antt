-- The net of a module. Its names come first, numbered by first appearance; behind them come the nets
-- of what its expressions have besides names, in the order of the text, operands before what joins them.
use Rattle.std.specs.Prelude.{◌≡◌, ◌≢◌, ℕ, ◌+◌, false, List, [], ◌∷◌, ◌++◌, map, length, position, Option, Some, None, if◌then◌else◌, Result, Ok, Err}
use Rattle.std.specs.List.{list_any}
use Rattle.std.specs.Option.{option_or}
use Rattle.std.specs.Str.{bytes_eq}
use Rattle.bx_logic.specs.declared.op.Op.TheVariants.{Not}
use Rattle.bx_logic.specs.declared.driver.Driver.{Driver}
use Rattle.bx_logic.specs.declared.driver.Driver.TheVariants.{Input, Constant, Gate}
use Rattle.bx_logic.specs.Nets.{Netlist, netlist}
use Rattle.bx_syntax.specs.Parts.{ModuleTree}
use Rattle.bx_verilog.specs.declared.fault.NetFault.{NetFault}
use Rattle.bx_verilog.specs.declared.fault.NetFault.TheVariants.{NoMemory}
use Rattle.bx_verilog.specs.Formulas.{Text, Formula, named, constant, negation, pair, operation}
use Rattle.bx_verilog.specs.Drives.{Drive, drives}
use Rattle.bx_verilog.specs.Mentions.{names, number, inputs, outputs}
use Rattle.bx_verilog.specs.Faults.{IsAccepted, IsFault}

-- how many nets of its own a formula has: one for each constant and each operator
abbrev pub own : Formula → ℕ
own (named n) = 0
own (constant b) = 1
own (negation f) = own f + 1
own (pair o f g) = own f + own g + 1

abbrev pub all_own : List Formula → ℕ
all_own [] = 0
all_own (f ∷ fs) = own f + all_own fs

-- the same of the arguments of drives
abbrev pub inner_size : List Drive → ℕ
inner_size [] = 0
inner_size (d ∷ ds) = all_own d.arguments + inner_size ds

module _ (numbered : Text → ℕ) where
  -- the net of a formula whose own nets are numbered from `first` on: a name's, or the last of its own
  abbrev pub net_number : ℕ → Formula → ℕ
  net_number first (named n) = numbered n
  net_number first (constant b) = first
  net_number first (negation f) = first + own f
  net_number first (pair o f g) = first + own f + own g

  -- what drives its own nets
  abbrev pub own_drivers : ℕ → Formula → List Driver
  own_drivers first (named n) = []
  own_drivers first (constant b) = Constant b ∷ []
  own_drivers first (negation f) = own_drivers first f ++ Gate Not (net_number first f ∷ []) ∷ []
  own_drivers first (pair o f g) =
      own_drivers first f ++ own_drivers (first + own f) g ++ Gate (operation o) (net_number first f ∷ net_number (first + own f) g ∷ []) ∷ []

  -- the same for formulas one behind the other
  abbrev pub net_numbers : ℕ → List Formula → List ℕ
  net_numbers first [] = []
  net_numbers first (f ∷ fs) = net_number first f ∷ net_numbers (first + own f) fs

  abbrev pub all_own_drivers : ℕ → List Formula → List Driver
  all_own_drivers first [] = []
  all_own_drivers first (f ∷ fs) = own_drivers first f ++ all_own_drivers (first + own f) fs

  -- what drives the nets of expressions
  abbrev pub inner_drivers : ℕ → List Drive → List Driver
  inner_drivers first [] = []
  inner_drivers first (d ∷ ds) = all_own_drivers first d.arguments ++ inner_drivers (first + all_own d.arguments) ds

  -- the gate that drives a name; where the module is accepted there is one at most
  abbrev pub gate_of : ℕ → List Drive → Text → Option Driver
  gate_of first [] n = None
  gate_of first (d ∷ ds) n =
      option_or (gate_of (first + all_own d.arguments) ds n)
      (if list_any (bytes_eq n) d.targets then Some (Gate d.op (net_numbers first d.arguments)) else None)

-- how many names there are, which is the first number of the other nets
abbrev pub name_count : ModuleTree → ℕ
name_count m = length (names m)

-- what drives a name: a gate, or an input; a name that is only declared is 0, and nothing reads it
abbrev pub chosen : Option Driver → Option ℕ → Driver
chosen (Some gate) input = gate
chosen None (Some i) = Input i
chosen None None = Constant false

abbrev pub driver_of : ModuleTree → Text → Driver
driver_of m n = chosen (gate_of (number m) (name_count m) (drives m) n) (position (bytes_eq n) (inputs m))

abbrev pub net_of : ModuleTree → Netlist
net_of m =
    netlist m.name (inputs m) (map (λ n. (n, number m n)) (outputs m))
    (map (driver_of m) (names m) ++ inner_drivers (number m) (name_count m) (drives m))

-- what a module gives: its net, or its first fault
abbrev pub Meaning : Type 0
Meaning = Result Netlist NetFault

abbrev pub Elaborates : ModuleTree → Meaning → Type 0
Elaborates m (Ok net) = IsAccepted m × (net ≡ net_of m)
Elaborates m (Err fault) = IsFault m fault

-- what is told is the first fault of the module, unless it is want of memory
abbrev pub IsTold : ModuleTree → NetFault → Type 0
IsTold m fault = fault ≢ NoMemory → Elaborates m (Err fault)
