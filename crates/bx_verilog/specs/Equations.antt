-- What a module means: its ports, and an equation for each driver of a name.
use Rattle.std.specs.Prelude.{◌≡◌, Bool, List, map, flat_map}
use Rattle.std.specs.List.{AllByRecursion, AllZip}
use Rattle.bx_logic.specs.declared.op.Op.{Op}
use Rattle.bx_logic.specs.Op.{op_value}
use Rattle.bx_logic.specs.Behaviours.{Behaviour}
use Rattle.bx_syntax.specs.Parts.{PartTree, ModuleTree}
use Rattle.bx_verilog.specs.Formulas.{Text, Formula, formula_value}
use Rattle.bx_verilog.specs.Drives.{Drive, drives_of, drives}
use Rattle.bx_verilog.specs.Mentions.{inputs, outputs}

-- the name `target` has the value of an operation over those of its arguments
pub record Equation : Type 0 where
  pub target : Text
  pub op : Op
  pub arguments : List Formula

-- the names of the ports, in the order of the header, and the equations
pub record Module : Type 0 where
  pub inputs : List Text
  pub outputs : List Text
  pub equations : List Equation

abbrev pub equate : Text → Op → List Formula → Equation
equate target op arguments = record { target = target; op = op; arguments = arguments }

-- an equation for each name that is driven
abbrev pub equations_of : Drive → List Equation
equations_of d = map (λ n. equate n d.op d.arguments) d.targets

-- the equations that a part of an item stands for
abbrev pub says : PartTree → List Equation
says p = flat_map equations_of (drives_of p)

abbrev pub module_of : ModuleTree → Module
module_of m = record { inputs = inputs m; outputs = outputs m; equations = flat_map equations_of (drives m) }

-- a value for each name
abbrev pub Assignment : Type 0
Assignment = Text → Bool

abbrev pub Meets : Assignment → Equation → Type 0
Meets v e = v e.target ≡ op_value e.op (map (formula_value v) e.arguments)

-- v gives the inputs the values of a, and meets every equation
pub record IsValuation (m : Module) (a v : Assignment) : Type 0 where
  pub inputs : AllByRecursion (λ input. v input ≡ a input) m.inputs
  pub equations : AllByRecursion (Meets v) m.equations

-- where the inputs have the values of a, the name has this value: some valuation there is, and in each one
pub record Gives (m : Module) (a : Assignment) (name : Text) (b : Bool) : Type 0 where
  pub some : (v : Assignment) × IsValuation m a v
  pub every : (v : Assignment) → IsValuation m a v → v name ≡ b

-- where the inputs have these values, in the order of the header, it gives the outputs those
pub record GivesOutputs (m : Module) (bits outputs : List Bool) : Type 0 where
  pub assignment : Assignment
  pub inputs : map assignment m.inputs ≡ bits
  pub each : AllZip (Gives m assignment) m.outputs outputs

abbrev pub module_behaviour : Module → Behaviour
module_behaviour m = GivesOutputs m
