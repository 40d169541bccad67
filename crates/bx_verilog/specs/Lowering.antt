-- What expressions and drives add to the drivers of a net.
use Rattle.std.specs.Prelude.{◌≡◌, ℕ, ◌+◌, ◌<◌, List, [], ◌∷◌, ◌++◌, map, flat_map, length, position, Option, Some, None, Vec}
use Rattle.std.specs.List.{AllByRecursion}
use Rattle.std.specs.declared.alloc.Global.{Global}
use Rattle.std.specs.Str.{bytes_eq}
use Rattle.bx_logic.specs.declared.driver.Driver.{Driver}
use Rattle.bx_syntax.specs.declared.tree.Expr.{Expr}
use Rattle.bx_syntax.specs.declared.tree.Part.{Part}
use Rattle.bx_syntax.specs.Trees.{tree}
use Rattle.bx_syntax.specs.Parts.{part}
use Rattle.bx_verilog.specs.declared.drivers.Drive.{Drive as Found}
use Rattle.bx_verilog.specs.declared.drivers.NetDrivers.{NetDrivers}
use Rattle.bx_verilog.specs.Formulas.{Text, Formula, formula}
use Rattle.bx_verilog.specs.Drives.{Drive, drives_of}
use Rattle.bx_verilog.specs.Elaboration.{inner_size, net_number, own_drivers, net_numbers, all_own_drivers, inner_drivers, gate_of, chosen}
use Rattle.bx_verilog.specs.Shown.{number_among}

-- behind some drivers stand those of a formula's own nets, and this is the number of its net
pub record IsLowered (names : List Text) (before after : List Driver) (f : Formula) (net : ℕ) : Type 0 where
  pub drivers : after ≡ before ++ own_drivers (number_among names) (length names + length before) f
  pub number : net ≡ net_number (number_among names) (length names + length before) f

-- the same of several formulas
pub record AreLowered (names : List Text) (before after : List Driver) (fs : List Formula) (nets : List ℕ) : Type 0 where
  pub drivers : after ≡ before ++ all_own_drivers (number_among names) (length names + length before) fs
  pub numbers : nets ≡ net_numbers (number_among names) (length names + length before) fs

-- with so many nets more there are fewer than 2 ^ 32
abbrev pub NetsFit : List Text → List Driver → ℕ → Type 0
NetsFit names inner more = length names + length inner + more < 4294967296

-- what the code's expressions say
abbrev pub formulas : List Expr → List Formula
formulas exprs = map formula (map tree exprs)

-- what the code's drive is, without where it lies in memory
abbrev pub shown_drive : Found → Drive
shown_drive d = record { targets = d.targets.now; op = d.op; arguments = map formula (map tree d.arguments.now) }

abbrev pub shown_drives : Option Found → List Drive
shown_drives None = []
shown_drives (Some d) = shown_drive d ∷ []

-- what drives a name that these drive, or that is one of these inputs
abbrev pub driver_among : List Text → List Text → List Drive → Text → Driver
driver_among names inputs ds n = chosen (gate_of (number_among names) (length names) ds n) (position (bytes_eq n) inputs)

-- the drivers of the names and those of the other nets, where these drive them
pub record AreDrivers (names inputs : List Text) (ds : List Drive) (all : NetDrivers) : Type 0 where
  pub named : all.named.items ≡ map (driver_among names inputs ds) names
  pub inner : all.inner.items ≡ inner_drivers (number_among names) (length names) ds

-- what was there before, and then what these more drive
pub record AreDriversToo (names : List Text) (more : List Drive) (before after : NetDrivers) : Type 0 where
  pub count : length after.inner.items ≡ length before.inner.items + inner_size more
  pub drivers : (inputs : List Text) (ds : List Drive) → AreDrivers names inputs ds before → AreDrivers names inputs (ds ++ more) after

-- each of these has an argument
abbrev pub HaveArguments : List Drive → Type 0
HaveArguments ds = AllByRecursion (λ (d : Drive). 0 < length d.arguments) ds

-- what the code's parts and items drive
abbrev pub part_drives : Part → List Drive
part_drives p = drives_of (part p)

abbrev pub item_drives : Vec Part Global → List Drive
item_drives item = flat_map part_drives item.items
