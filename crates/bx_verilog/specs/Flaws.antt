-- What can be wrong with a name by its uses, and which fault that is.
use Rattle.std.specs.Prelude.{◌≡◌, ◌==◌, ℕ, Bool, not, ◌&&◌, ◌||◌, nat_lt, List, [], Some, position, slice_index_or}
use Rattle.bx_verilog.specs.declared.check.Flaw.{Flaw}
use Rattle.bx_verilog.specs.declared.check.Flaw.TheVariants.{Port, Drivers, Undriven}
use Rattle.bx_verilog.specs.declared.fault.NetFault.{NetFault}
use Rattle.bx_verilog.specs.declared.fault.NetFault.TheVariants.{BadPort, TwoDrivers, NoDriver}
use Rattle.bx_verilog.specs.declared.uses.Uses.{Uses}
use Rattle.bx_verilog.specs.Formulas.{Text}

-- a port stands once in the header and has one direction, and what is no port has neither
abbrev pub shows : Flaw → Uses → Bool
shows Port u = nat_lt 1 u.header || nat_lt 1 u.directed || not (u.header == u.directed)
shows Drivers u = nat_lt 1 u.driven
shows Undriven u = (nat_lt 0 u.read || nat_lt 0 u.output) && u.driven == 0

abbrev pub fault_of : Flaw → Text → NetFault
fault_of Port n = BadPort n
fault_of Drivers n = TwoDrivers n
fault_of Undriven n = NoDriver n

-- the fault is the flaw of the first name whose uses show it
pub record IsFirst (flaw : Flaw) (all : List Text) (uses : List Uses) (fault : NetFault) : Type 0 where
  pub number : ℕ
  pub first : position (shows flaw) uses ≡ Some number
  pub is : fault ≡ fault_of flaw (slice_index_or all number [])
