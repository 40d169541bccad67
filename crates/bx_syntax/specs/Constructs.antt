-- The construct that the code says of the terminal at which it stops, where it wants this.
use Rattle.std.specs.Prelude.{ℕ, Option, Some, None}
use Rattle.bx_syntax.specs.declared.terminal.Terminal.{Terminal}
use Rattle.bx_syntax.specs.declared.terminal.Terminal.TheVariants.{Fixed, Name, Number, Reserved, Symbol}
use Rattle.bx_syntax.specs.declared.terminal.Mark.TheVariants.{Module as ModuleWord}
use Rattle.bx_syntax.specs.declared.stop.Wanted.{Wanted}
use Rattle.bx_syntax.specs.declared.stop.Wanted.TheVariants.{Item, Primary, End}
use Rattle.bx_syntax.specs.declared.fault.Construct.{Construct}
use Rattle.bx_syntax.specs.declared.fault.Construct.TheVariants.{Instance, Second, Number as OtherNumber, Reserved as ReservedWord}
use Rattle.bx_syntax.specs.declared.fault.ReadFault.{ReadFault}
use Rattle.bx_syntax.specs.declared.fault.ReadFault.TheVariants.{Syntax, NotTaken}
use Rattle.bx_syntax.specs.Faults.{symbol_construct}

abbrev pub construct_of : Wanted → Terminal → Option Construct
construct_of wanted (Symbol b) = symbol_construct b
construct_of wanted Reserved = Some ReservedWord
construct_of Item (Name n) = Some Instance
construct_of Primary Number = Some OtherNumber
construct_of End (Fixed ModuleWord) = Some Second
construct_of wanted t = None

abbrev pub construct_behind : Wanted → Option Terminal → Option Construct
construct_behind wanted None = None
construct_behind wanted (Some t) = construct_of wanted t

-- the fault at a place
abbrev pub fault_with : ℕ → Option Construct → ReadFault
fault_with place None = Syntax place
fault_with place (Some c) = NotTaken place c
