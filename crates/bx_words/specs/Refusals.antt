-- Why there are no matches.
use Rattle.std.specs.Prelude.{◌≡◌, Bool, false}
use Rattle.bx_words.specs.declared.faults.NoCommand.{NoCommand}
use Rattle.bx_words.specs.declared.faults.NoCommand.TheVariants.{Fault, NoMemory}
use Rattle.bx_words.specs.declared.faults.WordFault.TheVariants.{Usage}

-- there are none of the words, and so their use is wrong; want of memory may come at any time
abbrev pub IsRefusal : Bool → NoCommand → Type 0
IsRefusal taken (Fault fault) = (fault ≡ Usage) × (taken ≡ false)
IsRefusal taken NoMemory = Unit {0}
