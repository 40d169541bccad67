-- Exit statuses, which statuses say that the run came to its end, and which that it searched.
use Rattle.std.specs.Prelude.{ℕ, ⊤}
use Rattle.bx_cert.specs.declared.parts.CertLast.{CertLast}
use Rattle.bx_cert.specs.declared.parts.CertLast.TheVariants as told
use Rattle.bx_engine.specs.declared.status.Status.{Status}
use Rattle.bx_engine.specs.declared.status.Status.TheVariants.{Found, Refused, Undecided, NoneWithin, Minimal, Wrong, Done, ReadFault, WriteFault, NoMemory, Words}

abbrev pub exit_status : Status → ℕ
exit_status (Found ratio) = 0
exit_status (Refused fault) = 1
exit_status (Undecided ratio spent) = 2
exit_status NoneWithin = 3
exit_status (ReadFault which) = 4
exit_status (WriteFault which) = 4
exit_status NoMemory = 5
exit_status (Words fault) = 6
exit_status (Minimal ratio) = 0
exit_status (Wrong part k) = 7
exit_status Done = 0

-- neither want of memory nor a fault of reading or writing
abbrev pub IsSettled : Status → Type 0
IsSettled (Found ratio) = ⊤
IsSettled (Refused fault) = ⊤
IsSettled (Undecided ratio spent) = ⊤
IsSettled NoneWithin = ⊤
IsSettled (ReadFault which) = ⊥
IsSettled (WriteFault which) = ⊥
IsSettled NoMemory = ⊥
IsSettled (Words fault) = ⊤
IsSettled (Minimal ratio) = ⊤
IsSettled (Wrong part k) = ⊤
IsSettled Done = ⊤

-- the ratios were searched
abbrev pub HasSearched : Status → Type 0
HasSearched (Found ratio) = ⊤
HasSearched (Refused fault) = ⊥
HasSearched (Undecided ratio spent) = ⊤
HasSearched NoneWithin = ⊤
HasSearched (ReadFault which) = ⊥
HasSearched (WriteFault which) = ⊥
HasSearched NoMemory = ⊥
HasSearched (Words fault) = ⊥
HasSearched (Minimal ratio) = ⊥
HasSearched (Wrong part k) = ⊥
HasSearched Done = ⊥

-- the status of how the search ended, as the certificate tells it
abbrev pub status_of : CertLast → Status
status_of (told.Found ratio spots) = Found ratio
status_of (told.Undecided ratio spent) = Undecided ratio spent
status_of told.NoneWithin = NoneWithin
