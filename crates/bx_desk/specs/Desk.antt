-- What a desk shows: files by their names, which of them is started, what was said, and how often its calls
-- have failed. And what a call leaves of that: each word says all that changed.
use Rattle.std.specs.Prelude.{◌≡◌, ℕ, ◌+◌, ◌-◌, ◌^◌, ◌≤◌, min, Bool, true, IsTrue, List, [], length, ◌++◌, Option, option_map, IfSome, is_some, Some, None, nat_lt, if◌then◌else◌, Result, Ok, Err, ⊤}
use Rattle.std.specs.Str.{bytes_eq}
use Rattle.bx_desk.specs.declared.desk.LoadFault.{LoadFault}
use Rattle.bx_desk.specs.declared.desk.LoadFault.TheVariants.{Failed, TooLong, NoMemory}
use Rattle.bx_desk.specs.declared.target.Target.{Target}
use Rattle.bx_desk.specs.declared.target.Target.TheVariants.{Output, File}

-- the bytes of each name that names a file
abbrev pub Files : Type 0
Files = List ℕ → Option (List ℕ)

-- how often each kind of call has failed: `load`; `start` and `append`; `say`
pub record Counts : Type 0 where
  pub load : ℕ
  pub write : ℕ
  pub say : ℕ

-- A desk tells its files, and what was said, or doesn't. Whether a file is started is always told; its name
-- where the files are.
pub record DeskState : Type 0 where
  pub files : Option Files
  pub started : Option (Option (List ℕ))
  pub said : Option (List ℕ)
  pub faults : Counts

-- A count rose in a call: it is greater after the call, or stands at the end of its type.
abbrev pub Rose : ℕ → ℕ → Type 0
Rose before now = min (before + 1) (2 ^ 64 - 1) ≤ now

-- where the desk tells its files, this name names a file with these bytes
abbrev pub IsFile : Option Files → List ℕ → List ℕ → Type 0
IsFile told name bytes = IfSome told (λ files. files name ≡ Some bytes)

-- where the desk tells its files, this name names a file that begins with these bytes
abbrev pub BeginsFile : Option Files → List ℕ → List ℕ → Type 0
BeginsFile told name front = IfSome told (λ files. (rest : List ℕ) × (files name ≡ Some (front ++ rest)))

-- the answer to a load, by what the name names: no file, one past the limit, or one within it
abbrev pub load_answer : ℕ → Option (List ℕ) → Result (Unit {0}) LoadFault
load_answer limit None = Err Failed
load_answer limit (Some bytes) = if nat_lt limit (length bytes) then Err TooLong else Ok tt

-- A load gave this answer, unless memory was refused or the desk failed. If it failed, its count of failed loads rose.
abbrev pub LoadAnswers : {T : Type 0} → Counts → Counts → Result T LoadFault → Result T LoadFault → Type 0
LoadAnswers before now answer (Err NoMemory) = ⊤
LoadAnswers before now answer (Err Failed) = Rose before.load now.load
LoadAnswers before now answer (Err TooLong) = answer ≡ Err TooLong
LoadAnswers before now answer (Ok u) = answer ≡ Ok u

-- where the desk tells its files, the answer to a load follows from the file of this name
abbrev pub IsLoadAnswer : DeskState → DeskState → List ℕ → ℕ → Result (Unit {0}) LoadFault → Type 0
IsLoadAnswer old new name limit result = IfSome old.files (λ files. LoadAnswers old.faults new.faults (load_answer limit (files name)) result)

-- a load failed: its count rose, and nothing else changed
pub record FailsToLoad (old new : DeskState) : Type 0 where
  pub kept : new ≡ record old { faults = record old.faults { load = new.faults.load } }
  pub rose : Rose old.faults.load new.faults.load
  pub no_fall : old.faults.load ≤ new.faults.load

-- the files, with one of this name that has these bytes
abbrev pub with_file : List ℕ → List ℕ → Files → Files
with_file name bytes files q = if bytes_eq name q then Some bytes else files q

-- the files, with these bytes behind those of the one of this name
abbrev pub with_behind : List ℕ → List ℕ → Files → Files
with_behind name bytes files q = if bytes_eq name q then option_map (λ file. file ++ bytes) (files q) else files q

-- The file of this name is empty, and it is the started one. Nothing else changed.
abbrev pub Starts : DeskState → DeskState → List ℕ → Type 0
Starts old new name = new ≡ record old { files = option_map (with_file name []) old.files; started = Some (option_map (λ _. name) old.files) }

-- A start failed: no file is started, that of this name is as it was or empty, and the count of failed writes
-- rose. Nothing else changed.
pub record FailsToStart (old new : DeskState) (name : List ℕ) : Type 0 where
  pub is_emptied : Bool
  pub kept : new ≡ record old {
    files = if is_emptied then option_map (with_file name []) old.files else old.files;
    started = None;
    faults = record old.faults { write = new.faults.write };
  }
  pub rose : Rose old.faults.write new.faults.write
  pub no_fall : old.faults.write ≤ new.faults.write

-- the files, with these bytes behind those of the started one
abbrev pub with_written : Option (Option (List ℕ)) → List ℕ → Files → Files
with_written (Some (Some name)) bytes files = with_behind name bytes files
with_written (Some None) bytes files = files
with_written None bytes files = files

-- the desk, with these bytes behind what was said, or behind those of the started file
abbrev pub with_put : Target → List ℕ → DeskState → DeskState
with_put Output bytes desk = record desk { said = option_map (λ said. said ++ bytes) desk.said }
with_put File bytes desk = record desk { files = option_map (with_written desk.started bytes) desk.files }

-- how often calls with this target have failed
abbrev pub count_at : Target → Counts → ℕ
count_at Output counts = counts.say
count_at File counts = counts.write

-- the desk, with another such count
abbrev pub with_count : Target → ℕ → DeskState → DeskState
with_count Output count desk = record desk { faults = record desk.faults { say = count } }
with_count File count desk = record desk { faults = record desk.faults { write = count } }

-- whether bytes can be put there: a file must be started
abbrev pub can_put : Target → DeskState → Bool
can_put Output desk = true
can_put File desk = is_some desk.started

abbrev pub CanPut : Target → DeskState → Type 0
CanPut target desk = IsTrue (can_put target desk)

-- these bytes were put there, and nothing else changed
abbrev pub Puts : Target → DeskState → DeskState → List ℕ → Type 0
Puts target old new bytes = new ≡ with_put target bytes old

-- A call failed: a front of these bytes was put there, and the count rose. Nothing else changed.
pub record PutsFront (target : Target) (old new : DeskState) (bytes : List ℕ) : Type 0 where
  pub front : List ℕ
  pub rest : List ℕ
  pub split : front ++ rest ≡ bytes
  pub kept : new ≡ with_count target (count_at target new.faults) (with_put target front old)
  pub rose : Rose (count_at target old.faults) (count_at target new.faults)
  pub no_fall : count_at target old.faults ≤ count_at target new.faults

-- this text was said on this desk, or after a failure a front of it, and nothing else changed
abbrev pub Says : DeskState → DeskState → List ℕ → Type 0
Says = Puts Output

abbrev pub SaysFront : DeskState → DeskState → List ℕ → Type 0
SaysFront = PutsFront Output

-- so it is with the end of the started file
abbrev pub Writes : DeskState → DeskState → List ℕ → Type 0
Writes = Puts File

abbrev pub WritesFront : DeskState → DeskState → List ℕ → Type 0
WritesFront = PutsFront File
