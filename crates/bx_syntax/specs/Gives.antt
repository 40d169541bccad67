-- What a reader of the code answers, against what reading gives. Want of memory says nothing of it.
use Rattle.std.specs.Prelude.{◌≡◌, List, map, Result, Ok, Err, Vec}
use Rattle.std.specs.declared.alloc.Global.{Global}
use Rattle.bx_syntax.specs.declared.terminal.Terminal.{Terminal}
use Rattle.bx_syntax.specs.declared.stop.Stop.{Stop}
use Rattle.bx_syntax.specs.declared.stop.Stop.TheVariants.{Bad, Deep, NoMemory}

abbrev pub Fails : {Y : Type 0} → Stop → Result Y Stop → Type 0
Fails NoMemory read = Unit {0}
Fails (Bad left wanted) read = read ≡ Err (Bad left wanted)
Fails (Deep left) read = read ≡ Err (Deep left)

-- The answer, seen by view, and the terminals behind it are what reading gives.
abbrev pub Gives : {X Y : Type 0} → (X → Y) → List Terminal → Result X Stop → Result (Y × List Terminal) Stop → Type 0
Gives view rest (Ok x) read = read ≡ Ok (view x, rest)
Gives view rest (Err e) read = Fails e read

-- The terminals behind what was taken are what reading gives.
abbrev pub GivesRest : {X : Type 0} → List Terminal → Result X Stop → Result (List Terminal) Stop → Type 0
GivesRest rest (Ok x) read = read ≡ Ok rest
GivesRest rest (Err e) read = Fails e read

-- The same, where reading keeps something besides.
abbrev pub GivesSome : {X Y S : Type 0} → (X → Y) → List Terminal → Result X Stop → Result ((Y × S) × List Terminal) Stop → Type 0
GivesSome {S = S} view rest (Ok x) read = (s : S) × (read ≡ Ok ((view x, s), rest))
GivesSome view rest (Err e) read = Fails e read

-- The same of a list that is read one after the other.
abbrev pub GivesList : {X Y : Type 0} → (X → Y) → List Terminal → Result (Vec X Global) Stop → Result ((List Y × Unit {0}) × List Terminal) Stop → Type 0
GivesList view rest result read = Gives (λ v. (map view v.items, tt)) rest result read
