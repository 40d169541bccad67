-- The signals of a sample, by their numbers: four inputs, the gates, and the extra ones.
use Rattle.std.specs.Prelude.{ℕ, ◌-◌, nat_lt, List, ◌++◌, if◌then◌else◌, codes, decimal}
use Rattle.bx_sample.specs.declared.signal.Signal.{Signal}
use Rattle.bx_sample.specs.declared.signal.Signal.TheVariants.{Input, Gate, Extra}

-- the signal of a number, where so many gates aren't extra
abbrev pub signal_of : ℕ → ℕ → Signal
signal_of gates k =
    if nat_lt k 4 then Input k else (if nat_lt (k - 4) gates then Gate (k - 4) else Extra (k - 4 - gates))

abbrev pub name_of : Signal → List ℕ
name_of (Input k) = codes "i" ++ decimal k
name_of (Gate k) = codes "g" ++ decimal k
name_of (Extra k) = codes "x" ++ decimal k

abbrev pub signal_name : ℕ → ℕ → List ℕ
signal_name gates k = name_of (signal_of gates k)
