-- The numbers of commands: their names, what they may be, and what they are where they aren't given.
use Rattle.std.specs.Prelude.{ℕ, List, codes, nat_le, if◌then◌else◌}
use Rattle.bx_words.specs.declared.opts.Opt.{Opt}
use Rattle.bx_words.specs.declared.opts.Opt.TheVariants.{Area, Width, Height, Budget, Workers, Number, Gates, Extra}

abbrev pub option_name : Opt → List ℕ
option_name Area = codes "area"
option_name Width = codes "width"
option_name Height = codes "height"
option_name Budget = codes "budget"
option_name Workers = codes "workers"
option_name Number = codes "number"
option_name Gates = codes "gates"
option_name Extra = codes "extra"

abbrev pub least_of : Opt → ℕ
least_of Area = 1
least_of Width = 1
least_of Height = 1
least_of Budget = 0
least_of Workers = 1
least_of Number = 0
least_of Gates = 1
least_of Extra = 0

-- the most workers that share the ratios
abbrev pub most_workers : ℕ
most_workers = 16

abbrev pub most_of : Opt → ℕ
most_of Area = 144
most_of Width = 144
most_of Height = 144
most_of Budget = 67108864
most_of Workers = most_workers
most_of Number = 2147483647
most_of Gates = 32
most_of Extra = 10000

-- the most that a budget may be, times the number of ratios
abbrev pub most_work : ℕ
most_work = 67108864

-- what an option is where it isn't given, at this area
abbrev pub default_of : Opt → ℕ → ℕ
default_of Area area = 100
default_of Width area = 144
default_of Height area = 144
default_of Budget area = if nat_le area 132 then 100000 else 50000
default_of Workers area = 4
default_of Number area = 0
default_of Gates area = 1
default_of Extra area = 0
