-- What contracts see of a worker's results.
use Rattle.std.specs.Prelude.{ℕ, List, vec_capacity}
use Rattle.bx_verdict.specs.declared.verdict.Ended.{Ended as Verdict}
use Rattle.bx_verdict.specs.declared.verdict.Ended.TheVariants as verdict
use Rattle.bx_workers.specs.declared.results.Ended.{Ended}
use Rattle.bx_workers.specs.declared.results.Ended.TheVariants.{Refuted, Found, Undecided}
use Rattle.bx_workers.specs.declared.results.Results.{Results}
use Rattle.bx_workers.specs.declared.results.Tried.{Tried}

-- the ratios that were ended with, in turn
abbrev pub tried_of : Results → List Tried
tried_of results = results.tried.items

-- for how many there is room
abbrev pub room_of : Results → ℕ
room_of results = vec_capacity results.tried

-- a verdict, as a worker's end
abbrev pub ended_of : Verdict → Ended
ended_of (verdict.Refuted proof) = Refuted proof
ended_of (verdict.Found bits) = Found bits
ended_of (verdict.Undecided spent) = Undecided spent
