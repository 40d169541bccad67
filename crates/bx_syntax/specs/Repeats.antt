-- One thing after the other, as long as a test says so. Each may depend on what stood before it.
use Rattle.std.specs.Prelude.{ℕ, zero, suc, Bool, if◌then◌else◌, List, [], ◌∷◌, ◌++◌, length, Result, Ok, Err}
use Rattle.bx_syntax.specs.declared.terminal.Terminal.{Terminal}
use Rattle.bx_syntax.specs.declared.stop.Stop.{Stop}
use Rattle.bx_syntax.specs.ReadsExpressions.{Reader, ◌>>=◌}

-- at most so many
unfoldable pub repeat_within : {S A : Type 0} → (S → List Terminal → Bool) → (S → Reader (A × S)) → ℕ → S → Reader (List A × S)
repeat_within goes step zero s ts = Ok (([], s), ts)
repeat_within goes step (suc n) s ts =
    if goes s ts
    then (step s ts >>= λ x. repeat_within goes step n x.0.1 x.1 >>= λ y. Ok ((x.0.0 ∷ y.0.0, y.0.1), y.1))
    else Ok (([], s), ts)

unfoldable pub repeated : {S A : Type 0} → (S → List Terminal → Bool) → (S → Reader (A × S)) → S → Reader (List A × S)
repeated goes step s ts = repeat_within goes step (length ts) s ts

-- what was read before, and what is read behind it
abbrev pub ahead_of : {S A : Type 0} → List A → Result ((List A × S) × List Terminal) Stop → Result ((List A × S) × List Terminal) Stop
ahead_of xs (Ok y) = Ok ((xs ++ y.0.0, y.0.1), y.1)
ahead_of xs (Err e) = Err e
