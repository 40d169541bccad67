-- One thing after the other: what a loop over them keeps.
use Rattle.std.proofs.Common.{◌≡◌, ℕ, zero, suc, ◌<◌, ◌≤◌, Bool, true, false, List, [], ◌∷◌, ◌++◌, length, append_assoc, Result, Ok, Err, refl, sym, ap, ◌∙◌, arith}
use Rattle.bx_syntax.specs.declared.terminal.Terminal.{Terminal}
use Rattle.bx_syntax.specs.declared.stop.Stop.{Stop}
use Rattle.bx_syntax.specs.ReadsExpressions.{Reader, ◌>>=◌}
use Rattle.bx_syntax.proofs.ReadsExpressions.{ok_is}
use Rattle.bx_syntax.specs.Repeats.{repeat_within, repeated, ahead_of}

-- each step takes at least one terminal, and at the end there is none
pub record Repeats {S A : Type 0} (goes : S → List Terminal → Bool) (step : S → Reader (A × S)) : Type 0 where
  pub less : (s : S) (ts : List Terminal) (x : (A × S) × List Terminal) → step s ts ≡ Ok x → length x.1 < length ts
  pub stops : (s : S) → goes s [] ≡ false

module _ {S A : Type 0} (goes : S → List Terminal → Bool) (step : S → Reader (A × S)) where
  pub stopped : (n : ℕ) (s : S) (ts : List Terminal) → goes s ts ≡ false → repeat_within goes step n s ts ≡ Ok (([], s), ts)
  unfolding repeat_within
  stopped zero s ts e = refl
  stopped (suc n) s ts e = rw e refl

  stepped : (n : ℕ) (s r : S) (a : A) (ts rest : List Terminal) → goes s ts ≡ true → step s ts ≡ Ok ((a, r), rest) →
      repeat_within goes step (suc n) s ts ≡ ahead_of (a ∷ []) (repeat_within goes step n r rest)
  unfolding repeat_within
  stepped n s r a ts rest e f = rw (e, f) (by_rest (repeat_within goes step n r rest))
    where
      by_rest : (o : Result ((List A × S) × List Terminal) Stop) →
          (o >>= λ (y : (List A × S) × List Terminal). let x : (List A × S) × List Terminal = ((a ∷ y.0.0, y.0.1), y.1) in Ok x) ≡ ahead_of (a ∷ []) o
      by_rest (Err e) = refl
      by_rest (Ok y) = refl

  failed : (n : ℕ) (s : S) (ts : List Terminal) (w : Stop) → goes s ts ≡ true → step s ts ≡ Err w → repeat_within goes step (suc n) s ts ≡ Err w
  unfolding repeat_within
  failed n s ts w e f = rw (e, f) refl

  -- With room for each step, how much of it there is doesn't matter.
  same_room : Repeats goes step → (n m : ℕ) (s : S) (ts : List Terminal) → length ts ≤ n → length ts ≤ m → repeat_within goes step n s ts ≡ repeat_within goes step m s ts
  same_room h zero m s [] f g = stopped zero s [] (h.stops s) ∙ sym (stopped m s [] (h.stops s))
  same_room h zero m s (t ∷ ts) f g = absurd (omega arith)
  same_room h (suc n) zero s [] f g = stopped (suc n) s [] (h.stops s) ∙ sym (stopped zero s [] (h.stops s))
  same_room h (suc n) zero s (t ∷ ts) f g = absurd (omega arith)
  same_room h (suc n) (suc m) s ts f g = by_test (λ r rest p q. same_room h n m r rest p q) (goes s ts) refl
    where
      Again : Type 0
      Again = (r : S) (rest : List Terminal) → length rest ≤ n → length rest ≤ m → repeat_within goes step n r rest ≡ repeat_within goes step m r rest

      by_step : Again → goes s ts ≡ true → (o : Result ((A × S) × List Terminal) Stop) → step s ts ≡ o → repeat_within goes step (suc n) s ts ≡ repeat_within goes step (suc m) s ts
      by_step again e (Err w) i = failed n s ts w e i ∙ sym (failed m s ts w e i)
      by_step again e (Ok x) i =
          stepped n s x.0.1 x.0.0 ts x.1 e i
          ∙ (ap (ahead_of (x.0.0 ∷ [])) (again x.0.1 x.1 (omega (arith, h.less s ts x i)) (omega (arith, h.less s ts x i)))
          ∙ sym (stepped m s x.0.1 x.0.0 ts x.1 e i))

      by_test : Again → (b : Bool) → goes s ts ≡ b → repeat_within goes step (suc n) s ts ≡ repeat_within goes step (suc m) s ts
      by_test again false e = stopped (suc n) s ts e ∙ sym (stopped (suc m) s ts e)
      by_test again true e = by_step again e (step s ts) refl

  pub repeated_step : Repeats goes step → (s r : S) (a : A) (ts rest : List Terminal) → goes s ts ≡ true → step s ts ≡ Ok ((a, r), rest) →
      repeated goes step s ts ≡ ahead_of (a ∷ []) (repeated goes step r rest)
  unfolding repeated
  repeated_step h s r a [] rest e f = absurd (true_is_false (sym e ∙ h.stops s))
    where
      true_is_false : true ≡ false → ⊥
      true_is_false e = cc
  repeated_step h s r a (t ∷ ts) rest e f =
      stepped (length ts) s r a (t ∷ ts) rest e f
      ∙ ap (ahead_of (a ∷ [])) (same_room h (length ts) (length rest) r rest (omega (arith, h.less s (t ∷ ts) ((a, r), rest) f)) (omega arith))

  pub repeated_stops : (s : S) (ts : List Terminal) → goes s ts ≡ false → repeated goes step s ts ≡ Ok (([], s), ts)
  unfolding repeated
  repeated_stops s ts e = stopped (length ts) s ts e

  repeated_fails : Repeats goes step → (s : S) (ts : List Terminal) (w : Stop) → goes s ts ≡ true → step s ts ≡ Err w → repeated goes step s ts ≡ Err w
  unfolding repeated
  repeated_fails h s [] w e f = absurd (true_is_false (sym e ∙ h.stops s))
    where
      true_is_false : true ≡ false → ⊥
      true_is_false e = cc
  repeated_fails h s (t ∷ ts) w e f = failed (length ts) s (t ∷ ts) w e f

  ahead-ahead : (xs : List A) (a : A) (o : Result ((List A × S) × List Terminal) Stop) → ahead_of (xs ++ a ∷ []) o ≡ ahead_of xs (ahead_of (a ∷ []) o)
  ahead-ahead xs a (Err e) = refl
  ahead-ahead xs a (Ok y) = ap (λ (l : List A). let x : (List A × S) × List Terminal = ((l, y.0.1), y.1) in Ok x) (append_assoc xs (a ∷ []) y.0.0)

  -- A loop: what was read, and what is read behind it, is all that is read.
  pub loop_fails : Repeats goes step → (s : S) (xs : List A) (ts : List Terminal) (all : Result ((List A × S) × List Terminal) Stop) → goes s ts ≡ true →
      ahead_of xs (repeated goes step s ts) ≡ all → (w : Stop) → step s ts ≡ Err w → all ≡ Err w
  loop_fails h s xs ts all e f w g = sym f ∙ ap (ahead_of xs) (repeated_fails h s ts w e g)

  pub loop_goes_on : Repeats goes step → (s r : S) (xs : List A) (a : A) (ts rest : List Terminal) (all : Result ((List A × S) × List Terminal) Stop) → goes s ts ≡ true →
      ahead_of xs (repeated goes step s ts) ≡ all → step s ts ≡ Ok ((a, r), rest) → ahead_of (xs ++ a ∷ []) (repeated goes step r rest) ≡ all
  loop_goes_on h s r xs a ts rest all e f g =
      ahead-ahead xs a (repeated goes step r rest) ∙ (ap (ahead_of xs) (sym (repeated_step h s r a ts rest e g)) ∙ f)

  pub loop_ends : (s : S) (xs : List A) (ts : List Terminal) (all : Result ((List A × S) × List Terminal) Stop) → goes s ts ≡ false →
      ahead_of xs (repeated goes step s ts) ≡ all → all ≡ Ok ((xs, s), ts)
  unfolding repeated
  loop_ends s xs ts all e f =
      sym f ∙ (ap (ahead_of xs) (stopped (length ts) s ts e) ∙ ap (λ (l : List A). let x : (List A × S) × List Terminal = ((l, s), ts) in Ok x) (append-nil xs))
    where
      append-nil : (l : List A) → l ++ [] ≡ l
      append-nil [] = refl
      append-nil (x ∷ l) = ap (λ m. x ∷ m) (append-nil l)

-- what is read behind something is all that is read but for this
pub ahead_is : {S A : Type 0} (x : A) (o : Result ((List A × S) × List Terminal) Stop) (y : (List A × S) × List Terminal) → ahead_of (x ∷ []) o ≡ Ok y →
    (z : (List A × S) × List Terminal) × (o ≡ Ok z) × (((x ∷ z.0.0, z.0.1), z.1) ≡ y)
ahead_is x (Err w) y e = absurd (cc)
ahead_is x (Ok z) y e = (z, refl, ok_is e)
