-- A truth value and its inverse.
use Rattle.std.proofs.Common.{◌≡◌, Bool, true, false, not, inl, inr, ◌⊎◌, refl}

pub not-not : (b : Bool) → not (not b) ≡ b
not-not true = refl
not-not false = refl

pub not-itself : (b : Bool) → b ≡ not b → ⊥
not-itself true e = cc
not-itself false e = cc

pub same_or_not : (a b : Bool) → (a ≡ b) ⊎ (a ≡ not b)
same_or_not true true = inl refl
same_or_not true false = inr refl
same_or_not false true = inr refl
same_or_not false false = inl refl
