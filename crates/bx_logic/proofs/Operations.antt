-- What the operations give for one value and for two.
use Rattle.std.proofs.Common.{◌≡◌, ◌≢◌, ◌↔◌, Bool, true, false, not, ◌&&◌, [], ◌∷◌, refl, ap}
use Rattle.std.specs.Prelude.{◌||◌, IsTrue}
use Rattle.bx_logic.specs.Op.{conjunction, disjunction, parity}

pub conjunction_one : (b : Bool) → conjunction (b ∷ []) ≡ b
conjunction_one true = refl
conjunction_one false = refl

pub disjunction_one : (b : Bool) → disjunction (b ∷ []) ≡ b
disjunction_one true = refl
disjunction_one false = refl

pub parity_one : (b : Bool) → parity (b ∷ []) ≡ b
parity_one true = refl
parity_one false = refl

pub conjunction_two : (l r : Bool) → conjunction (l ∷ r ∷ []) ≡ (l && r)
conjunction_two l r = ap (λ (b : Bool). l && b) (conjunction_one r)

pub disjunction_two : (l r : Bool) → disjunction (l ∷ r ∷ []) ≡ (l || r)
disjunction_two l r = ap (λ (b : Bool). l || b) (disjunction_one r)

pub parity_two : (l r : Bool) → IsTrue (parity (l ∷ r ∷ [])) ↔ (l ≢ r)
parity_two true true = ((λ e. cc), (λ d. absurd (d refl)))
parity_two true false = ((λ e d. cc), (λ d. refl))
parity_two false true = ((λ e d. cc), (λ d. refl))
parity_two false false = ((λ e. cc), (λ d. absurd (d refl)))

pub not_parity_two : (l r : Bool) → IsTrue (not (parity (l ∷ r ∷ []))) ↔ (l ≡ r)
not_parity_two true true = ((λ e. refl), (λ d. refl))
not_parity_two true false = ((λ e. cc), (λ d. cc))
not_parity_two false true = ((λ e. cc), (λ d. cc))
not_parity_two false false = ((λ e. refl), (λ d. refl))
