-- A gate gives the same where its two values are exchanged.
use Rattle.std.proofs.Common.{◌≡◌, ℕ, Bool, true, false, not, List, [], ◌∷◌, refl, arith}
use Rattle.bx_logic.specs.Op.{conjunction, disjunction, parity}
use Rattle.bx_forms.specs.declared.kind.Kind.{Kind}
use Rattle.bx_forms.specs.declared.kind.Kind.TheVariants.{Input, Output, Not, Fan, And, Or, Nand, Nor, Xor, Xnor}
use Rattle.bx_forms.specs.Kinds.{operands, gives}

both-ways : (f : List Bool → Bool) → f (true ∷ false ∷ []) ≡ f (false ∷ true ∷ []) → f (false ∷ true ∷ []) ≡ f (true ∷ false ∷ []) → (a b : Bool) → f (a ∷ b ∷ []) ≡ f (b ∷ a ∷ [])
both-ways f p q true true = refl
both-ways f p q true false = p
both-ways f p q false true = q
both-ways f p q false false = refl

pub exchanged : (kind : Kind) (a b : Bool) (slot : ℕ) → operands kind ≡ 2 → gives kind (a ∷ b ∷ []) slot ≡ gives kind (b ∷ a ∷ []) slot
exchanged Input a b slot two = absurd (omega arith)
exchanged Output a b slot two = absurd (omega arith)
exchanged Not a b slot two = absurd (omega arith)
exchanged Fan a b slot two = absurd (omega arith)
exchanged And a b slot two = both-ways conjunction refl refl a b
exchanged Or a b slot two = both-ways disjunction refl refl a b
exchanged Nand a b slot two = both-ways (λ bs. not (conjunction bs)) refl refl a b
exchanged Nor a b slot two = both-ways (λ bs. not (disjunction bs)) refl refl a b
exchanged Xor a b slot two = both-ways parity refl refl a b
exchanged Xnor a b slot two = both-ways (λ bs. not (parity bs)) refl refl a b
