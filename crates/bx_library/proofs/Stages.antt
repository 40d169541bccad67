-- Faults in order: what a part that finds none leaves to the next.
use Rattle.std.proofs.Common.{◌≡◌, ℕ, inl, inr}
use Rattle.bx_library.specs.declared.fault.LibraryFault.{LibraryFault}
use Rattle.bx_library.specs.Faults.{IsFree, ◌⊳◌, Where, AtLeast}

pub free_both : (S T : LibraryFault → Type 0) → IsFree S → IsFree T → IsFree (S ⊳ T)
free_both S T s t = λ fault h. elim h [ inl a ↦ s fault a | inr b ↦ t fault b.1 ]

pub free_first : (S T : LibraryFault → Type 0) → IsFree (S ⊳ T) → IsFree S
free_first S T free = λ fault h. free fault (inl h)

pub free_second : (S T : LibraryFault → Type 0) → IsFree (S ⊳ T) → IsFree T
free_second S T free = λ fault h. free fault (inr (free_first S T free, h))

pub free_where : (P : Type 0) (named : LibraryFault) → (P → ⊥) → IsFree (Where P named)
free_where P named never = λ fault w. never w.holds

pub free_least : (P : ℕ → Type 0) (named : ℕ → LibraryFault) → ((k : ℕ) → P k → ⊥) → IsFree (AtLeast P named)
free_least P named never = λ fault w. never w.number w.least.holds

-- one fault at most
abbrev pub IsOne : (LibraryFault → Type 0) → Type 0
IsOne Fault = (a b : LibraryFault) → Fault a → Fault b → a ≡ b

pub one_both : (S T : LibraryFault → Type 0) → IsOne S → IsOne T → IsOne (S ⊳ T)
one_both S T s t = λ a b h k. elim h [
  | inl x ↦ elim k [ inl y ↦ s a b x y | inr y ↦ absurd (y.0 a x) ]
  | inr x ↦ elim k [ inl y ↦ absurd (x.0 b y) | inr y ↦ t a b x.1 y.1 ]
]
