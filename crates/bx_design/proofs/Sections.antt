-- Sections by index, and as they are made: none, and one more.
use Rattle.std.proofs.Common.{◌≡◌, ℕ, zero, suc, ◌≤◌, List, [], ◌∷◌, ◌++◌, length, Some, refl, ap, ap₂, arith}
use Rattle.std.proofs.lemmas.Option.{same_Some, none-some}
use Rattle.std.specs.Prelude.{slice_get}
use Rattle.bx_cert.specs.declared.parts.Section.{Section}
use Rattle.bx_grid.specs.declared.ratio.Ratio.{Ratio}
use Rattle.bx_proof.specs.declared.refutation.Refutation.{Refutation}
use Rattle.bx_design.specs.Certificates.{sections_of}

abbrev section : Ratio → Refutation → Section
section r proof = record { ratio = r; proof = proof }

pub sections-none : (ratios : List Ratio) → sections_of ratios [] ≡ []
sections-none [] = refl
sections-none (r ∷ ratios) = refl

pub sections-more : (ratios : List Ratio) (proofs : List Refutation) (r : Ratio) (proof : Refutation) → slice_get ratios (length proofs) ≡ Some r
    → sections_of ratios (proofs ++ proof ∷ []) ≡ sections_of ratios proofs ++ section r proof ∷ []
sections-more [] [] r proof at = absurd (none-some r at)
sections-more [] (p ∷ proofs) r proof at = absurd (none-some r at)
sections-more (q ∷ ratios) [] r proof at = ap₂ (λ (x : Ratio) (ss : List Section). section x proof ∷ ss) (same_Some q r at) (sections-none ratios)
sections-more (q ∷ ratios) (p ∷ proofs) r proof at = ap (λ (ss : List Section). section q p ∷ ss) (sections-more ratios proofs r proof at)

-- a section for each refutation
pub sections-count : (ratios : List Ratio) (proofs : List Refutation) → length proofs ≤ length ratios → length (sections_of ratios proofs) ≡ length proofs
sections-count [] [] few = refl
sections-count [] (p ∷ proofs) few = absurd (omega (arith, few))
sections-count (r ∷ ratios) [] few = refl
sections-count (r ∷ ratios) (p ∷ proofs) few = ap suc (sections-count ratios proofs (omega (arith, few)))

-- it is of the ratio and has the refutation at its place
pub section-at : (ratios : List Ratio) (proofs : List Refutation) (k : ℕ) (s : Section) → slice_get (sections_of ratios proofs) k ≡ Some s
    → (slice_get ratios k ≡ Some s.ratio) × (slice_get proofs k ≡ Some s.proof)
section-at [] proofs k s at = absurd (none-some s at)
section-at (r ∷ ratios) [] k s at = absurd (none-some s at)
section-at (r ∷ ratios) (p ∷ proofs) zero s at =
    let same : section r p ≡ s = same_Some (section r p) s at in
    (ap (λ (x : Section). Some x.ratio) same, ap (λ (x : Section). Some x.proof) same)
section-at (r ∷ ratios) (p ∷ proofs) (suc k) s at = section-at ratios proofs k s at
