-- A refuted ratio has no legal layout.
use Rattle.std.proofs.Common.{List, length, inl, inr, sym, ◌∙◌, subst, arith}
use Rattle.std.proofs.lemmas.Option.{same_Some, slice_get_cases}
use Rattle.bx_bounds.proofs.Meaning.{no-layout}
use Rattle.bx_cert.specs.declared.parts.Section.{Section}
use Rattle.bx_check.proofs.Sound.{accepted_sound}
use Rattle.bx_cnf.specs.Formulas.{AllTrue}
use Rattle.bx_encode.specs.Formula.{formula}
use Rattle.bx_encode.proofs.HavingBits.{has-bits}
use Rattle.bx_encode.proofs.Solving.{solved}
use Rattle.bx_grid.specs.declared.ratio.Ratio.{Ratio}
use Rattle.bx_layout.specs.Legal.{LacksLayout}
use Rattle.bx_layout.specs.Permits.{PermitTest}
use Rattle.bx_network.specs.Networks.{Network, IsNetwork}
use Rattle.bx_proof.specs.Accepted.{IsAccepted}
use Rattle.bx_proof.specs.Steps.{StepList}
use Rattle.bx_proof.specs.declared.refutation.Refutation.{Refutation}
use Rattle.bx_proof.specs.declared.refutation.Refutation.TheVariants.{Count, Clauses}
use Rattle.bx_refutes.specs.Refutations.{IsRefutedBy, AreSections, LackLayouts}

module _ (N : Network) (permit : PermitTest) where
  -- the bits of a legal layout would make true what nothing makes true
  accepted-lacks : (r : Ratio) (steps : StepList) → IsNetwork N → IsAccepted (formula N permit r) steps → LacksLayout N permit r
  accepted-lacks r steps network accepted L same is_legal =
      let (bits, are) = has-bits N L is_legal.placed in
      accepted_sound (formula N permit r) steps bits accepted
      (subst (λ (q : Ratio). AllTrue bits (formula N permit q).clauses) same (solved N permit L network is_legal bits are))

  pub lacks : (r : Ratio) (proof : Refutation) → IsNetwork N → IsRefutedBy N permit r proof → LacksLayout N permit r
  lacks r (Count proof) network refutes = λ L same. no-layout N r proof network refutes permit L same
  lacks r (Clauses steps) network accepted = accepted-lacks r steps network accepted

  pub sections-lack : (ratios : List Ratio) (sections : List Section) → IsNetwork N → AreSections N permit ratios sections → LackLayouts N permit ratios (length sections)
  sections-lack ratios sections network are k r low at = elim (slice_get_cases sections k).1 [
    | inl (s, within, own, read) ↦ (
        let is = are k s own in
        subst (LacksLayout N permit) (same_Some s.ratio r (sym is.0 ∙ at)) (lacks s.ratio s.proof network is.1)
        )
    | inr (past, none) ↦ absurd (omega (arith, low, past))
  ]
