-- What is settled shows that the refuted ratios have no layout, and that the one that is found has one.
use Rattle.std.proofs.Common.{◌≡◌, ℕ, ◌≤◌, List, length, Some, inl, inr, sym, ◌∙◌, subst, arith}
use Rattle.std.specs.Prelude.{slice_get}
use Rattle.std.proofs.lemmas.Option.{same_Some, slice_get_cases}
use Rattle.bx_cnf.specs.Formulas.{IsFormula}
use Rattle.bx_encode.specs.Formula.{formula}
use Rattle.bx_encode.specs.declared.numbers.TheConstants.{MOST_NODES}
use Rattle.bx_encode.proofs.Formed.{formed}
use Rattle.bx_encode.proofs.Framing.{frame-is}
use Rattle.bx_grid.specs.declared.ratio.Ratio.{Ratio}
use Rattle.bx_layout.specs.Legal.{LacksLayout}
use Rattle.bx_layout.specs.Permits.{PermitTest}
use Rattle.bx_network.specs.Networks.{Network, IsNetwork}
use Rattle.bx_proof.specs.declared.refutation.Refutation.{Refutation}
use Rattle.bx_refutes.specs.Refutations.{IsRefutedBy}
use Rattle.bx_refutes.proofs.Lacking.{lacks}
use Rattle.bx_verdict.specs.Settling.{AreInOrder, AreSettled, AreTrueAt, IsLastAt, ShowInOrder}
use Rattle.bx_verdict.specs.declared.settled.Last.{Last}
use Rattle.bx_verdict.specs.declared.settled.Last.TheVariants.{Found, Undecided, NoneWithin}
use Rattle.bx_verdict.proofs.InOrder.{in-order}
use Rattle.bx_verdict.proofs.Meaning.{found-true, verdict-refutes}

module _ (N : Network) (permit : PermitTest) (budget : ℕ) (ratios : List Ratio) (network : IsNetwork N) (nodes : length N.nodes ≤ MOST_NODES) (order : AreInOrder ratios) where
  formed-at : (k : ℕ) (r : Ratio) → slice_get ratios k ≡ Some r → IsFormula (formula N permit r)
  formed-at k r at = let (grid, area) = in-order ratios k r order at in formed N r (frame-is N r network grid nodes area) permit

  module _ (proofs : List Refutation) (last : Last) (settled : AreSettled N permit budget ratios proofs last) where
    refutes : (k : ℕ) (proof : Refutation) → slice_get proofs k ≡ Some proof → (r : Ratio) × (slice_get ratios k ≡ Some r) × IsRefutedBy N permit r proof
    refutes k proof at =
        let has = settled.refuted k proof at in
        (has.ratio, has.at, verdict-refutes N permit has.ratio budget proof (formed-at k has.ratio has.at) has.is)

    lacking : (k : ℕ) (r : Ratio) (proof : Refutation) → slice_get ratios k ≡ Some r → (q : Ratio) × (slice_get ratios k ≡ Some q) × IsRefutedBy N permit q proof → LacksLayout N permit r
    lacking k r proof at (q, own, refuted) = lacks N permit r proof network (subst (λ (x : Ratio). IsRefutedBy N permit x proof) (same_Some q r (sym own ∙ at)) refuted)

    true-at : (l : Last) → IsLastAt N permit budget ratios (length proofs) l → AreTrueAt N permit ratios (length proofs) l
    true-at (Found bits) has = (has.ratio, has.at, found-true N permit has.ratio budget bits (formed-at (length proofs) has.ratio has.at) has.is)
    true-at (Undecided spent) has = tt
    true-at NoneWithin over = tt

    pub shown : ShowInOrder N permit ratios proofs last
    shown = record {
      refuted = refutes;
      no_layout = λ k r low at. elim (slice_get_cases proofs k).1 [
        | inl (proof, within, own, read) ↦ lacking k r proof at (refutes k proof own)
        | inr (past, none) ↦ absurd (omega (arith, low, past))
      ];
      found = true-at last settled.last_at;
    }
