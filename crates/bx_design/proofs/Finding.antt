-- What is settled can be told, and makes a solution.
use Rattle.std.proofs.Common.{◌≡◌, ℕ, ◌≤◌, List, Option, Some, length, sym, ap, ◌∙◌, subst}
use Rattle.std.proofs.lemmas.Option.{slice_get_within}
use Rattle.std.specs.Prelude.{slice_get}
use Rattle.bx_cert.specs.Certs.{Certificate}
use Rattle.bx_cert.specs.declared.parts.CertLast.{CertLast}
use Rattle.bx_cert.specs.declared.parts.Section.{Section}
use Rattle.bx_grid.specs.Orders.{AreLimits, order}
use Rattle.bx_grid.specs.declared.ratio.Limits.{Limits}
use Rattle.bx_grid.specs.declared.ratio.Ratio.{Ratio}
use Rattle.bx_layout.specs.Permits.{PermitTest}
use Rattle.bx_network.specs.Networks.{Network}
use Rattle.bx_proof.specs.declared.refutation.Refutation.{Refutation}
use Rattle.bx_verdict.proofs.InOrder.{refuted-few}
use Rattle.bx_verdict.specs.Settling.{AreSettled, AreTrueAt, IsLastAt}
use Rattle.bx_verdict.specs.declared.settled.Last.{Last}
use Rattle.bx_verdict.specs.declared.settled.Last.TheVariants.{Found, Undecided, NoneWithin}
use Rattle.bx_design.specs.declared.solution.LaidOut.{LaidOut}
use Rattle.bx_design.specs.Certificates.{sections_of}
use Rattle.bx_design.specs.Making.{IsReadable}
use Rattle.bx_design.specs.Solutions.{IsSolution, IsTold}
use Rattle.bx_design.proofs.Minimal.{small, within-at}

module _ (N : Network) (permit : PermitTest) (limits : Limits) (budget : ℕ) (ratios : List Ratio) (proofs : List Refutation) (last : Last)
    (same : ratios ≡ order limits) (settled : AreSettled N permit budget ratios proofs last) where
  pub few : length proofs ≤ length ratios
  few = refuted-few N permit budget ratios proofs settled.refuted

  pub readable : AreLimits limits → AreTrueAt N permit ratios (length proofs) last → IsReadable N permit ratios (length proofs) last
  readable are true-at = by last true-at settled.last_at where
    by : (l : Last) → AreTrueAt N permit ratios (length proofs) l → IsLastAt N permit budget ratios (length proofs) l → IsReadable N permit ratios (length proofs) l
    by (Found bits) (r, at, true-bits) is =
        let frame = small limits r are (within-at limits (length proofs) r (subst (λ (rs : List Ratio). slice_get rs (length proofs) ≡ Some r) same at)) in
        record { ratio = r; at = at; grid = frame.0; area = frame.1; true_bits = true-bits }
    by (Undecided spent) true-at is = slice_get_within ratios (length proofs) is.ratio is.at
    by NoneWithin true-at is = tt

  -- the certificate that is made
  abbrev pub made : List Section → CertLast → Certificate
  made sections told = record { limits = limits; budget = budget; sections = sections; last = told }

  pub solution : (sections : List Section) (told : CertLast) (found : Option LaidOut) (cert : Certificate) → sections ≡ sections_of ratios proofs → IsTold N ratios (length proofs) last told found
      → cert ≡ made sections told → IsSolution N permit limits budget cert found
  solution sections told found cert are tells is = subst (λ (c : Certificate). IsSolution N permit limits budget c found) (sym is) (record {
    proofs = proofs;
    last = last;
    settled = subst (λ (rs : List Ratio). AreSettled N permit budget rs proofs last) same settled;
    tells = subst (λ (rs : List Ratio). IsTold N rs (length proofs) last told found) same tells;
    certified = ap (λ (ss : List Section). made ss told) (are ∙ ap (λ (rs : List Ratio). sections_of rs proofs) same);
  })
