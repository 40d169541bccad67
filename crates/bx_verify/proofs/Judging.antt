-- The verdict, from what each step of it has found.
use Rattle.std.proofs.Common.{◌≡◌, ℕ, List, Option, length, Some, None, refl, sym, ap, ◌∙◌, subst, subst₂}
use Rattle.std.specs.Prelude.{slice_get}
use Rattle.bx_bounds.specs.Numbers.{IsLeast}
use Rattle.bx_cert.specs.Certs.{Certificate}
use Rattle.bx_cert.specs.declared.parts.CertLast.{CertLast}
use Rattle.bx_cert.specs.declared.parts.CertLast.TheVariants.{Found}
use Rattle.bx_cert.specs.declared.parts.Section.{Section}
use Rattle.bx_cert.specs.declared.parts.Spot.{Spot}
use Rattle.bx_grid.specs.Orders.{AreLimits, order}
use Rattle.bx_grid.specs.declared.ratio.Limits.{Limits}
use Rattle.bx_grid.specs.declared.ratio.Ratio.{Ratio}
use Rattle.bx_layout.specs.Permits.{PermitTest}
use Rattle.bx_library.specs.Tiles.{Tiles, IsLibrary}
use Rattle.bx_network.specs.Networks.{Network, IsNetwork}
use Rattle.bx_refutes.specs.Refutations.{IsRefutedBy}
use Rattle.bx_siqad.specs.Designs.{Drawing}
use Rattle.bx_verify.specs.Answers.{IsVerdict}
use Rattle.bx_verify.specs.Cutting.{IsWrongDesign, IsRightDesign}
use Rattle.bx_verify.specs.Failing.{IsFoundAt, IsOff, IsUnproved, NoneBefore, IsFirstToFail, named}
use Rattle.bx_verify.specs.Meaning.{Shows}
use Rattle.bx_dots.specs.Permits.{permit_of}
use Rattle.bx_verify.specs.Sections.{AreSmall, AreProved}
use Rattle.bx_verify.specs.declared.verdict.Part.{Part}
use Rattle.bx_verify.specs.declared.verdict.Part.TheVariants as part
use Rattle.bx_verify.specs.declared.verdict.Verdict.TheVariants.{Minimal}
use Rattle.bx_verify.proofs.Stages.{past-missing, past-proof, past-size, past-dots, past-network, size-fails, network-fails, found-is, are-small, none-earlier, laid-out}

module _ (N : Network) (lib : Tiles) (design : Drawing) (cert : Certificate) (r : Ratio) (spots : List Spot)
    (last : CertLast) (is-last : last ≡ cert.last) (ends : last ≡ Found r spots)
    (limits : Limits) (is-limits : limits ≡ cert.limits)
    (sections : List Section) (is-sections : sections ≡ cert.sections)
    (none : (n : ℕ) → ¬ IsOff (order limits) (named sections r) n) where
  claimed : IsFoundAt cert.last r spots
  claimed = sym is-last ∙ ends

  on : (n : ℕ) → ¬ IsOff (order cert.limits) (named cert.sections r) n
  on = subst₂ (λ (ls : Limits) (ss : List Section). (n : ℕ) → ¬ IsOff (order ls) (named ss r) n) is-limits is-sections none

  pub small : AreLimits cert.limits → AreSmall sections
  small are = subst AreSmall (sym is-sections) (are-small N lib design cert r spots claimed are on)

  module _ (permit : PermitTest) (is-permit : permit ≡ permit_of lib)
      (unproved : Option ℕ) (first : IsLeast (IsUnproved N permit sections) unproved) (proved : AreProved N permit sections unproved) where
    found-first : IsLeast (IsUnproved N (permit_of lib) cert.sections) unproved
    found-first = subst₂ (λ (p : PermitTest) (ss : List Section). IsLeast (IsUnproved N p ss) unproved) is-permit is-sections first

    pub proof-wrong : (k : ℕ) → unproved ≡ Some k → IsFirstToFail N lib design cert part.Proof k
    proof-wrong k is = record {
      fails = subst (λ (u : Option ℕ). IsLeast (IsUnproved N (permit_of lib) cert.sections) u) is found-first;
      before = past-missing N lib design cert r spots claimed on;
    }

    module _ (all : unproved ≡ None) where
      before : NoneBefore N lib design cert 3
      before = past-proof N lib design cert r spots claimed on (subst (λ (u : Option ℕ). IsLeast (IsUnproved N (permit_of lib) cert.sections) u) all found-first)

      each : (k : ℕ) (s : Section) → slice_get cert.sections k ≡ Some s → IsRefutedBy N (permit_of lib) s.ratio s.proof
      each = subst₂ (λ (p : PermitTest) (ss : List Section). AreProved N p ss None) is-permit is-sections (subst (λ (u : Option ℕ). AreProved N permit sections u) all proved)

      end-is : length cert.sections ≡ length sections
      end-is = ap (λ (ss : List Section). length ss) (sym is-sections)

      pub part-wrong : IsLibrary lib → (p : Part) → IsWrongDesign N lib design r spots (Some p) → IsFirstToFail N lib design cert p (length cert.sections)
      part-wrong library part.Size other = record { fails = size-fails N lib design cert r spots claimed other; before = before }
      part-wrong library part.Dots wrong = record { fails = (wrong.1, refl); before = past-size N lib design cert r spots claimed before wrong.0 }
      part-wrong library part.Network wrong = record {
        fails = network-fails N lib design cert r spots claimed wrong.grid library wrong.cut wrong.other;
        before = past-dots N lib design cert r spots claimed wrong.grid library wrong.cut (past-size N lib design cert r spots claimed before wrong.sides);
      }
      part-wrong library part.Last wrong = absurd wrong
      part-wrong library part.Missing wrong = absurd wrong
      part-wrong library part.Proof wrong = absurd wrong

      module _ (library : IsLibrary lib) (wrong : Option Part) (is : IsWrongDesign N lib design r spots wrong) where
        pub design-wrong : (p : Part) → wrong ≡ Some p → IsFirstToFail N lib design cert p (length sections)
        design-wrong p same = subst (λ (k : ℕ). IsFirstToFail N lib design cert p k) end-is (part-wrong library p (subst (λ (w : Option Part). IsWrongDesign N lib design r spots w) same is))

        right : wrong ≡ None → IsRightDesign N lib design r spots
        right same = subst (λ (w : Option Part). IsWrongDesign N lib design r spots w) same is

        pub design-right : wrong ≡ None → IsVerdict N lib design cert (Minimal r)
        design-right same =
            let good = right same in
            let sized = past-size N lib design cert r spots claimed before good.sides in (
              found-is N lib design cert r spots claimed,
              past-network N lib design cert r spots claimed good.grid library good.cut good.fits (past-dots N lib design cert r spots claimed good.grid library good.cut sized),
            )

        pub design-shown : wrong ≡ None → AreLimits cert.limits → IsNetwork N → Shows N lib design cert (Minimal r)
        design-shown same are network =
            let good = right same in
            (laid-out N lib design cert r spots claimed good.grid good.sides good.cut good.fits, none-earlier N lib design cert r spots claimed are on network each)
