-- The certificate of a solution refutes each ratio before the last, and what was found is worth what it should be.
use Rattle.std.proofs.Common.{◌≡◌, ℕ, ◌≤◌, Bool, List, Option, Some, length, refl, sym, ap, ◌∙◌, subst, arith}
use Rattle.std.specs.Prelude.{slice_get}
use Rattle.std.proofs.lemmas.Option.{same_Some, none-some, get_or_from_slice_get, slice_get_within}
use Rattle.bx_cert.specs.Certs.{Certificate}
use Rattle.bx_cert.specs.declared.parts.CertLast.{CertLast}
use Rattle.bx_cert.specs.declared.parts.CertLast.TheVariants as told
use Rattle.bx_cnf.specs.Formulas.{IsFormula}
use Rattle.bx_decode.proofs.Legal.{legal as decoded-legal}
use Rattle.bx_encode.specs.Formula.{formula}
use Rattle.bx_encode.specs.Sizes.{IsFrame}
use Rattle.bx_encode.specs.declared.numbers.TheConstants.{MOST_NODES}
use Rattle.bx_encode.proofs.Framing.{frame-is}
use Rattle.bx_grid.specs.Orders.{AreLimits, IsWithin, order}
use Rattle.bx_grid.specs.Tiles.{IsGrid, tile_count}
use Rattle.bx_grid.specs.declared.ratio.Limits.{Limits}
use Rattle.bx_grid.specs.declared.ratio.Ratio.{Ratio}
use Rattle.bx_grid.proofs.Orders.{order_is_exact}
use Rattle.bx_layout.specs.Legal.{IsLegal}
use Rattle.bx_layout.specs.Permits.{PermitTest}
use Rattle.bx_layout.specs.TileForms.{IsFormGridOf}
use Rattle.bx_layout.proofs.Computing.{computes as grid-computes}
use Rattle.bx_layout.proofs.Soundness.{sound as grid-sound}
use Rattle.bx_network.specs.Networks.{Network, IsNetwork}
use Rattle.bx_proof.specs.declared.refutation.Refutation.{Refutation}
use Rattle.bx_refutes.specs.Refutations.{AreSections}
use Rattle.bx_refutes.proofs.Lacking.{sections-lack}
use Rattle.bx_verdict.proofs.InOrder.{refuted-few}
use Rattle.bx_verdict.proofs.Meaning.{verdict-refutes, found-true}
use Rattle.bx_verdict.specs.Settling.{AreSettled, IsLastAt}
use Rattle.bx_verdict.specs.Verdicts.{IsVerdict}
use Rattle.bx_verdict.specs.declared.settled.Last.{Last}
use Rattle.bx_verdict.specs.declared.settled.Last.TheVariants.{Found, Undecided, NoneWithin}
use Rattle.bx_verdict.specs.declared.verdict.Ended.{Ended}
use Rattle.bx_verdict.specs.declared.verdict.Ended.TheVariants as ended
use Rattle.bx_design.specs.declared.solution.LaidOut.{LaidOut}
use Rattle.bx_design.specs.Certificates.{sections_of, spots_of}
use Rattle.bx_design.specs.Solutions.{IsSolution, IsTold, IsToldFound}
use Rattle.bx_design.specs.Meaning.{IsLaidOut, IsFoundWith, IsEndAt, IsMinimal}
use Rattle.bx_encode.proofs.Formed.{formed}
use Rattle.bx_design.proofs.Grids.{whole-grid}
use Rattle.bx_design.proofs.Sections.{section-at, sections-count}

-- ---- ratios of the order

-- a ratio of the order is a grid, and of no more area than a limit is
pub small : (limits : Limits) (r : Ratio) → AreLimits limits → IsWithin limits r → IsGrid r × (tile_count r ≤ 144)
small limits r are within =
    let area : tile_count r ≤ limits.area = within.area in
    let most : limits.area ≤ 144 = are.area in
    (record { wide = within.wide; high = within.high; small = omega (arith, area, most) }, omega (arith, area, most))

-- so it makes a frame for a network that isn't too large
pub frame-of : (N : Network) (limits : Limits) (r : Ratio) → IsNetwork N → length N.nodes ≤ MOST_NODES → AreLimits limits → IsWithin limits r → IsFrame N r
frame-of N limits r network few are within = let (grid, area) = small limits r are within in frame-is N r network grid few area

pub within-at : (limits : Limits) (k : ℕ) (r : Ratio) → slice_get (order limits) k ≡ Some r → IsWithin limits r
within-at limits k r at = (order_is_exact limits r).0 (k, slice_get_within (order limits) k r at, get_or_from_slice_get (order limits) k r r at)

module _ (N : Network) (permit : PermitTest) (limits : Limits) (budget : ℕ) (network : IsNetwork N) (few : length N.nodes ≤ MOST_NODES) (are : AreLimits limits) where
  pub formed-at : (k : ℕ) (r : Ratio) → slice_get (order limits) k ≡ Some r → IsFormula (formula N permit r)
  formed-at k r at = formed N r (frame-of N limits r network few are (within-at limits k r at)) permit

  -- ---- sections

  are-sections : (proofs : List Refutation) (last : Last) → AreSettled N permit budget (order limits) proofs last → AreSections N permit (order limits) (sections_of (order limits) proofs)
  are-sections proofs last settled = λ k s at.
      let (here, own) = section-at (order limits) proofs k s at in
      let has = settled.refuted k s.proof own in
      let same : has.ratio ≡ s.ratio = same_Some has.ratio s.ratio (sym has.at ∙ here) in
      (here, verdict-refutes N permit s.ratio budget s.proof (formed-at k s.ratio here) (subst (λ (r : Ratio). IsVerdict N permit r budget (ended.Refuted s.proof)) same has.is))

  -- ---- the last

  laid-out : (laid : LaidOut) → IsLegal N permit laid.layout → IsFormGridOf N laid.layout laid.grid → IsLaidOut N permit laid
  laid-out laid is_legal forms = record {
    legal = is_legal;
    forms = forms;
    whole = whole-grid N laid.layout laid.grid is_legal.grid forms;
    sound = grid-sound N permit laid.layout laid.grid network is_legal forms;
    computes = λ inputs. grid-computes N permit laid.layout laid.grid inputs network is_legal forms;
  }

  module _ (k : ℕ) where
    -- the verdict at an index is that of the ratio there
    here : (r q : Ratio) (end : Ended) → slice_get (order limits) k ≡ Some r → slice_get (order limits) k ≡ Some q → IsVerdict N permit r budget end → IsVerdict N permit q budget end
    here r q end at own is = subst (λ (x : Ratio). IsVerdict N permit x budget end) (same_Some r q (sym at ∙ own)) is

    found-with : (bits : List Bool) (last : CertLast) (found : Option LaidOut) (is : IsToldFound N (order limits) k bits last found) → IsVerdict N permit is.ratio budget (ended.Found bits)
        → IsFoundWith N permit is.ratio (spots_of is.laid.layout) found
    found-with bits last found is verdict =
        let frame = frame-of N limits is.ratio network few are (within-at limits k is.ratio is.at) in
        let bits-true = found-true N permit is.ratio budget bits (formed-at k is.ratio is.at) verdict in
        record {
          laid = is.laid;
          found_is = is.found_is;
          sides = is.means.ratio;
          places = refl;
          is = laid-out is.laid (decoded-legal N permit is.ratio bits is.laid.layout network frame.grid bits-true is.means) is.forms;
        }

    end-at : (last : Last) (end : CertLast) (found : Option LaidOut) → IsLastAt N permit budget (order limits) k last → IsTold N (order limits) k last end found → IsEndAt N permit limits budget k end found
    end-at (Found bits) end found has is = subst (λ (l : CertLast). IsEndAt N permit limits budget k l found) (sym is.told_is)
        (is.at, found-with bits end found is (here has.ratio is.ratio (ended.Found bits) has.at is.at has.is))
    end-at (Undecided spent) end found has is = subst (λ (l : CertLast). IsEndAt N permit limits budget k l found) (sym is.0.told_is)
        (is.0.at, is.1, here has.ratio is.0.ratio (ended.Undecided spent) has.at is.0.at has.is)
    end-at NoneWithin end found over is = subst (λ (l : CertLast). IsEndAt N permit limits budget k l found) (sym is.0) (over, is.1)

  pub minimal : (cert : Certificate) (found : Option LaidOut) → IsSolution N permit limits budget cert found → IsMinimal N permit limits budget cert found
  minimal cert found is =
      let sections : AreSections N permit (order limits) cert.sections =
      subst (λ (c : Certificate). AreSections N permit (order limits) c.sections) (sym is.certified) (are-sections is.proofs is.last is.settled) in
      let count : length cert.sections ≡ length is.proofs =
      ap (λ (c : Certificate). length c.sections) is.certified ∙ sections-count (order limits) is.proofs (refuted-few N permit budget (order limits) is.proofs is.settled.refuted) in
      record {
        sections = sections;
        lacking = sections-lack N permit (order limits) cert.sections network sections;
        end_at = subst (λ (n : ℕ). IsEndAt N permit limits budget n cert.last found) (sym count) (end-at (length is.proofs) is.last cert.last found is.settled.last_at is.tells);
      }

-- where a layout was found, it is worth what it should be
pub laid-of : (N : Network) (permit : PermitTest) (limits : Limits) (budget k : ℕ) (laid : LaidOut) (last : CertLast) → IsEndAt N permit limits budget k last (Some laid) → IsLaidOut N permit laid
laid-of N permit limits budget k laid (told.Found r spots) (at, with) = subst (IsLaidOut N permit) (sym (same_Some laid with.laid with.found_is)) with.is
laid-of N permit limits budget k laid (told.Undecided r spent) (at, none, verdict) = absurd (none-some laid (sym none))
laid-of N permit limits budget k laid told.NoneWithin (over, none) = absurd (none-some laid (sym none))
