-- The certificate of a solution keeps its ranges: its ratios have sides from 1 to 144, its steps are steps, and its
-- other numbers are small.
use Rattle.std.proofs.Common.{◌≡◌, ℕ, zero, suc, ◌+◌, ◌-◌, ◌<◌, ◌≤◌, List, [], ◌∷◌, ◌++◌, length, get_or, map, take, Option, Some, None, inl, inr, refl, sym, ap, ◌∙◌, subst, arith, length-append}
use Rattle.std.specs.Prelude.{All, slice_get}
use Rattle.std.specs.List.{AllByRecursion}
use Rattle.std.proofs.Math.Nat.{div-le_self}
use Rattle.std.proofs.lemmas.List.{length-map, length-take}
use Rattle.std.proofs.lemmas.Option.{same_Some, get_or_from_slice_get, slice_get_within}
use Rattle.bx_bounds.specs.Refutes.{Refutes}
use Rattle.bx_grid.specs.Orders.{AreLimits, IsRatio, IsWithin, order}
use Rattle.bx_cert.specs.Certs.{Certificate, IsCert, IsCount, IsLast, IsRefutation, IsSection, IsSpot, AreSomeSteps}
use Rattle.bx_cert.specs.declared.parts.CertLast.{CertLast}
use Rattle.bx_cert.specs.declared.parts.CertLast.TheVariants.{Found, Undecided, NoneWithin}
use Rattle.bx_cert.specs.declared.parts.TheConstants.{MOST_CERT_BUDGET}
use Rattle.bx_cnf.specs.Formulas.{Formula, AscendAbove, IsFormula}
use Rattle.bx_cnf.specs.Literals.{Literal}
use Rattle.bx_encode.specs.Formula.{formula}
use Rattle.bx_encode.specs.Sizes.{IsFrame}
use Rattle.bx_encode.specs.declared.numbers.TheConstants.{MOST_NODES}
use Rattle.bx_grid.specs.Tiles.{IsTile, tile_count}
use Rattle.bx_grid.specs.declared.count.CountProof.{CountProof}
use Rattle.bx_grid.specs.declared.count.CountProof.TheVariants.{Late, Crowd, Cut, Pair}
use Rattle.bx_grid.specs.declared.ratio.Limits.{Limits}
use Rattle.bx_grid.specs.declared.ratio.Ratio.{Ratio}
use Rattle.bx_layout.specs.Permits.{PermitTest}
use Rattle.bx_layout.specs.declared.layout.Layout.{Layout}
use Rattle.bx_logic.proofs.Members.{Member}
use Rattle.bx_logic.proofs.Ordered.{Member-get_or}
use Rattle.bx_network.specs.Networks.{Network, IsNetwork}
use Rattle.bx_proof.specs.Accepted.{IsAccepted, LeadsToFalse, with_steps}
use Rattle.bx_proof.specs.Steps.{Step, StepList, IsStep, AreSteps}
use Rattle.bx_proof.specs.declared.refutation.Refutation.{Refutation}
use Rattle.bx_proof.specs.declared.refutation.Refutation.TheVariants.{Count, Clauses}
use Rattle.bx_search.specs.Searching.{After, Goes, IsSearch}
use Rattle.bx_search.specs.Searching.Goes.{Propagates, Decides, Learns}
use Rattle.bx_search.specs.States.{State, clauses_of}
use Rattle.bx_search.specs.declared.outcome.Outcome.TheVariants as outcome
use Rattle.bx_search.proofs.Accepting.{log-accepted}
use Rattle.bx_search.proofs.Learned.{bounded-after, hinted}
use Rattle.bx_verdict.specs.Settling.{AreSettled}
use Rattle.bx_verdict.specs.Verdicts.{IsVerdict}
use Rattle.bx_verdict.specs.declared.settled.Last.{Last}
use Rattle.bx_verdict.specs.declared.verdict.Ended.TheVariants.{Refuted}
use Rattle.bx_design.specs.declared.solution.LaidOut.{LaidOut}
use Rattle.bx_design.specs.Certificates.{spot_of, sections_of}
use Rattle.bx_design.specs.Solutions.{IsSolution}
use Rattle.bx_design.specs.Meaning.{IsEndAt}
use Rattle.bx_encode.proofs.Formed.{clauses-le, formed}
use Rattle.bx_design.proofs.Minimal.{minimal, frame-of, within-at}
use Rattle.bx_design.proofs.Sections.{section-at}

-- ---- the steps of a search

abbrev Ascends : Step → Type 0
Ascends step = AscendAbove 0 step.literals

all-push : {X : Type 0} (P : X → Type 0) (xs : List X) (x : X) → AllByRecursion P xs → P x → AllByRecursion P (xs ++ x ∷ [])
all-push P [] x are is = (is, tt)
all-push P (y ∷ ys) x are is = (are.0, all-push P ys x are.1 is)

all-from : {X : Type 0} (P : X → Type 0) (xs : List X) → ((k : ℕ) (x : X) → slice_get xs k ≡ Some x → P x) → AllByRecursion P xs
all-from P [] each = tt
all-from P (x ∷ xs) each = (each 0 x refl, all-from P xs (λ k. each (suc k)))

all-at : {X : Type 0} (P : X → Type 0) (xs : List X) (k : ℕ) (x : X) → AllByRecursion P xs → slice_get xs k ≡ Some x → P x
all-at P [] k x are at = let lost : None ≡ Some x = at in absurd (cc)
all-at P (y ∷ ys) zero x are at = let some : Some y ≡ Some x = at in let same : y ≡ x = cc in subst P same are.0
all-at P (y ∷ ys) (suc k) x are at = all-at P ys k x are.1 at

steps-from : (id : ℕ) (steps : List Step) → ((k : ℕ) (step : Step) → slice_get steps k ≡ Some step → IsStep (id + k) step) → AreSteps id steps
steps-from id [] each = tt
steps-from id (s ∷ ss) each = (
  subst (λ (n : ℕ). IsStep n s) (omega arith) (each 0 s refl),
  steps-from (id + 1) ss (λ k step at. subst (λ (n : ℕ). IsStep n step) (omega arith) (each (suc k) step at)),
)

-- hints that lead to a false clause name clauses
leads-within : (clauses : List (List Literal)) (trues : List Literal) (hints : List ℕ) (h : ℕ) → LeadsToFalse clauses trues hints → Member h hints → (0 < h) × (h ≤ length clauses)
leads-within clauses trues [] h leads on = absurd leads
leads-within clauses trues (x ∷ hints) h (clause, above, stands, rest) (inl e) =
    let low = slice_get_within clauses (x - 1) clause stands in
    subst (λ (n : ℕ). (0 < n) × (n ≤ length clauses)) e (above, omega (arith, low, above))
leads-within clauses trues (x ∷ hints) h (clause, above, stands, inl (false, none)) (inr on) = absurd (subst (λ (hs : List ℕ). Member h hs) none on)
leads-within clauses trues (x ∷ hints) h (clause, above, stands, inr (l, one, leads)) (inr on) = leads-within clauses (trues ++ l ∷ []) hints h leads on

leads-some : (clauses : List (List Literal)) (trues : List Literal) (hints : List ℕ) → LeadsToFalse clauses trues hints → 0 < length hints
leads-some clauses trues [] leads = absurd leads
leads-some clauses trues (x ∷ hints) leads = omega arith

module _ (f : Formula) (budget : ℕ) where
  ascending-goes : (s t : State) → Goes f budget s t → AllByRecursion Ascends s.steps → AllByRecursion Ascends t.steps
  ascending-goes s t (Propagates id l least next) are = subst (λ (u : State). AllByRecursion Ascends u.steps) (sym next) are
  ascending-goes s t (Decides var quiet first next) are = subst (λ (u : State). AllByRecursion Ascends u.steps) (sym next) are
  ascending-goes s t (Learns id step conflict within some next) are =
      subst (λ (u : State). AllByRecursion Ascends u.steps) (sym next) (all-push Ascends s.steps step are conflict.learned.ascending)

  ascending-after : (events : ℕ) (s : State) → After f budget events s → AllByRecursion Ascends s.steps
  ascending-after zero s is = subst (λ (u : State). AllByRecursion Ascends u.steps) (sym is) tt
  ascending-after (suc events) s (before, after, goes) = ascending-goes before s goes (ascending-after events before after)

  -- a log is no longer than the budget, and its clauses ascend
  log-short : (count : ℕ) (log : StepList) → IsSearch f budget (outcome.Unsat log) count → length log.steps ≤ budget
  log-short count log search =
      let s : State = search.last in
      let step : Step = search.ends.1 in
      let bounded = bounded-after f budget search.events s search.after in
      let some = hinted (clauses_of f s) s.trail search.ends.0 step search.ends.2.learned in
      let within = search.ends.3 in
      let same : length log.steps ≡ length (s.steps ++ step ∷ []) = ap (λ (l : StepList). length l.steps) search.ends.5 in
      omega (arith, bounded.0, some, within, same, length-append s.steps (step ∷ []))

  log-ascends : (count : ℕ) (log : StepList) → IsSearch f budget (outcome.Unsat log) count → AllByRecursion Ascends log.steps
  log-ascends count log search =
      subst (λ (l : StepList). AllByRecursion Ascends l.steps) (sym search.ends.5)
      (all-push Ascends search.last.steps search.ends.1 (ascending-after search.events search.last search.after) search.ends.2.learned.ascending)

  log-steps : (count : ℕ) (log : StepList) → IsFormula f → length f.clauses + budget < 4294967296 → IsSearch f budget (outcome.Unsat log) count → AreSomeSteps log
  log-steps count log is_formula room search =
      let accepted = log-accepted f budget count log is_formula search in
      record { some = accepted.some; steps = steps-from log.first log.steps (step-at accepted) }
    where
      step-at : IsAccepted f log → (k : ℕ) (step : Step) → slice_get log.steps k ≡ Some step → IsStep (log.first + k) step
      step-at accepted k step at =
          let low = slice_get_within log.steps k step at in
          let short = log-short count log search in
          let follows = accepted.follows k step at in
          let clauses : List (List Literal) = with_steps f.clauses (take k log.steps) in
          let front : List (List Literal) = map (λ (s : Step). s.literals) (take k log.steps) in
          let whole : length clauses ≡ length f.clauses + length front = length-append f.clauses front in
          let mapped : length front ≡ length (take k log.steps) = length-map (take k log.steps) (λ (s : Step). s.literals) in
          let taken = length-take k log.steps in
          let first = accepted.numbered in
          let over : All (λ (l : Literal). l.var ≤ f.vars) step.literals =
          subst (λ (s : Step). All (λ (l : Literal). l.var ≤ f.vars) s.literals) (get_or_from_slice_get log.steps k step step at) (accepted.shaped.within k step low) in
          let vars = is_formula.vars in
          record {
            numbered = omega (arith, low, short, first, room);
            clause = record { ascending = all-at Ascends log.steps k step (log-ascends count log search) at; within = λ j d below. omega (arith, over j d below, vars) };
            hinted = leads-some clauses _ step.hints follows;
            before = λ j d below.
                let hint = leads-within clauses _ step.hints (get_or step.hints j d) follows (Member-get_or step.hints j d below) in
                (hint.0, omega (arith, hint.1, whole, mapped, taken, first));
          }

  -- what was spent is within the budget
  spent-within : (count spent : ℕ) → IsSearch f budget (outcome.Undecided spent) count → spent ≤ budget
  spent-within count spent search =
      let bounded = bounded-after f budget search.events search.last search.after in
      let same = search.ends.4 in
      omega (arith, bounded.1, same)

-- ---- numbers

count-is : (N : Network) (r : Ratio) (proof : CountProof) → length N.nodes ≤ 96 → r.h ≤ 144 → Refutes N r proof → IsCount proof
count-is N r (Late v) few high is = let low = is.within in omega arith
count-is N r (Crowd first last) few high (ordered, low, many) = (omega arith, omega arith)
count-is N r (Cut row) few high (low, many) = omega arith
count-is N r (Pair u v) few high (ordered, low, many) = (omega arith, omega arith)

ratio-is : (limits : Limits) (r : Ratio) → AreLimits limits → IsWithin limits r → IsRatio r
ratio-is limits r are within = record {
  some_width = within.wide;
  some_height = within.high;
  width = let a = within.width in let b = are.width in omega arith;
  height = let a = within.height in let b = are.height in omega arith;
}

spot-is : (r : Ratio) (t : ℕ) → 1 ≤ r.w → tile_count r ≤ 144 → IsTile r t → IsSpot (spot_of r t)
spot-is r t wide small is = record {
  x = let a : 0 < r.w = omega arith in let b = div-le_self t r.w in omega arith;
  y = let b = div-le_self t r.w in omega arith;
}

spots-are : (r : Ratio) (places : List ℕ) → 1 ≤ r.w → tile_count r ≤ 144 → ((v t : ℕ) → slice_get places v ≡ Some t → IsTile r t) → AllByRecursion IsSpot (map (spot_of r) places)
spots-are r [] wide small on = tt
spots-are r (t ∷ places) wide small on = (spot-is r t wide small (on 0 t refl), spots-are r places wide small (λ v. on (suc v)))

-- ---- the certificate

module _ (N : Network) (permit : PermitTest) (limits : Limits) (budget : ℕ) (network : IsNetwork N) (few : length N.nodes ≤ MOST_NODES) (are : AreLimits limits) (much : budget ≤ MOST_CERT_BUDGET) where
  small-tiles : (r : Ratio) → IsWithin limits r → tile_count r ≤ 144
  small-tiles r within = let area : tile_count r ≤ limits.area = within.area in let most : limits.area ≤ 144 = are.area in omega arith

  refutation-is : (r : Ratio) (proof : Refutation) → IsWithin limits r → IsVerdict N permit r budget (Refuted proof) → IsRefutation proof
  refutation-is r (Count c) within verdict = count-is N r c few (ratio-is limits r are within).height verdict.0
  refutation-is r (Clauses log) within (none, (learned, search)) =
      let frame : IsFrame N r = frame-of N limits r network few are within in
      let count = clauses-le N r frame permit in
      log-steps (formula N permit r) budget learned log (formed N r frame permit) (omega arith) search

  sections-are : (proofs : List Refutation) (last : Last) → AreSettled N permit budget (order limits) proofs last → AllByRecursion IsSection (sections_of (order limits) proofs)
  sections-are proofs last settled = all-from IsSection (sections_of (order limits) proofs) (λ k s at.
      let (here, own) = section-at (order limits) proofs k s at in
      let has = settled.refuted k s.proof own in
      let within = within-at limits k s.ratio here in
      let verdict = subst (λ (r : Ratio). IsVerdict N permit r budget (Refuted s.proof)) (same_Some has.ratio s.ratio (sym has.at ∙ here)) has.is in
      record { ratio = ratio-is limits s.ratio are within; proof = refutation-is s.ratio s.proof within verdict })

  last-is : (k : ℕ) (last : CertLast) (found : Option LaidOut) → IsEndAt N permit limits budget k last found → IsLast last
  last-is k (Found r spots) found (at, with) =
      let within = within-at limits k r at in
      let L : Layout = with.laid.layout in
      let inside = subst (IsWithin limits) (sym with.sides) within in
      (ratio-is limits r are within, subst (AllByRecursion IsSpot) (sym with.places) (spots-are L.ratio L.places inside.wide (small-tiles L.ratio inside) with.is.legal.placed.inside))
  last-is k (Undecided r spent) found (at, none, (uncounted, (learned, search))) =
      let within = within-at limits k r at in
      let low = spent-within (formula N permit r) budget learned spent search in
      (ratio-is limits r are within, omega arith)
  last-is k NoneWithin found at = tt

  pub certified : (cert : Certificate) (found : Option LaidOut) → IsSolution N permit limits budget cert found → IsCert cert
  certified cert found is = subst IsCert (sym is.certified) (record {
    limits = are;
    budget = much;
    sections = sections-are is.proofs is.last is.settled;
    last = last-is (length cert.sections) cert.last found (minimal N permit limits budget network few are cert found is).end_at;
  })
