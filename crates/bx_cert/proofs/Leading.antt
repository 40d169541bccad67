-- The texts of the grammar are those of certificates, and a text is that of one. So a reader that stops where
-- no line goes on has found the first bad line.
use Rattle.std.proofs.Common.{◌≡◌, ℕ, suc, ◌+◌, ◌-◌, ◌<◌, ◌≤◌, ◌^◌, List, [], ◌∷◌, ◌++◌, length, map, refl, sym, ◌∙◌, ap, subst, inl, inr, arith, append_assoc, length-append, Result, Ok, Err}
use Rattle.std.proofs.lemmas.Bool.{cases_order}
use Rattle.std.proofs.lemmas.Grind.{flat_map-append}
use Rattle.std.proofs.lemmas.List.{append-nil}
use Rattle.std.specs.Prelude.{MatchResult}
use Rattle.std.specs.List.{AllByRecursion, flat_map}
use Rattle.bx_grid.specs.Orders.{AreLimits, IsRatio}
use Rattle.bx_grid.specs.declared.ratio.Ratio.{Ratio}
use Rattle.bx_lines.specs.Lines.{IsLine, ended, text_of, IsFirstBadLine}
use Rattle.bx_lines.specs.Grammars.{Lead, IsText}
use Rattle.bx_lines.proofs.FirstLines.{same_line}
use Rattle.bx_lines.proofs.BadLines.{one_state, one_bad_line, no_bad_line}
use Rattle.bx_proof.specs.Steps.{Step, StepList, AreSteps}
use Rattle.bx_proof.specs.Texts.{step_line, step_lines}
use Rattle.bx_proof.specs.declared.refutation.Refutation.{Refutation}
use Rattle.bx_proof.specs.declared.refutation.Refutation.TheVariants.{Count, Clauses}
use Rattle.bx_proof.proofs.Logs.{steps_fit, are_steps_push}
use Rattle.bx_proof.proofs.Closed.{each_push}
use Rattle.bx_cert.specs.declared.fault.CertFault.{CertFault}
use Rattle.bx_cert.specs.declared.fault.CertFault.TheVariants.{BadCert, NoMemory}
use Rattle.bx_cert.specs.declared.line.Line.{Line}
use Rattle.bx_cert.specs.declared.line.Line.TheVariants.{Head, Bounds, Counted, Run, FoundAt, GaveUp, NoRatio, Place, End}
use Rattle.bx_cert.specs.declared.parts.Spot.{Spot}
use Rattle.bx_cert.specs.declared.parts.Section.{Section}
use Rattle.bx_cert.specs.declared.parts.CertLast.{CertLast}
use Rattle.bx_cert.specs.declared.parts.CertLast.TheVariants.{Found, Undecided, NoneWithin}
use Rattle.bx_cert.specs.Certs.{Certificate, IsSpot, IsSection, IsRefutation, IsLast, IsCert}
use Rattle.bx_cert.specs.Texts.{line_text, section_lines, refutation_lines, last_lines, cert_lines, IsTextOf, IsCertText, Reads}
use Rattle.bx_cert.specs.Grammar.{IsSaid, Draft, with_section, ended_by, State, at_head, at_limits, at_section, at_first_step, at_step, at_place, at_end, at_nothing, Leads, GoesByLine, log_of, behind_steps, Goes, Ends, cert_grammar}
use Rattle.bx_cert.proofs.CertGrammar.{cert_is_line_grammar, goes_line, steps_whole, steps_more}

-- lines that lead on, one after another

pub lead_append : (xs ys : List (List ℕ)) (a b c : State) → Lead Goes a xs b → Lead Goes b ys c → Lead Goes a (xs ++ ys) c
lead_append [] ys a b c x y = subst (λ s. Lead Goes s ys c) (sym x) y
lead_append (l ∷ ls) ys a b c x y = let (mid, goes, rest) = x in (mid, goes, lead_append ls ys mid b c rest y)

-- some of the steps of a section, behind others
pub steps_lead : (ts : List Step) (d : Draft) (r : Ratio) (k first : ℕ) (ss : List Step) → AreSteps (first + length ss) ts → length ss + length ts ≤ k → 1 < first → first + k ≤ 2 ^ 32 → Lead Goes (behind_steps d r k (log_of first ss)) (step_lines (first + length ss) ts) (behind_steps d r k (log_of first (ss ++ ts)))
steps_lead [] d r k first ss are size above fits = ap (λ xs. behind_steps d r k (log_of first xs)) (sym (append-nil ss))
steps_lead (t ∷ ts) d r k first ss are size above fits =
    let left : length ss < k = omega (arith, size) in
    let long : length (ss ++ t ∷ []) ≡ length ss + 1 = length-append ss (t ∷ []) in
    let id : first + length (ss ++ t ∷ []) ≡ first + length ss + 1 = omega (arith, long) in
    let inner = steps_lead ts d r k first (ss ++ t ∷ []) (subst (λ n. AreSteps n ts) (sym id) are.1) (omega (arith, size, long)) above fits in
    let lines = subst (λ n. Lead Goes (behind_steps d r k (log_of first (ss ++ t ∷ []))) (step_lines n ts) (behind_steps d r k (log_of first ((ss ++ t ∷ []) ++ ts)))) id inner in
    let there = subst (λ xs. Lead Goes (behind_steps d r k (log_of first (ss ++ t ∷ []))) (step_lines (first + length ss + 1) ts) (behind_steps d r k (log_of first xs))) (append_assoc ss (t ∷ []) ts) lines in
    subst (λ s. Lead Goes s (step_lines (first + length ss) (t ∷ ts)) (behind_steps d r k (log_of first (ss ++ t ∷ ts)))) (sym (steps_more d r k (log_of first ss) left))
    (behind_steps d r k (log_of first (ss ++ t ∷ [])), record { step = t; is = are.0; above = above; left = left; fits = fits; spelled = refl; reached = refl }, there)

-- the first steps of a section
pub first_steps_lead : (steps : List Step) (d : Draft) (r : Ratio) (k first : ℕ) → 0 < length steps → AreSteps first steps → length steps ≤ k → first + k ≤ 2 ^ 32 → Lead Goes (at_first_step d r k) (step_lines first steps) (behind_steps d r k (log_of first steps))
first_steps_lead [] d r k first some are le fits = absurd (omega (arith, some))
first_steps_lead (s ∷ ss) d r k first some are le fits =
    let fit = steps_fit first (s ∷ ss) are some in
    (behind_steps d r k (log_of first (s ∷ [])), record { id = first; step = s; is = are.0; some = omega (arith, le); fits = fits; spelled = refl; reached = refl }, steps_lead ss d r k first (s ∷ []) are.1 (omega (arith, le)) (omega (arith, fit.0)) fits)

run_lead : (log : StepList) (d : Draft) (r : Ratio) → 0 < length log.steps → AreSteps log.first log.steps → Lead Goes (at_first_step d r (length log.steps)) (step_lines log.first log.steps) (at_section (with_section d r (Clauses log)))
run_lead log d r some are =
    let fit = steps_fit log.first log.steps are some in
    subst (λ s. Lead Goes (at_first_step d r (length log.steps)) (step_lines log.first log.steps) s) (steps_whole d r (length log.steps) log refl)
    (first_steps_lead log.steps d r (length log.steps) log.first some are (omega arith) (omega (arith, fit.1)))

refutation_lead : (d : Draft) (r : Ratio) (p : Refutation) → IsRatio r → IsRefutation p → Lead Goes (at_section d) (refutation_lines r p) (at_section (with_section d r p))
refutation_lead d r (Count p) ratio is = (at_section (with_section d r (Count p)), record { line = Counted r p; said = (ratio, is); spelled = refl; leads = refl }, refl)
refutation_lead d r (Clauses log) ratio is =
    let fit = steps_fit log.first log.steps is.steps is.some in
    (at_first_step d r (length log.steps), record { line = Run r (length log.steps); said = (ratio, (omega (arith, is.some)), (omega (arith, fit.0, fit.1))); spelled = refl; leads = refl }, run_lead log d r is.some is.steps)

abbrev pub with_sections : Draft → List Section → Draft
with_sections d ss = record d { sections = d.sections ++ ss }

pub sections_lead : (ss : List Section) (d : Draft) → AllByRecursion IsSection ss → Lead Goes (at_section d) (flat_map section_lines ss) (at_section (with_sections d ss))
sections_lead [] d are = ap (λ xs. at_section (record d { sections = xs })) (sym (append-nil d.sections))
sections_lead (s ∷ ss) d are =
    let rest = sections_lead ss (with_section d s.ratio s.proof) are.1 in
    let there = subst (λ xs. Lead Goes (at_section (with_section d s.ratio s.proof)) (flat_map section_lines ss) (at_section (record d { sections = xs }))) (append_assoc d.sections (s ∷ []) ss) rest in
    lead_append (section_lines s) (flat_map section_lines ss) (at_section d) (at_section (with_section d s.ratio s.proof)) (at_section (with_sections d (s ∷ ss))) (refutation_lead d s.ratio s.proof are.0.ratio are.0.proof) there

abbrev pub place_lines : List Spot → List (List ℕ)
place_lines ss = map (λ spot. line_text (Place spot)) ss

pub spots_lead : (ss : List Spot) (d : Draft) (r : Ratio) (before : List Spot) → AllByRecursion IsSpot ss → Lead Goes (at_place d r before) (place_lines ss) (at_place d r (before ++ ss))
spots_lead [] d r before are = ap (at_place d r) (sym (append-nil before))
spots_lead (s ∷ ss) d r before are =
    let rest = spots_lead ss d r (before ++ s ∷ []) are.1 in
    (at_place d r (before ++ s ∷ []), record { line = Place s; said = are.0; spelled = refl; leads = refl }, subst (λ xs. Lead Goes (at_place d r (before ++ s ∷ [])) (place_lines ss) (at_place d r xs)) (append_assoc before (s ∷ []) ss) rest)

pub last_lead : (d : Draft) (last : CertLast) → IsLast last → Lead Goes (at_section d) (last_lines last ++ line_text End ∷ []) (at_nothing (ended_by d last))
last_lead d (Found r ss) is =
    let end : Lead Goes (at_place d r ss) (line_text End ∷ []) (at_nothing (ended_by d (Found r ss))) = (at_nothing (ended_by d (Found r ss)), record { line = End; said = tt; spelled = refl; leads = refl }, refl) in
    let places = lead_append (place_lines ss) (line_text End ∷ []) (at_place d r []) (at_place d r ss) (at_nothing (ended_by d (Found r ss))) (spots_lead ss d r [] is.1) end in
    (at_place d r [], record { line = FoundAt r; said = is.0; spelled = refl; leads = refl }, places)
last_lead d (Undecided r n) is =
    let end : Lead Goes (at_end (ended_by d (Undecided r n))) (line_text End ∷ []) (at_nothing (ended_by d (Undecided r n))) = (at_nothing (ended_by d (Undecided r n)), record { line = End; said = tt; spelled = refl; leads = refl }, refl) in
    (at_end (ended_by d (Undecided r n)), record { line = GaveUp r n; said = is; spelled = refl; leads = refl }, end)
last_lead d NoneWithin is =
    let end : Lead Goes (at_end (ended_by d NoneWithin)) (line_text End ∷ []) (at_nothing (ended_by d NoneWithin)) = (at_nothing (ended_by d NoneWithin), record { line = End; said = tt; spelled = refl; leads = refl }, refl) in
    (at_end (ended_by d NoneWithin), record { line = NoRatio; said = tt; spelled = refl; leads = refl }, end)

-- from a certificate to the lines that lead on
pub cert_lead : (c : Certificate) → IsCert c → Lead Goes at_head (cert_lines c) (at_nothing c)
cert_lead c is =
    let d : Draft = record { limits = c.limits; budget = c.budget; sections = [] } in
    let rest = lead_append (flat_map section_lines c.sections) (last_lines c.last ++ line_text End ∷ []) (at_section d) (at_section (with_sections d c.sections)) (at_nothing c) (sections_lead c.sections d is.sections) (last_lead (with_sections d c.sections) c.last is.last) in (
      at_limits,
      record { line = Head; said = tt; spelled = refl; leads = refl },
      (at_section d, record { line = Bounds c.limits c.budget; said = (is.limits, is.budget); spelled = refl; leads = refl }, rest),
    )

-- and back: the lines that lead to a state, and what it keeps

pub record IsDraft (d : Draft) : Type 0 where
  pub limits : AreLimits d.limits
  pub budget : d.budget ≤ 67108864
  pub sections : AllByRecursion IsSection d.sections

abbrev draft_lines : Draft → List (List ℕ)
draft_lines d = line_text Head ∷ line_text (Bounds d.limits d.budget) ∷ flat_map section_lines d.sections

abbrev cert_front : Certificate → List (List ℕ)
cert_front c = line_text Head ∷ line_text (Bounds c.limits c.budget) ∷ (flat_map section_lines c.sections ++ last_lines c.last)

abbrev lines_to : State → List (List ℕ)
lines_to at_head = []
lines_to at_limits = line_text Head ∷ []
lines_to (at_section d) = draft_lines d
lines_to (at_first_step d r k) = draft_lines d ++ line_text (Run r k) ∷ []
lines_to (at_step d r k log) = draft_lines d ++ line_text (Run r k) ∷ step_lines log.first log.steps
lines_to (at_place d r ss) = draft_lines d ++ line_text (FoundAt r) ∷ place_lines ss
lines_to (at_end c) = cert_front c
lines_to (at_nothing c) = cert_lines c

abbrev IsFormed : State → Type 0
IsFormed at_head = Unit {0}
IsFormed at_limits = Unit {0}
IsFormed (at_section d) = IsDraft d
IsFormed (at_first_step d r k) = IsDraft d × IsRatio r
IsFormed (at_step d r k log) = IsDraft d × IsRatio r × (0 < length log.steps) × AreSteps log.first log.steps
IsFormed (at_place d r ss) = IsDraft d × IsRatio r × AllByRecursion IsSpot ss
IsFormed (at_end c) = IsCert c
IsFormed (at_nothing c) = IsCert c

-- so it is behind a line
abbrev Keeps : List (List ℕ) → List ℕ → State → Type 0
Keeps lines line to = IsFormed to × (lines_to to ≡ lines ++ line ∷ [])

draft_more : (d : Draft) (r : Ratio) (p : Refutation) → IsDraft d → IsRatio r → IsRefutation p → IsDraft (with_section d r p)
draft_more d r p is ratio refutes = record { limits = is.limits; budget = is.budget; sections = each_push IsSection d.sections (record { ratio = r; proof = p }) is.sections (record { ratio = ratio; proof = refutes }) }

draft_lines_more : (d : Draft) (r : Ratio) (p : Refutation) → draft_lines (with_section d r p) ≡ draft_lines d ++ refutation_lines r p
draft_lines_more d r p =
    let s : Section = record { ratio = r; proof = p } in
    ap (λ xs. line_text Head ∷ line_text (Bounds d.limits d.budget) ∷ xs) (flat_map-append section_lines d.sections (s ∷ []) ∙ ap (λ xs. flat_map section_lines d.sections ++ xs) (append-nil (section_lines s)))

cert_is : (d : Draft) (last : CertLast) → IsDraft d → IsLast last → IsCert (ended_by d last)
cert_is d last is ends = record { limits = is.limits; budget = is.budget; sections = is.sections; last = ends }

place_lines_more : (ss : List Spot) (s : Spot) → place_lines (ss ++ s ∷ []) ≡ place_lines ss ++ line_text (Place s) ∷ []
place_lines_more [] s = refl
place_lines_more (t ∷ ts) s = ap (λ xs. line_text (Place t) ∷ xs) (place_lines_more ts s)

step_lines_more : (first : ℕ) (ss : List Step) (s : Step) → step_lines first (ss ++ s ∷ []) ≡ step_lines first ss ++ step_line (first + length ss) s ∷ []
step_lines_more first [] s = let here : first ≡ first + 0 = omega arith in ap (λ n. step_line n s ∷ []) here
step_lines_more first (t ∷ ts) s =
    let there : first + 1 + length ts ≡ first + suc (length ts) = omega arith in
    ap (λ xs. step_line first t ∷ xs) (step_lines_more (first + 1) ts s ∙ ap (λ n. step_lines (first + 1) ts ++ step_line n s ∷ []) there)

leads_keep : (from : State) (line : Line) (to : State) → IsFormed from → IsSaid line → Leads from line to → Keeps (lines_to from) (line_text line) to
leads_keep at_head Head to is said x = subst (Keeps [] (line_text Head)) (sym x) (tt, refl)
leads_keep at_limits (Bounds l n) to is said x = subst (Keeps (line_text Head ∷ []) (line_text (Bounds l n))) (sym x) (record { limits = said.0; budget = said.1; sections = tt }, refl)
leads_keep (at_section d) (Counted r p) to is said x = subst (Keeps (draft_lines d) (line_text (Counted r p))) (sym x) (draft_more d r (Count p) is said.0 said.1, draft_lines_more d r (Count p))
leads_keep (at_section d) (Run r k) to is said x = subst (Keeps (draft_lines d) (line_text (Run r k))) (sym x) ((is, said.0), refl)
leads_keep (at_section d) (FoundAt r) to is said x = subst (Keeps (draft_lines d) (line_text (FoundAt r))) (sym x) ((is, said, tt), refl)
leads_keep (at_section d) (GaveUp r n) to is said x = subst (Keeps (draft_lines d) (line_text (GaveUp r n))) (sym x) (cert_is d (Undecided r n) is said, refl)
leads_keep (at_section d) NoRatio to is said x = subst (Keeps (draft_lines d) (line_text NoRatio)) (sym x) (cert_is d NoneWithin is tt, refl)
leads_keep (at_place d r ss) (Place s) to is said x =
    let lines : draft_lines d ++ line_text (FoundAt r) ∷ place_lines (ss ++ s ∷ []) ≡ (draft_lines d ++ line_text (FoundAt r) ∷ place_lines ss) ++ line_text (Place s) ∷ [] =
    ap (λ xs. draft_lines d ++ line_text (FoundAt r) ∷ xs) (place_lines_more ss s) ∙ sym (append_assoc (draft_lines d) (line_text (FoundAt r) ∷ place_lines ss) (line_text (Place s) ∷ [])) in
    subst (Keeps (draft_lines d ++ line_text (FoundAt r) ∷ place_lines ss) (line_text (Place s))) (sym x) ((is.0, is.1, each_push IsSpot ss s is.2 said), lines)
leads_keep (at_place d r ss) End to is said x =
    let lines : cert_lines (ended_by d (Found r ss)) ≡ (draft_lines d ++ line_text (FoundAt r) ∷ place_lines ss) ++ line_text End ∷ [] =
    sym (append_assoc (draft_lines d) (line_text (FoundAt r) ∷ place_lines ss) (line_text End ∷ [])) in
    subst (Keeps (draft_lines d ++ line_text (FoundAt r) ∷ place_lines ss) (line_text End)) (sym x) (cert_is d (Found r ss) is.0 (is.1, is.2), lines)
leads_keep (at_end c) End to is said x =
    let lines : cert_lines c ≡ cert_front c ++ line_text End ∷ [] = ap (λ xs. line_text Head ∷ line_text (Bounds c.limits c.budget) ∷ xs) (sym (append_assoc (flat_map section_lines c.sections) (last_lines c.last) (line_text End ∷ []))) in
    subst (Keeps (cert_front c) (line_text End)) (sym x) (is, lines)
leads_keep from line to is said x = absurd x

-- behind the lines of some steps
steps_keep : (d : Draft) (r : Ratio) (k : ℕ) (log : StepList) → IsDraft d → IsRatio r → 0 < length log.steps → AreSteps log.first log.steps → length log.steps ≤ k → IsFormed (behind_steps d r k log) × (lines_to (behind_steps d r k log) ≡ draft_lines d ++ line_text (Run r k) ∷ step_lines log.first log.steps)
steps_keep d r k log is ratio some are le =
    elim (cases_order (length log.steps) k) [
      | inl same ↦ subst (λ s. IsFormed s × (lines_to s ≡ draft_lines d ++ line_text (Run r k) ∷ step_lines log.first log.steps)) (sym (steps_whole d r k log same))
          (draft_more d r (Clauses log) is ratio (record { some = some; steps = are }), draft_lines_more d r (Clauses log) ∙ ap (λ n. draft_lines d ++ line_text (Run r n) ∷ step_lines log.first log.steps) same)
      | inr other ↦ elim other [
        | inl lt ↦ subst (λ s. IsFormed s × (lines_to s ≡ draft_lines d ++ line_text (Run r k) ∷ step_lines log.first log.steps)) (sym (steps_more d r k log lt)) ((is, ratio, some, are), refl)
        | inr gt ↦ absurd (omega (arith, gt, le))
      ]
    ]

by_line_keep : (from : State) (bytes : List ℕ) (to : State) → IsFormed from → GoesByLine from bytes to → Keeps (lines_to from) bytes to
by_line_keep from bytes to is g = subst (λ b. Keeps (lines_to from) b to) (sym g.spelled) (leads_keep from g.line to is g.said g.leads)

goes_keep : (from : State) (bytes : List ℕ) (to : State) → IsFormed from → Goes from bytes to → Keeps (lines_to from) bytes to
goes_keep (at_first_step d r k) bytes to is g =
    let kept = steps_keep d r k (log_of g.id (g.step ∷ [])) is.0 is.1 (omega arith) (g.is, tt) (omega (arith, g.some)) in
    let lines = kept.1 ∙ ap (λ b. draft_lines d ++ line_text (Run r k) ∷ b ∷ []) (sym g.spelled) ∙ sym (append_assoc (draft_lines d) (line_text (Run r k) ∷ []) (bytes ∷ [])) in
    subst (Keeps (draft_lines d ++ line_text (Run r k) ∷ []) bytes) (sym g.reached) (kept.0, lines)
goes_keep (at_step d r k log) bytes to is g =
    let long : length (log.steps ++ g.step ∷ []) ≡ length log.steps + 1 = length-append log.steps (g.step ∷ []) in
    let are = are_steps_push log.first log.steps g.step is.3 g.is in
    let kept = steps_keep d r k (log_of log.first (log.steps ++ g.step ∷ [])) is.0 is.1 (omega (arith, long)) are (omega (arith, long, g.left)) in
    let lines = kept.1
    ∙ ap (λ xs. draft_lines d ++ line_text (Run r k) ∷ xs) (step_lines_more log.first log.steps g.step)
    ∙ ap (λ b. draft_lines d ++ line_text (Run r k) ∷ (step_lines log.first log.steps ++ b ∷ [])) (sym g.spelled)
    ∙ sym (append_assoc (draft_lines d) (line_text (Run r k) ∷ step_lines log.first log.steps) (bytes ∷ [])) in
    subst (Keeps (draft_lines d ++ line_text (Run r k) ∷ step_lines log.first log.steps) bytes) (sym g.reached) (kept.0, lines)
goes_keep at_head bytes to is g = by_line_keep at_head bytes to is g
goes_keep at_limits bytes to is g = by_line_keep at_limits bytes to is g
goes_keep (at_section d) bytes to is g = by_line_keep (at_section d) bytes to is g
goes_keep (at_place d r ss) bytes to is g = by_line_keep (at_place d r ss) bytes to is g
goes_keep (at_end c) bytes to is g = by_line_keep (at_end c) bytes to is g
goes_keep (at_nothing c) bytes to is g = by_line_keep (at_nothing c) bytes to is g

lead_keeps : (ls : List (List ℕ)) (from to : State) → IsFormed from → Lead Goes from ls to → IsFormed to × (lines_to to ≡ lines_to from ++ ls)
lead_keeps [] from to is x = (subst IsFormed x is, sym (ap lines_to x) ∙ sym (append-nil (lines_to from)))
lead_keeps (l ∷ ls) from to is x =
    let (mid, goes, rest) = x in
    let (formed, lines) = goes_keep from l mid is goes in
    let inner = lead_keeps ls mid to formed rest in
    (inner.0, inner.1 ∙ ap (λ xs. xs ++ ls) lines ∙ append_assoc (lines_to from) (l ∷ []) ls)

-- the texts are the same

pub text_from_cert : (bytes : List ℕ) → IsCertText bytes → IsText cert_grammar bytes
text_from_cert bytes (c, is) = (at_nothing c, record { lines = cert_lines c; lead = cert_lead c is.is; last = tt; spelled = is.spelled })

-- lines that lead to the end are those of a certificate
pub cert_of_lead : (c : Certificate) (ls : List (List ℕ)) → Lead Goes at_head ls (at_nothing c) → IsCert c × (cert_lines c ≡ ls)
cert_of_lead c ls lead = lead_keeps ls at_head (at_nothing c) tt lead

pub cert_from_text : (bytes : List ℕ) → IsText cert_grammar bytes → IsCertText bytes
cert_from_text bytes (state, is) = by_state state is.lead is.last where
  by_state : (s : State) → Lead Goes at_head is.lines s → Ends s → IsCertText bytes
  by_state (at_nothing c) lead ends = let kept = cert_of_lead c is.lines lead in (c, record { is = kept.0; spelled = is.spelled ∙ ap text_of (sym kept.1) })
  by_state s lead ends = absurd ends

pub first_bad : (bytes : List ℕ) (k : ℕ) → IsFirstBadLine (IsText cert_grammar) bytes k → IsFirstBadLine IsCertText bytes k
first_bad bytes k is = record {
  bad = λ begun. is.bad (begun.0, text_from_cert begun.0 begun.1, begun.2);
  before = λ j lt. let begun = is.before j lt in (begun.0, cert_from_text begun.0 begun.1, begun.2);
}

-- a text is that of one certificate

lead_lines : (ls : List (List ℕ)) (from to : State) → Lead Goes from ls to → AllByRecursion IsLine ls
lead_lines [] from to x = tt
lead_lines (l ∷ ls) from to x = let (mid, goes, rest) = x in (goes_line from l mid goes, lead_lines ls mid to rest)

no_line : (line more : List ℕ) → [] ≡ ended line ++ more → ⊥
no_line [] more e = cc
no_line (b ∷ bs) more e = cc

pub same_lines : (ls ms : List (List ℕ)) → AllByRecursion IsLine ls → AllByRecursion IsLine ms → text_of ls ≡ text_of ms → ls ≡ ms
same_lines [] [] a b e = refl
same_lines [] (m ∷ ms) a b e = absurd (no_line m (text_of ms) e)
same_lines (l ∷ ls) [] a b e = absurd (no_line l (text_of ls) (sym e))
same_lines (l ∷ ls) (m ∷ ms) a b e =
    let same = same_line l m (text_of ls) (text_of ms) a.0 b.0 e in
    ap (λ x. x ∷ ls) same.0 ∙ ap (λ xs. m ∷ xs) (same_lines ls ms a.1 b.1 same.1)

pub one_cert : (bytes : List ℕ) (a b : Certificate) → IsTextOf a bytes → IsTextOf b bytes → a ≡ b
one_cert bytes a b is_a is_b =
    let lead_a = cert_lead a is_a.is in
    let lead_b = cert_lead b is_b.is in
    let lines = same_lines (cert_lines a) (cert_lines b) (lead_lines (cert_lines a) at_head (at_nothing a) lead_a) (lead_lines (cert_lines b) at_head (at_nothing b) lead_b) (sym is_a.spelled ∙ is_b.spelled) in
    let states : at_nothing a ≡ at_nothing b = one_state cert_grammar cert_is_line_grammar (cert_lines b) at_head (at_nothing a) (at_nothing b) (subst (λ ls. Lead Goes at_head ls (at_nothing a)) lines lead_a) lead_b in
    cc

-- what is answered, where bytes are the text of a certificate, and where they have a first bad line

pub answers_only : (bytes : List ℕ) (r : Result Certificate CertFault) → Reads bytes r → (c : Certificate) → IsTextOf c bytes → MatchResult r (λ cert. cert ≡ c) (λ fault. fault ≡ NoMemory)
answers_only bytes (Ok cert) reads c is = one_cert bytes cert c reads is
answers_only bytes (Err (BadCert k)) reads c is = absurd (no_bad_line IsCertText bytes k (c, is) reads)
answers_only bytes (Err NoMemory) reads c is = refl

pub answers_exact : (bytes : List ℕ) (r : Result Certificate CertFault) → Reads bytes r → (k : ℕ) → IsFirstBadLine IsCertText bytes k → (r ≡ Err NoMemory → ⊥) → r ≡ Err (BadCert k)
answers_exact bytes (Ok cert) reads k is some = absurd (no_bad_line IsCertText bytes k (cert, reads) is)
answers_exact bytes (Err (BadCert j)) reads k is some = ap (λ n. Err (BadCert n)) (one_bad_line IsCertText bytes j k reads is)
answers_exact bytes (Err NoMemory) reads k is some = absurd (some refl)

pub answers_bad : (bytes : List ℕ) (r : Result Certificate CertFault) → Reads bytes r → (k : ℕ) → r ≡ Err (BadCert k) → IsFirstBadLine IsCertText bytes k
answers_bad bytes r reads k e = subst (Reads bytes) e reads

pub answers_found : (bytes : List ℕ) (r : Result Certificate CertFault) → Reads bytes r → MatchResult r (λ cert. IsTextOf cert bytes) (λ fault. Unit {0})
answers_found bytes (Ok cert) reads = reads
answers_found bytes (Err fault) reads = tt
