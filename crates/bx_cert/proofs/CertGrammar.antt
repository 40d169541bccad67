-- The grammar of certificates is one by lines: a line leads to one state, and from each state to which a line
-- leads a text can be ended.
use Rattle.std.proofs.Common.{◌≡◌, ℕ, zero, suc, ◌+◌, ◌-◌, ◌<◌, ◌≤◌, ◌^◌, cond, List, [], ◌∷◌, ◌++◌, length, refl, sym, ◌∙◌, ap, subst, arith, length-append}
use Rattle.std.proofs.lemmas.Bool.{eq-eqb, ne_eqb}
use Rattle.std.proofs.lemmas.List.Elements.{All-from_recursion}
use Rattle.bx_grid.specs.Orders.{AreLimits}
use Rattle.bx_grid.specs.declared.ratio.Ratio.{Ratio}
use Rattle.bx_grid.specs.declared.ratio.Limits.{Limits}
use Rattle.bx_cnf.specs.Literals.{Literal}
use Rattle.bx_lines.specs.Lines.{IsLine}
use Rattle.bx_lines.specs.Grammars.{CanEnd, IsLineGrammar}
use Rattle.bx_proof.specs.Steps.{Step, StepList, IsStep}
use Rattle.bx_proof.specs.Texts.{step_line, IsTextOf}
use Rattle.bx_proof.specs.declared.refutation.Refutation.TheVariants.{Clauses}
use Rattle.bx_proof.proofs.OneLog.{one_log}
use Rattle.bx_proof.proofs.StepLines.{step_line_is_line}
use Rattle.bx_cert.specs.declared.line.Line.{Line}
use Rattle.bx_cert.specs.declared.line.Line.TheVariants.{Head, Bounds, Counted, Run, FoundAt, GaveUp, NoRatio, Place, End}
use Rattle.bx_cert.specs.declared.parts.Spot.{Spot}
use Rattle.bx_cert.specs.declared.parts.CertLast.TheVariants.{Found, NoneWithin}
use Rattle.bx_cert.specs.Certs.{Certificate}
use Rattle.bx_cert.specs.Texts.{line_text}
use Rattle.bx_cert.specs.Grammar.{IsSaid, Draft, with_section, ended_by, State, at_head, at_limits, at_section, at_first_step, at_step, at_place, at_end, at_nothing, Leads, GoesByLine, log_of, behind_steps, Goes, cert_grammar}
use Rattle.bx_cert.proofs.OneLine.{one_line, line_is_line}

-- a line leads to one state

pub leads_one : (from : State) (line : Line) (a b : State) → Leads from line a → Leads from line b → a ≡ b
leads_one at_head Head a b x y = x ∙ sym y
leads_one at_limits (Bounds l n) a b x y = x ∙ sym y
leads_one (at_section d) (Counted r p) a b x y = x ∙ sym y
leads_one (at_section d) (Run r k) a b x y = x ∙ sym y
leads_one (at_section d) (FoundAt r) a b x y = x ∙ sym y
leads_one (at_section d) (GaveUp r n) a b x y = x ∙ sym y
leads_one (at_section d) NoRatio a b x y = x ∙ sym y
leads_one (at_place d r ss) (Place s) a b x y = x ∙ sym y
leads_one (at_place d r ss) End a b x y = x ∙ sym y
leads_one (at_end c) End a b x y = x ∙ sym y
leads_one from line a b x y = absurd x

by_line_one : (from : State) (bytes : List ℕ) (a b : State) → GoesByLine from bytes a → GoesByLine from bytes b → a ≡ b
by_line_one from bytes a b x y =
    let same = one_line (bytes ++ 10 ∷ []) x.line y.line [] [] (record { said = x.said; spelled = ap (λ bs. bs ++ 10 ∷ []) x.spelled }) (record { said = y.said; spelled = ap (λ bs. bs ++ 10 ∷ []) y.spelled }) in
    leads_one from y.line a b (subst (λ l. Leads from l a) same.0 x.leads) y.leads

-- the text of a log of one step
one_step_text : (bytes : List ℕ) (id : ℕ) (s : Step) → IsStep id s → bytes ≡ step_line id s → IsTextOf (log_of id (s ∷ [])) ((bytes ++ 10 ∷ []) ++ [])
one_step_text bytes id s is e = record { some = omega arith; steps = (is, tt); spelled = ap (λ bs. (bs ++ 10 ∷ []) ++ []) e }

one_step : (bytes : List ℕ) (i j : ℕ) (s t : Step) → IsStep i s → IsStep j t → bytes ≡ step_line i s → bytes ≡ step_line j t → log_of i (s ∷ []) ≡ log_of j (t ∷ [])
one_step bytes i j s t is_s is_t e f = one_log ((bytes ++ 10 ∷ []) ++ []) (log_of i (s ∷ [])) (log_of j (t ∷ [])) (one_step_text bytes i s is_s e) (one_step_text bytes j t is_t f)

goes_one : (from : State) (bytes : List ℕ) (a b : State) → Goes from bytes a → Goes from bytes b → a ≡ b
goes_one (at_first_step d r k) bytes a b x y = x.reached ∙ ap (behind_steps d r k) (one_step bytes x.id y.id x.step y.step x.is y.is x.spelled y.spelled) ∙ sym y.reached
goes_one (at_step d r k log) bytes a b x y =
    let logs = one_step bytes (log.first + length log.steps) (log.first + length log.steps) x.step y.step x.is y.is x.spelled y.spelled in
    x.reached ∙ ap (λ (l : StepList). behind_steps d r k (log_of log.first (log.steps ++ l.steps))) logs ∙ sym y.reached
goes_one at_head bytes a b x y = by_line_one at_head bytes a b x y
goes_one at_limits bytes a b x y = by_line_one at_limits bytes a b x y
goes_one (at_section d) bytes a b x y = by_line_one (at_section d) bytes a b x y
goes_one (at_place d r ss) bytes a b x y = by_line_one (at_place d r ss) bytes a b x y
goes_one (at_end c) bytes a b x y = by_line_one (at_end c) bytes a b x y
goes_one (at_nothing c) bytes a b x y = by_line_one (at_nothing c) bytes a b x y

-- it is a line

by_line_line : (from : State) (bytes : List ℕ) (to : State) → GoesByLine from bytes to → IsLine bytes
by_line_line from bytes to g = subst IsLine (sym g.spelled) (line_is_line g.line g.said)

pub goes_line : (from : State) (bytes : List ℕ) (to : State) → Goes from bytes to → IsLine bytes
goes_line (at_first_step d r k) bytes to g = subst IsLine (sym g.spelled) (step_line_is_line g.id g.step g.is)
goes_line (at_step d r k log) bytes to g = subst IsLine (sym g.spelled) (step_line_is_line (log.first + length log.steps) g.step g.is)
goes_line at_head bytes to g = by_line_line at_head bytes to g
goes_line at_limits bytes to g = by_line_line at_limits bytes to g
goes_line (at_section d) bytes to g = by_line_line (at_section d) bytes to g
goes_line (at_place d r ss) bytes to g = by_line_line (at_place d r ss) bytes to g
goes_line (at_end c) bytes to g = by_line_line (at_end c) bytes to g
goes_line (at_nothing c) bytes to g = by_line_line (at_nothing c) bytes to g

-- where a section's steps are whole, and where not

pub steps_whole : (d : Draft) (r : Ratio) (k : ℕ) (log : StepList) → length log.steps ≡ k → behind_steps d r k log ≡ at_section (with_section d r (Clauses log))
steps_whole d r k log e = ap (λ t. cond t (at_section (with_section d r (Clauses log))) (at_step d r k log)) (eq-eqb (length log.steps) k e)

pub steps_more : (d : Draft) (r : Ratio) (k : ℕ) (log : StepList) → length log.steps < k → behind_steps d r k log ≡ at_step d r k log
steps_more d r k log lt =
    let other : length log.steps ≡ k → ⊥ = λ e. omega (arith, e, lt) in
    ap (λ t. cond t (at_section (with_section d r (Clauses log))) (at_step d r k log)) (ne_eqb (length log.steps) k other)

-- a text can be ended

abbrev Ending : State → Type 0
Ending from = CanEnd cert_grammar from

-- by a line, behind which it can be
pub by_one : (from to : State) (bytes : List ℕ) → Goes from bytes to → Ending to → Ending from
by_one from to bytes goes can = (bytes ∷ can.0, can.1, (to, goes, can.2), can.3)

end_nothing : (c : Certificate) → Ending (at_nothing c)
end_nothing c = ([], at_nothing c, refl, tt)

end_end : (c : Certificate) → Ending (at_end c)
end_end c = by_one (at_end c) (at_nothing c) (line_text End) (record { line = End; said = tt; spelled = refl; leads = refl }) (end_nothing c)

end_place : (d : Draft) (r : Ratio) (ss : List Spot) → Ending (at_place d r ss)
end_place d r ss = by_one (at_place d r ss) (at_nothing (ended_by d (Found r ss))) (line_text End) (record { line = End; said = tt; spelled = refl; leads = refl }) (end_nothing (ended_by d (Found r ss)))

end_section : (d : Draft) → Ending (at_section d)
end_section d = by_one (at_section d) (at_end (ended_by d NoneWithin)) (line_text NoRatio) (record { line = NoRatio; said = tt; spelled = refl; leads = refl }) (end_end (ended_by d NoneWithin))

some_limits : Limits
some_limits = record { area = 1; width = 1; height = 1 }

some_limits_are : AreLimits some_limits
unfolding some_limits
some_limits_are = record { some_area = omega arith; some_width = omega arith; some_height = omega arith; area = omega arith; width = omega arith; height = omega arith }

end_limits : Ending at_limits
end_limits =
    let d : Draft = record { limits = some_limits; budget = 0; sections = [] } in
    by_one at_limits (at_section d) (line_text (Bounds some_limits 0)) (record { line = Bounds some_limits 0; said = (some_limits_are, (omega arith)); spelled = refl; leads = refl }) (end_section d)

end_head : Ending at_head
end_head = by_one at_head at_limits (line_text Head) (record { line = Head; said = tt; spelled = refl; leads = refl }) end_limits

-- some step
some_step : Step
some_step = record { literals = []; hints = 1 ∷ [] }

some_step_is : (id : ℕ) → 1 < id → id < 2 ^ 32 → IsStep id some_step
unfolding some_step
some_step_is id above below = record {
  numbered = below;
  clause = record { ascending = tt; within = All-from_recursion (λ (l : Literal). l.var ≤ 2147483647) [] tt };
  hinted = omega arith;
  before = All-from_recursion (λ h. (0 < h) × (h < id)) (1 ∷ []) ((omega arith, omega arith), tt);
}

end_steps : (left : ℕ) (d : Draft) (r : Ratio) (k first : ℕ) (ss : List Step) → length ss + left ≡ k → 1 < first → first + k ≤ 2 ^ 32 → Ending (behind_steps d r k (log_of first ss))
end_steps zero d r k first ss size above fits = subst Ending (sym (steps_whole d r k (log_of first ss) (omega (arith, size)))) (end_section (with_section d r (Clauses (log_of first ss))))
end_steps (suc left) d r k first ss size above fits =
    let more : length ss < k = omega (arith, size) in
    let size' : length (ss ++ some_step ∷ []) + left ≡ k = omega (arith, size, length-append ss (some_step ∷ [])) in
    let to = behind_steps d r k (log_of first (ss ++ some_step ∷ [])) in
    subst Ending (sym (steps_more d r k (log_of first ss) more)) (by_one (at_step d r k (log_of first ss)) to (step_line (first + length ss) some_step) (record {
      step = some_step;
      is = some_step_is (first + length ss) (omega (arith, above)) (omega (arith, fits, more));
      above = above;
      left = more;
      fits = fits;
      spelled = refl;
      reached = refl;
    }) (end_steps left d r k first (ss ++ some_step ∷ []) size' above fits))

end_first : (d : Draft) (r : Ratio) (k : ℕ) → 1 ≤ k → k ≤ 4294967294 → Ending (at_first_step d r k)
end_first d r zero some most = absurd (omega (arith, some))
end_first d r (suc k) some most = by_one (at_first_step d r (suc k)) (behind_steps d r (suc k) (log_of 2 (some_step ∷ []))) (step_line 2 some_step) (record {
  id = 2;
  step = some_step;
  is = some_step_is 2 (omega arith) (omega arith);
  some = some;
  fits = omega (arith, most);
  spelled = refl;
  reached = refl;
}) (end_steps k d r (suc k) 2 (some_step ∷ []) (omega arith) (omega arith) (omega (arith, most)))

-- an id of a step is 2 at least
id_above : (id : ℕ) (s : Step) → IsStep id s → 1 < id
id_above id s is = let first = is.before 0 0 is.hinted in omega (arith, first.0, first.1)

leads_end : (from : State) (line : Line) (to : State) → IsSaid line → Leads from line to → Ending to
leads_end at_head Head to said x = subst Ending (sym x) end_limits
leads_end at_limits (Bounds l n) to said x = subst Ending (sym x) (end_section _)
leads_end (at_section d) (Counted r p) to said x = subst Ending (sym x) (end_section _)
leads_end (at_section d) (Run r k) to said x = subst Ending (sym x) (end_first d r k said.1 said.2)
leads_end (at_section d) (FoundAt r) to said x = subst Ending (sym x) (end_place d r [])
leads_end (at_section d) (GaveUp r n) to said x = subst Ending (sym x) (end_end _)
leads_end (at_section d) NoRatio to said x = subst Ending (sym x) (end_end _)
leads_end (at_place d r ss) (Place s) to said x = subst Ending (sym x) (end_place d r (ss ++ s ∷ []))
leads_end (at_place d r ss) End to said x = subst Ending (sym x) (end_nothing _)
leads_end (at_end c) End to said x = subst Ending (sym x) (end_nothing c)
leads_end from line to said x = absurd x

step_end : (d : Draft) (r : Ratio) (k : ℕ) (first : ℕ) (ss : List Step) → length ss ≤ k → 1 < first → first + k ≤ 2 ^ 32 → Ending (behind_steps d r k (log_of first ss))
step_end d r k first ss le above fits =
    let back : length ss + (k - length ss) ≡ k = omega (arith, le) in
    end_steps (k - length ss) d r k first ss back above fits

goes_end : (from : State) (bytes : List ℕ) (to : State) → Goes from bytes to → Ending to
goes_end (at_first_step d r k) bytes to g = subst Ending (sym g.reached) (step_end d r k g.id (g.step ∷ []) (omega (arith, g.some)) (id_above g.id g.step g.is) g.fits)
goes_end (at_step d r k log) bytes to g =
    subst Ending (sym g.reached) (step_end d r k log.first (log.steps ++ g.step ∷ []) (omega (arith, g.left, length-append log.steps (g.step ∷ []))) g.above g.fits)
goes_end at_head bytes to g = leads_end at_head g.line to g.said g.leads
goes_end at_limits bytes to g = leads_end at_limits g.line to g.said g.leads
goes_end (at_section d) bytes to g = leads_end (at_section d) g.line to g.said g.leads
goes_end (at_place d r ss) bytes to g = leads_end (at_place d r ss) g.line to g.said g.leads
goes_end (at_end c) bytes to g = leads_end (at_end c) g.line to g.said g.leads
goes_end (at_nothing c) bytes to g = leads_end (at_nothing c) g.line to g.said g.leads

pub cert_is_line_grammar : IsLineGrammar cert_grammar
cert_is_line_grammar = record {
  lines = λ from line to g. goes_line from line to g;
  one = λ from line a b x y. goes_one from line a b x y;
  start = end_head;
  each = λ from line to g. goes_end from line to g;
}
