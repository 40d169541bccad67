use Rattle.std.proofs.Common.{◌≡◌, List, ℕ, Bor, true, ◌∷◌, ◌++◌, sym, ap, subst, ◌∙◌, arith}
use Rattle.std.specs.Prelude.{decimal}
use Rattle.bx_cnf.specs.Literals.{Literal}
use Rattle.bx_proof.specs.Steps.{IsStep}
use Rattle.bx_proof.specs.Texts.{list_text}
use Rattle.bx_proof.proofs.StepLines.{step_of, number_of_line, step_literals, step_hints, follow_number, follow_literals, follow_hints, line_here, match_found}
use Rattle.bx_proof.proofs.line.StepLine.read.Goals as goal

pub returns-in_default : goal.returns-in_default
returns-in_default c = λ s r at. c.in_default.ensures.none c.args.id _ (omega (arith, at.step.numbered)) (number_of_line c.args.text.now c.args.id s (10 ∷ r) at.spelled)

pub returns-then-number-id : goal.returns-then-number-id
returns-then-number-id c = λ s r at.
    let (same, literals_at) = follow_number c.args.text.now c.args.id c.in-Some.number s r c.in-Some.rest.now (omega (arith, c.in-Some.ensures.found.0)) at c.in-Some.ensures.found.1 in
    c.if-number-id.true same

pub returns-in_default-2 : goal.returns-in_default-2
returns-in_default-2 c = λ s r at.
    let (same, literals_at) = follow_number c.args.text.now c.args.id c.in-Some.number s r c.in-Some.rest.now (omega (arith, c.in-Some.ensures.found.0)) at c.in-Some.ensures.found.1 in
    let none = rw c.in_default-2.is at c.in_ok-rest.ensures in
    none s.literals (list_text decimal s.hints ++ 10 ∷ r) (step_literals c.args.id s at.step) literals_at

pub returns-in_default-3 : goal.returns-in_default-3
returns-in_default-3 c = λ s r at.
    let (same, literals_at) = follow_number c.args.text.now c.args.id c.in-Some.number s r c.in-Some.rest.now (omega (arith, c.in-Some.ensures.found.0)) at c.in-Some.ensures.found.1 in
    let found = rw c.in-Some-2.is at c.in_ok-rest.ensures in
    let (literals, hints_at) = follow_literals c.args.id s r c.in-Some.rest.now c.in-Some-2.rest.now c.read_literals.new.literals.items at.step literals_at found.0 found.1 in
    let none = rw c.in_default-3.is at c.in_ok-rest-2.ensures in
    none s.hints (10 ∷ r) (step_hints c.args.id s at.step) hints_at

pub returns-then-not-is_step : goal.returns-then-not-is_step
returns-then-not-is_step c = λ s r at.
    let (same, literals_at) = follow_number c.args.text.now c.args.id c.in-Some.number s r c.in-Some.rest.now (omega (arith, c.in-Some.ensures.found.0)) at c.in-Some.ensures.found.1 in
    let found = rw c.in-Some-2.is at c.in_ok-rest.ensures in
    let (literals, hints_at) = follow_literals c.args.id s r c.in-Some.rest.now c.in-Some-2.rest.now c.read_literals.new.literals.items at.step literals_at found.0 found.1 in
    let found_hints = rw c.in-Some-3.is at c.in_ok-rest-2.ensures in
    let (hints, end_at) = follow_hints c.args.id s r c.in-Some-2.rest.now c.in-Some-3.rest.now c.read_hints.new.hints.items at.step hints_at found_hints.0 found_hints.1 in
    let whole : s ≡ step_of c.deref.result.now c.deref-2.result.now =
    ap (λ (ls : List Literal). step_of ls s.hints) (sym literals ∙ sym c.deref.ensures.value)
    ∙ ap (λ (hs : List ℕ). step_of c.deref.result.now hs) (sym hints ∙ sym c.deref-2.ensures.value) in
    let is : c.is_step.result ≡ true = c.is_step.ensures.1 (subst (IsStep c.args.id) whole at.step) in
    cc

pub returns : goal.returns
returns c =
    let found = rw c.in-Some-2.is at c.in_ok-rest.ensures in
    let found_hints = rw c.in-Some-3.is at c.in_ok-rest-2.ensures in
    let whole : step_of c.deref.result.now c.deref-2.result.now ≡ step_of c.read_literals.new.literals.items c.read_hints.new.hints.items =
    ap (λ (ls : List Literal). step_of ls c.deref-2.result.now) c.deref.ensures.value
    ∙ ap (λ (hs : List ℕ). step_of c.read_literals.new.literals.items hs) c.deref-2.ensures.value in
    let is : IsStep c.args.id (step_of c.read_literals.new.literals.items c.read_hints.new.hints.items) = subst (IsStep c.args.id) whole (c.is_step.ensures.0 c.if-not-is_step.false) in
    let same : c.in-Some.number ≡ c.args.id = omega (arith, c.if-number-id.false) in
    match_found (λ (rest : Bor (List ℕ)). c.in-Some-3.rest.now ≡ 10 ∷ rest.now) _ ((rest : List ℕ) → c.in-Some-3.rest.now ≡ 10 ∷ rest → ⊥) _ c.behind_byte.result c.behind_byte.ensures.found c.behind_byte.ensures.none
    (λ missed s r at.
    let (number, literals_at) = follow_number c.args.text.now c.args.id c.in-Some.number s r c.in-Some.rest.now (omega (arith, c.in-Some.ensures.found.0)) at c.in-Some.ensures.found.1 in
    let (literals, hints_at) = follow_literals c.args.id s r c.in-Some.rest.now c.in-Some-2.rest.now c.read_literals.new.literals.items at.step literals_at found.0 found.1 in
    let (hints, end_at) = follow_hints c.args.id s r c.in-Some-2.rest.now c.in-Some-3.rest.now c.read_hints.new.hints.items at.step hints_at found_hints.0 found_hints.1 in
    missed r end_at)
    (λ rest feed. record {
      step = is;
      spelled = line_here c.args.text.now c.in-Some.rest.now c.in-Some-2.rest.now c.in-Some-3.rest.now rest.now c.args.id c.in-Some.number c.read_literals.new.literals.items c.read_hints.new.hints.items same c.in-Some.ensures.found.1 found.1 found_hints.1 feed;
    })
