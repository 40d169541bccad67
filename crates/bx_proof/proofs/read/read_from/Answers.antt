use Rattle.std.proofs.Common.{◌≡◌, ℕ, ◌+◌, ◌<◌, ◌^◌, true, false, List, [], ◌∷◌, ◌++◌, length, sym, ap, subst, ◌∙◌, arith}
use Rattle.std.proofs.lemmas.Bool.{eq-eqb, eqb-true}
use Rattle.std.proofs.lemmas.List.{append-nil, nil_from_length}
use Rattle.std.specs.Prelude.{◌==◌}
use Rattle.bx_cnf.specs.Literals.{Literal}
use Rattle.bx_lines.specs.Lines.{text_of, IsFirstBadLine}
use Rattle.bx_proof.specs.Steps.{Step, StepList, IsStep, AreSteps}
use Rattle.bx_proof.specs.Texts.{step_line, step_lines, IsLogText}
use Rattle.bx_proof.specs.Readings.{IsStepAt}
use Rattle.bx_proof.proofs.Logs.{are_steps_push}
use Rattle.bx_proof.proofs.StepLines.{step_of}
use Rattle.bx_proof.proofs.LogGrammar.{bad_line, text_push, log_some}
use Rattle.bx_proof.proofs.read.read_from.Goals as goal

pub returns-in_default : goal.returns-in_default
returns-in_default c =
    let steps = c.loop-rest.steps.steps in
    let rest : List ℕ = c.loop-rest.rest.now in
    let small : c.args.first < 2 ^ 32 = omega (arith, c.ranges.first.fits) in
    let none = rw c.in_default.is at c.in_ok-behind.ensures in
    let id : c.args.first + length steps ≡ c.from.result + c.from-count.result = omega (arith, c.from.ensures, c.from-count.ensures, c.len.ensures.count) in
    let count : length steps + 1 ≡ c.from-count.result + 1 = omega (arith, c.from-count.ensures, c.len.ensures.count) in
    let at_end : rest ≡ [] → steps ≡ [] = λ empty.
    let test : (length rest == 0) ≡ true = eq-eqb (length rest) 0 (ap length empty) in
    let clash : false ≡ true = sym c.loop-rest-test.true ∙ c.is_empty.ensures ∙ test in
    cc
    in
    subst (IsFirstBadLine IsLogText c.args.text.now) count (bad_line c.args.first steps c.args.text.now rest c.requires.0 small c.loop-rest.invariant.steps c.loop-rest.invariant.spelled c.requires.1 at_end (λ s r at. none s r (subst (λ n. IsStepAt rest n s r) id at)))

pub loop-rest-preserved : goal.loop-rest-preserved
loop-rest-preserved c =
    let old = c.loop-rest.steps.steps in
    let s = step_of c.read.new.self.literals.items c.read.new.self.hints.items in
    let behind = c.in-Some.behind.now in
    let at = rw c.in-Some.is at c.in_ok-behind.ensures in
    let id : c.from.result + c.from-count.result ≡ c.args.first + length old = omega (arith, c.from.ensures, c.from-count.ensures, c.len.ensures.count) in
    let pushed : step_of c.deref.result.now c.deref-in-loop-rest.result.now ≡ s =
    ap (λ (ls : List Literal). step_of ls c.deref-in-loop-rest.result.now) c.deref.ensures.value
    ∙ ap (λ (hs : List ℕ). step_of c.read.new.self.literals.items hs) c.deref-in-loop-rest.ensures.value in
    let steps : c.push.new.self.steps ≡ old ++ s ∷ [] = ap (λ (log : StepList). log.steps) c.in_ok-push.ensures.ok ∙ ap (λ (t : Step). old ++ t ∷ []) pushed in
    let is : IsStep (c.args.first + length old) s = subst (λ n. IsStep n s) id at.step in
    let line = at.spelled ∙ ap (λ n. step_line n s ++ 10 ∷ behind) id in
    record {
      first = ap (λ (log : StepList). log.first) c.in_ok-push.ensures.ok ∙ c.loop-rest.invariant.first;
      steps = subst (AreSteps c.args.first) (sym steps) (are_steps_push c.args.first old s c.loop-rest.invariant.steps is);
      spelled = c.loop-rest.invariant.spelled ∙ ap (λ bs. text_of (step_lines c.args.first old) ++ bs) line ∙ sym (text_push c.args.first old s behind) ∙ ap (λ ss. text_of (step_lines c.args.first ss) ++ behind) (sym steps);
    }

pub returns : goal.returns
returns c =
    let steps = c.loop-rest.steps.steps in
    let test : (length c.loop-rest.rest.now == 0) ≡ true = sym c.is_empty.ensures ∙ c.loop-rest-test.false in
    let empty : c.loop-rest.rest.now ≡ [] = nil_from_length c.loop-rest.rest.now (eqb-true (length c.loop-rest.rest.now) 0 test) in
    let small : c.args.first < 2 ^ 32 = omega (arith, c.ranges.first.fits) in
    let spelled : c.args.text.now ≡ text_of (step_lines c.args.first steps) = c.loop-rest.invariant.spelled ∙ ap (λ bs. text_of (step_lines c.args.first steps) ++ bs) empty ∙ append-nil (text_of (step_lines c.args.first steps)) in
    record {
      some = log_some c.args.first steps c.args.text.now c.requires.0 small c.requires.1 spelled;
      steps = subst (λ n. AreSteps n steps) (sym c.loop-rest.invariant.first) c.loop-rest.invariant.steps;
      spelled = spelled ∙ ap (λ n. text_of (step_lines n steps)) (sym c.loop-rest.invariant.first);
    }
