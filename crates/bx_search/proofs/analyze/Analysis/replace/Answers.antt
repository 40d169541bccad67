use Rattle.std.proofs.Common.{◌≡◌, ℕ, List, length, sym, ◌∙◌, ap, arith}
use Rattle.std.proofs.lemmas.Bool.{eqb-true}
use Rattle.bx_cnf.specs.Literals.{Literal}
use Rattle.bx_proof.specs.Accepted.{with_steps}
use Rattle.bx_search.specs.States.{current_level}
use Rattle.bx_search.specs.Learning.{reason_variables}
use Rattle.bx_search.specs.Marks.{Marking}
use Rattle.bx_search.proofs.Marking.{sized-with_marks, left-with_marks}
use Rattle.bx_search.proofs.analyze.Analysis.replace.Goals as goal

pub unmark-requires-clause-within : goal.unmark-requires-clause-within
unmark-requires-clause-within c =
    let vars : List ℕ = reason_variables (with_steps c.args.clauses.now.clauses c.args.steps.now.steps) c.args.entry.reason in
    let size = ap (λ (m : Marking). length m.marked) c.in_ok-add_reason.ensures.marks ∙ sized-with_marks c.args.trail.now.entries vars c.args.self.now.marks in
    let var = c.var.ensures.var ∙ ap (λ (l : Literal). l.var) c.lit.ensures in
    omega (arith, size, var, c.requires.treatable.sized, c.requires.treatable.over.1)

pub unmark-requires-clause-some : goal.unmark-requires-clause-some
unmark-requires-clause-some c =
    let vars : List ℕ = reason_variables (with_steps c.args.clauses.now.clauses c.args.steps.now.steps) c.args.entry.reason in
    let more = left-with_marks c.args.trail.now.entries vars c.args.self.now.marks in
    let some = c.requires.treatable.some c.requires.marked in
    omega (arith, ap (λ (m : Marking). m.left) c.in_ok-add_reason.ensures.marks, more.0, some)

pub unmark-requires-clause-some_here : goal.unmark-requires-clause-some_here
unmark-requires-clause-some_here c = λ e.
    let vars : List ℕ = reason_variables (with_steps c.args.clauses.now.clauses c.args.steps.now.steps) c.args.entry.reason in
    let more = left-with_marks c.args.trail.now.entries vars c.args.self.now.marks in
    let level : c.args.entry.level ≡ current_level c.args.trail.now.entries = sym c.level.ensures ∙ (eqb-true c.level.result c.level-2.result e ∙ c.level-2.ensures.level) in
    let some = c.requires.treatable.some_here c.requires.marked level in
    omega (arith, ap (λ (m : Marking). m.here) c.in_ok-add_reason.ensures.marks, more.1, some)
