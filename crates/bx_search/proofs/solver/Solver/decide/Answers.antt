use Rattle.std.proofs.Common.{◌≡◌, ◌∙◌, ℕ, get_or, ◌-◌, ◌+◌, ◌<◌, ◌++◌, [], ◌∷◌, None, false, length, refl, ap, sym, subst, arith}
use Rattle.std.proofs.lemmas.List.{get_or_default}
use Rattle.bx_cnf.specs.Literals.{Literal}
use Rattle.bx_cnf.specs.Assignments.{IsFree}
use Rattle.bx_watch.specs.Watching.{Watch, IsOver}
use Rattle.bx_search.specs.States.{current_level, literals_of}
use Rattle.bx_search.proofs.Solving.{first-free, unassigned-free, taken-room, assigns, on-ok}
use Rattle.bx_search.proofs.solver.Solver.decide.Goals as goal

pub overflow_sub-var : goal.overflow_sub-var
overflow_sub-var c = (first-free c.args.self.now c.args.var c.requires.agrees c.requires.first).0.0

pub index-requires : goal.index-requires
index-requires c =
    let v = (first-free c.args.self.now c.args.var c.requires.agrees c.requires.first).0 in
    omega (arith, v.0, v.1, c.requires.agrees.phased)

pub literal-lit-requires-clause-above : goal.literal-lit-requires-clause-above
literal-lit-requires-clause-above c =
    let v = (first-free c.args.self.now c.args.var c.requires.agrees c.requires.first).0 in omega (arith, v.0)

pub literal-lit-requires-clause-below : goal.literal-lit-requires-clause-below
literal-lit-requires-clause-below c =
    let v = (first-free c.args.self.now c.args.var c.requires.agrees c.requires.first).0 in omega (arith, v.1, c.requires.agrees.formed.vars)

pub push_decision-requires-clause-over : goal.push_decision-requires-clause-over
push_decision-requires-clause-over c =
    let v = (first-free c.args.self.now c.args.var c.requires.agrees c.requires.first).0 in
    rw (c.literal-lit.ensures, c.requires.agrees.vars) (omega (arith, v.0), v.1)

pub push_decision-requires-clause-is_free : goal.push_decision-requires-clause-is_free
push_decision-requires-clause-is_free c =
    let free = (first-free c.args.self.now c.args.var c.requires.agrees c.requires.first).1 in
    subst (λ (l : Literal). IsFree (literals_of c.args.self.now.trail.entries) l) (sym c.literal-lit.ensures)
    (unassigned-free c.args.self.now.trail.entries (record { var = c.args.var; positive = c.index.result.now }) free)

pub push_decision-requires-clause-room : goal.push_decision-requires-clause-room
push_decision-requires-clause-room c =
    let first = first-free c.args.self.now c.args.var c.requires.agrees c.requires.first in
    rw c.requires.agrees.vars (taken-room c.args.self.now.clauses.now.vars c.args.self.now.queue.taken c.args.self.now.trail.entries c.args.var c.requires.agrees.takes first.0 first.1)

pub assigned-requires-clause-within : goal.assigned-requires-clause-within
assigned-requires-clause-within c =
    let v = (first-free c.args.self.now c.args.var c.requires.agrees c.requires.first).0 in
    (v.0, omega (arith, v.1, c.requires.agrees.takes.each_has))

pub assigned-requires-clause-is_free : goal.assigned-requires-clause-is_free
assigned-requires-clause-is_free c =
    let first = first-free c.args.self.now c.args.var c.requires.agrees c.requires.first in
    c.requires.agrees.takes.same c.args.var first.0 ∙ first.1

pub assigned-requires-2-clause-over : goal.assigned-requires-2-clause-over
assigned-requires-2-clause-over c =
    let v = (first-free c.args.self.now c.args.var c.requires.agrees c.requires.first).0 in
    subst (λ (w : Watch). IsOver w.vars c.literal-lit.result) (sym c.requires.agrees.watches)
    (subst (λ (l : Literal). IsOver c.args.self.now.clauses.now.vars l) (sym c.literal-lit.ensures) (omega (arith, v.0), v.1))

pub assigned-requires-2-clause-is_free : goal.assigned-requires-2-clause-is_free
assigned-requires-2-clause-is_free c =
    let free = (first-free c.args.self.now c.args.var c.requires.agrees c.requires.first).1 in
    subst (λ (w : Watch). IsFree w.trail c.literal-lit.result) (sym c.requires.agrees.watches)
    (subst (λ (l : Literal). IsFree (literals_of c.args.self.now.trail.entries) l) (sym c.literal-lit.ensures)
    (unassigned-free c.args.self.now.trail.entries (record { var = c.args.var; positive = c.index.result.now }) free))

pub returns : goal.returns
returns c =
    let old = c.args.self.now in
    let first = first-free old c.args.var c.requires.agrees c.requires.first in
    let below : c.args.var - 1 < length old.phases.items = omega (arith, first.0.0, first.0.1, c.requires.agrees.phased) in
    let lit : Literal = record { var = c.args.var; positive = get_or old.phases.items (c.args.var - 1) false } in
    let level : ℕ = current_level old.trail.entries + 1 in
    let same : c.literal-lit.result ≡ lit =
    c.literal-lit.ensures ∙ ap (λ b. record { var = c.args.var; positive = b }) (c.index.ensures ∙ get_or_default old.phases.items (c.args.var - 1) c.index.result.now false below) in
    on-ok c.assigned-2.result c.assigned-2.ensures.ok (λ watched.
    assigns old _ (record { literal = lit; level = level; reason = None }) old.phases.items c.requires.agrees first.0 first.1 refl
    (subst (λ (l : Literal). c.assigned-2.new.self ≡ record old.watched { trail = old.watched.trail ++ l ∷ [] }) same watched)
    c.assigned.ensures
    (subst (λ (l : Literal). c.push_decision.new.self ≡ record old.trail { entries = old.trail.entries ++ record { literal = l; level = level; reason = None } ∷ [] }) same c.in_ok-push_decision.ensures)
    refl refl refl refl refl)
