use Rattle.std.proofs.Common.{◌≡◌, true, false, rules, ℕ, ◌+◌, ◌-◌, List, map, sym, ◌∙◌, ap, subst, arith}
use Rattle.std.specs.Prelude.{Contains}
use Rattle.bx_cnf.specs.Literals.{Literal}
use Rattle.bx_proof.specs.Accepted.{with_steps}
use Rattle.bx_search.specs.States.{Assigned}
use Rattle.bx_search.specs.Marks.{unmarked}
use Rattle.bx_search.proofs.Places.{reached-backed, false-assigned, false-here, walk-begun, at-begun, at-low, at-passed, at-treatable, at-end, end-apart, end-above, some-left}
use Rattle.bx_search.proofs.analyze.Analysis.learn.Goals as goal

pub begin-requires-clause-assigned : goal.begin-requires-clause-assigned
begin-requires-clause-assigned c =
    let clauses : List (List Literal) = with_steps c.args.clauses.now.clauses c.args.steps.now.steps in
    let fails = false-here clauses c.args.trail.now.entries c.args.id c.requires.fails.clause c.clause_of.result.now c.requires.fails.stands c.clause_of.ensures c.requires.fails.is_so in
    false-assigned c.args.trail.now.entries c.clause_of.result.now fails

pub loop-place-init : goal.loop-place-init
loop-place-init c =
    let clauses : List (List Literal) = with_steps c.args.clauses.now.clauses c.args.steps.now.steps in
    let trail : List Assigned = c.args.trail.now.entries in
    let vars : ℕ = c.args.trail.now.vars in
    let fails = false-here clauses trail c.args.id c.requires.fails.clause c.clause_of.result.now c.requires.fails.stands c.clause_of.ensures c.requires.fails.is_so in
    let backed = reached-backed c.args.clauses.now trail c.args.steps.now.steps c.requires.reached in
    let begins = c.in_ok-begin.ensures in
    let is = walk-begun trail (map (λ (l : Literal). l.var) c.clause_of.result.now) vars c.args.id _ _ _ _ _ begins.marks (c.requires.unmarked ∙ ap unmarked (sym c.requires.vars)) begins.literals begins.levels begins.hints in
    at-begun clauses trail vars c.args.id c.len-place.result c.clause_of.result.now _ c.len-place.ensures.count backed c.len-place.ensures.formed.over c.len-place.ensures.formed.apart c.clause_of.ensures fails is

pub overflow_sub-place : goal.overflow_sub-place
overflow_sub-place c =
    let low = at-low _ _ _ _ _ _ c.loop-place.invariant in
    let full : c.is_empty.result ≡ false = first_of (cc, grind arith, search rules) in
    let some = some-left c.is_empty.result c.loop-place.self.marks.left c.is_empty.ensures full in
    omega (arith, low, some)

pub entry-requires : goal.entry-requires
entry-requires c =
    let low = at-low _ _ _ _ _ _ c.loop-place.invariant in
    let full : c.is_empty.result ≡ false = first_of (cc, grind arith, search rules) in
    let some = some-left c.is_empty.result c.loop-place.self.marks.left c.is_empty.ensures full in
    omega (arith, low, some, c.loop-place.invariant.within)

pub pass-requires : goal.pass-requires
pass-requires c =
    let low = at-low _ _ _ _ _ _ c.loop-place.invariant in
    let full : c.is_empty.result ≡ false = first_of (cc, grind arith, search rules) in
    let some = some-left c.is_empty.result c.loop-place.self.marks.left c.is_empty.ensures full in
    let before : c.loop-place.place ≡ c.loop-place.place - 1 + 1 = omega (arith, low, some) in
    at-treatable _ _ _ c.args.id c.loop-place.place (c.loop-place.place - 1) c.entry.result _ c.len-place.ensures.formed.vars before c.entry.ensures.value c.loop-place.invariant

pub loop-place-preserved : goal.loop-place-preserved
loop-place-preserved c =
    let low = at-low _ _ _ _ _ _ c.loop-place.invariant in
    let full : c.is_empty.result ≡ false = first_of (cc, grind arith, search rules) in
    let some = some-left c.is_empty.result c.loop-place.self.marks.left c.is_empty.ensures full in
    let before : c.loop-place.place ≡ c.loop-place.place - 1 + 1 = omega (arith, low, some) in
    at-passed _ _ _ c.args.id c.loop-place.place (c.loop-place.place - 1) c.entry.result _ _ before c.entry.ensures.value c.loop-place.invariant c.in_ok-pass.ensures

pub loop-place-smaller : goal.loop-place-smaller
loop-place-smaller c =
    let low = at-low _ _ _ _ _ _ c.loop-place.invariant in
    let full : c.is_empty.result ≡ false = first_of (cc, grind arith, search rules) in
    let some = some-left c.is_empty.result c.loop-place.self.marks.left c.is_empty.ensures full in
    omega (arith, low, some)

pub finish-requires-clause-above : goal.finish-requires-clause-above
finish-requires-clause-above c =
    let empty : c.is_empty.result ≡ true = first_of (cc, grind arith, search rules) in
    let end = at-end _ _ _ _ _ _ c.loop-place.invariant (c.is_empty.ensures.0 empty) in
    end-above _ _ _ _ _ c.len-place.ensures.formed.over end

pub finish-requires-clause-apart : goal.finish-requires-clause-apart
finish-requires-clause-apart c =
    let empty : c.is_empty.result ≡ true = first_of (cc, grind arith, search rules) in
    let end = at-end _ _ _ _ _ _ c.loop-place.invariant (c.is_empty.ensures.0 empty) in
    end-apart _ _ _ _ _ (reached-backed _ _ _ c.requires.reached) end

pub returns-clause-learned : goal.returns-clause-learned
returns-clause-learned c =
    let empty : c.is_empty.result ≡ true = first_of (cc, grind arith, search rules) in
    let end = at-end _ _ _ _ _ _ c.loop-place.invariant (c.is_empty.ensures.0 empty) in
    record {
      ascending = c.finish.ensures.ascending;
      kept = λ l. (
        λ h. subst (λ (ls : List Literal). Contains ls l) end.literals ((c.finish.ensures.same l).0 h),
        λ h. (c.finish.ensures.same l).1 (subst (λ (ls : List Literal). Contains ls l) (sym end.literals) h),
      );
      hints = c.finish.ensures.hints ∙ end.hints;
    }

pub returns-clause-levels : goal.returns-clause-levels
returns-clause-levels c =
    let empty : c.is_empty.result ≡ true = first_of (cc, grind arith, search rules) in
    let end = at-end _ _ _ _ _ _ c.loop-place.invariant (c.is_empty.ensures.0 empty) in
    c.finish.ensures.levels ∙ end.levels

pub returns-clause-unmarked : goal.returns-clause-unmarked
returns-clause-unmarked c =
    let empty : c.is_empty.result ≡ true = first_of (cc, grind arith, search rules) in
    let end = at-end _ _ _ _ _ _ c.loop-place.invariant (c.is_empty.ensures.0 empty) in
    c.finish.ensures.marks ∙ (end.marks ∙ (ap unmarked c.requires.vars ∙ sym c.requires.unmarked))
