use Rattle.std.proofs.Common.{◌≡◌, ℕ, ◌+◌, ◌<◌, ◌==◌, Bool, true, List, length, get_or, map, drop, refl, sym, ◌∙◌, ap, subst, arith}
use Rattle.std.specs.Prelude.{All}
use Rattle.std.proofs.lemmas.List.Elements.{All-get_or}
use Rattle.bx_cnf.specs.Literals.{Literal}
use Rattle.bx_search.specs.States.{Assigned, is_assigned, current_level}
use Rattle.bx_search.specs.Marks.{Marking, with_mark, with_marks, level_at}
use Rattle.bx_search.proofs.Marking.{over-assigned, level-found, marks-more, sized-with_mark, left-with_mark, here-with_mark}
use Rattle.bx_search.proofs.marks.Marks.mark_all.Goals as goal

assigned-here : (trail : List Assigned) (clause : List Literal) (i : ℕ) (l : Literal) → All (λ (x : Literal). is_assigned trail x.var ≡ true) clause → i < length clause → l ≡ get_or clause i l → is_assigned trail l.var ≡ true
assigned-here trail clause i l all below at = subst (λ (x : Literal). is_assigned trail x.var ≡ true) (sym at) (All-get_or (λ (x : Literal). is_assigned trail x.var ≡ true) clause i l below all)

pub level_of-requires-clause-within : goal.level_of-requires-clause-within
level_of-requires-clause-within c =
    let e = assigned-here c.args.trail.now.entries c.args.clause.now c.loop-lit.lit-index c.lit-item.result c.requires.assigned (omega arith) c.lit-item.is in
    let within = over-assigned c.args.trail.now.vars c.args.trail.now.entries c.lit-item.result.var c.level-current.ensures.formed.over e in
    omega (arith, within.1, c.var-var.ensures.var)

pub mark-requires-clause-within : goal.mark-requires-clause-within
mark-requires-clause-within c =
    let e = assigned-here c.args.trail.now.entries c.args.clause.now c.loop-lit.lit-index c.lit-item.result c.requires.assigned (omega arith) c.lit-item.is in
    let within = over-assigned c.args.trail.now.vars c.args.trail.now.entries c.lit-item.result.var c.level-current.ensures.formed.over e in
    omega (arith, within.1, c.var-var.ensures.var, c.loop-lit.invariant.sized)

pub loop-lit-preserved : goal.loop-lit-preserved
loop-lit-preserved c =
    let trail : List Assigned = c.args.trail.now.entries in
    let l : Literal = c.lit-item.result in
    let m : Marking = c.loop-lit.self in
    let e = assigned-here trail c.args.clause.now c.loop-lit.lit-index l c.requires.assigned (omega arith) c.lit-item.is in
    let level : c.level_of.result ≡ level_at trail l.var = level-found trail l.var c.level_of.result e (λ a on is. c.level_of.ensures a on (is ∙ sym c.var-var.ensures.var)) in
    let here : Bool = (level_at trail l.var == current_level trail) in
    let marked : c.mark.new.self ≡ with_mark l.var here m =
    c.mark.ensures ∙ ap (λ (v : ℕ). with_mark v (c.level_of.result == c.level-current.result) m) c.var-var.ensures.var
    ∙ ap (λ (n : ℕ). with_mark l.var (n == c.level-current.result) m) level ∙ ap (λ (n : ℕ). with_mark l.var (level_at trail l.var == n) m) c.level-current.ensures.level in
    record {
      same = ap (λ (k : Marking). with_marks trail (map (λ (x : Literal). x.var) (drop (c.loop-lit.lit-index + 1) c.args.clause.now)) k) marked
          ∙ marks-more trail c.args.clause.now c.loop-lit.lit-index l m here (omega arith) c.lit-item.is refl ∙ c.loop-lit.invariant.same;
      sized = ap (λ (k : Marking). length k.marked) marked ∙ sized-with_mark l.var here m ∙ c.loop-lit.invariant.sized;
      left = omega (arith, ap (λ (k : Marking). k.left) marked, left-with_mark l.var here m, c.loop-lit.invariant.left);
      here = omega (arith, ap (λ (k : Marking). k.here) marked, here-with_mark l.var here m, c.loop-lit.invariant.here);
      level = c.level-current.ensures.level;
    }
