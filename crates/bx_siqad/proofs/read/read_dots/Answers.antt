use Rattle.std.proofs.Common.{◌≡◌, ◌++◌, ◌∷◌, [], true, map, sym, ap, subst, ◌∙◌, arith}
use Rattle.std.specs.List.{AllByRecursion}
use Rattle.bx_library.specs.Dots.{IsAscending}
use Rattle.bx_lines.specs.Lines.{text_of}
use Rattle.bx_siqad.specs.Designs.{IsDot}
use Rattle.bx_siqad.specs.Texts.{dot_line}
use Rattle.bx_lines.proofs.Above.{all_append}
use Rattle.bx_siqad.proofs.Stops.{dots_more}
use Rattle.bx_siqad.proofs.read.read_dots.Goals as goal

pub returns-then-not-may_follow : goal.returns-then-not-may_follow
returns-then-not-may_follow c = (
  c.loop-dot.dots.items,
  (omega (arith, c.len.ensures)),
  record {
    are = c.loop-dot.invariant.are;
    ascending = c.loop-dot.invariant.ascending;
    rest = c.loop-dot.rest.now;
    spelled = c.loop-dot.invariant.spelled;
    dot = c.in-Some.dot;
    behind = c.in-Some.behind.now;
    stands = c.in-Some.ensures.found;
    out_of_order = λ ascending.
        (let yes : c.may_follow.result ≡ true = c.may_follow.ensures.1 (subst (λ ds. IsAscending (ds ++ c.in-Some.dot ∷ [])) (sym c.deref.ensures.value) ascending) in
        cc);
  },
)

pub loop-dot-preserved : goal.loop-dot-preserved
loop-dot-preserved c =
    let ds = c.loop-dot.dots.items in
    let x = c.in-Some.dot in
    let items : c.push.new.self.items ≡ ds ++ x ∷ [] = c.in_ok-push.ensures.items in
    let yes : c.may_follow.result ≡ true = c.if-not-may_follow.false in
    let ascending : IsAscending (ds ++ x ∷ []) = subst (λ xs. IsAscending (xs ++ x ∷ [])) c.deref.ensures.value (c.may_follow.ensures.0 yes) in
    record {
      are = subst (AllByRecursion IsDot) (sym items) (all_append IsDot ds (x ∷ []) c.loop-dot.invariant.are (c.in-Some.ensures.found.is, tt));
      ascending = subst IsAscending (sym items) ascending;
      spelled = dots_more ds x c.args.text.now c.loop-dot.rest.now c.in-Some.behind.now c.loop-dot.invariant.spelled c.in-Some.ensures.found ∙ ap (λ xs. text_of (map dot_line xs) ++ c.in-Some.behind.now) (sym items);
    }
