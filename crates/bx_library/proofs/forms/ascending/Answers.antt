use Rattle.std.proofs.Common.{◌≡◌, ◌+◌, ◌<◌, ◌≤◌, true, false, inl, inr, length, get_or, take, refl, sym, ap, ◌∙◌, subst, rules, arith, below_more}
use Rattle.std.proofs.lemmas.Bool.{cases_lt}
use Rattle.std.proofs.lemmas.List.{take_more, take_all}
use Rattle.std.specs.BTreeSet.{contains}
use Rattle.bx_library.specs.declared.dot.Dot.{Dot}
use Rattle.bx_library.specs.Dots.{HaveSameDots, IsAscending, dot_cmp}
use Rattle.bx_library.specs.Faults.{IsRepeatAt}
use Rattle.bx_library.proofs.Checks.{repeat_at, no_repeat_at, no_repeat_past}
use Rattle.bx_library.proofs.DotSets.{no_dot, in_set, seen_more, not_false, not_true, fresh, count_more, ascending_from_sorted}
use Rattle.bx_library.proofs.forms.ascending.Goals as goal

pub returns-then-not-branch-clause-err : goal.returns-then-not-branch-clause-err
returns-then-not-branch-clause-err c = λ _.
    let dot : Dot = get_or c.args.dots.now c.loop-k.k no_dot in
    let below : c.loop-k.k < length c.args.dots.now = omega arith in
    let again : contains dot_cmp c.loop-k.seen dot ≡ true = not_false (contains dot_cmp c.loop-k.seen dot) (sym c.if-not-branch.true ∙ c.in_ok-insert.ensures.added) in
    record {
      number = c.loop-k.k;
      least = record {
        holds = repeat_at c.args.dots.now c.loop-k.k no_dot below ((c.loop-k.invariant.same dot).1 (in_set c.loop-k.seen dot again));
        none_before = c.loop-k.invariant.none;
      };
      is = refl;
    }

pub loop-k-preserved : goal.loop-k-preserved
loop-k-preserved c =
    let dot : Dot = get_or c.args.dots.now c.loop-k.k no_dot in
    let below : c.loop-k.k < length c.args.dots.now = omega arith in
    let new : contains dot_cmp c.loop-k.seen dot ≡ false = not_true (contains dot_cmp c.loop-k.seen dot) (sym c.if-not-branch.false ∙ c.in_ok-insert.ensures.added) in
    record {
      same = subst (λ l. HaveSameDots l c.insert.new.self.keys) (sym (take_more c.args.dots.now c.loop-k.k no_dot below))
          (seen_more (take c.loop-k.k c.args.dots.now) dot c.loop-k.seen c.insert.new.self c.loop-k.invariant.same c.in_ok-insert.ensures.updates);
      none = below_more (λ j. IsRepeatAt c.args.dots.now j → ⊥) c.loop-k.k c.loop-k.invariant.none
          (no_repeat_at c.args.dots.now c.loop-k.k no_dot (λ h. fresh c.loop-k.seen dot new ((c.loop-k.invariant.same dot).0 h)));
      ordered = c.in_ok-insert.ensures.ordered;
      count = count_more (length c.loop-k.seen.keys) (length c.insert.new.self.keys) c.in_ok-insert.field-0 c.if-not-branch.false c.in_ok-insert.ensures.len ∙ ap (λ n. n + 1) c.loop-k.invariant.count;
    }

pub returns-clause-ascending : goal.returns-clause-ascending
returns-clause-ascending c =
    let items : c.in_ok-collect.field-0.items ≡ c.loop-k.seen.keys = search rules in
    subst IsAscending (sym items) (ascending_from_sorted c.loop-k.seen.keys c.loop-k.invariant.ordered)

pub returns-clause-same : goal.returns-clause-same
returns-clause-same c =
    let items : c.in_ok-collect.field-0.items ≡ c.loop-k.seen.keys = search rules in
    let past : length c.args.dots.now ≤ c.loop-k.k = omega arith in
    subst (HaveSameDots c.args.dots.now) (sym items) (subst (λ l. HaveSameDots l c.loop-k.seen.keys) (take_all c.loop-k.k c.args.dots.now past) c.loop-k.invariant.same)

pub returns-clause-free : goal.returns-clause-free
returns-clause-free c = λ k again. elim (cases_lt k c.loop-k.k) [
  | inl before ↦ c.loop-k.invariant.none k before again
  | inr past ↦ no_repeat_past c.args.dots.now k (omega arith) again
]
