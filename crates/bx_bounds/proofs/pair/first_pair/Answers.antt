use Rattle.std.proofs.Common.{ℕ, arith, subst}
use borrow.Author.Count.{below_more}
use Rattle.bx_grid.specs.declared.count.CountProof.TheVariants.{Pair}
use Rattle.bx_bounds.specs.Numbers.{IsLeast}
use Rattle.bx_bounds.specs.Refutes.{Refutes}
use Rattle.bx_bounds.proofs.Firsts.{pair-first, pair-none}
use Rattle.bx_bounds.proofs.pair.first_pair.Goals as goal

pub returns-in-Some : goal.returns-in-Some
returns-in-Some c =
    pair-first c.args.net.now c.args.ratio c.loop-one.one c.in-Some.two
    (subst (IsLeast (λ v. Refutes c.args.net.now c.args.ratio (Pair c.loop-one.one v))) c.in-Some.is c.first_pair_with.ensures) c.loop-one.invariant

pub loop-one-preserved : goal.loop-one-preserved
loop-one-preserved c = λ u v low.
    below_more (λ (u : ℕ). (v : ℕ) → Refutes c.args.net.now c.args.ratio (Pair u v) → ⊥) c.loop-one.one (λ u low v. c.loop-one.invariant u v low)
    (subst (IsLeast (λ v. Refutes c.args.net.now c.args.ratio (Pair c.loop-one.one v))) c.in_default.is c.first_pair_with.ensures) u low v

pub returns : goal.returns
returns c = pair-none c.args.net.now c.args.ratio (λ u v h. let low = h.0 in let high = h.1 in c.loop-one.invariant u v (omega arith) h)
