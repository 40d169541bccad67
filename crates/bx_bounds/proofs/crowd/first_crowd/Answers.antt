use Rattle.std.proofs.Common.{ℕ, arith, subst}
use borrow.Author.Count.{below_more}
use Rattle.bx_grid.specs.declared.count.CountProof.TheVariants.{Crowd}
use Rattle.bx_bounds.specs.Numbers.{IsLeast}
use Rattle.bx_bounds.specs.Refutes.{Refutes}
use Rattle.bx_bounds.proofs.Firsts.{crowd-first, crowd-none}
use Rattle.bx_bounds.proofs.crowd.first_crowd.Goals as goal

pub returns-in-Some : goal.returns-in-Some
returns-in-Some c =
    crowd-first c.args.net.now c.args.ratio c.loop-first.first c.in-Some.last
    (subst (IsLeast (λ b. Refutes c.args.net.now c.args.ratio (Crowd c.loop-first.first b))) c.in-Some.is c.first_crowd_from.ensures) c.loop-first.invariant

pub loop-first-preserved : goal.loop-first-preserved
loop-first-preserved c = λ a b low.
    below_more (λ (a : ℕ). (b : ℕ) → Refutes c.args.net.now c.args.ratio (Crowd a b) → ⊥) c.loop-first.first (λ a low b. c.loop-first.invariant a b low)
    (subst (IsLeast (λ b. Refutes c.args.net.now c.args.ratio (Crowd c.loop-first.first b))) c.in_default.is c.first_crowd_from.ensures) a low b

pub returns : goal.returns
returns c = crowd-none c.args.net.now c.args.ratio (λ a b h. let first = h.0 in let last = h.1 in c.loop-first.invariant a b (omega arith) h)
