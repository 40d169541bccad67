use Rattle.std.proofs.Common.{subst}
use Rattle.bx_search.specs.Solving.{GoesTo, Moves}
use Rattle.bx_search.specs.declared.solver.Solver.{Solver}
use Rattle.bx_search.specs.declared.tally.Tally.{Tally}
use Rattle.bx_search.specs.declared.solver.Next.TheVariants.{Assigned as Grows, Conflict, Complete}
use Rattle.bx_search.proofs.Going.{moves-more, moves-conflict, moves-complete, finds-complete}
use Rattle.bx_search.proofs.solver.Solver.settle.Goals as goal

-- what was counted is no part of a search's state
retold : (old new : Solver) (tally : Tally) → Moves old new → Moves old (record new { tally = tally })
retold old new tally moves =
    let is = moves.agrees in
    record {
      agrees = record {
        formed = is.formed;
        watches = is.watches;
        vars = is.vars;
        ordered = is.ordered;
        takes = is.takes;
        phased = is.phased;
        numbered = is.numbered;
        unmarked = is.unmarked;
      };
      formula = moves.formula;
      steps = moves.steps;
      spent = moves.spent;
      reached = moves.reached;
    }

pub loop-id-preserved : goal.loop-id-preserved
loop-id-preserved c =
    let goes : GoesTo c.loop-id.self c.next.new.self Grows = subst (GoesTo c.loop-id.self c.next.new.self) c.in-Assigned.is c.in_ok-next.ensures in
    moves-more c.args.self.now c.loop-id.self c.next.new.self c.loop-id.invariant goes

pub returns-in-Conflict-clause-moves : goal.returns-in-Conflict-clause-moves
returns-in-Conflict-clause-moves c =
    let goes : GoesTo c.loop-id.self c.next.new.self (Conflict c.in-Conflict.id) = subst (GoesTo c.loop-id.self c.next.new.self) c.in-Conflict.is c.in_ok-next.ensures in
    retold c.args.self.now c.next.new.self c.add_conflict.new.self
    (moves-conflict c.args.self.now c.loop-id.self c.next.new.self c.in-Conflict.id c.loop-id.invariant goes)

pub returns-in-Complete-clause-moves : goal.returns-in-Complete-clause-moves
returns-in-Complete-clause-moves c =
    let goes : GoesTo c.loop-id.self c.next.new.self Complete = subst (GoesTo c.loop-id.self c.next.new.self) c.in-Complete.is c.in_ok-next.ensures in
    moves-complete c.args.self.now c.loop-id.self c.next.new.self c.loop-id.invariant goes

pub returns-in-Complete-clause-finds : goal.returns-in-Complete-clause-finds
returns-in-Complete-clause-finds c =
    let goes : GoesTo c.loop-id.self c.next.new.self Complete = subst (GoesTo c.loop-id.self c.next.new.self) c.in-Complete.is c.in_ok-next.ensures in
    finds-complete c.loop-id.self c.next.new.self goes
