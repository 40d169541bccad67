-- The pulse is asked for what the budget pays, however the search ends.
use Rattle.bx_verdict.proofs.Stopping.{few-asks}
use Rattle.bx_verdict.proofs.verdict.search.Goals as goal

pub returns-in_err-bits-clause-at_most : goal.returns-in_err-bits-clause-at_most
returns-in_err-bits-clause-at_most g c = few-asks c.args.clauses.now c.args.budget _ _ c.requires.formed c.solve.ensures.at_most

pub returns-in-Sat-clause-at_most : goal.returns-in-Sat-clause-at_most
returns-in-Sat-clause-at_most g c = few-asks c.args.clauses.now c.args.budget _ _ c.requires.formed c.solve.ensures.at_most

pub returns-in-Unsat-clause-at_most : goal.returns-in-Unsat-clause-at_most
returns-in-Unsat-clause-at_most g c = few-asks c.args.clauses.now c.args.budget _ _ c.requires.formed c.solve.ensures.at_most

pub returns-in-Undecided-clause-at_most : goal.returns-in-Undecided-clause-at_most
returns-in-Undecided-clause-at_most g c = few-asks c.args.clauses.now c.args.budget _ _ c.requires.formed c.solve.ensures.at_most

pub returns-in-Stopped-clause-at_most : goal.returns-in-Stopped-clause-at_most
returns-in-Stopped-clause-at_most g c = few-asks c.args.clauses.now c.args.budget _ _ c.requires.formed c.solve.ensures.at_most
