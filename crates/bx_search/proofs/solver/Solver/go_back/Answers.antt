use Rattle.std.proofs.Common.{◌∙◌, List, length, ap, sym, subst}
use Rattle.std.specs.Prelude.{All}
use Rattle.bx_cnf.specs.Literals.{Literal}
use Rattle.bx_queue.specs.Queue.{IsVariable}
use Rattle.bx_search.specs.Searching.{moved_in_turn}
use Rattle.bx_search.proofs.Solving.{clause-variables, reordered}
use Rattle.bx_search.proofs.solver.Solver.go_back.Goals as goal

pub move_to_front-requires : goal.move_to_front-requires
move_to_front-requires c =
    let s = c.args.self.now in
    subst (λ (ls : List Literal). All (λ l. IsVariable (length s.queue.taken) l.var) ls) (sym c.deref.ensures.value)
    (subst (λ n. All (λ (l : Literal). IsVariable n l.var) s.analysis.literals.items) (sym c.requires.agrees.takes.each_has)
    (clause-variables s.clauses.now.vars s.analysis.literals.items c.requires.clause))

pub backtrack-requires : goal.backtrack-requires
backtrack-requires c =
    let s = c.args.self.now in
    reordered s s.analysis.literals.items c.move_to_front.new.queue c.requires.agrees c.requires.clause
    (c.move_to_front.ensures ∙ ap (λ (ls : List Literal). record s.queue { order = moved_in_turn ls s.queue.order }) c.deref.ensures.value)
