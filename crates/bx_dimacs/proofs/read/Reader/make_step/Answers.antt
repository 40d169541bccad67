use Rattle.std.proofs.Common.{map, ap, ◌∙◌, subst}
use Rattle.std.specs.List.{list_all}
use Rattle.bx_cnf.specs.Literals.{literal_of}
use Rattle.bx_dimacs.specs.Proofs.{AreOwnIds}
use Rattle.bx_dimacs.specs.ProofTexts.{is_clause_over, names_clause}
use Rattle.bx_dimacs.proofs.Stepping.{all_may}
use Rattle.bx_dimacs.proofs.read.Reader.make_step.Goals as goal

pub returns-clause-exact : goal.returns-clause-exact
returns-clause-exact c =
    all_may c.args.clauses.now c.args.ids.now c.args.own (map literal_of c.args.self.now.line.literals.items) c.args.self.now.line.hints.items
    c.vars.result c.len.result c.in_ok-is_over.is_over c.in_ok-are_named.are_named c.is_step.result
    c.deref-3.result.now c.deref-4.result.now c.find_literals.new.literals.items c.find_hints.new.hints.items
    c.vars.ensures.vars c.len.ensures.count c.if-not-is_over.false c.if-not-are_named.false (c.in_ok-is_over.ensures.exact ∙ ap (λ ns. is_clause_over c.vars.result (map literal_of ns)) c.deref.ensures.value) (c.in_ok-are_named.ensures.exact ∙ ap (list_all (names_clause c.len.result c.args.ids.now)) c.deref-2.ensures.value) c.requires.own c.requires.room c.vars.ensures.formed.vars
    (c.in_ok-is_over.ensures.clause c.if-not-is_over.false) (subst (λ ns. AreOwnIds c.len.result c.args.ids.now ns c.find_hints.new.hints.items) c.deref-2.ensures.value (c.in_ok-are_named.ensures.named c.if-not-are_named.false))
    c.deref-3.ensures.value c.deref-4.ensures.value c.is_step.ensures.0 c.is_step.ensures.1
