use Rattle.std.proofs.Common.{◌≡◌, ◌∙◌, ◌-◌, false, true, set, refl, ap, sym, subst, arith}
use Rattle.bx_cnf.specs.Literals.{Literal}
use Rattle.bx_watch.specs.Watching.{IsOver, Frees}
use Rattle.bx_queue.specs.Queue.{IsVariable, is_taken}
use Rattle.bx_search.specs.Trails.{Assignment}
use Rattle.bx_search.proofs.Solving.{last-over, last-assigned, frees, on-ok}
use Rattle.bx_search.proofs.solver.Solver.free_last.Goals as goal

pub freed-requires-clause-within : goal.freed-requires-clause-within
freed-requires-clause-within c =
    let (last, is, split) = c.pop-lit.ensures in
    let old = c.args.self.now in
    let over : IsOver old.trail.vars last.literal = last-over old.trail.vars old.trail.entries c.pop-lit.new.self.entries last c.requires.formed.over (ap (λ (t : Assignment). t.entries) split) in
    omega (arith, over.0, over.1, ap (λ (l : Literal). l.var) is, c.var.ensures.var, c.requires.agrees.vars, c.requires.agrees.takes.each_has)

pub freed-requires-clause-is_taken : goal.freed-requires-clause-is_taken
freed-requires-clause-is_taken c =
    let (last, is, split) = c.pop-lit.ensures in
    let old = c.args.self.now in
    let entries = ap (λ (t : Assignment). t.entries) split in
    let over : IsOver old.trail.vars last.literal = last-over old.trail.vars old.trail.entries c.pop-lit.new.self.entries last c.requires.formed.over entries in
    let variable : IsVariable old.clauses.now.vars last.literal.var = (omega (arith, over.0), omega (arith, over.1, c.requires.agrees.vars)) in
    let var : c.var.result ≡ last.literal.var = c.var.ensures.var ∙ ap (λ (l : Literal). l.var) (sym is) in
    subst (λ v. is_taken old.queue v ≡ true) (sym var)
    (c.requires.agrees.takes.same last.literal.var variable ∙ last-assigned old.trail.entries c.pop-lit.new.self.entries last entries)

pub returns : goal.returns
returns c =
    let (last, is, split) = c.pop-lit.ensures in
    let old = c.args.self.now in
    let entries = ap (λ (t : Assignment). t.entries) split in
    let var : c.var.result ≡ last.literal.var = c.var.ensures.var ∙ ap (λ (l : Literal). l.var) (sym is) in
    let var_2 : c.var-2.result ≡ last.literal.var = c.var-2.ensures.var ∙ ap (λ (l : Literal). l.var) (sym is) in
    let trail : c.pop-lit.new.self ≡ record old.trail { entries = c.pop-lit.new.self.entries } =
    sym (ap (λ (t : Assignment). record t { entries = c.pop-lit.new.self.entries }) split) in
    on-ok c.freed-2.result c.freed-2.ensures.ok (λ freed. (
      last,
      entries,
      frees old _ c.pop-lit.new.self.entries last c.requires.agrees c.requires.formed entries refl
          (subst (Frees old.watched c.freed-2.new.self) var_2 freed)
          (c.freed.ensures ∙ ap (λ v. record old.queue { taken = set old.queue.taken (v - 1) false }) var)
          trail refl refl refl refl,
    ))
