use Rattle.std.proofs.Common.{◌≡◌, ◌≢◌, ◌==◌, ℕ, ◌≤◌, true, false, List, [], ◌∷◌, ◌++◌, length, vec_len, Option, refl, sym, subst, ap, ◌∙◌, arith}
use Rattle.std.proofs.lemmas.Bool.{eq-eqb}
use Rattle.std.specs.Prelude.{All, Some}
use Rattle.bx_cnf.specs.Literals.{Literal}
use Rattle.bx_proof.specs.Steps.{Step}
use Rattle.bx_dimacs.specs.declared.proof.LratProof.{LratProof}
use Rattle.bx_dimacs.specs.declared.read.Progress.TheVariants.{On, Ended, Bad}
use Rattle.bx_dimacs.specs.Keeping.{AreInOrder}
use Rattle.bx_dimacs.specs.Proofs.{AreOwnIds}
use Rattle.bx_dimacs.specs.ProofTexts.{ProofText}
use Rattle.bx_dimacs.specs.StepsShown.{GoesOnAs, KeepsSoFar, step_of}
use Rattle.bx_dimacs.proofs.Ascending.{ids_push}
use Rattle.bx_dimacs.proofs.Open.{IsPushed, open_push, open_read, read_push}
use Rattle.bx_dimacs.proofs.Stepping.{ill_kept, last_seen, no_step_next, step_kept, step_next}
use Rattle.bx_dimacs.proofs.read.Reader.read_step.Goals as goal

abbrev step_with : List Literal → List ℕ → Step
step_with literals hints = record { literals = literals; hints = hints }

pub returns-then-id-last_id-clause-keeps : goal.returns-then-id-last_id-clause-keeps
returns-then-id-last_id-clause-keeps c = λ said so_far.
    let last = last_seen (length c.args.clauses.now.clauses) c.len.result c.last_id.result c.deref.result.now c.last_id.ensures c.len.ensures.count in
    subst (GoesOnAs c.args.clauses.now c.args.proof.now Bad)
    (sym (no_step_next c.args.clauses.now said (step_of c.args.self.now.line c.args.id) c.last_id.result c.deref.result.now last (c.deref.ensures.value ∙ so_far.0.ids) c.if-id-last_id.true)) tt

pub returns-then-not-branch-clause-stands : goal.returns-then-not-branch-clause-stands
returns-then-not-branch-clause-stands c =
    let behind = c.requires.behind in
    record {
      behind = record { numbered = behind.numbered; within = behind.within; named = behind.named; ascending = behind.ascending };
      ended = (open_read c.args.clauses.now c.args.proof.now c.requires).ended;
      unread = λ _. c.requires.some;
    }

pub returns-then-not-branch-clause-keeps : goal.returns-then-not-branch-clause-keeps
returns-then-not-branch-clause-keeps c = λ said so_far.
    let new : LratProof = record { steps = c.args.proof.now.steps; ids = c.args.proof.now.ids; ill = Some c.args.id } in
    let last = last_seen (length c.args.clauses.now.clauses) c.len.result c.last_id.result c.deref.result.now c.last_id.ensures c.len.ensures.count in
    subst (GoesOnAs c.args.clauses.now new Ended)
    (sym (step_next c.args.clauses.now said (step_of c.args.self.now.line c.args.id) c.last_id.result c.deref.result.now c.deref-2.result.now false last (c.deref.ensures.value ∙ so_far.0.ids) (c.deref-2.ensures.value ∙ so_far.0.ids) c.if-id-last_id.false (sym c.if-not-branch.true ∙ c.in_ok-make_step.ensures.exact)))
    (ill_kept c.args.clauses.now c.args.proof.now new said c.args.id so_far refl refl refl)

pub returns-then-is_empty-clause-stands : goal.returns-then-is_empty-clause-stands
returns-then-is_empty-clause-stands c =
    let read : LratProof = record { steps = c.push-2.new.self; ids = c.push.new.self; ill = c.args.proof.now.ill } in
    let pushed : IsPushed c.args.clauses.now c.args.proof.now read (step_with c.deref-3.result.now c.deref-4.result.now) c.args.id = record {
      steps = c.in_ok-push-2.ensures.ok;
      ids = c.in_ok-push.ensures.items;
      same = refl;
      within = subst (All (λ l. l.var ≤ c.args.clauses.now.vars)) (sym c.deref-3.ensures.value) (c.in_ok-make_step.ensures.over c.if-not-branch.false).clause.within;
      ascending = ids_push (length c.args.clauses.now.clauses) c.len.result c.last_id.result c.args.id c.args.proof.now.ids.items c.deref.result.now c.push.new.self.items c.last_id.ensures c.len.ensures.count c.deref.ensures.value c.if-id-last_id.false c.in_ok-push.ensures.items c.requires.behind.ascending;
    } in
    read_push _ _ _ _ _ pushed c.requires

pub returns-then-is_empty-clause-keeps : goal.returns-then-is_empty-clause-keeps
returns-then-is_empty-clause-keeps c = λ said so_far.
    let read : LratProof = record { steps = c.push-2.new.self; ids = c.push.new.self; ill = c.args.proof.now.ill } in
    let one : Step = step_with c.deref-3.result.now c.deref-4.result.now in
    let pushed : IsPushed c.args.clauses.now c.args.proof.now read one c.args.id = record {
      steps = c.in_ok-push-2.ensures.ok;
      ids = c.in_ok-push.ensures.items;
      same = refl;
      within = subst (All (λ l. l.var ≤ c.args.clauses.now.vars)) (sym c.deref-3.ensures.value) (c.in_ok-make_step.ensures.over c.if-not-branch.false).clause.within;
      ascending = ids_push (length c.args.clauses.now.clauses) c.len.result c.last_id.result c.args.id c.args.proof.now.ids.items c.deref.result.now c.push.new.self.items c.last_id.ensures c.len.ensures.count c.deref.ensures.value c.if-id-last_id.false c.in_ok-push.ensures.items c.requires.behind.ascending;
    } in
    let last = last_seen (length c.args.clauses.now.clauses) c.len.result c.last_id.result c.deref.result.now c.last_id.ensures c.len.ensures.count in
    let s = step_of c.args.self.now.line c.args.id in
    let next = step_next c.args.clauses.now said s c.last_id.result c.deref.result.now c.deref-2.result.now true last (c.deref.ensures.value ∙ so_far.0.ids) (c.deref-2.ensures.value ∙ so_far.0.ids) c.if-id-last_id.false (sym c.if-not-branch.false ∙ c.in_ok-make_step.ensures.exact) in
    let ordered = subst (AreInOrder s.literals) (sym c.deref-3.ensures.value) (c.in_ok-make_step.ensures.ordered c.if-not-branch.false) in
    let named = subst (AreOwnIds (length c.args.clauses.now.clauses) c.args.proof.now.ids.items s.hints) (sym c.deref-4.ensures.value) (subst (λ ids. AreOwnIds (length c.args.clauses.now.clauses) ids s.hints c.make_step.new.self.hints.items) c.deref-2.ensures.value (c.in_ok-make_step.ensures.named c.if-not-branch.false)) in
    let over : (length one.literals == 0) ≡ true = ap (λ n. n == 0) c.deref-3.ensures.len ∙ sym c.is_empty.ensures ∙ c.if-is_empty.true in
    subst (GoesOnAs c.args.clauses.now read Ended) (sym next) (subst (λ b. KeepsSoFar c.args.clauses.now read b (record said { steps = said.steps ++ s ∷ [] })) over (step_kept c.args.clauses.now c.args.proof.now read said s one pushed so_far ordered named))

pub returns-else-is_empty-clause-stands : goal.returns-else-is_empty-clause-stands
returns-else-is_empty-clause-stands c =
    let read : LratProof = record { steps = c.push-2.new.self; ids = c.push.new.self; ill = c.args.proof.now.ill } in
    let pushed : IsPushed c.args.clauses.now c.args.proof.now read (step_with c.deref-3.result.now c.deref-4.result.now) c.args.id = record {
      steps = c.in_ok-push-2.ensures.ok;
      ids = c.in_ok-push.ensures.items;
      same = refl;
      within = subst (All (λ l. l.var ≤ c.args.clauses.now.vars)) (sym c.deref-3.ensures.value) (c.in_ok-make_step.ensures.over c.if-not-branch.false).clause.within;
      ascending = ids_push (length c.args.clauses.now.clauses) c.len.result c.last_id.result c.args.id c.args.proof.now.ids.items c.deref.result.now c.push.new.self.items c.last_id.ensures c.len.ensures.count c.deref.ensures.value c.if-id-last_id.false c.in_ok-push.ensures.items c.requires.behind.ascending;
    } in
    let some : c.deref-3.result.now ≢ [] = λ empty.
    let none : length c.deref-3.result.now ≡ 0 = ap length empty in
    let count : vec_len c.make_step.new.self.literals ≡ 0 = omega (arith, none, c.deref-3.ensures.len) in
    let clash : false ≡ true = sym c.if-is_empty.false ∙ c.is_empty.ensures ∙ eq-eqb (vec_len c.make_step.new.self.literals) 0 count in
    cc
    in
    open_push _ _ _ _ _ pushed some c.requires

pub returns-else-is_empty-clause-keeps : goal.returns-else-is_empty-clause-keeps
returns-else-is_empty-clause-keeps c = λ said so_far.
    let read : LratProof = record { steps = c.push-2.new.self; ids = c.push.new.self; ill = c.args.proof.now.ill } in
    let one : Step = step_with c.deref-3.result.now c.deref-4.result.now in
    let pushed : IsPushed c.args.clauses.now c.args.proof.now read one c.args.id = record {
      steps = c.in_ok-push-2.ensures.ok;
      ids = c.in_ok-push.ensures.items;
      same = refl;
      within = subst (All (λ l. l.var ≤ c.args.clauses.now.vars)) (sym c.deref-3.ensures.value) (c.in_ok-make_step.ensures.over c.if-not-branch.false).clause.within;
      ascending = ids_push (length c.args.clauses.now.clauses) c.len.result c.last_id.result c.args.id c.args.proof.now.ids.items c.deref.result.now c.push.new.self.items c.last_id.ensures c.len.ensures.count c.deref.ensures.value c.if-id-last_id.false c.in_ok-push.ensures.items c.requires.behind.ascending;
    } in
    let last = last_seen (length c.args.clauses.now.clauses) c.len.result c.last_id.result c.deref.result.now c.last_id.ensures c.len.ensures.count in
    let s = step_of c.args.self.now.line c.args.id in
    let next = step_next c.args.clauses.now said s c.last_id.result c.deref.result.now c.deref-2.result.now true last (c.deref.ensures.value ∙ so_far.0.ids) (c.deref-2.ensures.value ∙ so_far.0.ids) c.if-id-last_id.false (sym c.if-not-branch.false ∙ c.in_ok-make_step.ensures.exact) in
    let ordered = subst (AreInOrder s.literals) (sym c.deref-3.ensures.value) (c.in_ok-make_step.ensures.ordered c.if-not-branch.false) in
    let named = subst (AreOwnIds (length c.args.clauses.now.clauses) c.args.proof.now.ids.items s.hints) (sym c.deref-4.ensures.value) (subst (λ ids. AreOwnIds (length c.args.clauses.now.clauses) ids s.hints c.make_step.new.self.hints.items) c.deref-2.ensures.value (c.in_ok-make_step.ensures.named c.if-not-branch.false)) in
    let on : (length one.literals == 0) ≡ false = ap (λ n. n == 0) c.deref-3.ensures.len ∙ sym c.is_empty.ensures ∙ c.if-is_empty.false in
    subst (GoesOnAs c.args.clauses.now read On) (sym next) (subst (λ b. KeepsSoFar c.args.clauses.now read b (record said { steps = said.steps ++ s ∷ [] })) on (step_kept c.args.clauses.now c.args.proof.now read said s one pushed so_far ordered named))
