-- Proofs to which steps can be added.
use Rattle.std.proofs.Common.{◌≡◌, ◌≢◌, ℕ, ◌+◌, ◌<◌, ◌≤◌, List, [], ◌∷◌, ◌++◌, length, get_or, Some, None, true, false, sym, ap, subst, ◌∙◌, arith, below_more}
use Rattle.std.specs.Prelude.{slice_get, IsSome, All}
use Rattle.std.specs.List.Sorted.{IsStrictlyIncreasing}
use Rattle.std.proofs.lemmas.List.{get_or_append_left, length-append}
use Rattle.std.proofs.lemmas.List.Elements.{All-push}
use Rattle.std.proofs.lemmas.Option.{slice_get_within, get_or_from_slice_get}
use Rattle.bx_cnf.specs.Formulas.{Formula}
use Rattle.bx_proof.specs.Steps.{Step, StepList}
use Rattle.bx_dimacs.specs.declared.proof.LratProof.{LratProof}
use Rattle.bx_dimacs.specs.Proofs.{AreBehind, IsOpen, IsRead}
use Rattle.bx_dimacs.proofs.Lists.{each_at}

-- one that nothing is added to is read
pub open_read : (formula : Formula) (read : LratProof) → IsOpen formula read → IsRead formula read
open_read formula read h = record {
  behind = h.behind;
  ended = λ k step at empty. absurd (each_at (λ (s : Step). s.literals ≢ []) read.steps.steps k step h.some at empty);
  unread = λ _. h.some;
}

-- a proof with one step more, of this id
pub record IsPushed (formula : Formula) (old new : LratProof) (s : Step) (id : ℕ) : Type 0 where
  pub steps : new.steps ≡ record { first = old.steps.first; steps = old.steps.steps ++ s ∷ [] }
  pub ids : new.ids.items ≡ old.ids.items ++ id ∷ []
  pub same : new.ill ≡ old.ill
  pub within : All (λ l. l.var ≤ formula.vars) s.literals
  pub ascending : IsStrictlyIncreasing (length formula.clauses ∷ new.ids.items)

-- its steps, as a list
steps_are : (formula : Formula) (old new : LratProof) (s : Step) (id : ℕ) → IsPushed formula old new s id → new.steps.steps ≡ old.steps.steps ++ s ∷ []
steps_are formula old new s id more = ap (λ (log : StepList). log.steps) more.steps

pub behind_push : (formula : Formula) (old new : LratProof) (s : Step) (id : ℕ) → IsPushed formula old new s id → IsOpen formula old → AreBehind formula new
behind_push formula old new s id more h =
    let Within : Step → Type 0 = λ t. All (λ l. l.var ≤ formula.vars) t.literals in
    let steps = steps_are formula old new s id more in
    let ids = ap length more.ids ∙ length-append old.ids.items (id ∷ []) in
    let count = ap length steps ∙ length-append old.steps.steps (s ∷ []) in
    let named = h.behind.named in
    record {
      numbered = ap (λ (log : StepList). log.first) more.steps ∙ h.behind.numbered;
      within = subst (All Within) (sym steps) (All-push Within old.steps.steps s h.behind.within more.within);
      named = omega (arith, ids, count, named);
      ascending = more.ascending;
    }

-- it is open where the step isn't empty
pub open_push : (formula : Formula) (old new : LratProof) (s : Step) (id : ℕ) → IsPushed formula old new s id → s.literals ≢ [] → IsOpen formula old → IsOpen formula new
open_push formula old new s id more some h =
    let Some : Step → Type 0 = λ t. t.literals ≢ [] in
    record {
      behind = behind_push formula old new s id more h;
      some = subst (All Some) (sym (steps_are formula old new s id more)) (All-push Some old.steps.steps s h.some some);
      well = more.same ∙ h.well;
    }

-- it is read where no more is to come
pub read_push : (formula : Formula) (old new : LratProof) (s : Step) (id : ℕ) → IsPushed formula old new s id → IsOpen formula old → IsRead formula new
read_push formula old new s id more h =
    let olds = old.steps.steps in
    let steps = steps_are formula old new s id more in
    let count = ap length steps ∙ length-append olds (s ∷ []) in
    let well : new.ill ≡ None = more.same ∙ h.well in
    let At : Step → ℕ → Type 0 = λ t k. slice_get new.steps.steps k ≡ Some t → t.literals ≡ [] → k + 1 ≡ length new.steps.steps in
    let front : (t : Step) (k : ℕ) → k < length olds → At t k = λ t k within at empty.
    let there : get_or olds k t ≡ t = sym (get_or_append_left olds (s ∷ []) t k within) ∙ ap (λ (ts : List Step). get_or ts k t) (sym steps) ∙ get_or_from_slice_get new.steps.steps k t t at in
    absurd (h.some k t within (ap (λ (u : Step). u.literals) there ∙ empty))
    in
    record {
      behind = behind_push formula old new s id more h;
      ended = λ k t at. let within = slice_get_within new.steps.steps k t at in below_more (At t) (length olds) (front t) (λ _ _. omega (arith, count)) k (omega (arith, within, count)) at;
      unread = λ some. let none : false ≡ true = subst IsSome well some in let never : ⊥ = cc in absurd never;
    }
