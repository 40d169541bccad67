-- Proofs for a formula as they are kept: steps by their own ids, which are those of their places behind the clauses, and
-- the ids that a text gives them.
use Rattle.std.specs.Prelude.{◌≡◌, ◌≢◌, ℕ, ◌+◌, ◌-◌, ◌≤◌, ◌<◌, ◌⊎◌, List, [], ◌∷◌, ◌++◌, length, slice_get, Some, None, IsSome, Ok, All, ℤ, pos, ⊤}
use Rattle.std.specs.List.Sorted.{IsStrictlyIncreasing}
use Rattle.bx_cnf.specs.Formulas.{Formula, IsClause}
use Rattle.bx_proof.specs.Steps.{Step, IsStep}
use Rattle.bx_dimacs.specs.declared.proof.LratProof.{LratProof}
use Rattle.bx_dimacs.specs.Keeping.{AreInOrder}
use Rattle.bx_dimacs.specs.ProofTexts.{StepText, ProofText, ids_of, proof_of}

-- steps are over variables 1 to this one
abbrev pub AreWithin : ℕ → List Step → Type 0
AreWithin vars steps = All (λ step. All (λ l. l.var ≤ vars) step.literals) steps

-- steps begin behind a formula's clauses, and are over its variables; each has an id, and ids ascend from
-- above those of the formula
pub record AreBehind (formula : Formula) (read : LratProof) : Type 0 where
  pub numbered : read.steps.first ≡ length formula.clauses + 1
  pub within : AreWithin formula.vars read.steps.steps
  pub named : length read.ids.items ≡ length read.steps.steps
  pub ascending : IsStrictlyIncreasing (length formula.clauses ∷ read.ids.items)

-- more steps can follow: none is empty, and none is ill
pub record IsOpen (formula : Formula) (read : LratProof) : Type 0 where
  pub behind : AreBehind formula read
  pub some : All (λ step. step.literals ≢ []) read.steps.steps
  pub well : read.ill ≡ None

-- a proof that was read: an empty step is the last, and where a step is ill none is empty
pub record IsRead (formula : Formula) (read : LratProof) : Type 0 where
  pub behind : AreBehind formula read
  pub ended : (k : ℕ) (step : Step) → slice_get read.steps.steps k ≡ Some step → step.literals ≡ [] → k + 1 ≡ length read.steps.steps
  pub unread : IsSome read.ill → All (λ step. step.literals ≢ []) read.steps.steps

-- a step of this id over the variables of a formula
pub record IsStepOver (formula : Formula) (id : ℕ) (s : Step) : Type 0 where
  pub step : IsStep id s
  pub clause : IsClause formula.vars s.literals

-- the own id of the clause that a text calls by this number: behind so many clauses, whose ids are the same
-- in both, come steps with these ids in the text
abbrev pub IsOwnId : ℕ → List ℕ → ℤ → ℕ → Type 0
IsOwnId count ids number own =
    ((0 < own) × (own ≤ count) × (number ≡ pos own))
    ⊎ ((count < own) × ((id : ℕ) × (number ≡ pos id) × (slice_get ids (own - (count + 1)) ≡ Some id)))

-- the own ids of the clauses that hints name, in order
abbrev pub AreOwnIds : ℕ → List ℕ → List ℤ → List ℕ → Type 0
AreOwnIds count ids [] [] = ⊤
AreOwnIds count ids [] (own ∷ more) = ⊥
AreOwnIds count ids (hint ∷ hints) [] = ⊥
AreOwnIds count ids (hint ∷ hints) (own ∷ more) = IsOwnId count ids hint own × AreOwnIds count ids hints more

-- a step of a text, as it is kept behind so many clauses and the steps of these ids
pub record IsStepKept (count : ℕ) (ids : List ℕ) (said : StepText) (step : Step) : Type 0 where
  pub literals : AreInOrder said.literals step.literals
  pub hints : AreOwnIds count ids said.hints step.hints

-- steps of a text, as they are kept behind so many clauses and the steps of these ids
abbrev pub AreStepsKept : ℕ → List ℕ → List StepText → List Step → Type 0
AreStepsKept count ids [] [] = ⊤
AreStepsKept count ids [] (step ∷ steps) = ⊥
AreStepsKept count ids (s ∷ said) [] = ⊥
AreStepsKept count ids (s ∷ said) (step ∷ steps) = IsStepKept count ids s step × AreStepsKept count (ids ++ s.id ∷ []) said steps

-- a proof keeps what a text says, for a formula
pub record KeepsSteps (formula : Formula) (text : ProofText) (read : LratProof) : Type 0 where
  pub steps : AreStepsKept (length formula.clauses) [] text.steps read.steps.steps
  pub ids : read.ids.items ≡ ids_of text.steps
  pub ill : read.ill ≡ text.ill

-- a proof is what bytes say, for a formula
pub record IsProofOf (formula : Formula) (bytes : List ℕ) (read : LratProof) : Type 0 where
  pub said : ProofText
  pub says : proof_of formula bytes ≡ Ok said
  pub keeps : KeepsSteps formula said read
