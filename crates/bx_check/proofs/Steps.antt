-- What the checks of single steps say of all.
use Rattle.std.proofs.Common.{◌≡◌, ℕ, List, Some, sym, ◌∙◌, ap}
use Rattle.std.specs.Prelude.{slice_get}
use Rattle.std.specs.Option.{option_map}
use Rattle.bx_proof.specs.Steps.{Step}

-- a part of the step that stands at a place
pub part_of : {B : Type 0} (f : Step → B) (steps : List Step) (k : ℕ) (s : Step) (x : B) → slice_get steps k ≡ Some s → option_map f (slice_get steps k) ≡ Some x → f s ≡ x
part_of f steps k s x at read = let e : Some (f s) ≡ Some x = sym (ap (option_map f) at) ∙ read in cc
