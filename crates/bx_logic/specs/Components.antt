-- The search for components: which nets its parts may name.
use Rattle.std.specs.Prelude.{◌≡◌, ℕ, ◌<◌, ◌≤◌, ◌⊎◌, Bool, false, List, ◌∷◌, map, Option, Some, None, length, slice_index_or, All, Contains}
use Rattle.bx_logic.specs.declared.components.Step.{Step}
use Rattle.bx_logic.specs.declared.components.Step.TheVariants.{Enter, Leave}
use Rattle.bx_logic.specs.declared.components.Components.{Components}
use Rattle.bx_logic.specs.declared.components.Search.{Search}

abbrev pub net_of : Step → ℕ
net_of (Enter n) = n
net_of (Leave n) = n

-- the steps of a visit of a net that reads these: it is left once they are entered, the last one first
abbrev pub visit_of : ℕ → List ℕ → List Step
visit_of n reads = Leave n ∷ map Enter reads

-- the steps are of nets among so many
abbrev pub AreSteps : ℕ → List Step → Type 0
AreSteps nets steps = All (λ step. net_of step < nets) steps

-- there is a place and a rank for each net, and the open nets are among them
pub record AreComponents (nets : ℕ) (components : Components) : Type 0 where
  pub places : length components.places.items ≡ nets
  pub ranks : length components.ranks.items ≡ nets
  pub open_nets : All (λ n. n < nets) components.open_nets.items

-- of each net it is known whether it was entered, and the parts are of so many nets
pub record IsSearch (nets : ℕ) (search : Search) : Type 0 where
  pub components : AreComponents nets search.components
  pub seen : length search.seen.items ≡ nets
  pub steps : AreSteps nets search.steps.items

-- whether a net was entered
abbrev pub was_seen : List Bool → ℕ → Bool
was_seen seen n = slice_index_or seen n false

abbrev pub place_of : List (Option ℕ) → ℕ → Option ℕ
place_of places n = slice_index_or places n None

-- the smallest of a place and of the places that nets among these have
pub record IsLowestPlace (places : List (Option ℕ)) (nets : List ℕ) (place lowest : ℕ) : Type 0 where
  pub at_most : lowest ≤ place
  pub below : (n p : ℕ) → Contains nets n → place_of places n ≡ Some p → lowest ≤ p
  pub attained : (lowest ≡ place) ⊎ ((n : ℕ) × Contains nets n × (place_of places n ≡ Some lowest))
