-- The values that variables have by the literals that are taken to be true.
use Rattle.std.specs.Prelude.{◌≡◌, ◌≢◌, ℕ, ◌-◌, ◌<◌, ◌↔◌, Bool, List, length, sum_by, Option, Some, None, nat_lt, slice_index_or, Contains, if◌then◌else◌}
use Rattle.std.specs.Ordering.{nat_cmp}
use Rattle.std.specs.BTreeMap as tree
use Rattle.bx_cnf.specs.Literals.{Literal}
use Rattle.bx_check.specs.declared.values.Values.{Values}

-- the value of a variable, if it has one: that of one of the first stands in a list, and that of another in a map
abbrev pub value_of : Values → ℕ → Option Bool
value_of values var =
    if nat_lt (length values.first.items) var then tree.get nat_cmp values.others var
    else slice_index_or values.first.items (var - 1) None

-- a variable has this value then, or none, and each other one has its own
pub record Sets (old new : Values) (var : ℕ) (value : Option Bool) : Type 0 where
  pub this : value_of new var ≡ value
  pub others : (v : ℕ) → 0 < v → v ≢ var → value_of new v ≡ value_of old v

-- a variable has a value exactly where its literal of this value is among those taken to be true
pub record AreValues (values : Values) (trues : List Literal) : Type 0 where
  pub marked : (l : Literal) → 0 < l.var → Contains trues l ↔ (value_of values l.var ≡ Some l.positive)

-- how many literals clauses have
abbrev pub literal_count : List (List Literal) → ℕ
literal_count clauses = sum_by (λ c. length c) clauses
