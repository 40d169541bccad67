-- Operations that follow one another: each stands on the lanes that the one before left.
use Rattle.std.specs.Prelude.{◌≡◌, ◌≢◌, ℕ, ◌+◌, ◌*◌, ◌<◌, ◌≤◌, Bool, false, IsTrue, List, [], ◌∷◌, length, Some, None}
use Rattle.bx_forms.specs.declared.kind.Kind.TheVariants.{Input, Output}
use Rattle.bx_forms.specs.declared.side.Side.{Side}
use Rattle.bx_forms.specs.declared.side.Side.TheVariants.{Left, Right}
use Rattle.bx_forms.specs.Forms.{form_node, form_upper, form_lower, form_sends}
use Rattle.bx_forms.specs.Sides.{side_count, used_values}
use Rattle.bx_layout.specs.Grids.{FormGrid}
use Rattle.bx_quick.specs.declared.operation.Operation.{Operation}
use Rattle.bx_quick.specs.Operations.{takes_as_right}
use Rattle.bx_quick.specs.Grids.{rows_of}

-- how many lanes the operation takes, and how many it gives
abbrev pub takes_count : Operation → ℕ
takes_count op = side_count (form_upper op.form)

abbrev pub gives_count : Operation → ℕ
gives_count op = side_count (form_lower op.form)

-- the operation stands on lanes that are there, the last ones where it takes more or fewer than it
-- gives, and leaves so many
pub record IsStep (op : Operation) (next : ℕ) : Type 0 where
  pub takes_left : IsTrue (form_upper op.form).left
  pub gives_left : IsTrue (form_lower op.form).left
  pub within : op.lane + takes_count op ≤ op.lanes
  pub last : takes_count op ≢ gives_count op → op.lane + takes_count op ≡ op.lanes
  pub leaves : next + takes_count op ≡ op.lanes + gives_count op
  pub no_input : form_node op.form ≢ Some Input
  pub no_output : form_node op.form ≢ Some Output

-- from s lanes on these operations follow one another, t lanes are left, and there are never more
-- than w
abbrev pub IsChain : ℕ → ℕ → List Operation → ℕ → Type 0
IsChain w s [] t = (s ≤ w) × (s ≡ t)
IsChain w s (op ∷ ops) t =
    (next : ℕ) × (s ≤ w) × (op.lanes ≡ s) × IsStep op next × IsChain w next ops t

-- the grid of such operations, of this width
abbrev pub chain_grid : ℕ → List Operation → ℕ → FormGrid
chain_grid w ops t = record {
  ratio = record { w = w; h = 2 * length ops + 2 };
  tiles = rows_of w t None ops;
}

-- what the operation's tile sends on a side, where the lanes have these values
abbrev pub sent_by : Operation → (ℕ → Bool) → Side → Bool
sent_by op lanes side =
    form_sends op.form (used_values (form_upper op.form) (lanes op.lane) (lanes (op.lane + 1))) side

-- behind the operation its lanes have what its tile sends, and every other lane has what it had
pub record Passes (op : Operation) (before after : ℕ → Bool) : Type 0 where
  pub left : after op.lane ≡ sent_by op before Left
  pub right : IsTrue (form_lower op.form).right → after (op.lane + 1) ≡ sent_by op before Right
  pub others : (x : ℕ) → x ≢ op.lane → x < op.lanes → takes_as_right op x ≡ false →
      after x ≡ before x

-- these operations make of values on the lanes those others
abbrev pub AreCarried : List Operation → (ℕ → Bool) → (ℕ → Bool) → Type 0
AreCarried [] before after = (x : ℕ) → before x ≡ after x
AreCarried (op ∷ ops) before after =
    (between : ℕ → Bool) × Passes op before between × AreCarried ops between after
