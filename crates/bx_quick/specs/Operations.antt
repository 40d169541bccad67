-- Operations on lanes: where the tile of one stands, and which form it has. That two lanes are taken or
-- given is what the form says: it uses both sides above or below.
use Rattle.std.specs.Prelude.{ℕ, ◌+◌, ◌==◌, ◌&&◌, Bool}
use Rattle.bx_forms.specs.declared.kind.Kind.{Kind}
use Rattle.bx_forms.specs.declared.kind.Kind.TheVariants.{Input, Output, Not, Fan, And, Or, Nand, Nor, Xor, Xnor}
use Rattle.bx_forms.specs.declared.side.Sides.{Sides}
use Rattle.bx_forms.specs.Forms.{form_upper, form_lower}
use Rattle.bx_quick.specs.declared.operation.Operation.{Operation}

-- forms by their names, each the number of its line in the table
abbrev pub input_l : ℕ
input_l = 0

abbrev pub input_r : ℕ
input_r = 1

abbrev pub output_l : ℕ
output_l = 2

abbrev pub wire_ll : ℕ
wire_ll = 4

abbrev pub wire_lr : ℕ
wire_lr = 5

abbrev pub wire_rl : ℕ
wire_rl = 6

abbrev pub wire_rr : ℕ
wire_rr = 7

abbrev pub cross : ℕ
cross = 27

-- the form of the operation that a node is: what comes in stands on the left, or on both sides, and
-- what goes out leaves on the left, or on both
abbrev pub node_form : Kind → ℕ
node_form Input = input_l
node_form Output = output_l
node_form Not = 8
node_form Fan = 12
node_form And = 14
node_form Or = 16
node_form Nand = 18
node_form Nor = 20
node_form Xor = 22
node_form Xnor = 24

-- of the lanes that meet on these sides of the tile at this lane, lane x is the right one of two
abbrev pub is_right_of_two : Sides → ℕ → ℕ → Bool
is_right_of_two sides lane x = sides.left && sides.right && (x == lane + 1)

-- lane x is the right one of two that the operation takes, and of two that it gives
abbrev pub takes_as_right : Operation → ℕ → Bool
takes_as_right op x = is_right_of_two (form_upper op.form) op.lane x

abbrev pub gives_as_right : Operation → ℕ → Bool
gives_as_right op x = is_right_of_two (form_lower op.form) op.lane x
