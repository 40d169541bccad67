-- What an input sends out: the value that it is given, on each side that it uses.
use Rattle.std.proofs.Common.{◌≡◌, ℕ, Bool, true, false, List, [], ◌∷◌, Option, Some, sym, ap, ◌∙◌}
use Rattle.std.specs.Prelude.{if◌then◌else◌}
use Rattle.bx_logic.specs.Values.{value_of}
use Rattle.bx_forms.specs.declared.kind.Kind.{Kind}
use Rattle.bx_forms.specs.declared.kind.Kind.TheVariants.{Input}
use Rattle.bx_forms.specs.declared.side.Side.{Side}
use Rattle.bx_forms.specs.Forms.{form_node, form_lower, form_sends}
use Rattle.bx_forms.specs.Sides.{is_used}
use Rattle.bx_forms.proofs.Nodes.{node-sends}
use Rattle.bx_layout.specs.Grids.{FormGrid, form_at, node_in}
use Rattle.bx_layout.specs.Valuations.{reads_given, comes_in, sent_value}
use Rattle.bx_layout.proofs.Valuations.{sent_at}
use Rattle.bx_layout.proofs.Wires.{unused-sends}

pub used-input : (form : ℕ) (value : Bool) (side : Side) → form_node form ≡ Some Input → is_used (form_lower form) side ≡ true → value ≡ form_sends form (value ∷ []) side
used-input form value side node used = sym (node-sends form Input node side 0 used (value ∷ []))

pub unused-input : (form : ℕ) (value : Bool) (side : Side) → is_used (form_lower form) side ≡ false → false ≡ form_sends form (value ∷ []) side
unused-input form value side unused = sym (unused-sends form (value ∷ []) side unused)

-- what the tile of an input sends out
pub input-sent : (g : FormGrid) (given borders : List Bool) (t form : ℕ) (value : Bool) (side : Side) → form_at g t ≡ Some form → form_node form ≡ Some Input → value ≡ value_of given t →
    form_sends form (value ∷ []) side ≡ sent_at g given borders t side
input-sent g given borders t form value side is node same =
    ap (λ (b : Bool). form_sends form (b ∷ []) side) same
    ∙ sym (ap (λ (k : Option Kind). form_sends form (if reads_given k then value_of given t ∷ [] else comes_in g borders t) side) node)
    ∙ sym (ap (λ (o : Option ℕ). sent_value o (if reads_given (node_in o) then value_of given t ∷ [] else comes_in g borders t) side) is)
