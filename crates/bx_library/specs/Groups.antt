-- The groups of forms. Which of its forms a tile has is told by its dots and by where it stands: in
-- the first row stand inputs alone, in the last row outputs alone, and between them the others. So
-- two forms of one group may not have the same dots.
use Rattle.std.specs.Prelude.{ℕ, Option, Some}
use Rattle.bx_forms.specs.declared.kind.Kind.{Kind}
use Rattle.bx_forms.specs.declared.kind.Kind.TheVariants as kind
use Rattle.bx_forms.specs.Forms.{form_node}
use Rattle.bx_library.specs.declared.group.Group.{Group}
use Rattle.bx_library.specs.declared.group.Group.TheVariants.{Inputs, Outputs, Others}

-- the group of a form that holds a node of this kind, or none
abbrev pub group_with : Option Kind → Group
group_with (Some kind.Input) = Inputs
group_with (Some kind.Output) = Outputs
group_with _ = Others

abbrev pub group_of : ℕ → Group
group_of form = group_with (form_node form)
