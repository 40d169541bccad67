-- What drives the names of a module: its gates and assignments, in the order of the text.
use Rattle.std.specs.Prelude.{List, [], ◌∷◌, map, flat_map, Some, None}
use Rattle.bx_logic.specs.declared.op.Op.{Op}
use Rattle.bx_logic.specs.declared.op.Op.TheVariants.{Buf}
use Rattle.bx_syntax.specs.Parts.{PartTree, declaration, wire, assign, gate, copies, ModuleTree}
use Rattle.bx_verilog.specs.Formulas.{Text, Formula, formula}

-- names that are driven by one operation over the same arguments
pub record Drive : Type 0 where
  pub targets : List Text
  pub op : Op
  pub arguments : List Formula

abbrev pub drive : List Text → Op → List Formula → Drive
drive targets op arguments = record { targets = targets; op = op; arguments = arguments }

-- an assignment drives by `Buf`, and so does the declaration of a wire that says what drives it
abbrev pub drives_of : PartTree → List Drive
drives_of (declaration d n) = []
drives_of (wire n None) = []
drives_of (wire n (Some e)) = drive (n ∷ []) Buf (formula e ∷ []) ∷ []
drives_of (assign n e) = drive (n ∷ []) Buf (formula e ∷ []) ∷ []
drives_of (gate op n es) = drive (n ∷ []) op (map formula es) ∷ []
drives_of (copies op ns e) = drive ns op (formula e ∷ []) ∷ []

abbrev pub parts_of : ModuleTree → List PartTree
parts_of m = flat_map (λ item. item) m.items

abbrev pub drives : ModuleTree → List Drive
drives m = flat_map drives_of (parts_of m)
