use Rattle.std.proofs.Common.{rules, ◌≡◌, Some, inl, inr, arith}
use Rattle.serde_json.specs.Find.{as_array}
use Rattle.serde_json.specs.View.{view, items_view}
use Rattle.bx_library.proofs.Listing.{no_dot}
use Rattle.bx_library.proofs.values.numbers.Goals as goal

pub returns-in_default : goal.returns-in_default
returns-in_default c =
    let is : as_array (view c.args.value.now) ≡ Some (items_view c.as_slice.result.now) = search rules in
    no_dot (view c.args.value.now) c.as_slice.result.now is (inl c.in_default.len_below)

pub returns-in_default-2 : goal.returns-in_default-2
returns-in_default-2 c =
    let is : as_array (view c.args.value.now) ≡ Some (items_view c.as_slice.result.now) = search rules in
    no_dot (view c.args.value.now) c.as_slice.result.now is (inr (omega arith))
