use Rattle.std.proofs.Common.{List, length, ap, sym, subst, ◌∙◌}
use Rattle.std.specs.Result.{result_unwrap_or}
use Rattle.bx_logic.specs.Lists.{AreDistinct}
use Rattle.bx_verilog.specs.Formulas.{Text}
use Rattle.bx_verilog.specs.Shown.{number_among}
use Rattle.bx_verilog.proofs.Sorting.{sorted-distinct, searched-place}
use Rattle.bx_verilog.proofs.sorted_names.SortedNames.place.Goals as goal

pub returns-clause-place : goal.returns-clause-place
returns-clause-place c =
    c.unwrap_or.ensures
    ∙ ap (result_unwrap_or c.binary_search.result) (c.len.ensures ∙ sym c.deref.ensures.len ∙ ap length c.deref.ensures.value)
    ∙ searched-place c.self.inside.names.items c.args.name.now c.binary_search.result c.self.invariant
    (rw (← c.deref.ensures.value) c.binary_search.ensures.bound)
    (rw (← c.deref.ensures.value) c.binary_search.ensures.position)
    ∙ ap (λ (names : List Text). number_among names c.args.name.now) c.self.view_is

pub returns-clause-distinct : goal.returns-clause-distinct
returns-clause-distinct c = subst AreDistinct c.self.view_is (sorted-distinct c.self.inside.names.items c.self.invariant)
