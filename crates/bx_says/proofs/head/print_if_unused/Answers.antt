use Rattle.std.proofs.Common.{◌≡◌, [], Bool, true, false, if◌then◌else◌, sym, ap, ◌∙◌}
use Rattle.std.specs.Prelude.{slice_index_or}
use Rattle.bx_desk.proofs.Printing.{prints_as, prints_nothing}
use Rattle.bx_lines.specs.Lines.{ended}
use Rattle.bx_says.specs.Texts.{Text}
use Rattle.bx_says.specs.Ports.{is_unused}
use Rattle.bx_says.specs.Reports.{unused_line}
use Rattle.bx_says.proofs.Printed.{unused_as}
use Rattle.bx_says.proofs.head.print_if_unused.Goals as goal

pub returns-then-is_unused : goal.returns-then-is_unused
returns-then-is_unused g c =
    let of_name : Text = slice_index_or c.args.net.now.inputs c.args.port [] in
    let tests = unused_as c.args.mapped.now c.args.port c.is_unused.result c.is_unused.ensures in
    let yes : is_unused c.args.mapped.now c.args.port ≡ true = sym tests ∙ c.if-is_unused.true in
    prints_as
    (ap (λ (name : Text). ended (unused_line name)) (c.as_slice.ensures ∙ c.input_name.ensures) ∙ sym (ap (λ (b : Bool). if b then ended (unused_line of_name) else []) yes))
    c.line.ensures

pub returns-else-is_unused : goal.returns-else-is_unused
returns-else-is_unused g c =
    let of_name : Text = slice_index_or c.args.net.now.inputs c.args.port [] in
    let tests = unused_as c.args.mapped.now c.args.port c.is_unused.result c.is_unused.ensures in
    let no : is_unused c.args.mapped.now c.args.port ≡ false = sym tests ∙ c.if-is_unused.false in
    prints_as (sym (ap (λ (b : Bool). if b then ended (unused_line of_name) else []) no)) (prints_nothing _)
