use Rattle.std.proofs.Common.{◌≡◌, List, refl, sym, ◌∙◌, subst, arith, eqb-true, ap}
use Rattle.std.proofs.lemmas.Bool.{eqb-false}
use Rattle.std.proofs.lemmas.List.{nil_from_length}
use Rattle.std.specs.Prelude.{◌≢◌, vec_len}
use Rattle.bx_library.specs.declared.dot.Dot.{Dot}
use Rattle.bx_dots.specs.Reading.{IsFormWith}
use Rattle.bx_dots.specs.Cuts.{group_of_row}
use Rattle.bx_dots.proofs.Owns.{reads_empty, reads_form, reads_none}
use Rattle.bx_dots.proofs.tile.read_tile.Goals as goal

pub returns-then-is_empty-clause-ok : goal.returns-then-is_empty-clause-ok
returns-then-is_empty-clause-ok c =
    let owns = c.in_ok-owns.owns in
    let items = owns.ok.0 in
    let none : vec_len owns ≡ 0 = eqb-true (vec_len owns) 0 (sym c.is_empty.ensures ∙ c.if-is_empty.true) in
    reads_empty c.args.library.now c.args.ratio c.args.dots.now c.args.tile owns.items (nil_from_length owns.items (omega (arith, items, none))) c.in_ok-owns.ensures.own

pub returns-in-Some-clause-ok : goal.returns-in-Some-clause-ok
returns-in-Some-clause-ok c =
    let lib = c.args.library.now in
    let owns = c.in_ok-owns.owns in
    let group = c.group_of_row-group.result in
    reads_form lib c.args.ratio c.args.dots.now c.args.tile owns.items group c.in-Some.form (c.group_of_row-group.ensures ∙ ap (group_of_row c.args.ratio) c.column_and_row-row.ensures.row)
    (subst (λ (xs : List Dot). IsFormWith lib group xs c.in-Some.form) c.deref.ensures.value c.in-Some.ensures.some) c.in_ok-owns.ensures.own

pub returns-clause-err : goal.returns-clause-err
returns-clause-err c = λ told.
    let lib = c.args.library.now in
    let owns = c.in_ok-owns.owns in
    let items = owns.ok.0 in
    let group = c.group_of_row-group.result in
    let some : vec_len owns ≢ 0 = eqb-false (vec_len owns) 0 (sym c.is_empty.ensures ∙ c.if-is_empty.false) in (
      refl,
      reads_none lib c.args.ratio c.args.dots.now c.args.tile owns.items group c.in_ok-owns.ensures.kept (c.group_of_row-group.ensures ∙ ap (group_of_row c.args.ratio) c.column_and_row-row.ensures.row) c.in_ok-owns.ensures.ascending (omega (arith, items, some)) c.in_ok-owns.ensures.own
          (λ form is. c.in-None.ensures.none refl form (subst (λ (xs : List Dot). IsFormWith lib group xs form) (sym c.deref.ensures.value) is)),
    )
