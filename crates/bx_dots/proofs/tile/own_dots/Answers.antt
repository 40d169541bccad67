use Rattle.std.proofs.Common.{◌≡◌, map, filter, get_or, sym, subst}
use Rattle.std.proofs.lemmas.List.Elements.{Contains-get_or}
use Rattle.std.proofs.lemmas.Result.{IfOk-weaker}
use Rattle.bx_library.specs.Dots.{IsAscending}
use Rattle.bx_dots.specs.Cuts.{AreOwn}
use Rattle.bx_dots.specs.Reading.{is_among, moved_back}
use Rattle.bx_dots.proofs.Owns.{owns_are, owns_ascend}
use Rattle.bx_dots.proofs.tile.own_dots.Goals as goal

pub among-requires-clause-below : goal.among-requires-clause-below
among-requires-clause-below c = λ k d inside.
    ((c.between-rows.ensures.same (get_or c.between-rows.result.now k d)).0 (Contains-get_or c.between-rows.result.now k d inside)).1

pub returns-clause-own : goal.returns-clause-own
returns-clause-own c =
    let n = c.of-origin.result.n in
    let m = c.of-origin.result.m in
    let rows = c.between-rows.result.now in
    IfOk-weaker c.among.result (λ owns. owns.items ≡ map (moved_back n m) (filter (is_among n c.width.result) rows)) (λ owns. AreOwn c.args.library.now c.args.ratio c.args.dots.now c.args.tile owns.items)
    (λ owns is. subst (AreOwn c.args.library.now c.args.ratio c.args.dots.now c.args.tile) (sym is)
    (owns_are c.args.library.now c.args.ratio c.args.tile c.args.dots.now rows n m c.width.result c.height.result
    (record { left_is = c.of-origin.ensures.n; top_is = c.of-origin.ensures.m; width_is = c.width.ensures.width; height_is = c.height.ensures.height }) c.between-rows.ensures.same))
    c.among.ensures

pub returns-clause-ascending : goal.returns-clause-ascending
returns-clause-ascending c =
    let n = c.of-origin.result.n in
    let m = c.of-origin.result.m in
    let rows = c.between-rows.result.now in
    IfOk-weaker c.among.result (λ owns. owns.items ≡ map (moved_back n m) (filter (is_among n c.width.result) rows)) (λ owns. IsAscending owns.items)
    (λ owns is. subst IsAscending (sym is)
    (owns_ascend rows n m c.width.result c.between-rows.ensures.ascending
    (λ k d inside. ((c.between-rows.ensures.same (get_or rows k d)).0 (Contains-get_or rows k d inside)).1)))
    c.among.ensures
