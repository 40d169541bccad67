use Rattle.std.proofs.Common.{◌≡◌, ◌<◌, ◌≤◌, length, map, sym, ◌∙◌, subst, rules}
use Rattle.std.proofs.lemmas.List.{length-map}
use Rattle.std.specs.Prelude.{All}
use Rattle.bx_library.specs.Tiles.{IsInside}
use Rattle.bx_library.specs.Triples.{triple_dot}
use Rattle.bx_library.proofs.Drawing.{drawn_from_sorted, fine_from_sorted, bad_from_sorted}
use Rattle.bx_library.proofs.forms.checked_dots.Goals as goal

pub returns-clause-drawn : goal.returns-clause-drawn
returns-clause-drawn c =
    let same : c.deref.result.now ≡ map triple_dot c.args.listed.now = c.deref.ensures.value ∙ c.in_ok-dots.ensures.same in
    let inside : All (IsInside c.args.width c.args.height) c.deref.result.now = subst (All (IsInside c.args.width c.args.height)) (sym c.deref.ensures.value) c.in_ok-dots.ensures.inside in
    let few : length c.args.listed.now ≤ 1024 = search rules in
    drawn_from_sorted c.args.width c.args.height c.deref.result.now (map triple_dot c.args.listed.now) c.ascending.result same inside (rw length-map few)
    (c.ascending.ensures.ascending, c.ascending.ensures.same, c.ascending.ensures.count)

pub returns-clause-free : goal.returns-clause-free
returns-clause-free c =
    let same : c.deref.result.now ≡ map triple_dot c.args.listed.now = c.deref.ensures.value ∙ c.in_ok-dots.ensures.same in
    let inside : All (IsInside c.args.width c.args.height) c.deref.result.now = subst (All (IsInside c.args.width c.args.height)) (sym c.deref.ensures.value) c.in_ok-dots.ensures.inside in
    let some : 0 < length c.args.listed.now = search rules in
    let few : length c.args.listed.now ≤ 1024 = search rules in
    fine_from_sorted c.args.width c.args.height c.args.form c.deref.result.now (map triple_dot c.args.listed.now) c.ascending.result same inside (rw length-map some) (rw length-map few)
    c.ascending.ensures.free

pub returns-clause-err : goal.returns-clause-err
returns-clause-err c =
    let same : c.deref.result.now ≡ map triple_dot c.args.listed.now = c.deref.ensures.value ∙ c.in_ok-dots.ensures.same in
    let inside : All (IsInside c.args.width c.args.height) c.deref.result.now = subst (All (IsInside c.args.width c.args.height)) (sym c.deref.ensures.value) c.in_ok-dots.ensures.inside in
    let some : 0 < length c.args.listed.now = search rules in
    let few : length c.args.listed.now ≤ 1024 = search rules in
    bad_from_sorted c.args.width c.args.height c.args.form c.deref.result.now (map triple_dot c.args.listed.now) c.ascending.result same inside (rw length-map some) (rw length-map few)
    c.ascending.ensures.err
