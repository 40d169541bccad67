use Rattle.std.proofs.Common.{◌≡◌, List, length, slice_get, Some, sym, ◌∙◌, ap, subst, arith}
use Rattle.std.proofs.lemmas.Option.{slice_get-get_or}
use Rattle.bx_watch.specs.declared.lists.Entry.{Entry}
use Rattle.bx_watch.specs.Lists.{list_of}
use Rattle.bx_watch.specs.Keeping.{tables_of}
use Rattle.bx_watch.proofs.Keeps.{has-at, IsMore-insert}
use Rattle.bx_watch.proofs.Releasing.{IsReleasing, releasing-more, releasing-all}
use Rattle.bx_watch.proofs.watches.Watches.release.Goals as goal

pub insert-requires : goal.insert-requires
insert-requires c =
    let items = c.of-item-items.result.now in
    let item = c.item-item.result in
    let stands : slice_get items c.loop-item.item-index ≡ Some item = slice_get-get_or items c.loop-item.item-index item c.loop-item-test.true ∙ ap (λ (e : Entry). Some e) (sym c.item-item.is) in
    let listed = subst (λ (es : List Entry). slice_get es c.loop-item.item-index ≡ Some item) c.of-item-items.ensures stands in
    omega (arith, c.requires.within c.args.lit item (has-at (list_of c.args.parked.now c.args.lit) c.loop-item.item-index item listed), c.loop-item.invariant.more.sized)

pub loop-item-preserved : goal.loop-item-preserved
loop-item-preserved c =
    let items = c.of-item-items.result.now in
    let item = c.item-item.result in
    let stands : slice_get items c.loop-item.item-index ≡ Some item = slice_get-get_or items c.loop-item.item-index item c.loop-item-test.true ∙ ap (λ (e : Entry). Some e) (sym c.item-item.is) in
    releasing-more items (tables_of c.args.self.now) (tables_of c.loop-item.self) c.loop-item.item-index item c.insert.new.self c.loop-item.invariant stands (IsMore-insert _ _ _ c.insert.ensures) c.insert.ensures.there

pub returns : goal.returns
returns c =
    let here = subst (λ (es : List Entry). IsReleasing es (tables_of c.args.self.now) (tables_of c.loop-item.self) c.loop-item.item-index) c.of-item-items.ensures c.loop-item.invariant in
    let count : length c.of-item-items.result.now ≡ length (list_of c.args.parked.now c.args.lit) = ap length c.of-item-items.ensures in
    releasing-all c.args.lit (tables_of c.args.self.now) (tables_of c.loop-item.self) c.loop-item.item-index c.args.parked.now c.clear.new.self here (omega (arith, c.loop-item-test.false, count)) c.clear.ensures
