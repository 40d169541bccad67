use Rattle.std.proofs.Common.{◌<◌, length, ap, sym, arith}
use Rattle.std.proofs.lemmas.List.{length-map}
use Rattle.bx_watch.proofs.Entries.{items_of, Pushes-set}
use Rattle.bx_watch.proofs.lists.Lists.push.Goals as goal

pub returns : goal.returns
returns c =
    let below : c.place.result < length c.self.inside.lists.items = omega (arith, c.requires, c.place.ensures, ap length c.self.view_is, length-map c.self.inside.lists.items items_of) in
    rw (← c.self.view_is) (Pushes-set c.self.inside.lists.items c.place.result c.index_mut-list.result.now c.push_tight.new.list c.args.lit c.args.entry (sym c.place.ensures) below c.index_mut-list.ensures.value c.in_ok-push_tight.ensures)
