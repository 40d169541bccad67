use Rattle.std.proofs.Common.{◌<◌, length, ap, sym, arith}
use Rattle.std.proofs.lemmas.List.{length-map}
use Rattle.bx_watch.proofs.Entries.{items_of, Clears-set}
use Rattle.bx_watch.proofs.lists.Lists.clear.Goals as goal

pub returns : goal.returns
returns c =
    let below : c.place.result < length c.self.inside.lists.items = omega (arith, c.requires, c.place.ensures, ap length c.self.view_is, length-map c.self.inside.lists.items items_of) in
    rw (← c.self.view_is) (Clears-set c.self.inside.lists.items c.place.result c.clear.new.self c.args.lit (sym c.place.ensures) below c.clear.ensures.items)
