use Rattle.std.proofs.Common.{◌≡◌, ◌<◌, ◌-◌, length, get_or, ap, sym, ◌∙◌, arith}
use Rattle.std.proofs.lemmas.List.{length-map}
use Rattle.bx_watch.proofs.Entries.{items_of, list-was, Drops-set, IsSwapped}
use Rattle.bx_watch.specs.Lists.{list_of}
use Rattle.bx_watch.proofs.lists.Lists.remove.Goals as goal

pub returns : goal.returns
returns c =
    let vs = c.self.inside.lists.items in
    let old = c.index_mut-list.result.now in
    let new = c.swap_remove.new.self in
    let below : c.place.result < length vs = omega (arith, c.requires.over, c.place.ensures, ap length c.self.view_is, length-map vs items_of) in
    let was : length old.items ≡ length (list_of c.args.self.now c.args.lit) =
    ap length (list-was vs c.place.result old c.args.lit (sym c.place.ensures) below c.index_mut-list.ensures.value) ∙ ap (λ ls. length (list_of ls c.args.lit)) c.self.view_is in
    let swapped : IsSwapped old.items new.items c.args.at = record {
      within = omega (arith, c.requires.within, was);
      shorter = omega (arith, c.swap_remove.ensures.len, old.ok.0, new.ok.0);
      last = λ d more. c.swap_remove.ensures.by_index.0 d (omega (arith, more, old.ok.0)) ∙ ap (λ n. get_or old.items (n - 1) d) old.ok.0;
      rest = λ k d apart more. c.swap_remove.ensures.by_index.1 k d apart (omega (arith, more, old.ok.0));
    } in
    rw (← c.self.view_is) (Drops-set vs c.place.result old new c.args.lit c.args.at (sym c.place.ensures) below c.index_mut-list.ensures.value swapped)
