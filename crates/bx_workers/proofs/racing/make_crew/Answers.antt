-- A worker more, of the seat that is next.
use Rattle.std.proofs.Common.{List, [], ◌∷◌, ◌++◌, map, All, sym, ap, ap₂, ◌∙◌, subst}
use Rattle.std.proofs.lemmas.List.{map-append}
use Rattle.std.proofs.lemmas.List.Elements.{All-push}
use Rattle.bx_race.specs.declared.seat.RaceSeat.{RaceSeat}
use Rattle.bx_workers.specs.Racing.{IsUnused}
use Rattle.bx_workers.specs.declared.worker.Worker.{Worker}
use Rattle.bx_workers.proofs.racing.make_crew.Goals as goal

pub loop-seat-preserved : goal.loop-seat-preserved
loop-seat-preserved c = record {
  can = tt;
  finite = tt;
  seats = ap (map (λ (w : Worker). w.seat)) c.in_ok-push.ensures.items ∙ map-append (λ (w : Worker). w.seat) c.loop-seat.crew.items (c.in_ok-new.field-0 ∷ [])
      ∙ ap₂ (λ (ss : List RaceSeat) (s : RaceSeat). ss ++ s ∷ []) c.loop-seat.invariant.seats c.in_ok-new.ensures.seat;
  unused = subst (All (IsUnused c.args.room)) (sym c.in_ok-push.ensures.items)
      (All-push (IsUnused c.args.room) c.loop-seat.crew.items c.in_ok-new.field-0 c.loop-seat.invariant.unused (c.in_ok-new.ensures.none, c.in_ok-new.ensures.room));
}
