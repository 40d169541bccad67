use Rattle.std.proofs.Common.{◌≡◌, ap, sym, subst, [], ◌∷◌, None}
use Rattle.bx_race.specs.Seats.{draws, IsSeatOf}
use Rattle.bx_race.specs.Finished.{IsTogether}
use Rattle.bx_race.proofs.Joining.{front_and_last, taken_off, together_one, together_more}
use Rattle.bx_race.proofs.race.Race.join.Goals as goal

pub loop-earlier-init : goal.loop-earlier-init
loop-earlier-init c =
    let of_race = front_and_last (IsSeatOf c.args.self.now) _ _ _ c.in-Some.ensures.items c.requires.of_race in
    let idle = front_and_last (λ s. (draws s).current ≡ None) _ _ _ c.in-Some.ensures.items c.requires.idle in
    (of_race.0, idle.0, of_race.1, idle.1, (c.in-Some.whole ∷ [], c.in-Some.ensures.items, together_one c.in-Some.whole))

pub join_two-whole-requires-clause-of_race : goal.join_two-whole-requires-clause-of_race
join_two-whole-requires-clause-of_race c =
    let of_race = front_and_last (IsSeatOf c.args.self.now) _ _ _ c.in-Some-pop.ensures.items c.loop-earlier.invariant.0 in
    (of_race.1, c.loop-earlier.invariant.2)

pub join_two-whole-requires-clause-idle : goal.join_two-whole-requires-clause-idle
join_two-whole-requires-clause-idle c =
    let idle = front_and_last (λ s. (draws s).current ≡ None) _ _ _ c.in-Some-pop.ensures.items c.loop-earlier.invariant.1 in
    (idle.1, c.loop-earlier.invariant.3)

pub loop-earlier-preserved : goal.loop-earlier-preserved
loop-earlier-preserved c =
    let of_race = front_and_last (IsSeatOf c.args.self.now) _ _ _ c.in-Some-pop.ensures.items c.loop-earlier.invariant.0 in
    let idle = front_and_last (λ s. (draws s).current ≡ None) _ _ _ c.in-Some-pop.ensures.items c.loop-earlier.invariant.1 in
    let (taken, is, t) = c.loop-earlier.invariant.4 in (
      of_race.0,
      idle.0,
      c.join_two-whole.ensures.of_race,
      ap (λ v. v.draws.current) c.join_two-whole.ensures.both,
      (
        c.in-Some-pop.earlier ∷ taken,
        taken_off _ _ _ _ _ is c.in-Some-pop.ensures.items,
        subst (IsTogether (c.in-Some-pop.earlier ∷ taken)) (sym c.join_two-whole.ensures.both) (together_more c.in-Some-pop.earlier taken _ t),
      ),
    )
