-- The race that was run, its workers' results in order, and what these settle.
use Rattle.std.proofs.Common.{◌≡◌, ◌⊎◌, ℕ, length, Contains, inl, inr, sym, ap, ◌∙◌, subst, arith}
use Rattle.std.proofs.lemmas.List.{length-map}
use Rattle.bx_layout.specs.Permits.{test_of}
use Rattle.bx_race.specs.Finished.{total, least_of}
use Rattle.bx_race.specs.Seats.{indices_of}
use Rattle.bx_workers.specs.Ordering.{IsOrdered}
use Rattle.bx_workers.specs.Working.{ratio_count}
use Rattle.bx_workers.specs.declared.worker.Worker.{Worker}
use Rattle.bx_workers.proofs.Lengths.{few-ratios}
use Rattle.bx_workers.proofs.Crews.{all-some, enough-looks, have-ended, idle, new-workers, of-race, settled, stand-for}
use Rattle.bx_workers.proofs.Showing.{shown}
use Rattle.bx_workers.proofs.racing.race_all.Goals as goal

pub new-requires-clause-indices : goal.new-requires-clause-indices
new-requires-clause-indices g c = omega (arith, c.len-count.ensures, few-ratios c.args.problem.now.ratios.now c.requires.problem.order)

pub all_work-crew-requires-clause-new : goal.all_work-crew-requires-clause-new
all_work-crew-requires-clause-new g c κs within =
    new-workers c.args.problem.now c.in_ok-race.race c.in_ok-crew.crew.items c.in_ok-race.seats.items c.len-count.result c.in_ok-crew.ensures.seats c.len-count.ensures c.in_ok-race.ensures.each c.in_ok-crew.ensures.unused

pub finish-requires-clause-of_race : goal.finish-requires-clause-of_race
finish-requires-clause-of_race g c =
    of-race c.args.problem.now c.in_ok-race.race c.all_work-crew.result.items c.in_ok-seats.seats.items c.in_ok-seats.tried.items c.in_ok-seats.ensures.seats c.in_ok-seats.ensures.tried c.all_work-crew.ensures.worked

pub finish-requires-clause-all : goal.finish-requires-clause-all
finish-requires-clause-all g c =
    stand-for c.args.problem.now c.in_ok-race.race c.all_work-crew.result.items c.in_ok-seats.seats.items c.in_ok-seats.tried.items c.in_ok-seats.ensures.seats c.in_ok-seats.ensures.tried c.all_work-crew.ensures.worked
    ∙ c.all_work-crew.ensures.count ∙ sym (length-map c.in_ok-crew.crew.items (λ (w : Worker). w.seat)) ∙ ap length c.in_ok-crew.ensures.seats ∙ c.in_ok-race.ensures.count ∙ sym c.in_ok-race.ensures.race.1

pub finish-requires-clause-idle : goal.finish-requires-clause-idle
finish-requires-clause-idle g c =
    idle c.args.problem.now c.in_ok-race.race c.all_work-crew.result.items c.in_ok-seats.seats.items c.in_ok-seats.tried.items c.in_ok-seats.ensures.seats c.in_ok-seats.ensures.tried c.all_work-crew.ensures.worked

pub all_refuted-requires : goal.all_refuted-requires
all_refuted-requires g c =
    let p = c.args.problem.now in
    let crew = c.all_work-crew.result.items in
    let ended = have-ended p c.in_ok-race.race crew c.in_ok-seats.seats.items c.in_ok-seats.tried.items c.in_ok-seats.ensures.seats c.in_ok-seats.ensures.tried c.all_work-crew.ensures.worked in
    let of-all : indices_of c.in_ok-race.race ≡ ratio_count p = c.in_ok-race.ensures.race.0 ∙ c.len-count.ensures in
    let offered : (least_of c.in_ok-finished.finished ≡ ratio_count p) ⊎ Contains (total c.in_ok-finished.finished).draws.offered (least_of c.in_ok-finished.finished) =
    elim c.in_ok-finished.ensures.least [ inl over ↦ inl (over ∙ of-all) | inr on ↦ inr on ] in
    all-some p c.in_ok-race.race crew c.in_ok-seats.seats.items c.in_ok-seats.tried.items c.in_ok-seats.ensures.seats c.in_ok-seats.ensures.tried c.all_work-crew.ensures.worked
    (least_of c.in_ok-finished.finished) (total c.in_ok-finished.finished).draws.done (total c.in_ok-finished.finished).draws.offered c.in_ok-ordered.ordered
    c.in_ok-finished.ensures.together.done c.in_ok-finished.ensures.together.offered (c.in_ok-finished.ensures.done ended) offered
    (subst (λ (n : ℕ). IsOrdered n c.in_ok-seats.tried.items c.in_ok-ordered.ordered) c.least-least.ensures c.in_ok-ordered.ensures)

pub returns-clause-exact : goal.returns-clause-exact
returns-clause-exact g c =
    let p = c.args.problem.now in
    let crew = c.all_work-crew.result.items in
    let ended = have-ended p c.in_ok-race.race crew c.in_ok-seats.seats.items c.in_ok-seats.tried.items c.in_ok-seats.ensures.seats c.in_ok-seats.ensures.tried c.all_work-crew.ensures.worked in
    let of-all : indices_of c.in_ok-race.race ≡ ratio_count p = c.in_ok-race.ensures.race.0 ∙ c.len-count.ensures in
    let offered : (least_of c.in_ok-finished.finished ≡ ratio_count p) ⊎ Contains (total c.in_ok-finished.finished).draws.offered (least_of c.in_ok-finished.finished) =
    elim c.in_ok-finished.ensures.least [ inl over ↦ inl (over ∙ of-all) | inr on ↦ inr on ] in
    settled p c.in_ok-race.race crew c.in_ok-seats.seats.items c.in_ok-seats.tried.items c.in_ok-seats.ensures.seats c.in_ok-seats.ensures.tried c.all_work-crew.ensures.worked
    (least_of c.in_ok-finished.finished) (total c.in_ok-finished.finished).draws.done (total c.in_ok-finished.finished).draws.offered c.in_ok-ordered.ordered
    c.in_ok-finished.ensures.together.done c.in_ok-finished.ensures.together.offered (c.in_ok-finished.ensures.done ended) offered
    (subst (λ (n : ℕ). IsOrdered n c.in_ok-seats.tried.items c.in_ok-ordered.ordered) c.least-least.ensures c.in_ok-ordered.ensures) c.in_ok-refutations.refutations c.in_ok-last.last c.in_ok-refutations.ensures c.in_ok-last.ensures

pub returns-clause-shows : goal.returns-clause-shows
returns-clause-shows g c =
    shown c.args.problem.now.net.now (test_of c.args.problem.now.permit.now) c.args.problem.now.budget c.args.problem.now.ratios.now c.node_count-nodes.ensures.network c.requires.problem.nodes
    c.requires.problem.order c.in_ok-refutations.refutations c.in_ok-last.last (returns-clause-exact g c)

pub returns-clause-finished : goal.returns-clause-finished
returns-clause-finished g c =
    let p = c.args.problem.now in
    let crew = c.all_work-crew.result.items in
    let ended = have-ended p c.in_ok-race.race crew c.in_ok-seats.seats.items c.in_ok-seats.tried.items c.in_ok-seats.ensures.seats c.in_ok-seats.ensures.tried c.all_work-crew.ensures.worked in
    let of-all : indices_of c.in_ok-race.race ≡ ratio_count p = c.in_ok-race.ensures.race.0 ∙ c.len-count.ensures in
    let offered : (least_of c.in_ok-finished.finished ≡ ratio_count p) ⊎ Contains (total c.in_ok-finished.finished).draws.offered (least_of c.in_ok-finished.finished) =
    elim c.in_ok-finished.ensures.least [ inl over ↦ inl (over ∙ of-all) | inr on ↦ inr on ] in
    record {
      indices = c.in_ok-finished.ensures.race.0 ∙ of-all;
      stands_for = c.in_ok-finished.ensures.race.1 ∙ c.in_ok-race.ensures.race.1;
      done = c.in_ok-finished.ensures.done ended;
      offered = offered;
      looked = λ due counts. omega (
        arith,
        c.in_ok-finished.ensures.together.looks,
        enough-looks p c.in_ok-race.race crew c.in_ok-seats.seats.items c.in_ok-seats.tried.items c.in_ok-seats.ensures.seats c.in_ok-seats.ensures.tried c.all_work-crew.ensures.worked
            (least_of c.in_ok-finished.finished) (total c.in_ok-finished.finished).draws.done (total c.in_ok-finished.finished).draws.offered c.in_ok-ordered.ordered
            c.in_ok-finished.ensures.together.done c.in_ok-finished.ensures.together.offered (c.in_ok-finished.ensures.done ended) offered
            (subst (λ (n : ℕ). IsOrdered n c.in_ok-seats.tried.items c.in_ok-ordered.ordered) c.least-least.ensures c.in_ok-ordered.ensures) c.in_ok-refutations.refutations c.in_ok-last.last c.in_ok-refutations.ensures c.in_ok-last.ensures due counts,
      );
    }
