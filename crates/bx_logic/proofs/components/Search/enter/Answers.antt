use Rattle.std.proofs.Common.{ℕ, subst}
use Rattle.std.proofs.lemmas.List.{length-set}
use Rattle.std.proofs.lemmas.Result.{on_ok_weaker}
use Rattle.bx_logic.specs.Components.{AreComponents}
use Rattle.bx_logic.proofs.ComponentSteps.{steps-entered}
use Rattle.bx_logic.proofs.components.Search.enter.Goals as goal

pub returns-clause-search : goal.returns-clause-search
returns-clause-search c =
    on_ok_weaker c.push_visit.result (λ is. record {
      components = subst (λ (k : ℕ). AreComponents k c.enter.new.self) c.requires.search.components.places c.in_ok-enter.ensures.components;
      seen = length-set _ _ _;
      steps = steps-entered _ _ _ _ _ is c.requires.within c.requires.arguments c.requires.search.steps;
    }) c.push_visit.ensures
