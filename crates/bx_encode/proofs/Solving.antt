-- The bits of a legal layout solve the formula of its ratio: all families together.
use Rattle.std.proofs.Common.{Bool, List}
use Rattle.bx_cnf.specs.Formulas.{AllTrue}
use Rattle.bx_network.specs.Networks.{Network, IsNetwork}
use Rattle.bx_layout.specs.declared.layout.Layout.{Layout}
use Rattle.bx_layout.specs.Legal.{IsLegal}
use Rattle.bx_layout.specs.Permits.{PermitTest}
use Rattle.bx_encode.specs.declared.rule.Rule.TheVariants.{ComesFromAbove, GoesOnBelow, JoinsItsEnds, GoesOneWay, KeepsOffNodes}
use Rattle.bx_encode.specs.Formula.{place_clauses, border_clauses, way_clauses, formula}
use Rattle.bx_encode.specs.Bits.{AreBitsOf}
use Rattle.bx_encode.proofs.Truths.{all-append}
use Rattle.bx_encode.proofs.PlacesTrue.{somewhere, once, apart, taken, window, stays, carries, used}
use Rattle.bx_encode.proofs.WaysTrue.{keeps_rule-true}
use Rattle.bx_encode.proofs.BarredTrue.{is_permitted-true}

module _ (N : Network) (permit : PermitTest) (L : Layout) (network : IsNetwork N) (legal : IsLegal N permit L) (bits : List Bool) (are : AreBitsOf N L bits) where
  places : AllTrue bits (place_clauses N L.ratio)
  unfolding place_clauses
  places =
      all-append bits _ _ (all-append bits _ _ (all-append bits _ _ (all-append bits _ _
      (somewhere N permit L network legal bits are) (once N permit L network legal bits are))
      (apart N permit L network legal bits are)) (taken N permit L network legal bits are))
      (window N permit L network legal bits are)

  borders : AllTrue bits (border_clauses N L.ratio)
  unfolding border_clauses
  borders =
      all-append bits _ _ (all-append bits _ _ (stays N permit L network legal bits are) (carries N permit L network legal bits are))
      (used N permit L network legal bits are)

  ways : AllTrue bits (way_clauses N L.ratio)
  unfolding way_clauses
  ways =
      let rule = keeps_rule-true N permit L network legal bits are in
      all-append bits _ _ (all-append bits _ _ (all-append bits _ _ (all-append bits _ _
      (rule ComesFromAbove) (rule GoesOnBelow)) (rule JoinsItsEnds)) (rule GoesOneWay)) (rule KeepsOffNodes)

  pub solved : AllTrue bits (formula N permit L.ratio).clauses
  unfolding formula
  solved = all-append bits _ _ (all-append bits _ _ (all-append bits _ _ places borders) ways) (is_permitted-true N permit L network legal bits are)
