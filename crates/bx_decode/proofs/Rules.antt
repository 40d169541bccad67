-- What the clauses on ways say of bits that make them true: how an edge goes through a tile.
use Rattle.std.proofs.Common.{ℕ, ◌<◌, ◌⊎◌, Bool, List, [], ◌∷◌, ◌++◌, map, length, inl, inr, refl}
use Rattle.bx_logic.proofs.Members.{Member, Member-map, Member-append_left, Member-append_right}
use Rattle.bx_grid.specs.declared.ratio.Ratio.{Ratio}
use Rattle.bx_grid.specs.Tiles.{IsTile}
use Rattle.bx_layout.specs.Permits.{PermitTest}
use Rattle.bx_network.specs.Networks.{Network}
use Rattle.bx_encode.specs.declared.variable.Variable.TheVariants.{NodeOn, Taken, EdgeOn}
use Rattle.bx_encode.specs.declared.rule.Rule.TheVariants.{ComesFromAbove, GoesOnBelow, JoinsItsEnds, GoesOneWay, KeepsOffNodes}
use Rattle.bx_encode.specs.Variables.{is, isnt}
use Rattle.bx_encode.specs.Families.{Clause, pairs, source, target, entries, exits, on_some, rule_clauses}
use Rattle.bx_decode.specs.Meaning.{AreTrue}
use Rattle.bx_decode.proofs.Clauses.{SomeTrue, some-append, some-map, IsOn, on-or-off, not-one, not-both}
use Rattle.bx_decode.proofs.Families.{of-rule}

module _ (N : Network) (permit : PermitTest) (r : Ratio) (bits : List Bool) (all : AreTrue N permit r bits) (t e : ℕ) (tile : IsTile r t) (edge : e < length N.edges) where
  -- the edge is on one of these borders
  abbrev pub OnSome : List ℕ → Type 0
  OnSome bs = (b : ℕ) × Member b bs × IsOn N r bits (EdgeOn e b)

  on-some : (bs : List ℕ) → SomeTrue bits (on_some N r e bs) → OnSome bs
  on-some bs h = some-map bits (λ b. is N r (EdgeOn e b)) bs h

  pub comes-from : (x : ℕ) → Member x (exits N r t) → IsOn N r bits (EdgeOn e x) → IsOn N r bits (NodeOn (source N r e) t) ⊎ OnSome (entries N r t)
  unfolding rule_clauses
  comes-from x exit on =
      says (of-rule N permit r bits all ComesFromAbove t e _ tile edge
      (Member-map (λ y. is N r (NodeOn (source N r e) t) ∷ on_some N r e (entries N r t) ++ isnt N r (EdgeOn e y) ∷ []) x (exits N r t) exit))
    where
      says : SomeTrue bits (is N r (NodeOn (source N r e) t) ∷ on_some N r e (entries N r t) ++ isnt N r (EdgeOn e x) ∷ []) → IsOn N r bits (NodeOn (source N r e) t) ⊎ OnSome (entries N r t)
      says (inl here) = inl here
      says (inr h) = elim (some-append bits (on_some N r e (entries N r t)) (isnt N r (EdgeOn e x) ∷ []) h) [
        | inl some ↦ inr (on-some (entries N r t) some)
        | inr off ↦ absurd (not-one N r bits (EdgeOn e x) off on)
      ]

  pub goes-on : (x : ℕ) → Member x (entries N r t) → IsOn N r bits (EdgeOn e x) → IsOn N r bits (NodeOn (target N r e) t) ⊎ OnSome (exits N r t)
  unfolding rule_clauses
  goes-on x entry on =
      says (of-rule N permit r bits all GoesOnBelow t e _ tile edge
      (Member-map (λ y. is N r (NodeOn (target N r e) t) ∷ isnt N r (EdgeOn e y) ∷ on_some N r e (exits N r t)) x (entries N r t) entry))
    where
      says : SomeTrue bits (is N r (NodeOn (target N r e) t) ∷ isnt N r (EdgeOn e x) ∷ on_some N r e (exits N r t)) → IsOn N r bits (NodeOn (target N r e) t) ⊎ OnSome (exits N r t)
      says (inl here) = inl here
      says (inr (inl off)) = absurd (on-or-off N r bits (EdgeOn e x) on off)
      says (inr (inr h)) = inr (on-some (exits N r t) h)

  pub begins : IsOn N r bits (NodeOn (source N r e) t) → OnSome (exits N r t)
  unfolding rule_clauses
  begins here = says (of-rule N permit r bits all JoinsItsEnds t e (isnt N r (NodeOn (source N r e) t) ∷ on_some N r e (exits N r t)) tile edge (inl refl))
    where
      says : SomeTrue bits (isnt N r (NodeOn (source N r e) t) ∷ on_some N r e (exits N r t)) → OnSome (exits N r t)
      says (inl off) = absurd (on-or-off N r bits (NodeOn (source N r e) t) here off)
      says (inr h) = on-some (exits N r t) h

  pub ends : IsOn N r bits (NodeOn (target N r e) t) → OnSome (entries N r t)
  unfolding rule_clauses
  ends here = says (of-rule N permit r bits all JoinsItsEnds t e (isnt N r (NodeOn (target N r e) t) ∷ on_some N r e (entries N r t)) tile edge (inr (inl refl)))
    where
      says : SomeTrue bits (isnt N r (NodeOn (target N r e) t) ∷ on_some N r e (entries N r t)) → OnSome (entries N r t)
      says (inl off) = absurd (on-or-off N r bits (NodeOn (target N r e) t) here off)
      says (inr h) = on-some (entries N r t) h

  -- ---- one way

  out-pairs : List Clause
  out-pairs = pairs (map (λ b. isnt N r (EdgeOn e b)) (exits N r t))

  in-pairs : List Clause
  in-pairs = pairs (map (λ b. isnt N r (EdgeOn e b)) (entries N r t))

  at-source : List Clause
  at-source = map (λ x. isnt N r (NodeOn (source N r e) t) ∷ isnt N r (EdgeOn e x) ∷ []) (entries N r t)

  at-target : List Clause
  at-target = map (λ x. isnt N r (NodeOn (target N r e) t) ∷ isnt N r (EdgeOn e x) ∷ []) (exits N r t)

  of-one-way : (c : Clause) → Member c (out-pairs ++ in-pairs ++ at-source ++ at-target) → SomeTrue bits c
  unfolding rule_clauses out-pairs in-pairs at-source at-target
  of-one-way c own = of-rule N permit r bits all GoesOneWay t e c tile edge own

  pub leaves-once : (x y : ℕ) → Member (isnt N r (EdgeOn e x) ∷ isnt N r (EdgeOn e y) ∷ []) (pairs (map (λ b. isnt N r (EdgeOn e b)) (exits N r t))) → IsOn N r bits (EdgeOn e x) → IsOn N r bits (EdgeOn e y) → ⊥
  unfolding out-pairs
  leaves-once x y pair on other =
      not-both N r bits (EdgeOn e x) (EdgeOn e y) (of-one-way _ (Member-append_left _ (out-pairs ++ in-pairs ++ at-source) at-target
      (Member-append_left _ (out-pairs ++ in-pairs) at-source (Member-append_left _ out-pairs in-pairs pair)))) on other

  pub enters-once : (x y : ℕ) → Member (isnt N r (EdgeOn e x) ∷ isnt N r (EdgeOn e y) ∷ []) (pairs (map (λ b. isnt N r (EdgeOn e b)) (entries N r t))) → IsOn N r bits (EdgeOn e x) → IsOn N r bits (EdgeOn e y) → ⊥
  unfolding in-pairs
  enters-once x y pair on other =
      not-both N r bits (EdgeOn e x) (EdgeOn e y) (of-one-way _ (Member-append_left _ (out-pairs ++ in-pairs ++ at-source) at-target
      (Member-append_left _ (out-pairs ++ in-pairs) at-source (Member-append_right _ out-pairs in-pairs pair)))) on other

  pub no-entry : (x : ℕ) → Member x (entries N r t) → IsOn N r bits (NodeOn (source N r e) t) → IsOn N r bits (EdgeOn e x) → ⊥
  unfolding at-source
  no-entry x entry here on =
      not-both N r bits (NodeOn (source N r e) t) (EdgeOn e x) (of-one-way _ (Member-append_left _ (out-pairs ++ in-pairs ++ at-source) at-target
      (Member-append_right _ (out-pairs ++ in-pairs) at-source (Member-map (λ y. isnt N r (NodeOn (source N r e) t) ∷ isnt N r (EdgeOn e y) ∷ []) x (entries N r t) entry)))) here on

  pub no-exit : (x : ℕ) → Member x (exits N r t) → IsOn N r bits (NodeOn (target N r e) t) → IsOn N r bits (EdgeOn e x) → ⊥
  unfolding at-target
  no-exit x exit here on =
      not-both N r bits (NodeOn (target N r e) t) (EdgeOn e x) (of-one-way _ (Member-append_right _ (out-pairs ++ in-pairs ++ at-source) at-target
      (Member-map (λ y. isnt N r (NodeOn (target N r e) t) ∷ isnt N r (EdgeOn e y) ∷ []) x (exits N r t) exit))) here on

  -- ---- off nodes

  begun : List Clause
  begun = map (λ x. is N r (NodeOn (source N r e) t) ∷ isnt N r (Taken t) ∷ isnt N r (EdgeOn e x) ∷ []) (exits N r t)

  ended : List Clause
  ended = map (λ x. is N r (NodeOn (target N r e) t) ∷ isnt N r (Taken t) ∷ isnt N r (EdgeOn e x) ∷ []) (entries N r t)

  of-off : (c : Clause) → Member c (begun ++ ended) → SomeTrue bits c
  unfolding rule_clauses begun ended
  of-off c own = of-rule N permit r bits all KeepsOffNodes t e c tile edge own

  is-of : (v x : ℕ) → IsOn N r bits (Taken t) → IsOn N r bits (EdgeOn e x) → SomeTrue bits (is N r (NodeOn v t) ∷ isnt N r (Taken t) ∷ isnt N r (EdgeOn e x) ∷ []) → IsOn N r bits (NodeOn v t)
  is-of v x taken on (inl here) = here
  is-of v x taken on (inr h) = absurd (not-both N r bits (Taken t) (EdgeOn e x) h taken on)

  pub begins-there : (x : ℕ) → Member x (exits N r t) → IsOn N r bits (Taken t) → IsOn N r bits (EdgeOn e x) → IsOn N r bits (NodeOn (source N r e) t)
  unfolding begun
  begins-there x exit taken on =
      is-of (source N r e) x taken on (of-off _ (Member-append_left _ begun ended
      (Member-map (λ y. is N r (NodeOn (source N r e) t) ∷ isnt N r (Taken t) ∷ isnt N r (EdgeOn e y) ∷ []) x (exits N r t) exit)))

  pub ends-there : (x : ℕ) → Member x (entries N r t) → IsOn N r bits (Taken t) → IsOn N r bits (EdgeOn e x) → IsOn N r bits (NodeOn (target N r e) t)
  unfolding ended
  ends-there x entry taken on =
      is-of (target N r e) x taken on (of-off _ (Member-append_right _ begun ended
      (Member-map (λ y. is N r (NodeOn (target N r e) t) ∷ isnt N r (Taken t) ∷ isnt N r (EdgeOn e y) ∷ []) x (entries N r t) entry)))
