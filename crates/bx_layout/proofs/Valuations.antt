-- What goes out of a tile depends on the borders above it alone, so that the borders of a form grid have
-- exactly one valuation.
use Rattle.std.proofs.Common.{◌≡◌, ℕ, zero, suc, ◌≢◌, ◌+◌, ◌*◌, ◌<◌, ◌≤◌, Bool, false, List, [], ◌∷◌, ◌++◌, length, get_or, Some, None, refl, sym, ◌∙◌, ap, ap₂, subst, arith, inl, inr, length-append, set, get_or-set_other, get_or-set_same}
use Rattle.std.proofs.lemmas.List.{length-set}
use Rattle.std.specs.Prelude.{Option, if◌then◌else◌, option_map}
use Rattle.std.proofs.lemmas.Bool.{cases_lt, cases_eq}
use Rattle.std.proofs.lemmas.List.{ext_get_or, get_or_append_left, get_or-append-add}
use Rattle.bx_logic.specs.Values.{value_of}
use Rattle.bx_forms.specs.declared.side.Side.{Side}
use Rattle.bx_forms.specs.declared.side.Side.TheVariants.{Left, Right}
use Rattle.bx_forms.specs.Sides.{opposite, used_values}
use Rattle.bx_grid.specs.Tiles.{tile_count, above, border, entering}
use Rattle.bx_grid.proofs.Neighbours.{above-less}
use Rattle.bx_layout.specs.Grids.{FormGrid, form_at, node_in, upper_in}
use Rattle.bx_layout.specs.Valuations.{value_on, comes_in, reads_given, reads, sent_value, IsBorderValuation, IsOnlyBorderValuation}

-- what goes out of a tile on a lower side
abbrev pub sent_at : FormGrid → List Bool → List Bool → ℕ → Side → Bool
sent_at g given borders t side = sent_value (form_at g t) (reads g given borders t) side

-- the two lists have the same first n values
abbrev pub AgreeBelow : ℕ → List Bool → List Bool → Type 0
AgreeBelow n bs cs = (j : ℕ) → j < n → get_or bs j false ≡ get_or cs j false

border-less : (u t : ℕ) (side : Side) → u < t → border u side < 2 * t
border-less u t Left h = omega arith
border-less u t Right h = omega arith

value_on-local : (bs cs : List Bool) (t : ℕ) (side : Side) (u : Option ℕ) → ((v : ℕ) → u ≡ Some v → v < t) → AgreeBelow (2 * t) bs cs →
    value_on bs (option_map (λ v. border v side) u) ≡ value_on cs (option_map (λ v. border v side) u)
value_on-local bs cs t side None h agree = refl
value_on-local bs cs t side (Some v) h agree = agree (border v side) (border-less v t side (h v refl))

entering-local : (g : FormGrid) (bs cs : List Bool) (t : ℕ) (side : Side) → AgreeBelow (2 * t) bs cs →
    value_on bs (entering g.ratio t side) ≡ value_on cs (entering g.ratio t side)
entering-local g bs cs t side agree = value_on-local bs cs t (opposite side) (above g.ratio t side) (λ v e. above-less g.ratio t v side e) agree

comes_in-local : (g : FormGrid) (bs cs : List Bool) (t : ℕ) → AgreeBelow (2 * t) bs cs → comes_in g bs t ≡ comes_in g cs t
comes_in-local g bs cs t agree =
    ap₂ (λ (l r : Bool). used_values (upper_in (form_at g t)) l r) (entering-local g bs cs t Left agree) (entering-local g bs cs t Right agree)

pub sent-local : (g : FormGrid) (given bs cs : List Bool) (t : ℕ) (side : Side) → AgreeBelow (2 * t) bs cs →
    sent_at g given bs t side ≡ sent_at g given cs t side
sent-local g given bs cs t side agree =
    ap (λ (ins : List Bool). sent_value (form_at g t) (if reads_given (node_in (form_at g t)) then value_of given t ∷ [] else ins) side) (comes_in-local g bs cs t agree)

-- the values of the borders of the first n tiles
pub made : FormGrid → List Bool → ℕ → List Bool
made g given zero = []
made g given (suc n) = made g given n ++ (sent_at g given (made g given n) n Left ∷ sent_at g given (made g given n) n Right ∷ [])

length-made : (g : FormGrid) (given : List Bool) (n : ℕ) → length (made g given n) ≡ 2 * n
unfolding made
length-made g given zero = refl
length-made g given (suc n) =
    let e = length-append (made g given n) (sent_at g given (made g given n) n Left ∷ sent_at g given (made g given n) n Right ∷ []) in
    omega (arith, e, length-made g given n)

-- what is made further on leaves it as it was
made-more : (g : FormGrid) (given : List Bool) (n : ℕ) → AgreeBelow (2 * n) (made g given (suc n)) (made g given n)
unfolding made
made-more g given n j h = get_or_append_left (made g given n) _ false j (omega (arith, length-made g given n))

made-here : (g : FormGrid) (given : List Bool) (n : ℕ) (side : Side) →
    get_or (made g given (suc n)) (border n side) false ≡ sent_at g given (made g given n) n side
unfolding made
made-here g given n Left =
    let e : border n Left ≡ length (made g given n) + 0 = omega (arith, length-made g given n) in
    rw e (get_or-append-add (made g given n) _ 0 false)
made-here g given n Right =
    let e : border n Right ≡ length (made g given n) + 1 = omega (arith, length-made g given n) in
    rw e (get_or-append-add (made g given n) _ 1 false)

made-each : (g : FormGrid) (given : List Bool) (n t : ℕ) (side : Side) → t < n →
    get_or (made g given n) (border t side) false ≡ sent_at g given (made g given n) t side
made-each g given zero t side h = absurd (omega arith)
made-each g given (suc n) t side h =
    elim (cases_lt t n) [
      | inl less ↦
          made-more g given n (border t side) (let l = border-less t n side less in omega (arith, l))
          ∙ made-each g given n t side less
          ∙ sym (sent-local g given (made g given (suc n)) (made g given n) t side (λ j k. made-more g given n j (omega arith)))
      | inr ge ↦
          let e : t ≡ n = omega arith in
          subst (λ (m : ℕ). get_or (made g given (suc n)) (border m side) false ≡ sent_at g given (made g given (suc n)) m side) (sym e)
          (made-here g given n side ∙ sym (sent-local g given (made g given (suc n)) (made g given n) n side (made-more g given n)))
    ]

-- two valuations agree on the borders of the first n tiles
valuations-agree : (g : FormGrid) (given bs cs : List Bool) → IsBorderValuation g given bs → IsBorderValuation g given cs →
    (n : ℕ) → n ≤ tile_count g.ratio → AgreeBelow (2 * n) bs cs
valuations-agree g given bs cs b c zero h j l = absurd (omega arith)
valuations-agree g given bs cs b c (suc n) h j l =
    let earlier : AgreeBelow (2 * n) bs cs = valuations-agree g given bs cs b c n (omega arith) in
    let here : (side : Side) → get_or bs (border n side) false ≡ get_or cs (border n side) false =
    λ side. b.each n side (omega arith) ∙ sent-local g given bs cs n side earlier ∙ sym (c.each n side (omega arith)) in
    elim (cases_lt j (2 * n)) [
      | inl less ↦ earlier j less
      | inr ge ↦ elim (cases_eq j (2 * n)) [
        | inl e ↦ subst (λ (m : ℕ). get_or bs m false ≡ get_or cs m false) (sym e) (here Left)
        | inr ne ↦ let e : j ≡ 2 * n + 1 = omega arith in
            subst (λ (m : ℕ). get_or bs m false ≡ get_or cs m false) (sym e) (here Right)
      ]
    ]

-- a valuation is the only one
pub only-valuation : (g : FormGrid) (given bs : List Bool) → IsBorderValuation g given bs → IsOnlyBorderValuation g given bs
only-valuation g given bs is = record {
  is = is;
  only = λ others o. ext_get_or false others bs (o.whole ∙ sym is.whole)
      (λ i h. valuations-agree g given others bs o is (tile_count g.ratio) (omega arith) i (omega (arith, o.whole)));
}

pub made-valuation : (g : FormGrid) (given : List Bool) → IsBorderValuation g given (made g given (tile_count g.ratio))
made-valuation g given =
    record { whole = length-made g given (tile_count g.ratio); each = λ t side h. made-each g given (tile_count g.ratio) t side h }

pub one-valuation : (g : FormGrid) (given : List Bool) → (borders : List Bool) × IsOnlyBorderValuation g given borders
one-valuation g given = (made g given (tile_count g.ratio), only-valuation g given (made g given (tile_count g.ratio)) (made-valuation g given))

-- ---- filling in

-- the two borders of the next tile are written, and what was written before stays right
pub written : (g : FormGrid) (given bs : List Bool) (t b c : ℕ) (l r : Bool) → b ≡ border t Left → c ≡ border t Right → 2 * t + 1 < length bs →
    ((u : ℕ) → u < t → (side : Side) → value_of bs (border u side) ≡ sent_at g given bs u side) →
    l ≡ sent_at g given bs t Left → r ≡ sent_at g given bs t Right →
    (u : ℕ) → u < t + 1 → (side : Side) → value_of (set (set bs b l) c r) (border u side) ≡ sent_at g given (set (set bs b l) c r) u side
written g given bs t b c l r at_left at_right room before left right u h side = elim (cases_lt u t) [
  | inl less ↦
      agree u less (border u side) (border-less u t side less)
      ∙ before u less side
      ∙ sym (sent-local g given (set (set bs b l) c r) bs u side (λ j k. agree u less j (omega arith)))
  | inr ge ↦ (let same : u ≡ t = omega arith in subst (λ (v : ℕ). value_of (set (set bs b l) c r) (border v side) ≡ sent_at g given (set (set bs b l) c r) v side) (sym same) (here side))
]
  where
    agree_below : AgreeBelow (2 * t) (set (set bs b l) c r) bs
    agree_below j k =
        let off_right : j ≢ c = λ e. omega arith in
        let off_left : j ≢ b = λ e. omega arith in
        get_or-set_other (set bs b l) c j r false off_right ∙ get_or-set_other bs b j l false off_left

    agree : (v : ℕ) → v < t → (j : ℕ) → j < 2 * t → get_or (set (set bs b l) c r) j false ≡ get_or bs j false
    agree v less j k = agree_below j k

    here_left : get_or (set (set bs b l) c r) (border t Left) false ≡ l
    here_left =
        let other : border t Left ≢ c = λ e. omega arith in
        get_or-set_other (set bs b l) c (border t Left) r false other ∙ ap (λ j. get_or (set bs b l) j false) (sym at_left) ∙ get_or-set_same bs b l false (omega arith)

    here_right : get_or (set (set bs b l) c r) (border t Right) false ≡ r
    here_right =
        ap (λ j. get_or (set (set bs b l) c r) j false) (sym at_right) ∙ get_or-set_same (set bs b l) c r false (omega (arith, length-set bs b l))

    here : (s : Side) → value_of (set (set bs b l) c r) (border t s) ≡ sent_at g given (set (set bs b l) c r) t s
    here Left = here_left ∙ left ∙ sym (sent-local g given (set (set bs b l) c r) bs t Left agree_below)
    here Right = here_right ∙ right ∙ sym (sent-local g given (set (set bs b l) c r) bs t Right agree_below)
