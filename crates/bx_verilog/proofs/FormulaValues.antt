-- The values of formulas in a net where their own nets lie one behind the other.
use Rattle.std.proofs.Common.{◌≡◌, ℕ, zero, suc, ◌+◌, ◌<◌, Bool, not, List, [], ◌∷◌, ◌++◌, map, flat_map, length, get_or, refl, sym, ap, ◌∙◌, ap₂, subst, arith, inl, length-append}
use Rattle.std.proofs.lemmas.List.{length_push}
use Rattle.bx_logic.specs.declared.op.Op.TheVariants.{Not}
use Rattle.bx_logic.specs.declared.driver.Driver.{Driver}
use Rattle.bx_logic.specs.declared.driver.Driver.TheVariants.{Gate}
use Rattle.bx_logic.specs.Op.{op_value}
use Rattle.bx_logic.specs.Values.{driver_value}
use Rattle.bx_verilog.specs.Formulas.{Text, Formula, named, constant, negation, pair, operation, formula_value, names_of}
use Rattle.bx_verilog.specs.Elaboration.{own, all_own, net_number, own_drivers, net_numbers, all_own_drivers}
use Rattle.bx_logic.proofs.Members.{Member, Member-append_left, Member-append_right}
use Rattle.bx_verilog.proofs.OwnNets.{length-own_drivers}

-- each item of a list has this with its number, where they are numbered from `first` on
abbrev pub AllFrom : {X : Type 0} → (ℕ → X → Type 0) → ℕ → List X → Type 0
AllFrom P first [] = Unit {0}
AllFrom P first (x ∷ xs) = P first x × AllFrom P (suc first) xs

pub AllFrom-left : {X : Type 0} (P : ℕ → X → Type 0) (first : ℕ) (xs ys : List X) → AllFrom P first (xs ++ ys) → AllFrom P first xs
AllFrom-left P first [] ys h = tt
AllFrom-left P first (x ∷ xs) ys h = (h.0, AllFrom-left P (suc first) xs ys h.1)

pub AllFrom-right : {X : Type 0} (P : ℕ → X → Type 0) (first next : ℕ) (xs ys : List X) → next ≡ first + length xs →
    AllFrom P first (xs ++ ys) → AllFrom P next ys
AllFrom-right P first next [] ys e h =
    let same : first ≡ next = omega arith in subst (λ (n : ℕ). AllFrom P n ys) same h
AllFrom-right P first next (x ∷ xs) ys e h = AllFrom-right P (suc first) next xs ys (omega arith) h.1

pub AllFrom-append : {X : Type 0} (P : ℕ → X → Type 0) (first next : ℕ) (xs ys : List X) → next ≡ first + length xs →
    AllFrom P first xs → AllFrom P next ys → AllFrom P first (xs ++ ys)
AllFrom-append P first next [] ys e h k =
    let same : next ≡ first = omega arith in subst (λ (n : ℕ). AllFrom P n ys) same k
AllFrom-append P first next (x ∷ xs) ys e h k = (h.0, AllFrom-append P (suc first) next xs ys (omega arith) h.1 k)

pub AllFrom-at : {X : Type 0} (P : ℕ → X → Type 0) (first n : ℕ) (xs : List X) (k : ℕ) (d : X) → n ≡ first + k → k < length xs →
    AllFrom P first xs → P n (get_or xs k d)
AllFrom-at P first n [] k d e l h = absurd (omega arith)
AllFrom-at {X} P first n (x ∷ xs) zero d e l h =
    let same : first ≡ n = omega arith in subst (λ (i : ℕ). P i x) same h.0
AllFrom-at P first n (x ∷ xs) (suc k) d e l h = AllFrom-at P (suc first) n xs k d (omega arith) (omega arith) h.1

pub AllFrom-from_at : {X : Type 0} (P : ℕ → X → Type 0) (first : ℕ) (xs : List X) (d : X) →
    ((n k : ℕ) → n ≡ first + k → k < length xs → P n (get_or xs k d)) → AllFrom P first xs
AllFrom-from_at P first [] d h = tt
AllFrom-from_at P first (x ∷ xs) d h =
    (h first 0 (omega arith) (omega arith), AllFrom-from_at P (suc first) xs d (λ n k e l. h n (suc k) (omega arith) (omega arith)))

-- the net with this number has the value that the driver gives, where the nets have these values
abbrev pub IsMet : List Bool → (ℕ → Bool) → ℕ → Driver → Type 0
IsMet bits nets n d = nets n ≡ driver_value bits nets d

-- the net with this number has this value
abbrev pub HasValue : (ℕ → Bool) → ℕ → Bool → Type 0
HasValue nets n b = nets n ≡ b

-- the values of the own nets of formulas
abbrev pub own_values : (Text → Bool) → Formula → List Bool
own_values v (named n) = []
own_values v (constant b) = b ∷ []
own_values v (negation x) = own_values v x ++ formula_value v (negation x) ∷ []
own_values v (pair o x y) = own_values v x ++ own_values v y ++ formula_value v (pair o x y) ∷ []

abbrev pub all_own_values : (Text → Bool) → List Formula → List Bool
all_own_values v [] = []
all_own_values v (x ∷ xs) = own_values v x ++ all_own_values v xs

pub length-own_values : (v : Text → Bool) (x : Formula) → length (own_values v x) ≡ own x
length-own_values v (named n) = refl
length-own_values v (constant b) = refl
length-own_values v (negation x) =
    length_push (own_values v x) (formula_value v (negation x)) ∙ ap (λ n. n + 1) (length-own_values v x)
length-own_values v (pair o x y) =
    length_push (own_values v x ++ own_values v y) (formula_value v (pair o x y))
    ∙ ap (λ n. n + 1) (length-append (own_values v x) (own_values v y) ∙ ap₂ (λ n k. n + k) (length-own_values v x) (length-own_values v y))

pub length-all_own_values : (v : Text → Bool) (xs : List Formula) → length (all_own_values v xs) ≡ all_own xs
length-all_own_values v [] = refl
length-all_own_values v (x ∷ xs) =
    length-append (own_values v x) (all_own_values v xs) ∙ ap₂ (λ n k. n + k) (length-own_values v x) (length-all_own_values v xs)

module _ (numbered : Text → ℕ) (bits : List Bool) (nets : ℕ → Bool) where
  -- the names have the values of their nets
  abbrev named_values : Text → Bool
  named_values n = nets (numbered n)

  -- where the drivers of its own nets are met, a formula's net has its value
  pub value-of_met : (first : ℕ) (x : Formula) → AllFrom (IsMet bits nets) first (own_drivers numbered first x) →
      nets (net_number numbered first x) ≡ formula_value named_values x
  value-of_met first (named n) h = refl
  value-of_met first (constant b) h = h.0
  value-of_met first (negation x) h =
      let xs = own_drivers numbered first x in
      let last = AllFrom-right (IsMet bits nets) first (first + own x) xs (Gate Not (net_number numbered first x ∷ []) ∷ [])
      (sym (ap (λ n. first + n) (length-own_drivers numbered first x))) h in
      last.0 ∙ ap not (value-of_met first x (AllFrom-left (IsMet bits nets) first xs (Gate Not (net_number numbered first x ∷ []) ∷ []) h))
  value-of_met first (pair o x y) h =
      let xs = own_drivers numbered first x in
      let ys = own_drivers numbered (first + own x) y in
      let gate : List Driver = Gate (operation o) (net_number numbered first x ∷ net_number numbered (first + own x) y ∷ []) ∷ [] in
      let both = AllFrom-left (IsMet bits nets) first (xs ++ ys) gate h in
      let last = AllFrom-right (IsMet bits nets) first (first + own x + own y) (xs ++ ys) gate
      (omega (arith, length-append xs ys, length-own_drivers numbered first x, length-own_drivers numbered (first + own x) y)) h in
      let left = value-of_met first x (AllFrom-left (IsMet bits nets) first xs ys both) in
      let right = value-of_met (first + own x) y
      (AllFrom-right (IsMet bits nets) first (first + own x) xs ys (omega (arith, length-own_drivers numbered first x)) both) in
      last.0 ∙ ap₂ (λ (b c : Bool). op_value (operation o) (b ∷ c ∷ [])) left right

  pub values-of_met : (first : ℕ) (xs : List Formula) → AllFrom (IsMet bits nets) first (all_own_drivers numbered first xs) →
      map nets (net_numbers numbered first xs) ≡ map (formula_value named_values) xs
  values-of_met first [] h = refl
  values-of_met first (x ∷ xs) h =
      let ds = own_drivers numbered first x in
      let es = all_own_drivers numbered (first + own x) xs in
      ap₂ (λ (b : Bool) (bs : List Bool). b ∷ bs)
      (value-of_met first x (AllFrom-left (IsMet bits nets) first ds es h))
      (values-of_met (first + own x) xs
      (AllFrom-right (IsMet bits nets) first (first + own x) ds es (omega (arith, length-own_drivers numbered first x)) h))

  -- where the own nets of a formula have its values, and the names that it reads have theirs, its net has its value
  pub value-of_own : (v : Text → Bool) (first : ℕ) (x : Formula) → AllFrom (HasValue nets) first (own_values v x) →
      ((n : Text) → Member n (names_of x) → nets (numbered n) ≡ v n) → nets (net_number numbered first x) ≡ formula_value v x
  value-of_own v first (named n) h read = read n (inl refl)
  value-of_own v first (constant b) h read = h.0
  value-of_own v first (negation x) h read =
      (AllFrom-right (HasValue nets) first (first + own x) (own_values v x) (formula_value v (negation x) ∷ [])
      (omega (arith, length-own_values v x)) h).0
  value-of_own v first (pair o x y) h read =
      let xs = own_values v x in
      let ys = own_values v y in
      (AllFrom-right (HasValue nets) first (first + own x + own y) (xs ++ ys) (formula_value v (pair o x y) ∷ [])
      (omega (arith, length-append xs ys, length-own_values v x, length-own_values v y)) h).0

  pub values-of_own : (v : Text → Bool) (first : ℕ) (xs : List Formula) → AllFrom (HasValue nets) first (all_own_values v xs) →
      ((n : Text) → Member n (flat_map names_of xs) → nets (numbered n) ≡ v n) →
      map nets (net_numbers numbered first xs) ≡ map (formula_value v) xs
  values-of_own v first [] h read = refl
  values-of_own v first (x ∷ xs) h read =
      let bs = own_values v x in
      let cs = all_own_values v xs in
      ap₂ (λ (b : Bool) (bs : List Bool). b ∷ bs)
      (value-of_own v first x (AllFrom-left (HasValue nets) first bs cs h)
      (λ n m. read n (Member-append_left n (names_of x) (flat_map names_of xs) m)))
      (values-of_own v (first + own x) xs
      (AllFrom-right (HasValue nets) first (first + own x) bs cs (omega (arith, length-own_values v x)) h)
      (λ n m. read n (Member-append_right n (names_of x) (flat_map names_of xs) m)))

  -- and the drivers of these nets are met
  pub met-own : (v : Text → Bool) (first : ℕ) (x : Formula) → AllFrom (HasValue nets) first (own_values v x) →
      ((n : Text) → Member n (names_of x) → nets (numbered n) ≡ v n) → AllFrom (IsMet bits nets) first (own_drivers numbered first x)
  met-own v first (named n) h read = tt
  met-own v first (constant b) h read = (h.0, tt)
  met-own v first (negation x) h read =
      let bs = own_values v x in
      let own_ones = AllFrom-left (HasValue nets) first bs (formula_value v (negation x) ∷ []) h in
      let last = value-of_own v first (negation x) h read in
      AllFrom-append (IsMet bits nets) first (first + own x) (own_drivers numbered first x) (Gate Not (net_number numbered first x ∷ []) ∷ [])
      (omega (arith, length-own_drivers numbered first x))
      (met-own v first x own_ones read)
      (last ∙ sym (ap not (value-of_own v first x own_ones read)), tt)
  met-own v first (pair o x y) h read =
      let bs = own_values v x in
      let cs = own_values v y in
      let ds = own_drivers numbered first x in
      let es = own_drivers numbered (first + own x) y in
      let read_left : (n : Text) → Member n (names_of x) → nets (numbered n) ≡ v n =
      λ n m. read n (Member-append_left n (names_of x) (names_of y) m) in
      let read_right : (n : Text) → Member n (names_of y) → nets (numbered n) ≡ v n =
      λ n m. read n (Member-append_right n (names_of x) (names_of y) m) in
      let both = AllFrom-left (HasValue nets) first (bs ++ cs) (formula_value v (pair o x y) ∷ []) h in
      let left = AllFrom-left (HasValue nets) first bs cs both in
      let right = AllFrom-right (HasValue nets) first (first + own x) bs cs (omega (arith, length-own_values v x)) both in
      let last = value-of_own v first (pair o x y) h read in
      AllFrom-append (IsMet bits nets) first (first + own x + own y) (ds ++ es)
      (Gate (operation o) (net_number numbered first x ∷ net_number numbered (first + own x) y ∷ []) ∷ [])
      (omega (arith, length-append ds es, length-own_drivers numbered first x, length-own_drivers numbered (first + own x) y))
      (AllFrom-append (IsMet bits nets) first (first + own x) ds es (omega (arith, length-own_drivers numbered first x))
      (met-own v first x left read_left) (met-own v (first + own x) y right read_right)) (
        last
            ∙ sym (ap₂ (λ (b c : Bool). op_value (operation o) (b ∷ c ∷ []))
            (value-of_own v first x left read_left) (value-of_own v (first + own x) y right read_right)),
        tt,
      )

  pub met-all_own : (v : Text → Bool) (first : ℕ) (xs : List Formula) → AllFrom (HasValue nets) first (all_own_values v xs) →
      ((n : Text) → Member n (flat_map names_of xs) → nets (numbered n) ≡ v n) →
      AllFrom (IsMet bits nets) first (all_own_drivers numbered first xs)
  met-all_own v first [] h read = tt
  met-all_own v first (x ∷ xs) h read =
      let bs = own_values v x in
      let cs = all_own_values v xs in
      let ds = own_drivers numbered first x in
      let es = all_own_drivers numbered (first + own x) xs in
      AllFrom-append (IsMet bits nets) first (first + own x) ds es (omega (arith, length-own_drivers numbered first x))
      (met-own v first x (AllFrom-left (HasValue nets) first bs cs h)
      (λ n m. read n (Member-append_left n (names_of x) (flat_map names_of xs) m)))
      (met-all_own v (first + own x) xs
      (AllFrom-right (HasValue nets) first (first + own x) bs cs (omega (arith, length-own_values v x)) h)
      (λ n m. read n (Member-append_right n (names_of x) (flat_map names_of xs) m)))
