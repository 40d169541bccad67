-- How the uses of names follow their mentions, one by one.
use Rattle.std.proofs.Common.{◌≡◌, ℕ, suc, replicate, inl, inr, ◌+◌, ◌<◌, ◌^◌, Bool, true, false, cond, ◌&&◌, not, List, [], ◌∷◌, ◌++◌, map, length, get_or, Contains, refl, sym, ap, ◌∙◌, subst, arith, take, length-take}
use Rattle.std.proofs.Math.ListN.{set}
use Rattle.std.specs.List.{AllByRecursion}
use Rattle.std.specs.Str.{bytes_eq}
use Rattle.std.proofs.lemmas.Bool.{false_from_ne_true, cases_Bool}
use Rattle.std.proofs.lemmas.List.{get_or-map, length-map, map_more}
use Rattle.std.proofs.lemmas.Simd.{map-map}
use Rattle.std.proofs.lemmas.List.Elements.{Contains-get_or}
use Rattle.std.proofs.lemmas.Option.{slice_get_within, get_or_from_slice_get}
use Rattle.std.proofs.lemmas.List.Sums.{sum_by_push, count_by-le-length}
use Rattle.bx_logic.specs.Lists.{AreDistinct}
use Rattle.bx_syntax.specs.Parts.{ModuleTree}
use Rattle.bx_verilog.specs.declared.role.Role.{Role}
use Rattle.bx_verilog.specs.declared.uses.Uses.{Uses}
use Rattle.bx_verilog.specs.Formulas.{Text}
use Rattle.bx_verilog.specs.declared.mentions.Mention.{Mention as Found}
use Rattle.bx_verilog.specs.Mentions.{firsts, Mention, mentions, names, is_header, is_directed, is_input, is_output, is_driven, is_read}
use Rattle.bx_verilog.specs.Shown.{shown, number_among}
use Rattle.bx_verilog.proofs.Firsts.{contains-firsts, firsts-distinct, same_texts, same_bytes, other_texts, text-at}
use Rattle.bx_verilog.specs.Uses.{count_among, uses_among, count_and, uses_and, HasRoom, AreUses}

counted-sum : (b : Bool) (k : ℕ) → k + cond b 1 0 ≡ count_and b k
counted-sum true k = refl
counted-sum false k = omega arith

count_among-push : (test : Role → Bool) (found : List Mention) (x : Mention) (n : Text) →
    count_among test (found ++ x ∷ []) n ≡ count_and (bytes_eq n x.0 && test x.1) (count_among test found n)
count_among-push test found x n =
    sum_by_push (λ (y : Mention). cond (bytes_eq n y.0 && test y.1) 1 0) found x
    ∙ counted-sum (bytes_eq n x.0 && test x.1) (count_among test found n)

count_among-same : (test : Role → Bool) (found : List Mention) (x : Mention) (n : Text) → bytes_eq n x.0 ≡ true →
    count_among test (found ++ x ∷ []) n ≡ count_and (test x.1) (count_among test found n)
count_among-same test found x n e =
    count_among-push test found x n ∙ ap (λ (b : Bool). count_and (b && test x.1) (count_among test found n)) e

count_among-other : (test : Role → Bool) (found : List Mention) (x : Mention) (n : Text) → bytes_eq n x.0 ≡ false →
    count_among test (found ++ x ∷ []) n ≡ count_among test found n
count_among-other test found x n e =
    count_among-push test found x n ∙ ap (λ (b : Bool). count_and (b && test x.1) (count_among test found n)) e

six : (f : ℕ → ℕ → ℕ → ℕ → ℕ → ℕ → Uses) → (a a' : ℕ) → a ≡ a' → (b b' : ℕ) → b ≡ b' → (c c' : ℕ) → c ≡ c' → (d d' : ℕ) → d ≡ d' → (e e' : ℕ) → e ≡ e' → (g g' : ℕ) → g ≡ g' →
    f a b c d e g ≡ f a' b' c' d' e' g'
six f a a' p b b' q c c' r d d' s e e' t g g' u = cc

same_uses : (u v : Uses) → u.header ≡ v.header → u.directed ≡ v.directed → u.input ≡ v.input → u.output ≡ v.output → u.driven ≡ v.driven → u.read ≡ v.read → u ≡ v
same_uses u v a b c d e f =
    six (λ header directed input output driven read. record { header = header; directed = directed; input = input; output = output; driven = driven; read = read })
    u.header v.header a u.directed v.directed b u.input v.input c u.output v.output d u.driven v.driven e u.read v.read f

uses_among-same : (found : List Mention) (x : Mention) (n : Text) → bytes_eq n x.0 ≡ true →
    uses_among (found ++ x ∷ []) n ≡ uses_and x.1 (uses_among found n)
uses_among-same found x n e =
    same_uses (uses_among (found ++ x ∷ []) n) (uses_and x.1 (uses_among found n))
    (count_among-same is_header found x n e) (count_among-same is_directed found x n e) (count_among-same is_input found x n e)
    (count_among-same is_output found x n e) (count_among-same is_driven found x n e) (count_among-same is_read found x n e)

uses_among-other : (found : List Mention) (x : Mention) (n : Text) → bytes_eq n x.0 ≡ false →
    uses_among (found ++ x ∷ []) n ≡ uses_among found n
uses_among-other found x n e =
    same_uses (uses_among (found ++ x ∷ []) n) (uses_among found n)
    (count_among-other is_header found x n e) (count_among-other is_directed found x n e) (count_among-other is_input found x n e)
    (count_among-other is_output found x n e) (count_among-other is_driven found x n e) (count_among-other is_read found x n e)

differs : (n other : Text) → (n ≡ other → ⊥) → bytes_eq n other ≡ false
differs n other h = false_from_ne_true (bytes_eq n other) (λ e. h (same_texts n other e))

-- names other than the one that is mentioned are used as before
all_others : (found : List Mention) (x : Mention) (ns : List Text) → AllByRecursion (λ n. n ≡ x.0 → ⊥) ns →
    map (uses_among (found ++ x ∷ [])) ns ≡ map (uses_among found) ns
all_others found x [] h = refl
all_others found x (n ∷ ns) h =
    let head = uses_among-other found x n (differs n x.0 h.0) in
    let tail = all_others found x ns h.1 in
    cc

-- the uses with one more at one place
abbrev uses_and_at : Role → List Uses → ℕ → Uses → List Uses
uses_and_at role us k d = set us k (uses_and role (get_or us k d))

uses_and_here : (found : List Mention) (x : Mention) (n : Text) (ns : List Text) (d : Uses) → AreDistinct (n ∷ ns) → n ≡ x.0 →
    map (uses_among (found ++ x ∷ [])) (n ∷ ns) ≡ uses_and_at x.1 (map (uses_among found) (n ∷ ns)) 0 d
uses_and_here found x n ns d h e =
    let head = uses_among-same found x n (same_bytes n x.0 e) in
    let others : AllByRecursion (λ other. other ≡ x.0 → ⊥) ns = subst (λ (t : Text). AllByRecursion (λ other. other ≡ t → ⊥) ns) e h.0 in
    let tail = all_others found x ns others in
    cc

uses_and_later : (found : List Mention) (x : Mention) (n : Text) (ns : List Text) (k : ℕ) (d : Uses) → bytes_eq n x.0 ≡ false →
    map (uses_among (found ++ x ∷ [])) ns ≡ uses_and_at x.1 (map (uses_among found) ns) k d →
    map (uses_among (found ++ x ∷ [])) (n ∷ ns) ≡ uses_and_at x.1 (map (uses_among found) (n ∷ ns)) (1 + k) d
uses_and_later found x n ns k d e h =
    let head = uses_among-other found x n e in
    let place : suc k ≡ 1 + k = omega arith in
    subst (λ (i : ℕ). map (uses_among (found ++ x ∷ [])) (n ∷ ns) ≡ uses_and_at x.1 (map (uses_among found) (n ∷ ns)) i d) place cc

-- a mention is noted at its name's number
pub uses_among-push : (found : List Mention) (x : Mention) (ns : List Text) (d : Uses) → AreDistinct ns →
    map (uses_among (found ++ x ∷ [])) ns ≡ uses_and_at x.1 (map (uses_among found) ns) (number_among ns x.0) d
uses_among-push found x [] d h = refl
uses_among-push found x (n ∷ ns) d h =
    let Noted = λ (b : Bool). map (uses_among (found ++ x ∷ [])) (n ∷ ns)
    ≡ uses_and_at x.1 (map (uses_among found) (n ∷ ns)) (cond (not b) (1 + number_among ns x.0) 0) d in
    elim (cases_Bool (bytes_eq x.0 n)) [
      | inl e ↦ subst Noted (sym e) (uses_and_here found x n ns d h (sym (same_texts x.0 n e)))
      | inr e ↦ subst Noted (sym e) (uses_and_later found x n ns (number_among ns x.0) d
          (differs n x.0 (λ same. other_texts x.0 n e (sym same)))
          (uses_among-push found x ns d h.1))
    ]

pub uses_among-room : (found : List Mention) (n : Text) → length found + 1 < 2 ^ 64 → HasRoom (uses_among found n)
uses_among-room found n h =
    let below = λ (test : Role → Bool). count_by-le-length (λ (x : Mention). bytes_eq n x.0 && test x.1) found in
    (omega (arith, below is_header), omega (arith, below is_directed), omega (arith, below is_input), omega (arith, below is_output), omega (arith, below is_driven), omega (arith, below is_read))

abbrev pub none : Uses
none = record { header = 0; directed = 0; input = 0; output = 0; driven = 0; read = 0 }

-- before the first mention
pub uses_among-none : (ns : List Text) → replicate (length ns) none ≡ map (uses_among []) ns
uses_among-none [] = refl
uses_among-none (n ∷ ns) = ap (λ (us : List Uses). none ∷ us) (uses_among-none ns)

-- A step of the count over the code's mentions `found`, of which the first i are counted in `us`: the next
-- one's name has the number k.
module _ (found : List Found) (i : ℕ) (d : Found) (ns : List Text) (us : List Uses) (k : ℕ) where
  abbrev item : Found
  item = get_or found i d

  abbrev earlier : List Mention
  earlier = map shown (take i found)

  abbrev AreNames : Type 0
  AreNames = ns ≡ firsts (map (λ (x : Found). x.name.now) found)

  abbrev AreCounted : Type 0
  AreCounted = us ≡ map (uses_among earlier) ns

  abbrev IsNumber : Type 0
  IsNumber = k ≡ number_among ns item.name.now

  is-named : AreNames → i < length found → Contains ns item.name.now
  is-named names_are low =
      let name = λ (x : Found). x.name.now in
      let here : get_or (map name found) i (name d) ≡ item.name.now = get_or-map name found i d (name d) low in
      let among : Contains (map name found) item.name.now =
      subst (Contains (map name found)) here (Contains-get_or (map name found) i (name d) (simp length-map low)) in
      subst (λ (all : List Text). Contains all item.name.now) (sym names_are) (contains-firsts (map name found) item.name.now among)

  number-below : AreNames → i < length found → IsNumber → k < length ns
  number-below names_are low number =
      subst (λ (n : ℕ). n < length ns) (sym number) (slice_get_within ns (number_among ns item.name.now) item.name.now (text-at ns item.name.now (is-named names_are low)))

  pub number-within : AreNames → AreCounted → i < length found → IsNumber → k < length us
  number-within names_are counts low number =
      let below = number-below names_are low number in
      let same : length us ≡ length ns = ap length counts ∙ length-map ns (uses_among earlier) in
      omega arith

  pub room-at_number : (old : Uses) → AreNames → AreCounted → i < length found → IsNumber → length found < 2 ^ 64 →
      old ≡ get_or us k old → HasRoom old
  room-at_number old names_are counts low number fits is =
      let below = number-below names_are low number in
      let one : get_or (map (uses_among earlier) ns) k old ≡ uses_among earlier (get_or ns k []) =
      get_or-map (uses_among earlier) ns k [] old below in
      let same : old ≡ uses_among earlier (get_or ns k []) = is ∙ ap (λ (all : List Uses). get_or all k old) counts ∙ one in
      let size : length earlier ≡ length (take i found) = length-map (take i found) shown in
      let short : length earlier + 1 < 2 ^ 64 = omega (arith, length-take i found) in
      subst HasRoom (sym same) (uses_among-room earlier (get_or ns k []) short)

  pub uses-more : (old new : Uses) → AreNames → AreCounted → i < length found → IsNumber →
      old ≡ get_or us k old → new ≡ uses_and item.role old → set us k new ≡ map (uses_among (map shown (take (i + 1) found))) ns
  uses-more old new names_are counts low number is now =
      let distinct : AreDistinct ns = subst AreDistinct (sym names_are) (firsts-distinct (map (λ (x : Found). x.name.now) found)) in
      let one = uses_among-push earlier (shown item) ns old distinct in
      let more = map_more shown found i d low in
      let us_now : set us k new ≡ map (uses_among (earlier ++ shown item ∷ [])) ns = cc in
      us_now ∙ ap (λ (all : List Mention). map (uses_among all) ns) (sym more)

-- what the counts over the code's mentions are to the module
pub AreUses-from_mentions : (m : ModuleTree) (found : List Found) (all : List Text) (uses : List Uses) → map shown found ≡ mentions m →
    all ≡ firsts (map (λ (x : Found). x.name.now) found) → uses ≡ map (uses_among (map shown found)) all → AreUses m all uses
AreUses-from_mentions m found all uses same named counted = record {
  named = named ∙ ap firsts (sym (map-map (λ (x : Mention). x.0) shown found) ∙ ap (map (λ (x : Mention). x.0)) same);
  counted = counted ∙ ap (λ (ms : List Mention). map (uses_among ms) all) same;
}

module _ (m : ModuleTree) (all : List Text) (uses : List Uses) (are : AreUses m all uses) where
  pub same-length : length uses ≡ length all
  same-length = ap length are.counted ∙ length-map all (uses_among (mentions m))

  pub uses-at : (k : ℕ) (n : Text) (d : Uses) → k < length all → get_or uses k d ≡ uses_among (mentions m) (get_or all k n)
  uses-at k n d low =
      ap (λ (us : List Uses). get_or us k d) are.counted ∙ get_or-map (uses_among (mentions m)) all k n d low

  -- the uses of a name stand at its number
  pub uses-at_number : (n : Text) (d : Uses) → Contains (names m) n → get_or uses (number_among all n) d ≡ uses_among (mentions m) n
  uses-at_number n d among =
      let at = text-at all n (subst (λ (ns : List Text). Contains ns n) (sym are.named) among) in
      let low = slice_get_within all (number_among all n) n at in
      uses-at (number_among all n) n d low ∙ ap (uses_among (mentions m)) (get_or_from_slice_get all (number_among all n) n n at)
