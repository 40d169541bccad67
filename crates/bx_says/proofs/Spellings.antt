-- Words and lines are read back in one way, since each ends where its stop first stands.
use Rattle.std.proofs.Common.{◌≡◌, ℕ, List, [], ◌∷◌, ◌++◌, map, refl, sym, ap, ◌∙◌, append_assoc}
use Rattle.std.specs.Prelude.{◌≢◌}
use Rattle.std.specs.List.{AllByRecursion, flat_map}
use Rattle.std.proofs.lemmas.List.{append-nil}
use Rattle.bx_lines.specs.Lines.{text_of}
use Rattle.bx_says.specs.Texts.{Text, spaced, IsPlain}

-- no byte of the text is this one
abbrev Lacks : ℕ → Text → Type 0
Lacks stop text = AllByRecursion (λ byte. byte ≢ stop) text

-- each text, and the stop behind it
abbrev ended : ℕ → List Text → Text
ended stop texts = flat_map (λ text. text ++ stop ∷ []) texts

split_once : (stop : ℕ) (a b x y : Text) → Lacks stop a → Lacks stop b → a ++ stop ∷ x ≡ b ++ stop ∷ y → (a ≡ b) × (x ≡ y)
split_once stop [] [] x y p q e = (refl, cc)
split_once stop [] (d ∷ b) x y p q e = let same : d ≡ stop = cc in absurd (q.0 same)
split_once stop (c ∷ a) [] x y p q e = let same : c ≡ stop = cc in absurd (p.0 same)
split_once stop (c ∷ a) (d ∷ b) x y p q e =
    let head : c ≡ d = cc in
    let tail : a ++ stop ∷ x ≡ b ++ stop ∷ y = cc in
    let both : (a ≡ b) × (x ≡ y) = split_once stop a b x y p.1 q.1 tail in
    let front : a ≡ b = both.0 in
    (cc, both.1)

some_ended : (stop : ℕ) (text rest : Text) → [] ≡ (text ++ stop ∷ []) ++ rest → ⊥
some_ended stop [] rest e = cc
some_ended stop (c ∷ text) rest e = cc

ended_once : (stop : ℕ) (xs ys : List Text) → AllByRecursion (Lacks stop) xs → AllByRecursion (Lacks stop) ys → ended stop xs ≡ ended stop ys → xs ≡ ys
ended_once stop [] [] p q e = refl
ended_once stop [] (y ∷ ys) p q e = absurd (some_ended stop y (ended stop ys) e)
ended_once stop (x ∷ xs) [] p q e = absurd (some_ended stop x (ended stop xs) (sym e))
ended_once stop (x ∷ xs) (y ∷ ys) p q e =
    let split = split_once stop x y (ended stop xs) (ended stop ys) p.0 q.0 (sym (append_assoc x (stop ∷ []) (ended stop xs)) ∙ e ∙ append_assoc y (stop ∷ []) (ended stop ys)) in
    let head : x ≡ y = split.0 in
    let tail : xs ≡ ys = ended_once stop xs ys p.1 q.1 split.1 in
    cc

-- what holds of each element
pub each_of : {X : Type 0} (P Q : X → Type 0) → ((x : X) → P x → Q x) → (xs : List X) → AllByRecursion P xs → AllByRecursion Q xs
each_of P Q f [] p = tt
each_of P Q f (x ∷ xs) p = (f x p.0, each_of P Q f xs p.1)

pub each_map : {X Y : Type 0} (f : X → Y) (P : X → Type 0) (Q : Y → Type 0) → ((x : X) → P x → Q (f x)) → (xs : List X) → AllByRecursion P xs → AllByRecursion Q (map f xs)
each_map f P Q g [] p = tt
each_map f P Q g (x ∷ xs) p = (g x p.0, each_map f P Q g xs p.1)

pub each_append : {X : Type 0} (P : X → Type 0) (xs ys : List X) → AllByRecursion P xs → AllByRecursion P ys → AllByRecursion P (xs ++ ys)
each_append P [] ys p q = q
each_append P (x ∷ xs) ys p q = (p.0, each_append P xs ys p.1 q)

pub map_once : {X Y : Type 0} (f : X → Y) (P : X → Type 0) → ((x y : X) → P x → P y → f x ≡ f y → x ≡ y) → (xs ys : List X) → AllByRecursion P xs → AllByRecursion P ys → map f xs ≡ map f ys → xs ≡ ys
map_once f P once [] [] p q e = refl
map_once f P once [] (y ∷ ys) p q e = cc
map_once f P once (x ∷ xs) [] p q e = cc
map_once f P once (x ∷ xs) (y ∷ ys) p q e =
    let first : f x ≡ f y = cc in
    let rest : map f xs ≡ map f ys = cc in
    let head : x ≡ y = once x y p.0 q.0 first in
    let tail : xs ≡ ys = map_once f P once xs ys p.1 q.1 rest in
    cc

-- a line, as its words
pub data Line : Type 0 where
  line : Text → List Text → Line

abbrev pub first_word : Line → Text
first_word (line first further) = first

abbrev pub line_text : Line → Text
line_text (line first further) = spaced first further

abbrev pub IsPlainLine : Line → Type 0
IsPlainLine (line first further) = IsPlain first × AllByRecursion IsPlain further

no_space : (text : Text) → IsPlain text → Lacks 32 text
no_space text p = each_of (λ byte. (byte ≢ 32) × (byte ≢ 10)) (λ byte. byte ≢ 32) (λ byte both. both.0) text p

no_feed : (text : Text) → IsPlain text → Lacks 10 text
no_feed text p = each_of (λ byte. (byte ≢ 32) × (byte ≢ 10)) (λ byte. byte ≢ 10) (λ byte both. both.1) text p

spaced_is : (first : Text) (further : List Text) → spaced first further ++ 32 ∷ [] ≡ ended 32 (first ∷ further)
spaced_is first [] = simp append-nil
spaced_is first (word ∷ words) =
    let behind : Text = flat_map (λ word. 32 ∷ word) words in
    append_assoc first ((32 ∷ word) ++ behind) (32 ∷ [])
    ∙ ap (λ (xs : Text). first ++ (32 ∷ xs)) (spaced_is word words)
    ∙ sym (append_assoc first (32 ∷ []) (ended 32 (word ∷ words)))

line_once : (a b : Line) → IsPlainLine a → IsPlainLine b → line_text a ≡ line_text b → a ≡ b
line_once (line first further) (line first' further') p q e =
    let words : first ∷ further ≡ first' ∷ further' =
    ended_once 32 (first ∷ further) (first' ∷ further') (each_of IsPlain (Lacks 32) no_space (first ∷ further) p) (each_of IsPlain (Lacks 32) no_space (first' ∷ further') q)
    (sym (spaced_is first further) ∙ ap (λ (xs : Text). xs ++ 32 ∷ []) e ∙ spaced_is first' further') in
    cc

spaced_no_feed : (further : List Text) → AllByRecursion IsPlain further → Lacks 10 (flat_map (λ word. 32 ∷ word) further)
spaced_no_feed [] p = tt
spaced_no_feed (word ∷ words) p = each_append (λ byte. byte ≢ 10) (32 ∷ word) (flat_map (λ word. 32 ∷ word) words) ((λ e. cc), no_feed word p.0) (spaced_no_feed words p.1)

line_no_feed : (a : Line) → IsPlainLine a → Lacks 10 (line_text a)
line_no_feed (line first further) p = each_append (λ byte. byte ≢ 10) first (flat_map (λ word. 32 ∷ word) further) (no_feed first p.0) (spaced_no_feed further p.1)

-- lines of plain words are spelled in one way
pub lines_once : (ls ms : List Line) → AllByRecursion IsPlainLine ls → AllByRecursion IsPlainLine ms → text_of (map line_text ls) ≡ text_of (map line_text ms) → ls ≡ ms
lines_once ls ms p q e =
    map_once line_text IsPlainLine line_once ls ms p q
    (ended_once 10 (map line_text ls) (map line_text ms) (each_map line_text IsPlainLine (Lacks 10) line_no_feed ls p) (each_map line_text IsPlainLine (Lacks 10) line_no_feed ms q) e)

-- lines that begin with this word, up to lines that don't
pub part_once : (key : Text) (ls ms cs ds : List Line) → AllByRecursion (λ a. first_word a ≡ key) ls → AllByRecursion (λ b. first_word b ≡ key) ms
    → AllByRecursion (λ c. first_word c ≢ key) cs → AllByRecursion (λ d. first_word d ≢ key) ds → ls ++ cs ≡ ms ++ ds → (ls ≡ ms) × (cs ≡ ds)
part_once key [] [] cs ds p q r s e = (refl, e)
part_once key [] (b ∷ ms) [] ds p q r s e = cc
part_once key [] (b ∷ ms) (c ∷ cs) ds p q r s e = let same : c ≡ b = cc in absurd (r.0 (ap first_word same ∙ q.0))
part_once key (a ∷ ls) [] cs [] p q r s e = cc
part_once key (a ∷ ls) [] cs (d ∷ ds) p q r s e = let same : d ≡ a = cc in absurd (s.0 (ap first_word same ∙ p.0))
part_once key (a ∷ ls) (b ∷ ms) cs ds p q r s e =
    let head : a ≡ b = cc in
    let tail : ls ++ cs ≡ ms ++ ds = cc in
    let both : (ls ≡ ms) × (cs ≡ ds) = part_once key ls ms cs ds p.1 q.1 r s tail in
    let front : ls ≡ ms = both.0 in
    (cc, both.1)
