-- A text that is cut behind some of its lines.
use Rattle.std.proofs.Common.{◌≡◌, ℕ, zero, suc, ◌+◌, ◌-◌, ◌<◌, true, false, cond, List, [], ◌∷◌, ◌++◌, length, take, drop, get_or, refl, sym, ◌∙◌, ap, arith, append_assoc}
use Rattle.std.proofs.Math.Seq.{take-suc, drop-cons}
use Rattle.std.proofs.lemmas.List.{append-nil}
use Rattle.std.specs.Prelude.{◌==◌}
use Rattle.bx_lines.specs.Lines.{first_lines}

pub no_more : (left : ℕ) → first_lines left [] ≡ []
no_more zero = refl
no_more (suc left) = refl

-- behind a line feed one line fewer is left, and behind another byte as many
pub behind_feed : (left after byte : ℕ) (behind : List ℕ) → left ≡ suc after → (byte == 10) ≡ true → first_lines left (byte ∷ behind) ≡ byte ∷ first_lines after behind
behind_feed left after byte behind e is = ap (λ n. first_lines n (byte ∷ behind)) e ∙ ap (λ t. cond t (byte ∷ first_lines after behind) (byte ∷ first_lines (suc after) behind)) is

pub behind_other : (left byte : ℕ) (behind : List ℕ) → 0 < left → (byte == 10) ≡ false → first_lines left (byte ∷ behind) ≡ byte ∷ first_lines left behind
behind_other zero byte behind some is = absurd (omega (arith, some))
behind_other (suc left) byte behind some is = ap (λ t. cond t (byte ∷ first_lines left behind) (byte ∷ first_lines (suc left) behind)) is

-- a byte more
pub cut_more : (text cut : List ℕ) (k left after : ℕ) → k < length text → cut ≡ take k text ++ first_lines left (drop k text) → ((behind : List ℕ) → first_lines left (get_or text k 0 ∷ behind) ≡ get_or text k 0 ∷ first_lines after behind) → cut ≡ take (k + 1) text ++ first_lines after (drop (k + 1) text)
cut_more text cut k left after lt so_far one =
    let b = get_or text k 0 in
    let more : suc k ≡ k + 1 = omega arith in
    so_far
    ∙ ap (λ xs. take k text ++ first_lines left xs) (drop-cons text k 0 lt)
    ∙ ap (λ xs. take k text ++ xs) (one (drop (suc k) text))
    ∙ sym (append_assoc (take k text) (b ∷ []) (first_lines after (drop (suc k) text)))
    ∙ ap (λ xs. xs ++ first_lines after (drop (suc k) text)) (sym (take-suc text k 0 lt))
    ∙ ap (λ n. take n text ++ first_lines after (drop n text)) more

-- no line more is wanted
pub cut_here : (text cut : List ℕ) (k left : ℕ) → left ≡ 0 → cut ≡ take k text ++ first_lines left (drop k text) → take k text ≡ cut
cut_here text cut k left none so_far = sym (so_far ∙ ap (λ n. take k text ++ first_lines n (drop k text)) none ∙ append-nil (take k text))

-- no byte more is there
pub cut_end : (text cut : List ℕ) (k left : ℕ) → drop k text ≡ [] → cut ≡ take k text ++ first_lines left (drop k text) → take k text ≡ cut
cut_end text cut k left none so_far = sym (so_far ∙ ap (λ xs. take k text ++ first_lines left xs) none ∙ ap (λ xs. take k text ++ xs) (no_more left) ∙ append-nil (take k text))
