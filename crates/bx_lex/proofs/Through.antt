-- Looking for the end of a comment or an attribute, byte by byte.
use Rattle.std.proofs.Common.{◌≡◌, ℕ, ◌+◌, ◌<◌, true, false, List, [], ◌∷◌, length, drop, get_or, Option, Some, None, option_map, refl, ap, ◌∙◌, arith, add-one, drop-cons, length-drop}
use Rattle.bx_lex.specs.Rules.{begins, through}

-- a count of bytes, behind so many more
abbrev pub behind : ℕ → Option ℕ → Option ℕ
behind i found = option_map (λ n. n + i) found

behind_more : (i : ℕ) (found : Option ℕ) → behind i (behind 1 found) ≡ behind (i + 1) found
behind_more i None = refl
behind_more i (Some n) = ap Some (let e : n + 1 + i ≡ n + (i + 1) = omega arith in e)

begun : (close text : List ℕ) → 0 < length text → begins close text ≡ true → through close text ≡ Some (length close)
begun close [] h e = absurd (omega arith)
begun close (b ∷ rest) h e = rw e refl

unbegun : (close : List ℕ) (b : ℕ) (rest : List ℕ) → begins close (b ∷ rest) ≡ false → through close (b ∷ rest) ≡ behind 1 (through close rest)
unbegun close b rest e = rw e refl

-- it begins at i
pub through_here : (close text : List ℕ) (i : ℕ) → i < length text → begins close (drop i text) ≡ true → through close text ≡ behind i (through close (drop i text)) → through close text ≡ Some (i + length close)
through_here close text i h e before =
    let room : 0 < length (drop i text) = rw length-drop (omega arith) in
    let turned : length close + i ≡ i + length close = omega arith in
    before ∙ ap (behind i) (begun close (drop i text) room e) ∙ ap Some turned

-- it doesn't begin at i
pub through_more : (close text : List ℕ) (i : ℕ) → i < length text → begins close (drop i text) ≡ false → through close text ≡ behind i (through close (drop i text)) → through close text ≡ behind (i + 1) (through close (drop (i + 1) text))
through_more close text i h e before =
    let cell : drop i text ≡ get_or text i 0 ∷ drop (i + 1) text = rw (add-one, drop-cons text i 0) refl in
    before ∙ ap (λ s. behind i (through close s)) cell ∙ ap (behind i) (unbegun close _ _ (rw cell at e)) ∙ behind_more i _
