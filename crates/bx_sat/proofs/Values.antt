-- Values on lines, one after the other.
use Rattle.std.proofs.Common.{◌≡◌, ℕ, suc, ◌+◌, ◌<◌, ◌≤◌, Bool, true, List, [], ◌∷◌, ◌++◌, length, drop, get_or, sym, ◌∙◌, ap, arith, length-append, drop-cons}
use Rattle.std.proofs.Math.ListN.{drop_of_length-le}
use Rattle.std.specs.Prelude.{decimal, nat_lt}
use Rattle.bx_says.specs.Texts.{Text}
use Rattle.bx_sat.specs.Sayings.{sign_text, start_text, value_word, has_room, word_behind, column_behind, values_text}

-- the parts of a word that is placed
pub word_behind_is : (column var : ℕ) (value : Bool) (start sign digits : Text) → sign ≡ sign_text value → digits ≡ decimal var → start ≡ start_text (nat_lt (column + (length sign + length digits)) 79) → start ++ (sign ++ digits) ≡ word_behind column (value_word var value)
word_behind_is column var value start sign digits is_sign is_digits is_start =
    let word : sign ++ digits ≡ value_word var value = ap (λ s. s ++ digits) is_sign ∙ ap (λ d. sign_text value ++ d) is_digits in
    let size : length sign + length digits ≡ length (value_word var value) = sym (length-append sign digits) ∙ ap length word in
    let first : start ≡ start_text (has_room column (value_word var value)) = is_start ∙ ap (λ n. start_text (nat_lt (column + n) 79)) size in
    ap (λ s. s ++ (sign ++ digits)) first ∙ ap (λ w. start_text (has_room column (value_word var value)) ++ w) word

-- the values that are left, one after the other
pub values_turn : (bits : List Bool) (column k : ℕ) (d : Bool) → k < length bits → word_behind column (value_word (k + 1) (get_or bits k d)) ++ values_text (column_behind column (value_word (k + 1) (get_or bits k d))) (k + 1 + 1) (drop (k + 1) bits) ≡ values_text column (k + 1) (drop k bits)
values_turn bits column k d within =
    let next : suc k ≡ k + 1 = omega arith in
    let rest : drop k bits ≡ get_or bits k d ∷ drop (k + 1) bits = drop-cons bits k d within ∙ ap (λ n. get_or bits k d ∷ drop n bits) next in
    ap (values_text column (k + 1)) (sym rest)

-- no value is left
pub values_end : (bits : List Bool) (column k : ℕ) → length bits ≤ k → word_behind column (value_word 0 true) ++ 10 ∷ [] ≡ values_text column (k + 1) (drop k bits)
values_end bits column k le = ap (values_text column (k + 1)) (sym (drop_of_length-le bits {i = k} le))
