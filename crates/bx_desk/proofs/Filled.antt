-- What a full buffer holds.
use Rattle.std.proofs.Common.{◌≡◌, ℕ, ◌+◌, ◌-◌, ◌%◌, List, [], ◌++◌, length, take, drop, sym, ◌∙◌, ap, arith, append_assoc}
use Rattle.std.proofs.Math.ListN.{drop_of_length-le}
use Rattle.std.proofs.Math.Nat.{add-mod_left}
use Rattle.std.proofs.lemmas.List.{append-nil, take-append-drop, length-drop}
use borrow.Rule.Slice.PartMut.{put_mid}

-- A buffer that holds the first `len` of its bytes, filled up with the front of what is to be put.
pub filled : (len size : ℕ) (buffer rest now later : List ℕ) → length buffer ≡ size → now ≡ take (size - len) rest → later ≡ drop (size - len) rest → take len buffer ++ rest ≡ put_mid len (size - len) buffer now ++ later
filled len size buffer rest now later sized is_now is_later =
    let k : ℕ = size - len in
    let front : List ℕ = take len buffer in
    let none : drop k (drop len buffer) ≡ [] = drop_of_length-le (drop len buffer) {i = k} (omega (arith, length-drop len buffer)) in
    let put : now ++ drop k (drop len buffer) ≡ now = ap (λ xs. now ++ xs) none ∙ append-nil now in
    let halves : rest ≡ now ++ later = sym (take-append-drop k rest) ∙ ap (λ xs. xs ++ drop k rest) (sym is_now) ∙ ap (λ xs. now ++ xs) (sym is_later) in
    ap (λ xs. front ++ xs) halves ∙ sym (append_assoc front now later) ∙ ap (λ xs. (front ++ xs) ++ later) (sym put)

-- what a loop over full buffers keeps: a buffer less, and the same number past the full ones
pub less_a_buffer : (held more left all rest : ℕ) → held + more ≡ 4096 → rest ≡ more + left → (held + rest) % 4096 ≡ all % 4096 → (0 + left) % 4096 ≡ all % 4096
less_a_buffer held more left all rest whole parts kept =
    let sum : held + rest ≡ 4096 + left = omega arith in
    ap (λ n. n % 4096) (omega arith) ∙ sym (add-mod_left 4096 left) ∙ ap (λ n. n % 4096) (sym sum) ∙ kept
