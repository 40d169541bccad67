-- The looks that are due for the first ratios are due for their results.
use Rattle.std.proofs.Common.{◌≡◌, ◌≢◌, ℕ, zero, suc, ◌+◌, ◌<◌, ◌≤◌, true, List, [], ◌∷◌, cond, inl, inr, sym, ap, ◌∙◌, arith}
use Rattle.std.specs.Prelude.{sum_by}
use Rattle.std.proofs.lemmas.List.Sums.{sum_by-cons}
use Rattle.bx_logic.proofs.Members.{Member, Contains-from_member, Member-from_contains}
use Rattle.bx_workers.specs.Ordering.{HasTried}
use Rattle.bx_workers.specs.Racing.{due_below}
use Rattle.bx_workers.specs.Working.{due_for, due_for_all, is_known}
use Rattle.bx_workers.specs.declared.results.Ended.{Ended}
use Rattle.bx_workers.specs.declared.results.Tried.{Tried}

-- a list without one of its items
record IsWithout (t : Tried) (ts : List Tried) : Type 0 where
  rest : List Tried
  total : (f : Tried → ℕ) → sum_by f ts ≡ f t + sum_by f rest
  keeps : (u : Tried) → Member u ts → u ≢ t → Member u rest

without : (t : Tried) (ts : List Tried) → Member t ts → IsWithout t ts
without t [] on = absurd on
without t (y ∷ ys) (inl same) = record {
  rest = ys;
  total = λ f. omega (arith, sum_by-cons f y ys, ap f same);
  keeps = λ u on other. elim on [ inl own ↦ absurd (other (sym own ∙ same)) | inr more ↦ more ];
}
without t (y ∷ ys) (inr on) =
    let w = without t ys on in record {
      rest = y ∷ w.rest;
      total = λ f. omega (arith, sum_by-cons f y ys, sum_by-cons f y w.rest, w.total f);
      keeps = λ u m other. elim m [ inl own ↦ inl own | inr more ↦ inr (w.keeps u more other) ];
    }

-- each index below m has a result with a verdict
abbrev pub AreCovered : List Tried → ℕ → Type 0
AreCovered ts m = (k : ℕ) → k < m → (e : Ended) × HasTried ts k e × (is_known e ≡ true)

due-known : (due : ℕ → ℕ) (k : ℕ) (e : Ended) → is_known e ≡ true → due_for due (record { index = k; ended = e }) ≡ due k
due-known due k e known = ap (λ b. cond b (due k) 0) known

pub due-covered : (due : ℕ → ℕ) (m : ℕ) (ts : List Tried) → AreCovered ts m → due_below due m ≤ due_for_all due ts
due-covered due zero ts covered = omega arith
due-covered due (suc m) ts covered =
    let (e, has, known) = covered m (omega arith) in
    let t : Tried = record { index = m; ended = e } in
    let w = without t ts (Member-from_contains t ts has) in
    let rest : due_below due m ≤ due_for_all due w.rest = due-covered due m w.rest (λ k low. (
    let (f, other, is) = covered k (omega (arith, low)) in
    let u : Tried = record { index = k; ended = f } in
    (f, Contains-from_member u w.rest (w.keeps u (Member-from_contains u ts other) (λ same. omega (arith, low, ap (λ (x : Tried). x.index) same))), is)
    )) in
    omega (arith, rest, w.total (due_for due), due-known due m e known)
