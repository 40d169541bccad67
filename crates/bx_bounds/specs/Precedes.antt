-- The order in which count proofs are looked for: by kind, and those of one kind by their numbers.
use Rattle.std.specs.Prelude.{◌≡◌, ℕ, ◌<◌, ◌⊎◌, Option, Some, None}
use Rattle.bx_grid.specs.declared.count.CountProof.{CountProof}
use Rattle.bx_grid.specs.declared.count.CountProof.TheVariants.{Late, Crowd, Cut, Pair}

-- the place of its kind
abbrev pub kind_place : CountProof → ℕ
kind_place (Late v) = 0
kind_place (Crowd first last) = 1
kind_place (Cut row) = 2
kind_place (Pair u v) = 3

-- its first number, and its second, where it has one
abbrev pub first_number : CountProof → ℕ
first_number (Late v) = v
first_number (Crowd first last) = first
first_number (Cut row) = row
first_number (Pair u v) = u

abbrev pub second_number : CountProof → ℕ
second_number (Late v) = 0
second_number (Crowd first last) = last
second_number (Cut row) = 0
second_number (Pair u v) = v

-- of two that have one kind, the one with the lesser first number, or else with the lesser second
abbrev pub HasLesserNumbers : CountProof → CountProof → Type 0
HasLesserNumbers c d =
    (first_number c < first_number d) ⊎
    ((first_number c ≡ first_number d) × (second_number c < second_number d))

abbrev pub Precedes : CountProof → CountProof → Type 0
Precedes c d =
    (kind_place c < kind_place d) ⊎ ((kind_place c ≡ kind_place d) × HasLesserNumbers c d)

-- the first count proof of this sort, or none where there is no such proof
abbrev pub IsFirst : (CountProof → Type 0) → Option CountProof → Type 0
IsFirst IsOne None = (c : CountProof) → ¬ IsOne c
IsFirst IsOne (Some c) = IsOne c × ((d : CountProof) → Precedes d c → ¬ IsOne d)
