-- What is known of ratios in order: the refutations of all before the first that isn't refuted, and how the trial of
-- that one ended.
use Rattle.std.specs.Prelude.{◌≡◌, ℕ, List, length, slice_get, Some, ⊤}
use Rattle.bx_decode.specs.Meaning.{AreTrue}
use Rattle.bx_grid.specs.Orders.{AreLimits, order}
use Rattle.bx_grid.specs.declared.ratio.Limits.{Limits}
use Rattle.bx_grid.specs.declared.ratio.Ratio.{Ratio}
use Rattle.bx_layout.specs.Permits.{PermitTest}
use Rattle.bx_network.specs.Networks.{Network}
use Rattle.bx_proof.specs.declared.refutation.Refutation.{Refutation}
use Rattle.bx_refutes.specs.Refutations.{IsRefutedBy, LackLayouts}
use Rattle.bx_verdict.specs.Verdicts.{IsVerdict}
use Rattle.bx_verdict.specs.declared.settled.Last.{Last}
use Rattle.bx_verdict.specs.declared.settled.Last.TheVariants.{Found, Undecided, NoneWithin}
use Rattle.bx_verdict.specs.declared.verdict.Ended.{Ended}
use Rattle.bx_verdict.specs.declared.verdict.Ended.TheVariants as ended

-- all ratios within some limits, in their order
abbrev pub AreInOrder : List Ratio → Type 0
AreInOrder ratios = (limits : Limits) × AreLimits limits × (ratios ≡ order limits)

module _ (N : Network) (permit : PermitTest) (budget : ℕ) (ratios : List Ratio) where
  -- there is a ratio at this index, and this is its verdict
  pub record HasVerdict (k : ℕ) (end : Ended) : Type 0 where
    pub ratio : Ratio
    pub at : slice_get ratios k ≡ Some ratio
    pub is : IsVerdict N permit ratio budget end

  -- each refutation is the verdict of the ratio at its place
  abbrev pub AreRefuted : List Refutation → Type 0
  AreRefuted proofs = (k : ℕ) (proof : Refutation) → slice_get proofs k ≡ Some proof
      → HasVerdict k (ended.Refuted proof)

  -- the verdict of the ratio at this index, which isn't refuted; or the ratios end there
  abbrev pub IsLastAt : ℕ → Last → Type 0
  IsLastAt k (Found bits) = HasVerdict k (ended.Found bits)
  IsLastAt k (Undecided spent) = HasVerdict k (ended.Undecided spent)
  IsLastAt k NoneWithin = k ≡ length ratios

  -- the first ratios are refuted, one for each refutation, and what is known last is of the one behind them
  pub record AreSettled (proofs : List Refutation) (last : Last) : Type 0 where
    pub refuted : AreRefuted proofs
    pub last_at : IsLastAt (length proofs) last

module _ (N : Network) (permit : PermitTest) (ratios : List Ratio) where
  -- each refutation refutes the ratio at its place
  abbrev pub RefuteInOrder : List Refutation → Type 0
  RefuteInOrder proofs = (k : ℕ) (proof : Refutation) → slice_get proofs k ≡ Some proof
      → (r : Ratio) × (slice_get ratios k ≡ Some r) × IsRefutedBy N permit r proof

  -- the bits of a ratio that is found are true, which is the one at this index
  abbrev pub AreTrueAt : ℕ → Last → Type 0
  AreTrueAt k (Found bits) = (r : Ratio) × (slice_get ratios k ≡ Some r) × AreTrue N permit r bits
  AreTrueAt k (Undecided spent) = ⊤
  AreTrueAt k NoneWithin = ⊤

  -- what is known shows so much: the refuted ratios have no legal layout, and the found one has one
  pub record ShowInOrder (proofs : List Refutation) (last : Last) : Type 0 where
    pub refuted : RefuteInOrder proofs
    pub no_layout : LackLayouts N permit ratios (length proofs)
    pub found : AreTrueAt (length proofs) last
