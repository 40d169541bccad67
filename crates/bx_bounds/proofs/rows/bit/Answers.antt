use Rattle.std.proofs.Common.{ℕ, sym, subst}
use Rattle.bx_bounds.specs.Rows.{HasBit}
use Rattle.bx_bounds.proofs.BitRows.{bit-alone, shifted-one}
use Rattle.bx_bounds.proofs.rows.bit.Goals as goal

pub returns : goal.returns
returns c = λ t.
    let same = shifted-one c.args.v c.requires in
    let alone = bit-alone c.args.v t in
    ((λ h. alone.0 (subst (λ (x : ℕ). HasBit x t) same h)), (λ e. subst (λ (x : ℕ). HasBit x t) (sym same) (alone.1 e)))
