-- The table of forms is the one that is described, by computation over all of them.
use Rattle.std.proofs.Common.{refl}
use Rattle.bx_forms.specs.declared.side.Side.{Side}
use Rattle.bx_forms.specs.declared.side.Side.TheVariants.{Left, Right}
use Rattle.bx_forms.specs.FormTable.{IsFormTable}

-- what holds of both sides holds of each
pub at-sides : (P : Side → Type 0) → P Left × P Right → (side : Side) → P side
at-sides P both Left = both.0
at-sides P both Right = both.1

pub form-table : IsFormTable
form-table = record {
  count = refl;
  inputs = at-sides _ ((refl, refl), (refl, refl));
  outputs = at-sides _ ((refl, refl), (refl, refl));
  wires = at-sides _ (at-sides _ ((refl, refl), (refl, refl)), at-sides _ ((refl, refl), (refl, refl)));
  nots = at-sides _ (at-sides _ ((refl, refl), (refl, refl)), at-sides _ ((refl, refl), (refl, refl)));
  fans = at-sides _ ((refl, refl), (refl, refl));
  ands = at-sides _ ((refl, refl), (refl, refl));
  ors = at-sides _ ((refl, refl), (refl, refl));
  nands = at-sides _ ((refl, refl), (refl, refl));
  nors = at-sides _ ((refl, refl), (refl, refl));
  xors = at-sides _ ((refl, refl), (refl, refl));
  xnors = at-sides _ ((refl, refl), (refl, refl));
  double = (refl, refl);
  cross = (refl, refl);
}
