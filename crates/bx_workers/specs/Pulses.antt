-- How the looks of a search lead from one state of a worker's seat to another.
use Rattle.std.specs.Prelude.{◌≡◌, ◌⊎◌, ◌≤◌, List, ◌++◌, option_to_list, None, ℕ, refl}
use Rattle.std.proofs.Common.{inl, inr, ◌∙◌, ap, subst, sym, append-nil}
use Rattle.std.proofs.Math.Nat.{le_refl, le_trans}
use Rattle.bx_race.specs.declared.view.Draws.{Draws}
use Rattle.bx_race.specs.Draws.{dropping}
use Rattle.bx_race.specs.declared.race.Race.{Race}
use Rattle.bx_race.specs.Seats.{draws, looks, stands, IsSeatOf}
use Rattle.bx_workers.specs.declared.pulse.Looking.{Looking}

-- the draws are the same, but that the current index may have been dropped
abbrev pub Drops : Draws → Draws → Type 0
Drops d e = (e ≡ d) ⊎ (e ≡ dropping d)

-- the same seat of the same race looks on, and stands for as many as before
pub record LooksOn (p q : Looking) : Type 0 where
  pub same_race : q.race.now ≡ p.race.now
  pub same_seat : q.seat.ghost_name ≡ p.seat.ghost_name
  pub of_race : IsSeatOf p.race.now p.seat.now → IsSeatOf p.race.now q.seat.now
  pub same_stands : stands q.seat.now ≡ stands p.seat.now
  pub more_looks : looks p.seat.now ≤ looks q.seat.now
  pub drops : Drops (draws p.seat.now) (draws q.seat.now)

-- a second drop changes nothing
dropped-once : (d : Draws) → dropping (dropping d) ≡ dropping d
dropped-once d = ap (λ (xs : List ℕ). record { current = None; done = d.done; offered = d.offered; dropped = xs; past = d.past }) (append-nil (d.dropped ++ option_to_list d.current))

drops-on : (d e f : Draws) → Drops d e → Drops e f → Drops d f
drops-on d e f (inl a) (inl b) = inl (b ∙ a)
drops-on d e f (inl a) (inr b) = inr (b ∙ ap dropping a)
drops-on d e f (inr a) (inl b) = inr (b ∙ a)
drops-on d e f (inr a) (inr b) = inr (b ∙ (ap dropping a ∙ dropped-once d))

pub looks-to_itself : (p : Looking) → LooksOn p p
looks-to_itself p = record { same_race = refl; same_seat = refl; of_race = λ is. is; same_stands = refl; more_looks = le_refl (looks p.seat.now); drops = inl refl }

pub looks-on : (p q r : Looking) → LooksOn p q → LooksOn q r → LooksOn p r
looks-on p q r a b = record {
  same_race = b.same_race ∙ a.same_race;
  same_seat = b.same_seat ∙ a.same_seat;
  of_race = λ is. subst (λ (x : Race). IsSeatOf x r.seat.now) a.same_race (b.of_race (subst (λ (x : Race). IsSeatOf x q.seat.now) (sym a.same_race) (a.of_race is)));
  same_stands = b.same_stands ∙ a.same_stands;
  more_looks = le_trans a.more_looks b.more_looks;
  drops = drops-on (draws p.seat.now) (draws q.seat.now) (draws r.seat.now) a.drops b.drops;
}
