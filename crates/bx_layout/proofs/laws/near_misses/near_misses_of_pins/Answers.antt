use Rattle.std.proofs.Common.{◌≡◌, ℕ, [], ◌∷◌, inl, refl, arith}
use Rattle.bx_logic.proofs.Members.{Contains-from_member, Member-from_contains}
use Rattle.bx_layout.proofs.NearMisses.{straight-pins, no-other-port}
use Rattle.bx_layout.proofs.laws.near_misses.near_misses_of_pins.Goals as goal

pub returns-clause-pins : goal.returns-clause-pins
returns-clause-pins c = straight-pins

pub returns-clause-missing : goal.returns-clause-missing
returns-clause-missing c = λ h. Member-from_contains 0 [] (h.no_more_inputs 0 (omega arith) refl)

pub returns-clause-twice : goal.returns-clause-twice
returns-clause-twice c = λ h. h.inputs.once.0.0 refl

pub returns-clause-port : goal.returns-clause-port
returns-clause-port c = λ h. let (v, has) = (h.outputs.each 1).0 (Contains-from_member 1 (1 ∷ []) (inl refl)) in no-other-port v has

pub returns-clause-tile : goal.returns-clause-tile
returns-clause-tile c = λ h. let e : ◌≡◌ {A = ℕ} 1 0 = (h.first 1 (Contains-from_member 1 (1 ∷ []) (inl refl))).1 in omega arith
