use Rattle.std.proofs.Common.{◌≡◌, ℕ, false, true, Some, None, inl, inr, refl, arith}
use Rattle.bx_forms.specs.declared.kind.Kind.{Kind}
use Rattle.bx_forms.specs.declared.kind.Kind.TheVariants.{Input, Output}
use Rattle.bx_forms.specs.declared.side.Side.TheVariants.{Right}
use Rattle.bx_layout.proofs.NearMisses.{straight-sound}
use Rattle.bx_layout.proofs.laws.near_misses.near_misses_of_a_sound_grid.Goals as goal

no-node : (kind : Kind) → None ≡ Some kind → ⊥
no-node kind e = cc

no-form : (form : ℕ) → Some form ≡ None → ⊥
no-form form e = cc

pub returns-clause-sound : goal.returns-clause-sound
returns-clause-sound c = straight-sound

pub returns-clause-meets : goal.returns-clause-meets
returns-clause-meets c = λ h. let e : true ≡ false = (h 1 (omega arith)).meets Right in cc

pub returns-clause-stays : goal.returns-clause-stays
returns-clause-stays c = λ h. let e : false ≡ true = (h 1 (omega arith)).stays Right refl in cc

pub returns-clause-first : goal.returns-clause-first
returns-clause-first c = λ h. elim ((h 0 (omega arith)).row.first refl) [ inl e ↦ no-form 5 e | inr e ↦ no-node Input e ]

pub returns-clause-input : goal.returns-clause-input
returns-clause-input c = λ h. let e : ◌≡◌ {A = ℕ} 1 0 = (h 1 (omega arith)).row.input refl in omega arith

pub returns-clause-last : goal.returns-clause-last
returns-clause-last c = λ h. elim ((h 2 (omega arith)).row.last refl) [ inl e ↦ no-form 7 e | inr e ↦ no-node Output e ]
