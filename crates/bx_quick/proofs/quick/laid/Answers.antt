use Rattle.std.proofs.Common.{◌∙◌, ◌+◌, ◌-◌, ◌*◌, ℕ, None, List, Option, length, ap, sym, arith}
use Rattle.bx_layout.specs.Pins.{pin_tiles}
use Rattle.bx_quick.specs.LaneStates.{State}
use Rattle.bx_quick.specs.Grids.{height_of}
use Rattle.bx_quick.proofs.Steps.{length-rows_of, grid-is, inputs-are, outputs-are}
use Rattle.bx_quick.proofs.quick.laid.Goals as goal

pub new-requires-clause-whole : goal.new-requires-clause-whole
new-requires-clause-whole c =
    let w = c.args.ratio.w in
    let len =
    ap (λ (xs : List (Option ℕ)). length xs) c.requires.tiles
    ∙ length-rows_of w (length c.args.state.now.lanes) None c.args.state.now.operations
    ∙ ap (λ (st : State). w * (2 * length st.operations + 2)) c.requires.state
    ∙ ap (λ (h : ℕ). w * h) (sym c.requires.height) in
    omega (arith, len, c.args.tiles.ok.0)

pub returns-clause-grid : goal.returns-clause-grid
returns-clause-grid c =
    grid-is c.args.net.now c.args.state.now c.args.ratio c.args.tiles.items _ c.new.ensures c.requires.state c.requires.width c.requires.height c.requires.tiles

pub returns-clause-inputs : goal.returns-clause-inputs
returns-clause-inputs c = c.in_ok-inputs.ensures ∙ ap pin_tiles (inputs-are c.args.net.now)

pub returns-clause-outputs : goal.returns-clause-outputs
returns-clause-outputs c =
    c.in_ok-outputs.ensures
    ∙ outputs-are c.args.net.now c.args.state.now _ c.requires.state
    (ap (λ h. (h - 1) * c.args.ratio.w) c.requires.height ∙ ap (λ w. (height_of c.args.net.now - 1) * w) c.requires.width)
