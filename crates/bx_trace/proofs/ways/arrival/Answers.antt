use Rattle.std.proofs.Common.{◌≡◌, true, false, is_some, sym, ap, ◌∙◌}
use Rattle.bx_trace.specs.Known.{entry}
use Rattle.bx_trace.proofs.Steps.{tile-on, ends-at, not-empty, not-node, handed-target, not-stopped}
use Rattle.bx_trace.proofs.ways.arrival.Goals as goal

pub returns-in-Some : goal.returns-in-Some
returns-in-Some c = λ N L e of known come.
    ends-at N c.args.grid.now c.args.nodes.now L of c.args.tile e c.args.from (tile-on N c.args.grid.now c.args.nodes.now L of c.args.tile c.requires.tile) come c.in-Some.v c.in-Some.is

pub returns-in_err-form-in-None : goal.returns-in_err-form-in-None
returns-in_err-form-in-None c = λ N L e of known come.
    absurd (not-empty N c.args.grid.now c.args.nodes.now L of c.args.tile e c.args.from (tile-on N c.args.grid.now c.args.nodes.now L of c.args.tile c.requires.tile) come (sym c.tile.ensures ∙ c.in_err-form-in-None.was))

pub returns-then-is_some : goal.returns-then-is_some
returns-then-is_some c = λ N L e of known come.
    let none = not-node N c.args.grid.now c.args.nodes.now L of c.args.tile e c.args.from (tile-on N c.args.grid.now c.args.nodes.now L of c.args.tile c.requires.tile) come c.in_ok-form-in-None.form c.in-None.is (sym c.tile.ensures ∙ c.in_ok-form-in-None.was) in
    let some : is_some c.node.result ≡ true = sym c.is_some.ensures ∙ c.if-is_some.true in
    let both : true ≡ false = sym some ∙ ap is_some (c.node.ensures ∙ none) in
    absurd (cc)

pub returns-in_err-next-in-None : goal.returns-in_err-next-in-None
returns-in_err-next-in-None c = λ N L e of known come.
    absurd (not-stopped N c.args.grid.now c.args.nodes.now L of c.args.tile e c.args.from (tile-on N c.args.grid.now c.args.nodes.now L of c.args.tile c.requires.tile) come c.in_ok-form-in-None.form c.exit.result c.in-None.is (sym c.tile.ensures ∙ c.in_ok-form-in-None.was) c.exit.ensures c.in_err-next-in-None.was)

pub returns-in_ok-next-in-None : goal.returns-in_ok-next-in-None
returns-in_ok-next-in-None c = λ N L e of known come.
    ap (entry c.args.targets.now) c.border.ensures
    ∙ handed-target N c.args.grid.now c.args.nodes.now L of c.args.tile e c.args.from (tile-on N c.args.grid.now c.args.nodes.now L of c.args.tile c.requires.tile) come c.in_ok-form-in-None.form c.args.targets.now c.exit.result c.in-None.is (sym c.tile.ensures ∙ c.in_ok-form-in-None.was) known c.exit.ensures c.in_ok-next-in-None.next c.in_ok-next-in-None.was
