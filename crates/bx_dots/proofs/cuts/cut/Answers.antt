use Rattle.std.proofs.Common.{◌≡◌, ◌∙◌, ap, Ok, Err, rules}
use Rattle.std.specs.Prelude.{◌≢◌}
use Rattle.bx_library.specs.Tiles.{IsLibrary}
use Rattle.bx_dots.specs.declared.fault.CutFault.TheVariants.{NoMemory}
use Rattle.bx_dots.proofs.Cutting.{exact, exact_fault, exact_back, strange_gives}
use Rattle.bx_dots.proofs.cuts.cut.Goals as goal

pub returns-in_err-refuse_strays-clause-exact : goal.returns-in_err-refuse_strays-clause-exact
returns-in_err-refuse_strays-clause-exact c = λ s.
    exact c.args.library.now c.args.ratio c.args.dots.now c.from_residual.result s (λ other. c.in_err-refuse_strays.ensures.kept) (search rules) (search rules)

pub returns-in_err-refuse_strays-clause-back : goal.returns-in_err-refuse_strays-clause-back
returns-in_err-refuse_strays-clause-back c =
    exact_back c.args.library.now c.args.ratio c.args.dots.now c.from_residual.result (λ other. c.in_err-refuse_strays.ensures.kept) (returns-in_err-refuse_strays-clause-exact c)

kept : (c : goal.After-from_residual-in_err-tiles) → c.from_residual-in_err-tiles.result ≢ Err NoMemory → IsLibrary c.args.library.now
kept c other =
    let fault = c.in_err-tiles.field-0.0 in
    let is : c.from_residual-in_err-tiles.result ≡ Err fault = search rules in
    c.in_err-tiles.ensures.kept (λ e. let same : fault ≡ NoMemory = cc in other (is ∙ ap (λ x. Err x) same))

pub returns-in_err-tiles-clause-exact : goal.returns-in_err-tiles-clause-exact
returns-in_err-tiles-clause-exact c = λ s.
    let fault = c.in_err-tiles.field-0.0 in
    exact_fault c.args.library.now c.args.ratio c.args.dots.now c.from_residual-in_err-tiles.result s fault (search rules) (kept c)
    (λ other. strange_gives c.args.library.now c.args.ratio c.args.dots.now fault c.in_ok-refuse_strays.ensures.none (c.in_err-tiles.ensures.err other))

pub returns-in_err-tiles-clause-back : goal.returns-in_err-tiles-clause-back
returns-in_err-tiles-clause-back c =
    exact_back c.args.library.now c.args.ratio c.args.dots.now c.from_residual-in_err-tiles.result (kept c) (returns-in_err-tiles-clause-exact c)

pub returns-clause-exact : goal.returns-clause-exact
returns-clause-exact c = λ s.
    exact c.args.library.now c.args.ratio c.args.dots.now (Ok c.new.result) s (λ other. c.in_ok-tiles.ensures.kept (search rules)) (search rules) (search rules)

pub returns-clause-back : goal.returns-clause-back
returns-clause-back c =
    exact_back c.args.library.now c.args.ratio c.args.dots.now (Ok c.new.result) (λ other. c.in_ok-tiles.ensures.kept (search rules)) (returns-clause-exact c)
