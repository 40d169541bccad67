use Rattle.std.proofs.Common.{◌≡◌, ◌+◌, ◌<◌, ◌^◌, true, length, refl, rules, arith}
use Rattle.bx_cert.proofs.Runs.{run_here, run_short, run_no_ids, run_fits, fault_fits, fault_stops}
use Rattle.bx_cert.proofs.read.read_run.Goals as goal

pub returns-then-not-has_ids : goal.returns-then-not-has_ids
returns-then-not-has_ids c = λ d ratio. (1, refl, run_no_ids d ratio c.args.text.now c.args.count (λ has. (let yes : c.has_ids.result ≡ true = c.has_ids.ensures.1 has in cc)))

pub returns-then-len-count : goal.returns-then-len-count
returns-then-len-count c =
    let size : length c.in-Ok.steps.steps ≡ c.args.count = omega (arith, c.len.ensures.count, c.if-len-count.true) in
    run_here c.args.text.now c.cut_lines.result.0.now c.cut_lines.result.1.now c.args.count c.in-Ok.steps c.cut_lines.ensures.front c.cut_lines.ensures.whole c.in-Ok.ensures.found size

pub overflow_add-result-else-len-count : goal.overflow_add-result-else-len-count
overflow_add-result-else-len-count c =
    let fits = run_fits c.args.text.now c.cut_lines.result.0.now c.cut_lines.result.1.now c.in-Ok.steps c.cut_lines.ensures.whole c.in-Ok.ensures.found in
    let small : c.args.before + c.from-read.result < 2 ^ 64 = omega (arith, fits, c.from-read.ensures, c.len-else-len-count.ensures.count, c.requires.room) in
    search (rules, small)

pub overflow_add-result-else-len-count-2 : goal.overflow_add-result-else-len-count-2
overflow_add-result-else-len-count-2 c =
    let fits = run_fits c.args.text.now c.cut_lines.result.0.now c.cut_lines.result.1.now c.in-Ok.steps c.cut_lines.ensures.whole c.in-Ok.ensures.found in
    let small : c.args.before + c.from-read.result + 1 < 2 ^ 64 = omega (arith, fits, c.from-read.ensures, c.len-else-len-count.ensures.count, c.requires.room) in
    search (rules, small)

pub returns-in-Ok : goal.returns-in-Ok
returns-in-Ok c = λ d ratio.
    let other : length c.in-Ok.steps.steps ≡ c.args.count → ⊥ = λ e. c.if-len-count.false (omega (arith, e, c.len.ensures.count)) in
    let has = c.has_ids.ensures.0 c.if-not-has_ids.false in
    (length c.in-Ok.steps.steps + 1, (omega (arith, c.from-read.ensures, c.len-else-len-count.ensures.count)), run_short d ratio c.args.text.now c.cut_lines.result.0.now c.args.count c.in-Ok.steps has c.cut_lines.ensures.front c.in-Ok.ensures.found other)

pub fault_behind-requires : goal.fault_behind-requires
fault_behind-requires c = fault_fits c.args.text.now c.cut_lines.result.0.now c.args.count c.args.before c.in-Err.fault c.requires.some (c.has_ids.ensures.0 c.if-not-has_ids.false) c.cut_lines.ensures.front c.requires.room c.in-Err.ensures.bad

pub returns : goal.returns
returns c = λ d ratio. fault_stops d ratio c.args.text.now c.cut_lines.result.0.now c.args.count c.args.before c.in-Err.fault c.fault_behind.result c.requires.some (c.has_ids.ensures.0 c.if-not-has_ids.false) c.cut_lines.ensures.front c.in-Err.ensures.bad c.fault_behind.ensures
