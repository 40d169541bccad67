use Rattle.std.proofs.Common.{◌≡◌, ◌<◌, ◌≤◌, length, Ok, sym, ◌∙◌, arith, length-drop}
use Rattle.std.proofs.lemmas.Bool.{eqb-true}
use Rattle.std.proofs.lemmas.List.{take_rest}
use Rattle.bx_lex.specs.Rules.{front}
use Rattle.bx_lex.proofs.Sizes.{lexeme_taken}
use Rattle.bx_lex.proofs.Cuts.{reaches_more, reaches_room, reaches_end}
use Rattle.bx_lex.proofs.read.cut.Goals as goal
use Rattle.bx_lex.proofs.read.cut.Goals.{In_ok-lexeme}

-- the lexeme is what the first rule takes
taken : (c : goal.In_ok-lexeme) → front c.loop-rest.place c.loop-rest.rest.now ≡ Ok c.in_ok-lexeme.lexeme
taken c = sym c.front_of.ensures ∙ c.in_ok-lexeme.was

size : (c : goal.In_ok-lexeme) → (0 < c.in_ok-lexeme.lexeme.len) × (c.in_ok-lexeme.lexeme.len ≤ length c.loop-rest.rest.now)
size c = lexeme_taken c.loop-rest.place c.loop-rest.rest.now c.in_ok-lexeme.lexeme (taken c)

pub overflow_add-end : goal.overflow_add-end
overflow_add-end c =
    let room = reaches_room c.args.text.now _ _ _ c.loop-rest.invariant in
    omega (arith, (size c).1, room)

pub slice_bounds-rest-count : goal.slice_bounds-rest-count
slice_bounds-rest-count c = (size (goal.at.slice_bounds-rest-count c).In_ok-lexeme).1

pub slice_bounds-rest-start : goal.slice_bounds-rest-start
slice_bounds-rest-start c = (size (goal.at.slice_bounds-rest-start c).In_ok-lexeme).1

pub loop-rest-smaller : goal.loop-rest-smaller
loop-rest-smaller c =
    let s = size (goal.at.loop-rest-smaller c).In_ok-lexeme in
    rw (take_rest c.loop-rest.rest.now c.in_ok-lexeme.lexeme.len, length-drop c.in_ok-lexeme.lexeme.len c.loop-rest.rest.now) (omega (arith, s.0, s.1))

pub loop-rest-preserved : goal.loop-rest-preserved
loop-rest-preserved c =
    rw (c.in_ok-put.ensures.put, take_rest c.loop-rest.rest.now c.in_ok-lexeme.lexeme.len)
    (reaches_more _ _ _ _ c.in_ok-lexeme.lexeme c.loop-rest.invariant (taken (goal.at.loop-rest-preserved c).In_ok-lexeme))

pub returns-clause-found : goal.returns-clause-found
returns-clause-found c =
    reaches_end _ _ _ _ c.loop-rest.invariant (eqb-true _ 0 (sym c.loop-rest-test.ensures))
