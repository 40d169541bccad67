use Rattle.std.proofs.Common.{◌≡◌, ◌≤◌, [], Some, None, sym, ◌∙◌, ap, rules, arith}
use Rattle.std.specs.Prelude.{option_map}
use Rattle.bx_dimacs.specs.FormulaTexts.{empty_text}
use Rattle.bx_dimacs.specs.Words.{words_of, number_of}
use Rattle.bx_dimacs.proofs.Digits.{header_four, declares_none, declares_many, declares}
use Rattle.bx_dimacs.proofs.formula.header_of.Goals as goal

pub returns-in_err-vars-2 : goal.returns-in_err-vars-2
returns-in_err-vars-2 c =
    let nil : words_of c.in_ok-clauses.rest.now ≡ [] = search rules in
    let four = header_four (words_of c.args.line.now) (words_of c.in_ok-rest.rest.now) (words_of c.in_ok-rest-2.rest.now) (words_of c.in_ok-vars.rest.now) (words_of c.in_ok-clauses.rest.now) c.in_ok-vars.vars.now c.in_ok-clauses.clauses.now c.in_ok-rest.ensures.some c.in_ok-rest-2.ensures.some c.in_ok-vars.ensures.some c.in_ok-clauses.ensures.some nil in
    let none : c.from_residual-in_err-vars-2.result ≡ None = search rules in
    let is : number_of 32 c.in_ok-vars.vars.now ≡ None = search rules in
    ap (option_map (λ header. empty_text header.vars header.clauses)) none ∙ sym (four ∙ declares_none c.in_ok-vars.vars.now c.in_ok-clauses.clauses.now is)

pub returns-then-vars-gt-MAX_VARIABLE : goal.returns-then-vars-gt-MAX_VARIABLE
returns-then-vars-gt-MAX_VARIABLE c =
    let nil : words_of c.in_ok-clauses.rest.now ≡ [] = search rules in
    let four = header_four (words_of c.args.line.now) (words_of c.in_ok-rest.rest.now) (words_of c.in_ok-rest-2.rest.now) (words_of c.in_ok-vars.rest.now) (words_of c.in_ok-clauses.rest.now) c.in_ok-vars.vars.now c.in_ok-clauses.clauses.now c.in_ok-rest.ensures.some c.in_ok-rest-2.ensures.some c.in_ok-vars.ensures.some c.in_ok-clauses.ensures.some nil in
    let is : number_of 32 c.in_ok-vars.vars.now ≡ Some c.in_ok-vars-2.vars = search rules in
    sym (four ∙ declares_many c.in_ok-vars.vars.now c.in_ok-clauses.clauses.now c.in_ok-vars-2.vars is c.if-vars-gt-MAX_VARIABLE.true)

pub returns : goal.returns
returns c =
    let nil : words_of c.in_ok-clauses.rest.now ≡ [] = search rules in
    let four = header_four (words_of c.args.line.now) (words_of c.in_ok-rest.rest.now) (words_of c.in_ok-rest-2.rest.now) (words_of c.in_ok-vars.rest.now) (words_of c.in_ok-clauses.rest.now) c.in_ok-vars.vars.now c.in_ok-clauses.clauses.now c.in_ok-rest.ensures.some c.in_ok-rest-2.ensures.some c.in_ok-vars.ensures.some c.in_ok-clauses.ensures.some nil in
    let is : number_of 32 c.in_ok-vars.vars.now ≡ Some c.in_ok-vars-2.vars = search rules in
    let counts : number_of 32 c.in_ok-clauses.clauses.now ≡ Some c.in_ok-clauses-2.clauses = search rules in
    sym (four ∙ declares c.in_ok-vars.vars.now c.in_ok-clauses.clauses.now c.in_ok-vars-2.vars c.in_ok-clauses-2.clauses is c.if-vars-gt-MAX_VARIABLE.false counts)
