-- What an expression of several operands reads.
use Rattle.std.proofs.Common.{◌≡◌, List, [], ◌∷◌, ◌++◌, map, append_assoc, append-nil, refl, ap, sym, ◌∙◌}
use Rattle.std.specs.List.{flat_map}
use Rattle.std.proofs.lemmas.List.{map-append}
use Rattle.bx_syntax.specs.declared.tree.Operand.{Operand}
use Rattle.bx_syntax.specs.declared.tree.Operator.{Operator}
use Rattle.bx_syntax.specs.Trees.{Tree, joined, Tail, done, link, tree, tail}
use Rattle.bx_verilog.specs.declared.role.Role.TheVariants.{Read}
use Rattle.bx_verilog.specs.Formulas.{Text, Formula, pair, formula, grouped, names_of}
use Rattle.bx_verilog.specs.Mentions.{Mention, reads_mentions}

-- the names of further operands
abbrev pub tail_names : Tail → List Text
tail_names done = []
tail_names (link o t ts) = names_of (formula t) ++ tail_names ts

pub names_of-grouped : (f : Formula) (ts : Tail) → names_of (grouped f ts) ≡ names_of f ++ tail_names ts
names_of-grouped f done = sym (append-nil (names_of f))
names_of-grouped f (link o t ts) =
    names_of-grouped (pair o f (formula t)) ts ∙ append_assoc (names_of f) (names_of (formula t)) (tail_names ts)

tail_reads : (os : List Operand) → map (λ (name : Text). (name, Read)) (tail_names (tail os)) ≡ flat_map (λ o. reads_mentions (formula (tree o.expr))) os
tail_reads [] = refl
tail_reads (o ∷ os) =
    map-append (λ (name : Text). (name, Read)) (names_of (formula (tree o.expr))) (tail_names (tail os))
    ∙ ap (λ (xs : List Mention). reads_mentions (formula (tree o.expr)) ++ xs) (tail_reads os)

-- what operands of a level read: the first, the second, and each further one
pub reads-joined : (t u : Tree) (o : Operator) (ts : Tail) (os : List Operand) → ts ≡ tail os →
    reads_mentions (formula (joined t o u ts)) ≡ reads_mentions (formula t) ++ (reads_mentions (formula u) ++ flat_map (λ o. reads_mentions (formula (tree o.expr))) os)
reads-joined t u o ts os same =
    let read : Text → Mention = λ name. (name, Read) in
    ap (map read) (names_of-grouped (pair o (formula t) (formula u)) ts ∙ append_assoc (names_of (formula t)) (names_of (formula u)) (tail_names ts))
    ∙ map-append read (names_of (formula t)) (names_of (formula u) ++ tail_names ts)
    ∙ ap (λ (xs : List Mention). reads_mentions (formula t) ++ xs) (map-append read (names_of (formula u)) (tail_names ts)
    ∙ ap (λ (xs : List Mention). reads_mentions (formula u) ++ xs) (ap (λ us. map read (tail_names us)) same ∙ tail_reads os))
