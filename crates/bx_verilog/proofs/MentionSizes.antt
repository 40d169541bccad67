-- A module is at least as large as its net: it has no more names, constants and operators than its size.
use Rattle.std.proofs.Common.{◌≡◌, ◌+◌, ◌≤◌, Some, None, List, [], ◌∷◌, ◌++◌, map, length, length-append, append_assoc, append-nil, sym, subst, refl, ap, ◌∙◌, arith}
use Rattle.std.specs.Str.{bytes_eq}
use Rattle.std.specs.List.{flat_map, list_any, sum_by}
use Rattle.std.proofs.lemmas.Bool.{cond-true, cond_both}
use Rattle.std.proofs.lemmas.List.{length-map, map-append}
use Rattle.std.proofs.lemmas.List.Elements.{Contains-push}
use Rattle.std.proofs.lemmas.List.Folds.{list_any_at}
use Rattle.std.proofs.lemmas.List.Sums.{sum_by-cons, sum_by-append}
use Rattle.bx_syntax.specs.declared.tree.Port.{Port}
use Rattle.bx_syntax.specs.declared.tree.Direction.{Direction}
use Rattle.bx_syntax.specs.Trees.{Tree, net, bit, inverse, group, joined, Tail, done, link}
use Rattle.bx_syntax.specs.Parts.{PartTree, declaration, wire, assign, gate, copies, ModuleTree}
use Rattle.bx_syntax.specs.Sizes.{tree_size, tail_size, part_size, item_size, module_size}
use Rattle.std.specs.Prelude.{Option}
use Rattle.bx_verilog.specs.declared.role.Role.TheVariants.{Header, Driven, Read}
use Rattle.bx_verilog.specs.Formulas.{Text, Formula, pair, formula, grouped, names_of}
use Rattle.bx_verilog.specs.Drives.{drives_of, drives, parts_of}
use Rattle.bx_verilog.specs.Mentions.{Mention, firsts, names, all_as, direction_mentions, port_mentions, reads_mentions, part_mentions}
use Rattle.bx_verilog.specs.Elaboration.{own, all_own, inner_size}
use Rattle.bx_verilog.proofs.OwnNets.{inner_size-append}
use Rattle.bx_verilog.proofs.Firsts.{contains-firsts, firsts-push, same_bytes}

-- an expression has as many names and nets of its own as it has names, constants and operators
mutual
  tree-fits : (t : Tree) → length (names_of (formula t)) + own (formula t) ≤ tree_size t
  tree-fits (net n) = omega arith
  tree-fits (bit b) = omega arith
  tree-fits (inverse t) = omega (arith, tree-fits t)
  tree-fits (group t) = tree-fits t
  tree-fits (joined t o u ts) =
      omega (arith, tree-fits t, tree-fits u, tail-fits (pair o (formula t) (formula u)) ts, length-append (names_of (formula t)) (names_of (formula u)))

  tail-fits : (f : Formula) (ts : Tail) → length (names_of (grouped f ts)) + own (grouped f ts) ≤ length (names_of f) + own f + tail_size ts
  tail-fits f done = omega arith
  tail-fits f (link o t ts) =
      omega (arith, tree-fits t, tail-fits (pair o f (formula t)) ts, length-append (names_of f) (names_of (formula t)))

reads-length : (t : Tree) → length (reads_mentions (formula t)) ≡ length (names_of (formula t))
reads-length t = length-map (names_of (formula t)) (λ (name : Text). (name, Read))

trees-fit : (ts : List Tree) → length (flat_map (λ t. reads_mentions (formula t)) ts) + all_own (map formula ts) ≤ sum_by tree_size ts
trees-fit [] = omega arith
trees-fit (t ∷ ts) =
    omega (
      arith,
      tree-fits t,
      reads-length t,
      trees-fit ts,
      length-append (reads_mentions (formula t)) (flat_map (λ u. reads_mentions (formula u)) ts),
      sum_by-cons tree_size t ts,
    )

part-fits : (p : PartTree) → length (part_mentions p) + inner_size (drives_of p) ≤ part_size p
part-fits (declaration d n) = omega arith
part-fits (wire n None) = omega arith
part-fits (wire n (Some e)) = omega (arith, tree-fits e, reads-length e)
part-fits (assign n e) = omega (arith, tree-fits e, reads-length e)
part-fits (gate op n es) = omega (arith, trees-fit es)
part-fits (copies op ns e) =
    omega (
      arith,
      tree-fits e,
      reads-length e,
      length-map {B = Mention} ns (λ (name : Text). (name, Driven)),
      length-append (all_as Driven ns) (reads_mentions (formula e)),
    )

parts-fit : (ps : List PartTree) → length (flat_map part_mentions ps) + inner_size (flat_map drives_of ps) ≤ sum_by part_size ps
parts-fit [] = omega arith
parts-fit (p ∷ ps) =
    omega (
      arith,
      part-fits p,
      parts-fit ps,
      length-append (part_mentions p) (flat_map part_mentions ps),
      inner_size-append (drives_of p) (flat_map drives_of ps),
      sum_by-cons part_size p ps,
    )

items-size : (items : List (List PartTree)) → sum_by part_size (flat_map (λ item. item) items) ≡ sum_by item_size items
items-size [] = refl
items-size (i ∷ items) =
    let front = sum_by-append part_size i (flat_map (λ item. item) items) in
    let rest = items-size items in
    let whole = sum_by-cons item_size i items in
    omega (arith, front, rest, whole)

-- one more text makes one more at most, and none where it is there
one-more : (ns : List Text) (n : Text) → length (firsts (ns ++ n ∷ [])) ≤ length (firsts ns) + 1
one-more ns n =
    subst (λ (xs : List Text). length xs ≤ length (firsts ns) + 1) (sym (firsts-push ns n))
    (cond_both (list_any (bytes_eq n) (firsts ns)) (firsts ns) (firsts ns ++ n ∷ []) (λ (xs : List Text). length xs ≤ length (firsts ns) + 1)
    (λ h. omega arith) (λ h. omega (arith, length-append (firsts ns) (n ∷ []))))

more : (ns rest : List Text) → length (firsts (ns ++ rest)) ≤ length (firsts ns) + length rest
more ns [] = simp append-nil (omega arith)
more ns (n ∷ rest) =
    let e = ap (λ xs. length (firsts xs)) (append_assoc ns (n ∷ []) rest) in
    omega (arith, e, one-more ns n, more (ns ++ n ∷ []) rest)

again : (ns : List Text) (n : Text) → length (firsts ((ns ++ n ∷ []) ++ n ∷ [])) ≤ length (firsts ns) + 1
again ns n =
    let before = firsts (ns ++ n ∷ []) in
    let h = contains-firsts (ns ++ n ∷ []) n (Contains-push ns n) in
    let known = list_any_at (bytes_eq n) before h.0 n h.1 (same_bytes n _ (sym h.2)) in
    let same = ap length (firsts-push (ns ++ n ∷ []) n ∙ cond-true (list_any (bytes_eq n) before) before (before ++ n ∷ []) known) in
    omega (arith, same, one-more ns n)

-- a port has one name, though it may be mentioned twice
port-fits : (ns : List Text) (n : Text) (d : Option Direction) → length (firsts (ns ++ map (λ (x : Mention). x.0) ((n, Header) ∷ direction_mentions n d))) ≤ length (firsts ns) + 1
port-fits ns n None = one-more ns n
port-fits ns n (Some d) = subst (λ (xs : List Text). length (firsts xs) ≤ length (firsts ns) + 1) (append_assoc ns (n ∷ []) (n ∷ [])) (again ns n)

ports-fit : (ns : List Text) (ps : List Port) → length (firsts (ns ++ map (λ (x : Mention). x.0) (flat_map port_mentions ps))) ≤ length (firsts ns) + length ps
ports-fit ns [] = simp append-nil (omega arith)
ports-fit ns (p ∷ ps) =
    let front = map (λ (x : Mention). x.0) (port_mentions p) in
    let rest = map (λ (x : Mention). x.0) (flat_map port_mentions ps) in
    let split = map-append (λ (x : Mention). x.0) (port_mentions p) (flat_map port_mentions ps) in
    let e = ap (λ (xs : List Text). length (firsts xs)) (ap (λ xs. ns ++ xs) split ∙ sym (append_assoc ns front rest)) in
    omega (arith, e, port-fits ns p.name p.direction, ports-fit (ns ++ front) ps)

pub nets-fit : (m : ModuleTree) → length (names m) + inner_size (drives m) ≤ module_size m
nets-fit m =
    let front = map (λ (x : Mention). x.0) (flat_map port_mentions m.ports) in
    let rest = map (λ (x : Mention). x.0) (flat_map part_mentions (parts_of m)) in
    let split = ap (λ xs. length (firsts xs)) (map-append (λ (x : Mention). x.0) (flat_map port_mentions m.ports) (flat_map part_mentions (parts_of m))) in
    omega (
      arith,
      split,
      more front rest,
      ports-fit [] m.ports,
      length-map (flat_map part_mentions (parts_of m)) (λ (x : Mention). x.0),
      parts-fit (parts_of m),
      items-size m.items,
    )
