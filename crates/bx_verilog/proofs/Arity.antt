-- In a module of some text each gate has as many arguments as its operation takes, and at least one.
use Rattle.std.proofs.Common.{◌≢◌, ℕ, ◌<◌, List, [], ◌∷◌, map, length, Contains, Some, None, refl, sym, subst, ◌∙◌, arith, inl, inr}
use Rattle.std.proofs.lemmas.List.{length-map}
use Rattle.bx_logic.specs.declared.op.Op.{Op}
use Rattle.bx_logic.specs.declared.op.Op.TheVariants.{Buf, Not}
use Rattle.bx_logic.specs.Nets.{HasArity}
use Rattle.bx_syntax.specs.declared.terminal.Terminal.{Terminal}
use Rattle.bx_syntax.specs.declared.part.Kind.{Kind}
use Rattle.bx_syntax.specs.declared.part.Kind.TheVariants.{Gate}
use Rattle.bx_syntax.specs.Trees.{Tree}
use Rattle.bx_syntax.specs.Parts.{PartTree, declaration, wire, assign, gate, copies, ModuleTree}
use Rattle.bx_syntax.specs.Grammar.{Between, AreMore, AreListed, IsExpr, IsGate, IsPart, AreItems}
use Rattle.bx_syntax.specs.Texts.{IsTree}
use Rattle.bx_verilog.specs.Formulas.{Text, Formula, formula}
use Rattle.bx_verilog.specs.Drives.{Drive, drive, drives_of, parts_of, drives}
use Rattle.bx_verilog.specs.Elaboration.{net_numbers}
use Rattle.bx_verilog.proofs.OwnNets.{length-net_numbers}
use Rattle.bx_logic.proofs.Members.{Member, Contains-from_member, Member-from_contains, Member-flat_map_cases}

-- it stands somewhere among terminals
abbrev Stands : {A : Type 0} → (A → Between) → A → Type 0
Stands IsX x = (ts : List Terminal) × (rest : List Terminal) × IsX x ts rest

more-stands : {A : Type 0} (IsX : A → Between) (xs : List A) (ts rest : List Terminal) → AreMore IsX xs ts rest → (x : A) → Member x xs → Stands IsX x
more-stands IsX [] ts rest e x h = absurd h
more-stands IsX (y ∷ ys) ts rest (a, b, c, is, more) x (inl e) = subst (Stands IsX) e (a, b, is)
more-stands IsX (y ∷ ys) ts rest (a, b, c, is, more) x (inr h) = more-stands IsX ys b rest more x h

listed-stands : {A : Type 0} (IsX : A → Between) (xs : List A) (ts rest : List Terminal) → AreListed IsX xs ts rest → (x : A) → Member x xs → Stands IsX x
listed-stands IsX [] ts rest e x h = absurd h
listed-stands IsX (y ∷ ys) ts rest (a, is, more) x (inl e) = subst (Stands IsX) e (ts, a, is)
listed-stands IsX (y ∷ ys) ts rest (a, is, more) x (inr h) = more-stands IsX ys a rest more x h

listed-some : {A : Type 0} (IsX : A → Between) (xs : List A) (ts rest : List Terminal) → AreListed IsX xs ts rest → 0 < length xs
listed-some IsX [] ts rest e = absurd e
listed-some IsX (y ∷ ys) ts rest h = omega arith

-- the arguments are as many as the operation takes
abbrev pub IsFed : Op → List Formula → Type 0
IsFed op xs = (0 < length xs) × ((f : Text → ℕ) (first : ℕ) → HasArity op (net_numbers f first xs))

one_argument : (op : Op) (k : ℕ) → HasArity op (k ∷ [])
one_argument Buf k = refl
one_argument Not k = refl
one_argument _ k = omega arith

more_arguments : (op : Op) → op ≢ Buf → op ≢ Not → (ks : List ℕ) → 0 < length ks → HasArity op ks
more_arguments Buf a b ks l = absurd (a refl)
more_arguments Not a b ks l = absurd (b refl)
more_arguments _ a b ks l = l

one-fed : (op : Op) (x : Formula) → IsFed op (x ∷ [])
one-fed op x = (omega arith, λ f first. one_argument op _)

map-some : (es : List Tree) → 0 < length es → 0 < length (map formula es)
map-some [] l = absurd (omega arith)
map-some (e ∷ es) l = omega arith

-- and so for each drive of a part
abbrev pub IsPartFed : PartTree → Type 0
IsPartFed p = (d : Drive) → Member d (drives_of p) → IsFed d.op d.arguments

this-fed : (ns : List Text) (op : Op) (xs : List Formula) → IsFed op xs → (d : Drive) → Member d (drive ns op xs ∷ []) → IsFed d.op d.arguments
this-fed ns op xs h d (inl e) = subst (λ (x : Drive). IsFed x.op x.arguments) e h
this-fed ns op xs h d (inr e) = absurd e

module _ (limit : ℕ) where
  gate-fed : (op : Op) (p : PartTree) (ts rest : List Terminal) → IsGate limit op p ts rest → IsPartFed p
  gate-fed op (gate o n es) ts rest (same, no_buf, no_not, (a, b, c, d, opens, name, comma, listed, closes)) =
      let some = map-some es (listed-some (IsExpr limit) es c d listed) in
      this-fed (n ∷ []) o (map formula es) (
        some,
        λ f first. more_arguments o (λ e. no_buf (sym same ∙ e)) (λ e. no_not (sym same ∙ e)) (net_numbers f first (map formula es))
            (omega (arith, some, length-net_numbers f first (map formula es))),
      )
  gate-fed op (copies o ns e) ts rest h = this-fed ns o (formula e ∷ []) (one-fed o (formula e))
  gate-fed op _ ts rest h = absurd h

  part-fed : (k : Kind) (p : PartTree) (ts rest : List Terminal) → IsPart limit k p ts rest → IsPartFed p
  part-fed (Gate op) p ts rest (a, label, is) = gate-fed op p a rest is
  part-fed k (declaration d n) ts rest h = λ x i. absurd i
  part-fed k (wire n None) ts rest h = λ x i. absurd i
  part-fed k (wire n (Some e)) ts rest h = this-fed (n ∷ []) Buf (formula e ∷ []) (one-fed Buf (formula e))
  part-fed k (assign n e) ts rest h = this-fed (n ∷ []) Buf (formula e ∷ []) (one-fed Buf (formula e))
  part-fed _ _ ts rest h = absurd h

  items-fed : (items : List (List PartTree)) (ts rest : List Terminal) → AreItems limit items ts rest → (i : List PartTree) → Member i items → (p : PartTree) → Member p i → IsPartFed p
  items-fed [] ts rest e i h p k = absurd h
  items-fed (j ∷ js) ts rest (a, (kind, b, c, head, listed, ends), more) i (inl e) p k =
      let (x, y, is) = listed-stands (IsPart limit kind) j b c listed p (subst (Member p) (sym e) k) in
      part-fed kind p x y is
  items-fed (j ∷ js) ts rest (a, item, more) i (inr h) p k = items-fed js a rest more i h p k

-- each part of a tree
pub part-arity : (m : ModuleTree) → IsTree m → (p : PartTree) → Contains (parts_of m) p → IsPartFed p
part-arity m tree p c =
    let (i, h, k) = Member-flat_map_cases (λ (item : List PartTree). item) p m.items (Member-from_contains p (parts_of m) c) in
    items-fed 256 m.items tree.is_module.body tree.is_module.last tree.is_module.items i h p k

pub drive-arity : (m : ModuleTree) → IsTree m → (d : Drive) → Contains (drives m) d → (0 < length d.arguments) × ((f : Text → ℕ) (first : ℕ) → HasArity d.op (net_numbers f first d.arguments))
drive-arity m tree d c =
    let (p, h, k) = Member-flat_map_cases drives_of d (parts_of m) (Member-from_contains d (drives m) c) in
    part-arity m tree p (Contains-from_member p (parts_of m) h) d k
