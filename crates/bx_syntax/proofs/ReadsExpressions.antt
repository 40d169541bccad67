-- What reads an expression reads each that the grammar has, and nothing else.
use Rattle.std.proofs.Common.{◌≡◌, get_or, Vec, Global, Result, IfOk, IfErr, ℕ, zero, suc, ◌<◌, ◌≤◌, List, [], ◌∷◌, ◌++◌, drop, length, length-append, length-drop, append_assoc, Option, Some, None, Ok, Err, refl, sym, ap, subst, ◌∙◌, ◌⊎◌, inl, inr, arith, eq-eqb}
use Rattle.std.proofs.lemmas.Grind.{common_steps}
use Rattle.std.proofs.lemmas.Bool.Decides.{eqb_tells}
use Rattle.std.proofs.Common.{⊎_elim}
use Rattle.bx_syntax.specs.declared.terminal.Terminal.{Terminal}
use Rattle.bx_syntax.specs.declared.terminal.Terminal.TheVariants.{Fixed, GateWord, Name, Bit, Number, Reserved, Symbol}
use Rattle.bx_syntax.specs.declared.terminal.Mark.{Mark}
use Rattle.bx_syntax.specs.declared.terminal.Mark.TheVariants.{Module, EndModule, Input, Output, Wire, Assign, Open, Close, Comma, Semicolon, Equals, Tilde, Ampersand, Caret, TildeCaret, Bar}
use Rattle.bx_syntax.specs.declared.tree.Operator.{Operator}
use Rattle.bx_syntax.specs.declared.tree.Operator.TheVariants.{And, Xor, Xnor, Or}
use Rattle.bx_syntax.specs.declared.tree.Expr.{Expr, Row_of-Operand, end_of-Operand, more_of-Operand, items-the_row-Operand, items_hidden-the_row-Operand-0}
use Rattle.bx_syntax.specs.declared.tree.Expr.TheBlock.{hidden-the_row-Operand-0}
use Rattle.bx_syntax.specs.declared.tree.Operand.{Operand}
use Rattle.bx_syntax.specs.Trees.{Tree, net, bit, inverse, group, joined, Tail, done, link, chain_of, tree, tail, row_tail}
use Rattle.bx_syntax.specs.Expressions.{rank, IsAt, AreAt, sign, spelling, tail_spelling, nesting, tail_nesting}
use Rattle.bx_syntax.specs.ReadsExpressions.{Reader, ◌>>=◌, stops, too_deep, operator_of, of_rank, operator_at, link_at, tail_within, tail_at, joined_at, level_at, number, behind, inverse_with, group_with, nested_with, primary_with, primary_at, expr_at, inverse_at, group_at}
use Rattle.bx_logic.specs.declared.op.Op.{Op}
use Rattle.bx_syntax.specs.declared.stop.Stop.{Stop}
use Rattle.bx_syntax.specs.declared.stop.Stop.TheVariants.{Bad, Deep, NoMemory}
use Rattle.bx_syntax.specs.declared.stop.Wanted.{Wanted}
use Rattle.bx_syntax.specs.declared.stop.Wanted.TheVariants.{Primary, Other}
use Rattle.bx_syntax.specs.Gives.{Fails, Gives}

-- no operator of a level below this one stands at the front
pub record Ends (k : ℕ) (ts : List Terminal) : Type 0 where
  pub none : (j : ℕ) → j < k → operator_at j ts ≡ None

ends_below : (j k : ℕ) (ts : List Terminal) → j ≤ k → Ends k ts → Ends j ts
ends_below j k ts le e = record { none = λ i lt. e.none i (omega arith) }

of_rank-same : (o : Operator) (k : ℕ) → rank o ≡ k → of_rank k (Some o) ≡ Some o
of_rank-same o k e = rw (eq-eqb (rank o) k e) refl

of_rank-other : (o : Operator) (j k : ℕ) → rank o ≡ k → j < k → of_rank j (Some o) ≡ None
of_rank-other o j k e lt =
    ⊎_elim (λ yes. absurd (omega (arith, yes.1))) (λ no. rw no.0 refl) (eqb_tells (rank o) j)

sign_front : (o : Operator) (k : ℕ) (ts : List Terminal) → operator_at k (sign o ∷ ts) ≡ of_rank k (Some o)
sign_front And k ts = refl
sign_front Xor k ts = refl
sign_front Xnor k ts = refl
sign_front Or k ts = refl

-- where no operator of the level follows, there are no further operands
tail_none : (operand : Reader Tree) (k n : ℕ) (ts : List Terminal) → operator_at k ts ≡ None → tail_within operand k n ts ≡ Ok (done, ts)
unfolding tail_within
tail_none operand k zero ts e = refl
tail_none operand k (suc n) ts e = rw e refl

lift_one : (p : Reader Tree) (k : ℕ) (ts : List Terminal) (t : Tree) (rest : List Terminal) → level_at p k ts ≡ Ok (t, rest) → operator_at k rest ≡ None → level_at p (suc k) ts ≡ Ok (t, rest)
unfolding level_at joined_at tail_at
lift_one p k ts t rest e h = rw e (rw (tail_none (level_at p k) k (length rest) rest h) refl)

-- what is read at a level is read at each level above
lift : (p : Reader Tree) (j k : ℕ) (ts : List Terminal) (t : Tree) (rest : List Terminal) → j ≤ k → level_at p j ts ≡ Ok (t, rest) → Ends k rest → level_at p k ts ≡ Ok (t, rest)
lift p j zero ts t rest le e h = subst (λ i. level_at p i ts ≡ Ok (t, rest)) (omega arith) e
lift p j (suc k) ts t rest le e h =
    ⊎_elim
    (λ same. subst (λ i. level_at p i ts ≡ Ok (t, rest)) same.1 e)
    (λ below. lift_one p k ts t rest (lift p j k ts t rest (omega (arith, below.1)) e (ends_below k (suc k) rest (omega arith) h)) (h.none k (omega arith)))
    (eqb_tells j (suc k))

-- each operator before an operand of a level is of this level, and none below
ends_sign : (o : Operator) (k : ℕ) (ts : List Terminal) → rank o ≡ k → Ends k (sign o ∷ ts)
ends_sign o k ts e = record { none = λ j lt. sign_front o j ts ∙ of_rank-other o j k e lt }

ends_tail : (ts : Tail) (k : ℕ) (rest : List Terminal) → AreAt k ts → Ends (suc k) rest → Ends k (tail_spelling ts ++ rest)
ends_tail done k rest h e = ends_below k (suc k) rest (omega arith) e
ends_tail (link o t ts) k rest h e = ends_sign o k ((spelling t ++ tail_spelling ts) ++ rest) h.0

-- one more operand, where it and those behind it are read
tail_step : (operand : Reader Tree) (k n : ℕ) (o : Operator) (t : Tree) (ts : Tail) (text middle rest : List Terminal) →
    rank o ≡ k → operand text ≡ Ok (t, middle) → tail_within operand k n middle ≡ Ok (ts, rest) →
    tail_within operand k (suc n) (sign o ∷ text) ≡ Ok (link o t ts, rest)
unfolding tail_within
tail_step operand k n o t ts text middle rest r e f = rw (sign_front, of_rank-same o k r, e, f) refl

-- however deep may nest, a primary is read by its first terminal
primary_is : (d : ℕ) → (p : Reader Tree) × (q : Reader Tree) × ((ts : List Terminal) → primary_at d ts ≡ primary_with p q ts)
unfolding primary_at
primary_is zero = (too_deep, too_deep, λ ts. refl)
primary_is (suc d) = (primary_at d, level_at (primary_at d) 3, λ ts. refl)

pub primary_name : (d : ℕ) (n : List ℕ) (rest : List Terminal) → primary_at d (Name n ∷ rest) ≡ Ok (net n, rest)
primary_name d n rest = (primary_is d).2 (Name n ∷ rest)

pub primary_bit : (d : ℕ) (b : _) (rest : List Terminal) → primary_at d (Bit b ∷ rest) ≡ Ok (bit b, rest)
primary_bit d b rest = (primary_is d).2 (Bit b ∷ rest)

primary_inverse : (d : ℕ) (t : Tree) (ts rest : List Terminal) → primary_at d ts ≡ Ok (t, rest) →
    primary_at (suc d) (Fixed Tilde ∷ ts) ≡ Ok (inverse t, rest)
unfolding primary_at
primary_inverse d t ts rest e = rw e refl

primary_group : (d : ℕ) (t : Tree) (ts rest : List Terminal) → expr_at d ts ≡ Ok (t, Fixed Close ∷ rest) →
    primary_at (suc d) (Fixed Open ∷ ts) ≡ Ok (group t, rest)
unfolding primary_at
primary_group d t ts rest e = rw e refl

-- operands of a level, where the first one and those behind it are read
joined_step : (p : Reader Tree) (k : ℕ) (t : Tree) (ts : Tail) (text middle rest : List Terminal) →
    level_at p k text ≡ Ok (t, middle) → tail_within (level_at p k) k (length middle) middle ≡ Ok (ts, rest) →
    level_at p (suc k) text ≡ Ok (chain_of t ts, rest)
unfolding level_at joined_at tail_at
joined_step p k t ts text middle rest e f = rw (e, f) refl

ends_close : (k : ℕ) (ts : List Terminal) → Ends k (Fixed Close ∷ ts)
ends_close k ts = record { none = λ j lt. refl }

-- what a primary is read as is read at each level
lift_primary : (d k : ℕ) (t : Tree) (ts rest : List Terminal) → primary_at d ts ≡ Ok (t, rest) → Ends k rest → level_at (primary_at d) k ts ≡ Ok (t, rest)
unfolding level_at
lift_primary d k t ts rest e ends = lift (primary_at d) 0 k ts t rest (omega arith) e ends

from_level : (d : ℕ) (t : Tree) (ts rest : List Terminal) → level_at (primary_at d) 0 ts ≡ Ok (t, rest) → primary_at d ts ≡ Ok (t, rest)
unfolding level_at
from_level d t ts rest e = e

regroup : (a b c rest : List Terminal) (s : Terminal) → (a ++ (s ∷ (b ++ c))) ++ rest ≡ a ++ (s ∷ (b ++ (c ++ rest)))
regroup a b c rest s = simp append_assoc

mutual
  -- Each expression that the grammar has is read, if it nests no deeper.
  pub again : (t : Tree) (d k : ℕ) (rest : List Terminal) → IsAt k t → nesting t ≤ d → Ends k rest →
      level_at (primary_at d) k (spelling t ++ rest) ≡ Ok (t, rest)
  again (net n) d k rest at deep ends = lift_primary d k _ _ rest (primary_name d n rest) ends
  again (bit b) d k rest at deep ends = lift_primary d k _ _ rest (primary_bit d b rest) ends
  again (inverse t) zero k rest at deep ends = absurd (omega arith)
  again (inverse t) (suc d) k rest at deep ends =
      let inner : primary_at d (spelling t ++ rest) ≡ Ok (t, rest) =
      from_level d t _ rest (again t d 0 rest at (omega arith) (ends_below 0 k rest (omega arith) ends)) in
      lift_primary (suc d) k _ _ rest (primary_inverse d t _ rest inner) ends
  again (group t) zero k rest at deep ends = absurd (omega arith)
  again (group t) (suc d) k rest at deep ends =
      let inner = again t d 3 (Fixed Close ∷ rest) at (omega arith) (ends_close 3 rest) in
      rw append_assoc (lift_primary (suc d) k _ _ rest (primary_group d t _ rest inner) ends)
  again (joined t o u ts) d k rest at deep ends =
      let above : Ends (suc (rank o)) rest = ends_below (suc (rank o)) k rest (omega arith) ends in
      let text : List Terminal = spelling u ++ (tail_spelling ts ++ rest) in
      let second = again u d (rank o) (tail_spelling ts ++ rest) at.2 (omega arith) (ends_tail ts (rank o) rest at.3 above) in
      let more = again_tail ts d (rank o) (length text) rest at.3 (omega arith) above (omega (arith, length-append (spelling u) (tail_spelling ts ++ rest))) in
      let both = tail_step (level_at (primary_at d) (rank o)) (rank o) (length text) o u ts text (tail_spelling ts ++ rest) rest refl second more in
      let first = again t d (rank o) (sign o ∷ text) at.1 (omega arith) (ends_sign o (rank o) text refl) in
      rw (regroup (spelling t) (spelling u) (tail_spelling ts) rest (sign o))
      (lift (primary_at d) (suc (rank o)) k _ _ rest (omega arith) (joined_step (primary_at d) (rank o) t (link o u ts) _ (sign o ∷ text) rest first both) ends)

  pub again_tail : (ts : Tail) (d k n : ℕ) (rest : List Terminal) → AreAt k ts → tail_nesting ts ≤ d → Ends (suc k) rest →
      length (tail_spelling ts ++ rest) ≤ n → tail_within (level_at (primary_at d) k) k n (tail_spelling ts ++ rest) ≡ Ok (ts, rest)
  again_tail done d k n rest at deep ends room = tail_none _ k n rest (ends.none k (omega arith))
  again_tail (link o t ts) d k zero rest at deep ends room = absurd (omega arith)
  again_tail (link o t ts) d k (suc n) rest at deep ends room =
      let one = again t d k (tail_spelling ts ++ rest) at.1 (omega arith) (ends_tail ts k rest at.2 ends) in
      let more = again_tail ts d k n rest at.2 (omega arith) ends (omega (arith, length-append (spelling t ++ tail_spelling ts) rest, length-append (spelling t) (tail_spelling ts), length-append (tail_spelling ts) rest)) in
      rw append_assoc (tail_step (level_at (primary_at d) k) k n o t ts _ _ rest at.0 one more)

-- what was read at the front of a list is an operand of the level, and spelled there
pub record Found (d k : ℕ) (ts : List Terminal) (t : Tree) (rest : List Terminal) : Type 0 where
  pub spelled : ts ≡ spelling t ++ rest
  pub level : IsAt k t
  pub nested : nesting t ≤ d

pub record FoundTail (d k : ℕ) (ts : List Terminal) (t : Tail) (rest : List Terminal) : Type 0 where
  pub spelled : ts ≡ tail_spelling t ++ rest
  pub level : AreAt k t
  pub nested : tail_nesting t ≤ d

abbrev pub Finds : ℕ → ℕ → Reader Tree → Type 0
Finds d k p = (ts : List Terminal) (x : Tree × List Terminal) → p ts ≡ Ok x → Found d k ts x.0 x.1

pub bind_ok : {A B : Type 0} {o : Result A Stop} {f : A → Result B Stop} {y : B} → (o >>= f) ≡ Ok y → (x : A) × (o ≡ Ok x) × (f x ≡ Ok y)
bind_ok {o = Ok x} e = (x, refl, e)
bind_ok {o = Err w} e = absurd (cc)

pub ok_is : {A : Type 0} {x y : A} → ◌≡◌ {A = Result A Stop} (Ok x) (Ok y) → x ≡ y
ok_is e = cc

some_is : {A : Type 0} {x y : A} → ◌≡◌ {A = Option A} (Some x) (Some y) → x ≡ y
some_is e = cc

rank_is : (o o' : Operator) (k : ℕ) → of_rank k (Some o) ≡ Some o' → (o ≡ o') × (rank o ≡ k)
rank_is o o' k e =
    ⊎_elim
    (λ yes. (some_is (rw yes.0 at e), yes.1))
    (λ no. let never : None ≡ Some o' = rw no.0 at e in absurd (cc))
    (eqb_tells (rank o) k)

-- the operator that is found at the front stands there
pub operator_is : (k : ℕ) (ts : List Terminal) (o : Operator) → operator_at k ts ≡ Some o → (ts ≡ sign o ∷ drop 1 ts) × (rank o ≡ k)
operator_is k (Fixed s ∷ ts) o e = of_symbol s e
  where
    signed : (o' : Operator) → of_rank k (Some o') ≡ Some o → (sign o' ∷ ts ≡ sign o ∷ ts) × (rank o ≡ k)
    signed o' e = let h = rank_is o' o k e in (ap (λ w. sign w ∷ ts) h.0, ap rank (sym h.0) ∙ h.1)

    of_symbol : (s : Mark) → of_rank k (operator_of s) ≡ Some o → (Fixed s ∷ ts ≡ sign o ∷ ts) × (rank o ≡ k)
    of_symbol Ampersand e = signed And e
    of_symbol Caret e = signed Xor e
    of_symbol TildeCaret e = signed Xnor e
    of_symbol Bar e = signed Or e
    of_symbol _ e = absurd (cc)
operator_is k _ o e = absurd (cc)

no_tail : (d k : ℕ) (ts : List Terminal) (x : Tail × List Terminal) → ◌≡◌ {A = Result (Tail × List Terminal) Stop} (Ok (done, ts)) (Ok x) → FoundTail d k ts x.0 x.1
no_tail d k ts x e =
    subst (λ (x : Tail × List Terminal). FoundTail d k ts x.0 x.1) (ok_is e) (record { spelled = refl; level = tt; nested = omega arith })

-- two lists, one behind the other at the front, are one list there
both_spelled : {A : Type 0} (ts a middle b rest : List A) → ts ≡ a ++ middle → middle ≡ b ++ rest → ts ≡ (a ++ b) ++ rest
both_spelled ts a middle b rest e f = e ∙ (ap (λ m. a ++ m) f ∙ sym (append_assoc a b rest))

link_at_finds : (p : Reader Tree) (more : Reader Tail) (d k : ℕ) → Finds d k p →
    ((ts : List Terminal) (x : Tail × List Terminal) → more ts ≡ Ok x → FoundTail d k ts x.0 x.1) →
    (o : Option Operator) (ts : List Terminal) (x : Tail × List Terminal) → operator_at k ts ≡ o → link_at p more o ts ≡ Ok x → FoundTail d k ts x.0 x.1
link_at_finds p more d k f g None ts x h e = no_tail d k ts x e
link_at_finds p more d k f g (Some o) ts x h e =
    let one = bind_ok e in
    let two = bind_ok one.2 in
    let front = operator_is k ts o h in
    let here = f (drop 1 ts) one.0 one.1 in
    let behind = g one.0.1 two.0 two.1 in
    subst (λ (x : Tail × List Terminal). FoundTail d k ts x.0 x.1) (ok_is two.2)
    (record {
      spelled = front.0 ∙ ap (λ l. sign o ∷ l) (both_spelled (drop 1 ts) (spelling one.0.0) one.0.1 (tail_spelling two.0.0) two.0.1 here.spelled behind.spelled);
      level = (front.1, here.level, behind.level);
      nested = omega (arith, here.nested, behind.nested);
    })

tail_finds : (p : Reader Tree) (d k n : ℕ) → Finds d k p → (ts : List Terminal) (x : Tail × List Terminal) → tail_within p k n ts ≡ Ok x → FoundTail d k ts x.0 x.1
unfolding tail_within
tail_finds p d k zero f ts x e = no_tail d k ts x e
tail_finds p d k (suc n) f ts x e = link_at_finds p (tail_within p k n) d k f (tail_finds p d k n f) (operator_at k ts) ts x refl e

IsAt-above : (k : ℕ) (t : Tree) → IsAt k t → IsAt (suc k) t
IsAt-above k (net n) h = tt
IsAt-above k (bit b) h = tt
IsAt-above k (inverse t) h = h
IsAt-above k (group t) h = h
IsAt-above k (joined t o u ts) h = (omega arith, h.1, h.2, h.3)

IsAt-chain_of : (k : ℕ) (t : Tree) (ts : Tail) → IsAt k t → AreAt k ts → IsAt (suc k) (chain_of t ts)
IsAt-chain_of k t done h g = IsAt-above k t h
IsAt-chain_of k t (link o u ts) h g = (omega (arith, g.0), subst (λ i. IsAt i t) (sym g.0) h, subst (λ i. IsAt i u) (sym g.0) g.1, subst (λ i. AreAt i ts) (sym g.0) g.2)

spelling-chain_of : (t : Tree) (ts : Tail) → spelling (chain_of t ts) ≡ spelling t ++ tail_spelling ts
spelling-chain_of t done = grind (arith, common_steps)
spelling-chain_of t (link o u ts) = refl

nesting-chain_of : (d : ℕ) (t : Tree) (ts : Tail) → nesting t ≤ d → tail_nesting ts ≤ d → nesting (chain_of t ts) ≤ d
nesting-chain_of d t done h g = h
nesting-chain_of d t (link o u ts) h g = omega arith

joined_finds : (p : Reader Tree) (d k : ℕ) → Finds d k p → Finds d (suc k) (joined_at p k)
unfolding joined_at tail_at
joined_finds p d k f ts x e =
    let one = bind_ok e in
    let two = bind_ok one.2 in
    let here = f ts one.0 one.1 in
    let behind = tail_finds p d k (length one.0.1) f one.0.1 two.0 two.1 in
    subst (λ (x : Tree × List Terminal). Found d (suc k) ts x.0 x.1) (ok_is two.2)
    (record {
      spelled = rw (spelling-chain_of one.0.0 two.0.0) (both_spelled ts (spelling one.0.0) one.0.1 (tail_spelling two.0.0) two.0.1 here.spelled behind.spelled);
      level = IsAt-chain_of k one.0.0 two.0.0 here.level behind.level;
      nested = nesting-chain_of d one.0.0 two.0.0 here.nested behind.nested;
    })

level_finds : (p : Reader Tree) (d : ℕ) → Finds d 0 p → (k : ℕ) → Finds d k (level_at p k)
unfolding level_at
level_finds p d f zero = f
level_finds p d f (suc k) = joined_finds (level_at p k) d k (level_finds p d f k)

mark_of : ℕ → Mark
mark_of n = get_or (Module ∷ EndModule ∷ Input ∷ Output ∷ Wire ∷ Assign ∷ Open ∷ Close ∷ Comma ∷ Semicolon ∷ Equals ∷ Tilde ∷ Ampersand ∷ Caret ∷ TildeCaret ∷ Bar ∷ []) n Module

mark_of-number : (s : Mark) → mark_of (number s) ≡ s
unfolding mark_of
mark_of-number Module = refl
mark_of-number _ = refl

pub same_mark : (s r : Mark) → number s ≡ number r → s ≡ r
same_mark s r e = sym (mark_of-number s) ∙ (ap mark_of e ∙ mark_of-number r)

pub behind_mark : (s : Mark) (rest : List Terminal) → behind s (Fixed s ∷ rest) ≡ Ok rest
behind_mark s rest = rw (eq-eqb (number s) (number s) refl) refl

pub behind_is : (s : Mark) (ts rest : List Terminal) → behind s ts ≡ Ok rest → ts ≡ Fixed s ∷ rest
behind_is s (Fixed r ∷ ts) rest e =
    ⊎_elim
    (λ yes. ap (λ l. Fixed r ∷ l) (ok_is (rw yes.0 at e)) ∙ ap (λ q. Fixed q ∷ rest) (same_mark r s yes.1))
    (λ no. let never : stops Other (Fixed r ∷ ts) ≡ Ok rest = rw no.0 at e in absurd (cc))
    (eqb_tells (number r) (number s))
behind_is s _ rest e = absurd (cc)

inverse_finds : (p : Reader Tree) (d : ℕ) → Finds d 0 p → (ts : List Terminal) (x : Tree × List Terminal) → inverse_with p ts ≡ Ok x → Found (suc d) 0 (Fixed Tilde ∷ ts) x.0 x.1
inverse_finds p d f ts x e =
    let one = bind_ok e in
    let here = f ts one.0 one.1 in
    subst (λ (x : Tree × List Terminal). Found (suc d) 0 (Fixed Tilde ∷ ts) x.0 x.1) (ok_is one.2)
    (record { spelled = ap (λ l. Fixed Tilde ∷ l) here.spelled; level = here.level; nested = omega (arith, here.nested) })

group_finds : (p : Reader Tree) (d : ℕ) → Finds d 3 p → (ts : List Terminal) (x : Tree × List Terminal) → group_with p ts ≡ Ok x → Found (suc d) 0 (Fixed Open ∷ ts) x.0 x.1
group_finds p d f ts x e =
    let one = bind_ok e in
    let two = bind_ok one.2 in
    let here = f ts one.0 one.1 in
    let close = behind_is Close one.0.1 two.0 two.1 in
    subst (λ (x : Tree × List Terminal). Found (suc d) 0 (Fixed Open ∷ ts) x.0 x.1) (ok_is two.2)
    (record {
      spelled = ap (λ l. Fixed Open ∷ l) (both_spelled ts (spelling one.0.0) one.0.1 (Fixed Close ∷ []) two.0 here.spelled close);
      level = here.level;
      nested = omega (arith, here.nested);
    })

nested_finds : (p q : Reader Tree) (d : ℕ) → Finds d 0 p → Finds d 3 q → (s : Mark) (ts : List Terminal) (x : Tree × List Terminal) → nested_with s p q ts ≡ Ok x → Found (suc d) 0 (Fixed s ∷ ts) x.0 x.1
nested_finds p q d f g Tilde ts x e = inverse_finds p d f ts x e
nested_finds p q d f g Open ts x e = group_finds q d g ts x e
nested_finds p q d f g _ ts x e = absurd (cc)

leaf_finds : (d : ℕ) (t : Tree) (s : Terminal) (ts : List Terminal) (x : Tree × List Terminal) → spelling t ≡ s ∷ [] → IsAt 0 t → nesting t ≡ 0 →
    ◌≡◌ {A = Result (Tree × List Terminal) Stop} (Ok (t, ts)) (Ok x) → Found d 0 (s ∷ ts) x.0 x.1
leaf_finds d t s ts x e h z same =
    subst (λ (x : Tree × List Terminal). Found d 0 (s ∷ ts) x.0 x.1) (ok_is same)
    (record { spelled = sym (ap (λ l. l ++ ts) e); level = h; nested = omega arith })

primary_finds_by : (p q : Reader Tree) (d : ℕ) →
    ((s : Mark) (ts : List Terminal) (x : Tree × List Terminal) → nested_with s p q ts ≡ Ok x → Found d 0 (Fixed s ∷ ts) x.0 x.1) →
    Finds d 0 (primary_with p q)
primary_finds_by p q d f (Name n ∷ ts) x e = leaf_finds d (net n) (Name n) ts x refl tt refl e
primary_finds_by p q d f (Bit b ∷ ts) x e = leaf_finds d (bit b) (Bit b) ts x refl tt refl e
primary_finds_by p q d f (Fixed s ∷ ts) x e = f s ts x e
primary_finds_by p q d f _ x e = absurd (cc)

nothing_nested : (d : ℕ) (s : Mark) (ts : List Terminal) (x : Tree × List Terminal) → nested_with s too_deep too_deep ts ≡ Ok x → Found d 0 (Fixed s ∷ ts) x.0 x.1
nothing_nested d Tilde ts x e = absurd (cc)
nothing_nested d Open ts x e = absurd (cc)
nothing_nested d _ ts x e = absurd (cc)

pub primary_finds : (d : ℕ) → Finds d 0 (primary_at d)
unfolding primary_at
primary_finds zero = primary_finds_by too_deep too_deep 0 (nothing_nested 0)
primary_finds (suc d) =
    primary_finds_by (primary_at d) (level_at (primary_at d) 3) (suc d)
    (nested_finds (primary_at d) (level_at (primary_at d) 3) d (primary_finds d) (level_finds (primary_at d) d (primary_finds d) 3))

-- What is read is an expression of the grammar, and nests no deeper.
pub finds : (d k : ℕ) → Finds d k (level_at (primary_at d) k)
finds d k = level_finds (primary_at d) d (primary_finds d) k

spelling-long : (t : Tree) → 0 < length (spelling t)
spelling-long (net n) = omega arith
spelling-long (bit b) = omega arith
spelling-long (inverse t) = omega arith
spelling-long (group t) = omega arith
spelling-long (joined t o u ts) = omega (arith, length-append (spelling t) (sign o ∷ (spelling u ++ tail_spelling ts)))

-- What reads takes at least one terminal.
pub record Shrinks (p : Reader Tree) : Type 0 where
  pub less : (ts : List Terminal) (x : Tree × List Terminal) → p ts ≡ Ok x → length x.1 < length ts

pub shrinks : (d k : ℕ) → Shrinks (level_at (primary_at d) k)
shrinks d k = record {
  less = λ ts x e.
      let found = finds d k ts x e in
      omega (arith, ap length found.spelled, length-append (spelling x.0) x.1, spelling-long x.0);
}

abbrev pub joined_tail : Tail → Tail → Tail
joined_tail done us = us
joined_tail (link o t ts) us = link o t (joined_tail ts us)

-- what was read before, and what is read behind it
abbrev pub ahead : Tail → Result (Tail × List Terminal) Stop → Result (Tail × List Terminal) Stop
ahead ts (Ok y) = Ok (joined_tail ts y.0, y.1)
ahead ts (Err e) = Err e

behind_operator : Reader Tail → Operator → Tree × List Terminal → Result (Tail × List Terminal) Stop
behind_operator more o x = more x.1 >>= λ y. Ok (link o x.0 y.0, y.1)

link_at_is : (p : Reader Tree) (more : Reader Tail) (o : Operator) (ts : List Terminal) → link_at p more (Some o) ts ≡ (p (drop 1 ts) >>= behind_operator more o)
unfolding behind_operator
link_at_is p more o ts = refl

same_link_at : (p : Reader Tree) (k : ℕ) (more other : Reader Tail) (o : Option Operator) (ts : List Terminal) →
    ((x : Tree × List Terminal) → p (drop 1 ts) ≡ Ok x → more x.1 ≡ other x.1) → link_at p more o ts ≡ link_at p other o ts
unfolding behind_operator
same_link_at p k more other None ts f = refl
same_link_at p k more other (Some o) ts f = link_at_is p more o ts ∙ (by_first (p (drop 1 ts)) f ∙ sym (link_at_is p other o ts))
  where
    by_first : (r : Result (Tree × List Terminal) Stop) → ((x : Tree × List Terminal) → r ≡ Ok x → more x.1 ≡ other x.1) → (r >>= behind_operator more o) ≡ (r >>= behind_operator other o)
    by_first (Err e) f = refl
    by_first (Ok x) f = rw (f x refl) refl

-- With room for each operand, how much of it there is doesn't matter.
same_within : (p : Reader Tree) (k n m : ℕ) (ts : List Terminal) → Shrinks p → length ts ≤ n → length ts ≤ m → tail_within p k n ts ≡ tail_within p k m ts
unfolding tail_within
same_within p k zero m [] s h g = sym (tail_none p k m [] refl)
same_within p k zero m (t ∷ ts) s h g = absurd (omega arith)
same_within p k (suc n) zero [] s h g = refl
same_within p k (suc n) zero (t ∷ ts) s h g = absurd (omega arith)
same_within p k (suc n) (suc m) ts s h g =
    same_link_at p k (tail_within p k n) (tail_within p k m) (operator_at k ts) ts
    (λ x e. same_within p k n m x.1 s (omega (arith, s.less (drop 1 ts) x e, length-drop 1 ts)) (omega (arith, s.less (drop 1 ts) x e, length-drop 1 ts)))

operator_is_ahead : (more : Reader Tail) (o : Operator) (t : Tree) (rest : List Terminal) → behind_operator more o (t, rest) ≡ ahead (link o t done) (more rest)
unfolding behind_operator
operator_is_ahead more o t rest = by_rest (more rest)
  where
    by_rest : (r : Result (Tail × List Terminal) Stop) → (r >>= λ (y : Tail × List Terminal). let x : Tail × List Terminal = (link o t y.0, y.1) in Ok x) ≡ ahead (link o t done) r
    by_rest (Err e) = refl
    by_rest (Ok y) = refl

link_at_is_ahead : (p : Reader Tree) (o : Operator) (more : Reader Tail) (t : Tree) (ts rest : List Terminal) → p (drop 1 ts) ≡ Ok (t, rest) →
    link_at p more (Some o) ts ≡ ahead (link o t done) (more rest)
link_at_is_ahead p o more t ts rest e = link_at_is p more o ts ∙ (ap (λ r. r >>= behind_operator more o) e ∙ operator_is_ahead more o t rest)

-- one operand more, and what is read behind it
pub tail_next : (p : Reader Tree) (k : ℕ) (o : Operator) (t : Tree) (ts rest : List Terminal) → Shrinks p → operator_at k ts ≡ Some o → p (drop 1 ts) ≡ Ok (t, rest) →
    tail_at p k ts ≡ ahead (link o t done) (tail_at p k rest)
unfolding tail_at tail_within
tail_next p k o t [] rest s h e = absurd (cc)
tail_next p k o t (u ∷ ts) rest s h e =
    rw h (link_at_is_ahead p o (tail_within p k (length ts)) t (u ∷ ts) rest e ∙ ap (ahead (link o t done)) (same_within p k (length ts) (length rest) rest s (omega (arith, s.less ts (t, rest) e)) (omega arith)))

pub tail_fails : (p : Reader Tree) (k : ℕ) (o : Operator) (ts : List Terminal) (w : Stop) → operator_at k ts ≡ Some o → p (drop 1 ts) ≡ Err w → tail_at p k ts ≡ Err w
unfolding tail_at tail_within
tail_fails p k o [] w h e = absurd (cc)
tail_fails p k o (u ∷ ts) w h e = rw h (rw e refl)

pub tail_ends : (p : Reader Tree) (k : ℕ) (ts : List Terminal) → operator_at k ts ≡ None → tail_at p k ts ≡ Ok (done, ts)
unfolding tail_at
tail_ends p k ts e = tail_none p k (length ts) ts e

pub joined_tail-done : (ts : Tail) → joined_tail ts done ≡ ts
joined_tail-done done = refl
joined_tail-done (link o t ts) = ap (link o t) (joined_tail-done ts)

joined_tail-assoc : (a b c : Tail) → joined_tail (joined_tail a b) c ≡ joined_tail a (joined_tail b c)
joined_tail-assoc done b c = refl
joined_tail-assoc (link o t ts) b c = ap (link o t) (joined_tail-assoc ts b c)

pub ahead-ahead : (a b : Tail) (r : Result (Tail × List Terminal) Stop) → ahead (joined_tail a b) r ≡ ahead a (ahead b r)
ahead-ahead a b (Err e) = refl
ahead-ahead a b (Ok y) = ap (λ (t : Tail). let x : Tail × List Terminal = (t, y.1) in Ok x) (joined_tail-assoc a b y.0)

pub tail-push : (os : List Operand) (o : Operand) → tail (os ++ o ∷ []) ≡ joined_tail (tail os) (link o.operator (tree o.expr) done)
tail-push [] o = refl
tail-push (p ∷ os) o = ap (link p.operator (tree p.expr)) (tail-push os o)

pub row_tail-items : (n : _) (r : Row_of-Operand n) → row_tail r ≡ tail (items-the_row-Operand n r)
row_tail-items _ end_of-Operand = refl
row_tail-items _ (more_of-Operand o e r) = ap (link o (tree e)) (row_tail-items _ r)

pub primary_tilde : (d : ℕ) (ts : List Terminal) → primary_at d (Fixed Tilde ∷ ts) ≡ inverse_at d ts
unfolding primary_at
primary_tilde zero ts = refl
primary_tilde (suc d) ts = refl

pub primary_open : (d : ℕ) (ts : List Terminal) → primary_at d (Fixed Open ∷ ts) ≡ group_at d ts
unfolding primary_at
primary_open zero ts = refl
primary_open (suc d) ts = refl

pub primary_empty : (d : ℕ) → primary_at d [] ≡ stops Primary []
primary_empty d = (primary_is d).2 []

-- no other mark begins a primary
pub primary_mark : (d : ℕ) (s : Mark) (ts : List Terminal) → (s ≡ Tilde → ⊥) → (s ≡ Open → ⊥) → primary_at d (Fixed s ∷ ts) ≡ stops Primary (Fixed s ∷ ts)
primary_mark d Tilde ts e f = absurd (e refl)
primary_mark d Open ts e f = absurd (f refl)
primary_mark d s ts e f = (primary_is d).2 (Fixed s ∷ ts)

-- Why a reader fails is also why the one above it does.
pub fails_too : {X Y : Type 0} (e : Stop) (r : Result X Stop) (s : Result Y Stop) → Fails e r → ((w : Stop) → r ≡ Err w → s ≡ Err w) → Fails e s
fails_too NoMemory r s h f = tt
fails_too (Bad left wanted) r s h f = f (Bad left wanted) h
fails_too (Deep left) r s h f = f (Deep left) h

-- a stop where so many terminals are left
pub stopped_here : {Y : Type 0} (wanted : Wanted) (ts : List Terminal) (left : ℕ) (read : Result Y Stop) → left ≡ length ts → read ≡ stops wanted ts → Fails (Bad left wanted) read
stopped_here wanted ts left read h e = e ∙ ap (λ n. Err (Bad n wanted)) (sym h)

pub gives_same : {X Y : Type 0} (view : X → Y) (rest : List Terminal) (r : Result X Stop) (a b : Result (Y × List Terminal) Stop) → a ≡ b → Gives view rest r a → Gives view rest r b
gives_same view rest r a b e h = subst (λ x. Gives view rest r x) e h

pub level_none : (p : Reader Tree) (k : ℕ) (ts : List Terminal) → k ≡ 0 → p ts ≡ level_at p k ts
unfolding level_at
level_none p k ts e = rw e refl

pub level_some : (p : Reader Tree) (k below : ℕ) (ts : List Terminal) → k ≡ suc below → joined_at (level_at p below) below ts ≡ level_at p k ts
unfolding level_at
level_some p k below ts e = rw e refl

pub row_tail-vec : (v : Vec Operand Global) → row_tail (hidden-the_row-Operand-0 v) ≡ tail v.items
row_tail-vec v = row_tail-items _ (hidden-the_row-Operand-0 v) ∙ ap tail (items_hidden-the_row-Operand-0 v)

-- The loop over the operands of a level: what was read, and what is read behind it, is what is read at the start.
pub operands_fail : (p : Reader Tree) (k : ℕ) (o : Operator) (acc : Tail) (ts behind start : List Terminal) → operator_at k ts ≡ Some o → behind ≡ drop 1 ts →
    ahead acc (tail_at p k ts) ≡ tail_at p k start → (w : Stop) → p behind ≡ Err w → tail_at p k start ≡ Err w
operands_fail p k o acc ts behind start h b e w f = sym e ∙ ap (ahead acc) (tail_fails p k o ts w h (ap p (sym b) ∙ f))

pub operands_go_on : (p : Reader Tree) (k : ℕ) (o : Operator) (acc : Tail) (t : Tree) (ts behind rest start : List Terminal) → Shrinks p → operator_at k ts ≡ Some o → behind ≡ drop 1 ts →
    ahead acc (tail_at p k ts) ≡ tail_at p k start → p behind ≡ Ok (t, rest) → ahead (joined_tail acc (link o t done)) (tail_at p k rest) ≡ tail_at p k start
operands_go_on p k o acc t ts behind rest start s h b e f =
    ahead-ahead acc (link o t done) (tail_at p k rest) ∙ (ap (ahead acc) (sym (tail_next p k o t ts rest s h (ap p (sym b) ∙ f))) ∙ e)

pub operands_end : (p : Reader Tree) (k : ℕ) (acc : Tail) (ts start : List Terminal) → operator_at k ts ≡ None → ahead acc (tail_at p k ts) ≡ tail_at p k start → tail_at p k start ≡ Ok (acc, ts)
operands_end p k acc ts start h e = sym e ∙ (ap (ahead acc) (tail_ends p k ts h) ∙ ap (λ (t : Tail). let x : Tail × List Terminal = (t, ts) in Ok x) (joined_tail-done acc))

pub operands_shrink : (p : Reader Tree) (t : Tree) (ts behind rest : List Terminal) → Shrinks p → behind ≡ drop 1 ts → p behind ≡ Ok (t, rest) → length rest < length ts
operands_shrink p t ts behind rest s b f = omega (arith, s.less behind (t, rest) f, ap length b, length-drop 1 ts)

pub primary_neither : (d : ℕ) (t : Terminal) (ts : List Terminal) → ((op : Op) × (t ≡ GateWord op)) ⊎ ((t ≡ Number) ⊎ ((t ≡ Reserved) ⊎ ((b : ℕ) × (t ≡ Symbol b)))) → primary_at d (t ∷ ts) ≡ stops Primary (t ∷ ts)
primary_neither d t ts (inl (op, e)) = rw e ((primary_is d).2 (GateWord op ∷ ts))
primary_neither d t ts (inr (inl e)) = rw e ((primary_is d).2 (Number ∷ ts))
primary_neither d t ts (inr (inr (inl e))) = rw e ((primary_is d).2 (Reserved ∷ ts))
primary_neither d t ts (inr (inr (inr (b, e)))) = rw e ((primary_is d).2 (Symbol b ∷ ts))

pub joined_tree : (first second f g : Expr) (o : Operator) (v : Vec Operand Global) → f ≡ first → g ≡ second → joined (tree f) o (tree g) (row_tail (hidden-the_row-Operand-0 v)) ≡ joined (tree first) o (tree second) (tail v.items)
joined_tree first second f g o v h k =
    ap (λ x. joined (tree x) o (tree g) (row_tail (hidden-the_row-Operand-0 v))) h
    ∙ ap (λ x. joined (tree first) o (tree x) (row_tail (hidden-the_row-Operand-0 v))) k
    ∙ ap (joined (tree first) o (tree second)) (row_tail-vec v)

-- Operands of a level, joined: the first, and where an operator follows, the second and those behind it.
pub joined_one : (p : Reader Tree) (k : ℕ) (t : Tree) (ts rest : List Terminal) → p ts ≡ Ok (t, rest) → operator_at k rest ≡ None → joined_at p k ts ≡ Ok (t, rest)
unfolding joined_at
joined_one p k t ts rest e h = rw (e, tail_ends p k rest h) refl

pub joined_second_fails : (p : Reader Tree) (k : ℕ) (t : Tree) (o : Operator) (ts rest behind : List Terminal) → p ts ≡ Ok (t, rest) → operator_at k rest ≡ Some o → behind ≡ drop 1 rest →
    (w : Stop) → p behind ≡ Err w → joined_at p k ts ≡ Err w
unfolding joined_at
joined_second_fails p k t o ts rest behind e h b w f = rw (e, tail_fails p k o rest w h (ap p (sym b) ∙ f)) refl

pub joined_more_fails : (p : Reader Tree) (k : ℕ) (t u : Tree) (o : Operator) (ts rest behind next : List Terminal) → Shrinks p → p ts ≡ Ok (t, rest) → operator_at k rest ≡ Some o → behind ≡ drop 1 rest →
    p behind ≡ Ok (u, next) → (w : Stop) → tail_at p k next ≡ Err w → joined_at p k ts ≡ Err w
unfolding joined_at
joined_more_fails p k t u o ts rest behind next s e h b f w g =
    rw (e, tail_next p k o u rest next s h (ap p (sym b) ∙ f), g) refl

pub joined_all : (p : Reader Tree) (k : ℕ) (t u : Tree) (o : Operator) (more : Tail) (ts rest behind next last : List Terminal) → Shrinks p → p ts ≡ Ok (t, rest) → operator_at k rest ≡ Some o → behind ≡ drop 1 rest →
    p behind ≡ Ok (u, next) → tail_at p k next ≡ Ok (more, last) → joined_at p k ts ≡ Ok (joined t o u more, last)
unfolding joined_at
joined_all p k t u o more ts rest behind next last s e h b f g =
    rw (e, tail_next p k o u rest next s h (ap p (sym b) ∙ f), g) refl

pub gives_tree : (r : Result Expr Stop) (t : Tree) (rest : List Terminal) (read : Result (Tree × List Terminal) Stop) → IfOk r (λ e. tree e ≡ t) → IfErr r (λ e. e ≡ NoMemory) → read ≡ Ok (t, rest) → Gives tree rest r read
gives_tree (Ok x) t rest read h f e = e ∙ ap (λ (u : Tree). let y : Tree × List Terminal = (u, rest) in Ok y) (sym h)
gives_tree (Err w) t rest read h f e = subst (λ (v : Stop). Fails v read) (sym f) tt
