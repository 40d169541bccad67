-- What is wanted where a stack is stuck, told by what would do there: `assign`, a bit, or nothing.
use Rattle.std.proofs.Common.{◌≡◌, ◌≢◌, ℕ, Bool, true, false, cond, [], ◌∷◌, ◌++◌, Option, Some, None, refl, sym, ap, subst, ◌∙◌, ◌⊎◌, inl, inr}
use Rattle.std.specs.Prelude.{nat_eq, nat_lt}
use Rattle.std.proofs.lemmas.Bool.{both_ways}
use Rattle.bx_syntax.specs.declared.terminal.Terminal.{Terminal}
use Rattle.bx_syntax.specs.declared.terminal.Terminal.TheVariants.{Fixed, GateWord, Name, Bit}
use Rattle.bx_syntax.specs.declared.terminal.Mark.TheVariants.{EndModule, Input as InputWord, Output as OutputWord, Wire as WireWord, Assign as AssignWord, Open, Close, Comma, Equals, Tilde}
use Rattle.bx_syntax.specs.declared.stop.Wanted.{Wanted}
use Rattle.bx_syntax.specs.declared.stop.Wanted.TheVariants.{Item, Primary, End, Other}
use Rattle.bx_syntax.specs.declared.tree.Operator.{Operator}
use Rattle.bx_syntax.specs.declared.part.Kind.{Kind}
use Rattle.bx_syntax.specs.ReadsExpressions.{number, operator_of}
use Rattle.bx_syntax.specs.ReadsModules.{kind_of}
use Rattle.bx_syntax.proofs.Stacks.{Symbol, mark, maybe_wire, name, label, header, in_header, plain_ports, directed_ports, port, items, parts, driver, primary, operators, arguments, few, behind_name, Stack, at_comma, at_item, at_operator, reply, Reply, takes, nests, passed, stuck, goes, bad, deep, answer, move}
use Rattle.bx_syntax.proofs.Coming.{Fits, IsFine, left_out, wanted_of, Known, reply_known}

-- What tells what is wanted: a terminal that what may be left out passes, and that does exactly where this is wanted.
abbrev pub Does : Bool → Terminal → Wanted → Symbol → Type 0
Does true u want x = reply x u ≡ passed
Does false u want x = ((wanted_of x ≡ want) × ((more : Stack) × (reply x u ≡ takes more))) ⊎ ((wanted_of x ≢ want) × (reply x u ≡ stuck (wanted_of x)))

pub record Probe (u : Terminal) (want : Wanted) : Type 0 where
  pub goes_on : want ≢ End
  pub does : (x : Symbol) (rest : Stack) → Fits x rest → Does (left_out x) u want x

assign_does : (x : Symbol) (rest : Stack) → Fits x rest → Does (left_out x) (Fixed AssignWord) Item x
assign_does (mark AssignWord) rest f = absurd (f refl)
assign_does (mark _) rest f = inr ((λ h. cc), refl)
assign_does items rest f = inl (refl, (_, refl))
assign_does name rest f = inr ((λ h. cc), refl)
assign_does in_header rest f = inr ((λ h. cc), refl)
assign_does port rest f = inr ((λ h. cc), refl)
assign_does (primary n) rest f = inr ((λ h. cc), refl)
assign_does few rest f = inr ((λ h. cc), refl)
assign_does _ rest f = refl

bit_does : (x : Symbol) (rest : Stack) → Fits x rest → Does (left_out x) (Bit false) Primary x
bit_does (primary n) rest f = inl (refl, (_, refl))
bit_does few rest f = inl (refl, (_, refl))
bit_does (mark s) rest f = inr ((λ h. cc), refl)
bit_does name rest f = inr ((λ h. cc), refl)
bit_does in_header rest f = inr ((λ h. cc), refl)
bit_does port rest f = inr ((λ h. cc), refl)
bit_does items rest f = inr ((λ h. cc), refl)
bit_does _ rest f = refl

pub assign_probe : Probe (Fixed AssignWord) Item
assign_probe = record { goes_on = λ h. cc; does = assign_does }

pub bit_probe : Probe (Bit false) Primary
bit_probe = record { goes_on = λ h. cc; does = bit_does }

module _ (limit : ℕ) where
  -- where it is stuck, this is wanted and the terminal does, or it is stuck there too
  abbrev pub Tells : Terminal → Wanted → Stack → Wanted → Type 0
  Tells u want stack w = ((w ≡ want) × ((next : Stack) × (move limit stack u ≡ goes next))) ⊎ ((w ≢ want) × (move limit stack u ≡ bad w))

  bad_same : {v w : Wanted} → bad v ≡ bad w → w ≡ v
  bad_same e = cc

  does_so : (u : Terminal) (want : Wanted) (x : Symbol) (rest : Stack) (w : Wanted) → w ≡ wanted_of x → Does false u want x → Tells u want (x ∷ rest) w
  does_so u want x rest w same (inl (is, (more, e))) = inl (same ∙ is, (more ++ rest, ap (λ r. answer limit r rest (move limit rest u)) e))
  does_so u want x rest w same (inr (other, e)) = inr ((λ h. other (sym same ∙ h)), ap (λ r. answer limit r rest (move limit rest u)) e ∙ ap bad (sym same))

  over : (u : Terminal) (want : Wanted) (x : Symbol) (rest : Stack) (w : Wanted) → reply x u ≡ passed → Tells u want rest w → Tells u want (x ∷ rest) w
  over u want x rest w e (inl (is, (next, h))) = inl (is, (next, ap (λ r. answer limit r rest (move limit rest u)) e ∙ h))
  over u want x rest w e (inr (other, h)) = inr (other, ap (λ r. answer limit r rest (move limit rest u)) e ∙ h)

  pub tells : (u : Terminal) (want : Wanted) → Probe u want → (stack : Stack) (t : Terminal) (w : Wanted) → IsFine stack → move limit stack t ≡ bad w → Tells u want stack w
  tells u want p [] t w f e = inr ((λ h. p.goes_on (sym h ∙ bad_same e)), e)
  tells u want p (x ∷ rest) t w f e = by_reply (reply x t) refl e (tells u want p rest t w f.1) where
    by_reply : (r : Reply) → reply x t ≡ r → answer limit r rest (move limit rest t) ≡ bad w → (move limit rest t ≡ bad w → Tells u want rest w) → Tells u want (x ∷ rest) w
    by_reply (takes more) same e again = absurd (cc)
    by_reply (nests n more) same e again = by_room (nat_lt n limit) e where
      by_room : (b : Bool) → cond b (goes (more ++ rest)) deep ≡ bad w → Tells u want (x ∷ rest) w
      by_room true e = absurd (cc)
      by_room false e = absurd (cc)
    by_reply passed same e again =
        let is : left_out x ≡ true = subst (Known x rest) same (reply_known x rest t f.0 f.1) in
        over u want x rest w (subst (λ b. Does b u want x) is (p.does x rest f.0)) (again e)
    by_reply (stuck v) same e again =
        let is : (left_out x ≡ false) × (v ≡ wanted_of x) = subst (Known x rest) same (reply_known x rest t f.0 f.1) in
        does_so u want x rest w (bad_same e ∙ is.1) (subst (λ b. Does b u want x) is.0 (p.does x rest f.0))

  fits_none : (x : Symbol) → left_out x ≡ true → Fits x [] → ⊥
  fits_none (mark s) e f = both_ways false refl e
  fits_none name e f = both_ways false refl e
  fits_none in_header e f = both_ways false refl e
  fits_none port e f = both_ways false refl e
  fits_none items e f = both_ways false refl e
  fits_none (primary n) e f = both_ways false refl e
  fits_none few e f = both_ways false refl e
  fits_none _ e f = f

  wants_more : (x : Symbol) → wanted_of x ≢ End
  wants_more items e = cc
  wants_more _ e = cc

  -- the end is wanted only where nothing is to come
  pub end_is : (stack : Stack) (t : Terminal) → IsFine stack → move limit stack t ≡ bad End → stack ≡ []
  end_is [] t f e = refl
  end_is (x ∷ rest) t f e = absurd (by_reply (reply x t) refl e (end_is rest t f.1)) where
    by_reply : (r : Reply) → reply x t ≡ r → answer limit r rest (move limit rest t) ≡ bad End → (move limit rest t ≡ bad End → rest ≡ []) → ⊥
    by_reply (takes more) same e again = cc
    by_reply (nests n more) same e again = by_room (nat_lt n limit) e where
      by_room : (b : Bool) → cond b (goes (more ++ rest)) deep ≡ bad End → ⊥
      by_room true e = cc
      by_room false e = cc
    by_reply passed same e again = fits_none x (subst (Known x rest) same (reply_known x rest t f.0 f.1)) (subst (λ (r : Stack). Fits x r) (again e) f.0)
    by_reply (stuck v) same e again =
        let is : (left_out x ≡ false) × (v ≡ wanted_of x) = subst (Known x rest) same (reply_known x rest t f.0 f.1) in
        wants_more x (sym is.1 ∙ sym (bad_same e))
