-- What was read holds what the text says, word by word.
use Rattle.std.proofs.Common.{◌≡◌, ◌≢◌, ℕ, zero, suc, ◌+◌, ◌^◌, ◌<◌, ◌≤◌, Bool, true, false, cond, List, [], ◌∷◌, ◌++◌, length, Option, Some, None, ℤ, pos, negsuc, refl, sym, ◌∙◌, ap, subst, inl, inr, arith}
use Rattle.std.specs.Prelude.{All, Contains, nat_le, nat_lt, Result, Ok, Err, IfOk}
use Rattle.std.specs.Bool.{MatchBool}
use Rattle.std.proofs.lemmas.Bool.{cases_Bool, lt-ltb, le-ltb, le-leb, lt-leb}
use Rattle.std.proofs.lemmas.List.Elements.{All-push, All-contains, All-contains_itself}
use Rattle.bx_cnf.specs.Literals.{Literal, literal_of}
use Rattle.bx_cnf.specs.Formulas.{Formula, IsFormula, IsClause, AscendAbove}
use Rattle.bx_dimacs.specs.declared.formula.Reading.{Reading}
use Rattle.bx_dimacs.specs.FormulaTexts.{FormulaText, is_tautology, vars_with, vars_for, is_full, with_literal, with_clause, with_number, with_word, with_words}
use Rattle.bx_dimacs.specs.Keeping.{AreDeclared, AreInOrder, own_clause, IsKept, AreKept, Keeps}
use Rattle.bx_dimacs.specs.Shown.{Shows, GoesOn}
use Rattle.bx_dimacs.specs.Words.{signed_of}
use Rattle.bx_dimacs.proofs.Lists.{all_by}

-- as many clauses are kept
pub kept_length : (vars : ℕ) (clauses kept : List (List Literal)) → AreKept vars clauses kept → length clauses ≡ length kept
kept_length vars [] [] are = refl
kept_length vars [] (k ∷ ks) are = absurd are
kept_length vars (c ∷ cs) [] are = absurd are
kept_length vars (c ∷ cs) (k ∷ ks) are = let rest = kept_length (vars_with vars c) cs ks are.1 in omega (arith, rest)

-- a clause more
kept_push : (vars : ℕ) (clauses kept : List (List Literal)) (clause one : List Literal) → AreKept vars clauses kept → IsKept (vars_for vars clauses) clause one → AreKept vars (clauses ++ clause ∷ []) (kept ++ one ∷ [])
kept_push vars [] [] clause one are is = (is, tt)
kept_push vars [] (k ∷ ks) clause one are is = absurd are
kept_push vars (c ∷ cs) [] clause one are is = absurd are
kept_push vars (c ∷ cs) (k ∷ ks) clause one are is = (are.0, kept_push (vars_with vars c) cs ks clause one are.1 is)

vars_push : (vars : ℕ) (clauses : List (List Literal)) (clause : List Literal) → vars_for vars (clauses ++ clause ∷ []) ≡ vars_with (vars_for vars clauses) clause
vars_push vars [] clause = refl
vars_push vars (c ∷ cs) clause = vars_push (vars_with vars c) cs clause

pub vars_more : (vars : ℕ) (clauses : List (List Literal)) → vars ≤ vars_for vars clauses
vars_more vars [] = omega arith
vars_more vars (c ∷ cs) = at (is_tautology c) (vars_more (vars_with vars c) cs) where
  low : (t : Bool) (n : ℕ) → cond t (vars + 2) vars ≤ n → vars ≤ n
  low true n h = omega (arith, h)
  low false n h = h

  at : (t : Bool) → vars_with vars c ≤ vars_for (vars_with vars c) cs → vars ≤ vars_for (vars_with vars c) cs
  at t h = low (is_tautology c) (vars_for (vars_with vars c) cs) h

-- whether all clauses are there is seen of those that are kept
pub full_shown : (reading : Reading) (text : FormulaText) (n : ℕ) → n ≡ length reading.draft.clauses → Shows reading text → nat_le reading.header.clauses n ≡ is_full text
full_shown reading text n is shows =
    let same = kept_length text.vars text.clauses reading.draft.clauses shows.keeps.clauses in
    ap (λ k. nat_le k n) (sym shows.count) ∙ ap (nat_le text.count) (is ∙ sym same)

-- a literal more
pub literal_shown : (old new : Reading) (text : FormulaText) (l : Literal) → Shows old text → new.header ≡ old.header → new.draft ≡ old.draft → new.literals.items ≡ old.literals.items ++ l ∷ [] → 0 < l.var → l.var ≤ old.header.vars → GoesOn new true (with_literal text l)
literal_shown old new text l shows header draft items up within =
    let more : FormulaText = record text { begun = text.begun ++ l ∷ [] } in
    let le : l.var ≤ text.vars = let e = shows.vars in omega (arith, e, within) in
    let yes : nat_le l.var text.vars ≡ true = le-leb l.var text.vars le in
    let shown : Shows new more = record {
      vars = shows.vars ∙ ap (λ h. h.vars) (sym header);
      count = shows.count ∙ ap (λ h. h.clauses) (sym header);
      begun = ap (λ ls. ls ++ l ∷ []) shows.begun ∙ sym items;
      within = All-push (λ (m : Literal). (0 < m.var) × (m.var ≤ text.vars)) text.begun l shows.within (up, le);
      keeps = record {
        declared = shows.keeps.declared;
        vars = ap (λ (d : Formula). d.vars) draft ∙ shows.keeps.vars;
        clauses = subst (λ (d : Formula). AreKept text.vars text.clauses d.clauses) (sym draft) shows.keeps.clauses;
      };
    } in
    subst (λ t. GoesOn new true (cond t (Some more) None)) (sym yes) shown

pub no_literal : (reading : Reading) (text : FormulaText) (l : Literal) → text.vars < l.var → GoesOn reading false (with_literal text l)
no_literal reading text l past =
    let no : nat_le l.var text.vars ≡ false = lt-leb l.var text.vars past in
    subst (λ t. GoesOn reading false (cond t (Some (record text { begun = text.begun ++ l ∷ [] })) None)) (sym no) tt

-- the end of a clause: it is kept as it is, or stands for two variables more, or none are left for it

-- what a clause in order is of
pub record IsOrdered (old : Reading) (ordered : List Literal) : Type 0 where
  pub same : (l : Literal) → (Contains old.literals.items l → Contains ordered l) × (Contains ordered l → Contains old.literals.items l)
  pub ascending : is_tautology old.literals.items ≡ false → AscendAbove 0 ordered
  pub twice : is_tautology old.literals.items ≡ true → AscendAbove 0 ordered → ⊥

pub plain_begun : (old : Reading) (text : FormulaText) (ordered : List Literal) → Shows old text → IsOrdered old ordered → IsClause old.draft.vars ordered → is_tautology text.begun ≡ false
plain_begun old text ordered shows in_order clause =
    elim (cases_Bool (is_tautology text.begun)) [
      | inl holds ↦ absurd (in_order.twice (ap is_tautology (sym shows.begun) ∙ holds) clause.ascending)
      | inr fails ↦ fails
    ]

pub tautology_begun : (old : Reading) (text : FormulaText) (ordered : List Literal) → Shows old text → IsOrdered old ordered → (IsClause old.draft.vars ordered → ⊥) → is_tautology text.begun ≡ true
tautology_begun old text ordered shows in_order no_clause =
    elim (cases_Bool (is_tautology text.begun)) [
      | inl holds ↦ holds
      | inr fails ↦
          let up = in_order.ascending (ap is_tautology (sym shows.begun) ∙ fails) in
          let more = vars_more text.vars text.clauses in
          let all : All (λ (l : Literal). l.var ≤ old.draft.vars) text.begun = λ k d lt. let here = shows.within k d lt in let e = shows.keeps.vars in omega (arith, here.1, more, e) in
          let within = all_by (λ (l : Literal). l.var ≤ old.draft.vars) ordered text.begun (λ l h. subst (λ ls. Contains ls l) (sym shows.begun) ((in_order.same l).1 h)) all in
          absurd (no_clause (record { ascending = up; within = within }))
    ]

-- a clause more in the text and in the formula
clause_shown : (old new : Reading) (text : FormulaText) (one : List Literal) → Shows old text → IsKept (vars_for text.vars text.clauses) text.begun one → new.header ≡ old.header → new.draft.vars ≡ vars_for text.vars (text.clauses ++ text.begun ∷ []) → new.draft.clauses ≡ old.draft.clauses ++ one ∷ [] → new.literals.items ≡ [] → new.draft.vars < 2 ^ 31 → GoesOn new true (with_clause text (text.clauses ++ text.begun ∷ []))
clause_shown old new text one shows is header vars clauses items small =
    let all : List (List Literal) = text.clauses ++ text.begun ∷ [] in
    let more : FormulaText = record text { clauses = all; begun = [] } in
    let yes : nat_lt (vars_for text.vars all) (2 ^ 31) ≡ true = lt-ltb (vars_for text.vars all) (2 ^ 31) (omega (arith, vars, small)) in
    let shown : Shows new more = record {
      vars = shows.vars ∙ ap (λ h. h.vars) (sym header);
      count = shows.count ∙ ap (λ h. h.clauses) (sym header);
      begun = sym items;
      within = λ k d lt. absurd (omega (arith, lt));
      keeps = record {
        declared = All-push (AreDeclared text.vars) text.clauses text.begun shows.keeps.declared shows.within;
        vars = vars;
        clauses = subst (AreKept text.vars all) (sym clauses) (kept_push text.vars text.clauses old.draft.clauses text.begun one shows.keeps.clauses is);
      };
    } in
    subst (λ t. GoesOn new true (cond t (Some more) None)) (sym yes) shown

pub plain_shown : (old new : Reading) (text : FormulaText) (ordered : List Literal) → Shows old text → IsOrdered old ordered → IsClause old.draft.vars ordered → IsFormula old.draft → new.header ≡ old.header → new.draft ≡ record old.draft { clauses = old.draft.clauses ++ ordered ∷ [] } → new.literals.items ≡ [] → GoesOn new true (with_clause text (text.clauses ++ text.begun ∷ []))
plain_shown old new text ordered shows in_order clause formed header draft items =
    let plain = plain_begun old text ordered shows in_order clause in
    let n : ℕ = vars_for text.vars text.clauses in
    let kept : AreInOrder text.begun ordered = record {
      ascending = clause.ascending;
      same = λ l. ((λ h. (in_order.same l).0 (subst (λ ls. Contains ls l) shows.begun h)), (λ h. subst (λ ls. Contains ls l) (sym shows.begun) ((in_order.same l).1 h)));
    } in
    let is : IsKept n text.begun ordered = keep (is_tautology text.begun) plain kept in
    let same : new.draft.vars ≡ old.draft.vars = ap (λ (d : Formula). d.vars) draft in
    let vars : new.draft.vars ≡ vars_for text.vars (text.clauses ++ text.begun ∷ []) =
    same ∙ shows.keeps.vars ∙ sym (vars_push text.vars text.clauses text.begun ∙ ap (λ t. cond t (n + 2) n) plain)
    in
    clause_shown old new text ordered shows is header vars (ap (λ (d : Formula). d.clauses) draft) items (let small = formed.vars in omega (arith, small, same)) where
      keep : (t : Bool) → t ≡ false → AreInOrder text.begun ordered → MatchBool t (ordered ≡ own_clause (vars_for text.vars text.clauses)) (AreInOrder text.begun ordered)
      keep true e kept = let clash : true ≡ false = e in absurd (cc)
      keep false e kept = kept

pub own_shown : (old new : Reading) (text : FormulaText) (ordered : List Literal) → Shows old text → IsOrdered old ordered → (IsClause old.draft.vars ordered → ⊥) → old.draft.vars ≤ 2147483645 → new.header ≡ old.header → new.draft.vars ≡ old.draft.vars + 2 → new.draft.clauses ≡ old.draft.clauses ++ own_clause old.draft.vars ∷ [] → new.literals.items ≡ [] → GoesOn new true (with_clause text (text.clauses ++ text.begun ∷ []))
own_shown old new text ordered shows in_order no_clause room header more clauses items =
    let tautology = tautology_begun old text ordered shows in_order no_clause in
    let n : ℕ = vars_for text.vars text.clauses in
    let is : IsKept n text.begun (own_clause old.draft.vars) = keep (is_tautology text.begun) tautology (ap own_clause shows.keeps.vars) in
    let vars : new.draft.vars ≡ vars_for text.vars (text.clauses ++ text.begun ∷ []) =
    more ∙ ap (λ k. k + 2) shows.keeps.vars ∙ sym (vars_push text.vars text.clauses text.begun ∙ ap (λ t. cond t (n + 2) n) tautology)
    in
    clause_shown old new text (own_clause old.draft.vars) shows is header vars clauses items (omega (arith, more, room)) where
      keep : (t : Bool) → t ≡ true → own_clause old.draft.vars ≡ own_clause (vars_for text.vars text.clauses) → MatchBool t (own_clause old.draft.vars ≡ own_clause (vars_for text.vars text.clauses)) (AreInOrder text.begun (own_clause old.draft.vars))
      keep true e kept = kept
      keep false e kept = let clash : false ≡ true = e in absurd (cc)

pub none_left : (old new : Reading) (text : FormulaText) (ordered : List Literal) → Shows old text → IsOrdered old ordered → (IsClause old.draft.vars ordered → ⊥) → 2147483645 < old.draft.vars → GoesOn new false (with_clause text (text.clauses ++ text.begun ∷ []))
none_left old new text ordered shows in_order no_clause full =
    let tautology = tautology_begun old text ordered shows in_order no_clause in
    let n : ℕ = vars_for text.vars text.clauses in
    let all : List (List Literal) = text.clauses ++ text.begun ∷ [] in
    let vars : vars_for text.vars all ≡ n + 2 = vars_push text.vars text.clauses text.begun ∙ ap (λ t. cond t (n + 2) n) tautology in
    let no : nat_lt (vars_for text.vars all) (2 ^ 31) ≡ false = le-ltb (vars_for text.vars all) (2 ^ 31) (let e = shows.keeps.vars in omega (arith, vars, e, full)) in
    subst (λ t. GoesOn new false (cond t (Some (record text { clauses = all; begun = [] })) None)) (sym no) tt

-- a number that isn't 0 is a literal
pub number_literal : (text : FormulaText) (number : ℤ) → (number ≢ pos 0) → with_number text (Some number) ≡ with_literal text (literal_of number)
number_literal text (pos zero) some = absurd (some refl)
number_literal text (pos (suc n)) some = refl
number_literal text (negsuc n) some = refl

-- where reading goes on, and where not
pub goes_true : (reading : Reading) (next : Option FormulaText) → GoesOn reading true next → (text : FormulaText) × (next ≡ Some text) × Shows reading text
goes_true reading (Some text) shows = (text, refl, shows)
goes_true reading None shows = absurd shows

pub goes_false : (reading : Reading) (next : Option FormulaText) → GoesOn reading false next → next ≡ None
goes_false reading (Some text) stuck = absurd stuck
goes_false reading None stuck = refl

pub ordered_by : (old : Reading) (text : FormulaText) (ordered : List Literal) → Shows old text
    → (All (λ (l : Literal). 0 < l.var) old.literals.items → (l : Literal) → (Contains old.literals.items l → Contains ordered l) × (Contains ordered l → Contains old.literals.items l))
    → (is_tautology old.literals.items ≡ false → All (λ (l : Literal). 0 < l.var) old.literals.items → AscendAbove 0 ordered)
    → (is_tautology old.literals.items ≡ true → All (λ (l : Literal). 0 < l.var) old.literals.items → AscendAbove 0 ordered → ⊥)
    → IsOrdered old ordered
ordered_by old text ordered shows same ascending twice =
    let positive : All (λ (l : Literal). 0 < l.var) text.begun = λ k d lt. (shows.within k d lt).0 in
    let all = subst (All (λ (l : Literal). 0 < l.var)) shows.begun positive in
    record { same = same all; ascending = λ plain. ascending plain all; twice = λ tautology. twice tautology all }

-- a test for a clause, asked of the same literals
pub clause_of : (n vars : ℕ) (asked literals : List Literal) → n ≡ vars → asked ≡ literals → IsClause n asked → IsClause vars literals
clause_of n vars asked literals same are is = subst (IsClause vars) are (subst (λ v. IsClause v asked) same is)

pub clause_back : (n vars : ℕ) (asked literals : List Literal) → n ≡ vars → asked ≡ literals → IsClause vars literals → IsClause n asked
clause_back n vars asked literals same are is = subst (IsClause n) (sym are) (subst (λ v. IsClause v literals) (sym same) is)

-- what was read is a formula that keeps what the text says
pub both_ok : {T E : Type 0} (r : Result T E) (P Q R : T → Type 0) → IfOk r P → IfOk r Q → ((x : T) → P x → Q x → R x) → IfOk r R
both_ok (Ok x) P Q R p q both = both x p q
both_ok (Err e) P Q R p q both = tt

pub keeps_as : (text : FormulaText) (a b : Formula) → a ≡ b → Keeps text b → Keeps text a
keeps_as text a b same keeps = subst (Keeps text) (sym same) keeps

pub vars_kept : (text : FormulaText) (formula : Formula) (n : ℕ) → n ≡ text.vars → Keeps text formula → n ≤ formula.vars
vars_kept text formula n is keeps = let more = vars_more text.vars text.clauses in let e = keeps.vars in omega (arith, is, more, e)
