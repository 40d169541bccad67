-- A text has one reading.
use Rattle.std.proofs.Common.{◌≡◌, ℕ, suc, ◌+◌, ◌<◌, ◌≤◌, List, [], ◌∷◌, length, drop, Result, Ok, Err, refl, sym, ap, ◌∙◌, subst, arith, length-drop, ◌⊎◌, inl, inr, ⊎_elim, zero, IfOk, IfErr, ◌≢◌}
use Rattle.bx_lex.specs.declared.token.LexFault.TheVariants.{NoMemory}
use Rattle.bx_lex.specs.declared.token.LexFault.{LexFault}
use Rattle.bx_lex.specs.declared.rules.Lexeme.{Lexeme}
use Rattle.bx_lex.specs.Rules.{front}
use Rattle.bx_lex.specs.Tokens.{TokenList, IsCut, HasTokens, HasFault, Reads, tokens_at}
use Rattle.bx_lex.proofs.Sizes.{lexeme_taken}

-- no rule takes anything of the text
abbrev Stops : ℕ → List ℕ → Type 0
Stops place text = (p : Lexeme) → front place text ≡ Ok p → ⊥

end_stops : (place : ℕ) → Stops place []
end_stops place p e = let taken = lexeme_taken place [] p e in omega (arith, taken.0, taken.1)

fault_stops : (place : ℕ) (text : List ℕ) (f : LexFault) → front place text ≡ Err f → Stops place text
fault_stops place text f e p k = cc

-- two cuts that can't go on are one
pub record Same (ps qs : List Lexeme) (b c : ℕ) (r s : List ℕ) : Type 0 where
  pub lexemes : ps ≡ qs
  pub place : b ≡ c
  pub rest : r ≡ s

one_cut : (a : ℕ) (text : List ℕ) (ps qs : List Lexeme) (b c : ℕ) (r s : List ℕ) → IsCut a text ps b r → IsCut a text qs c s → Stops b r → Stops c s → Same ps qs b c r s
one_cut a text [] [] b c r s u v h k = record { lexemes = refl; place = sym u.0 ∙ v.0; rest = sym u.1 ∙ v.1 }
one_cut a text [] (q ∷ qs) b c r s u v h k = absurd (h q (rw (← u.0, ← u.1) v.0))
one_cut a text (p ∷ ps) [] b c r s u v h k = absurd (k p (rw (← v.0, ← v.1) u.0))
one_cut a text (p ∷ ps) (q ∷ qs) b c r s u v h k =
    let e : p ≡ q = (let both : Ok p ≡ front a text = sym u.0 in let other = v.0 in cc) in
    let tail = one_cut (a + q.len) (drop q.len text) ps qs b c r s (subst (λ x. IsCut (a + x.len) (drop x.len text) ps b r) e u.1) v.1 h k in
    record { lexemes = (let t = tail.lexemes in cc); place = tail.place; rest = tail.rest }

pub one_reading : (text : List ℕ) (r s : Result TokenList LexFault) → Reads text r → Reads text s → r ≡ s
one_reading text (Ok found) (Ok other) u v =
    let same = one_cut 0 text u.lexemes v.lexemes found.end other.end [] [] u.cut v.cut (end_stops _) (end_stops _) in
    let tokens : found.tokens ≡ other.tokens = u.tokens ∙ ap (tokens_at 0) same.lexemes ∙ sym v.tokens in
    λ i. Ok (record { tokens = tokens i; end = same.place i })
one_reading text (Ok found) (Err g) u v =
    let same = one_cut 0 text u.lexemes v.lexemes found.end v.place [] v.rest u.cut v.cut (end_stops _) (fault_stops _ _ g v.stops) in
    absurd (omega (arith, v.goes_on, ap length same.rest))
one_reading text (Err f) (Ok found) u v =
    let same = one_cut 0 text u.lexemes v.lexemes u.place found.end u.rest [] u.cut v.cut (fault_stops _ _ f u.stops) (end_stops _) in
    absurd (omega (arith, u.goes_on, ap length same.rest))
one_reading text (Err f) (Err g) u v =
    let same = one_cut 0 text u.lexemes v.lexemes u.place v.place u.rest v.rest u.cut v.cut (fault_stops _ _ f u.stops) (fault_stops _ _ g v.stops) in
    let f_is : front u.place u.rest ≡ Err f = u.stops in
    let g_is : front v.place v.rest ≡ Err g = v.stops in
    let there : front u.place u.rest ≡ front v.place v.rest = (λ i. front (same.place i) (same.rest i)) in
    let same_fault : f ≡ g = cc in
    ap Err same_fault

-- a cut that can't go on, of a text of at most n bytes
pub record Whole (a : ℕ) (text : List ℕ) : Type 0 where
  pub lexemes : List Lexeme
  pub place : ℕ
  pub rest : List ℕ
  pub cut : IsCut a text lexemes place rest
  pub stops : (rest ≡ []) ⊎ ((f : LexFault) × (0 < length rest) × (front place rest ≡ Err f))

whole_more : (a : ℕ) (text : List ℕ) (r : Result Lexeme LexFault) → front a text ≡ r → 0 < length text → ((p : Lexeme) → front a text ≡ Ok p → Whole (a + p.len) (drop p.len text)) → Whole a text
whole_more a text (Ok p) e h more =
    let w = more p e in
    record { lexemes = p ∷ w.lexemes; place = w.place; rest = w.rest; cut = (e, w.cut); stops = w.stops }
whole_more a text (Err f) e h more = record { lexemes = []; place = a; rest = text; cut = (refl, refl); stops = inr (f, h, e) }

some_cut : (n : ℕ) (a : ℕ) (text : List ℕ) → length text ≤ n → Whole a text
some_cut n a [] h = record { lexemes = []; place = a; rest = []; cut = (refl, refl); stops = inl refl }
some_cut zero a (b ∷ bs) h = absurd (omega arith)
some_cut (suc n) a (b ∷ bs) h =
    whole_more a (b ∷ bs) _ refl (omega arith) (λ p e. let s = lexeme_taken a (b ∷ bs) p e in some_cut n (a + p.len) (drop p.len (b ∷ bs)) (rw length-drop (omega (arith, s.0))))

reading_of : (text : List ℕ) → Whole 0 text → (r : Result TokenList LexFault) × Reads text r
reading_of text w =
    ⊎_elim (λ none_left. (Ok (record { tokens = tokens_at 0 w.lexemes; end = w.place }), record { lexemes = w.lexemes; cut = subst (IsCut 0 text w.lexemes w.place) none_left w.cut; tokens = refl }))
    (λ at. (Err at.0, record { lexemes = w.lexemes; place = w.place; rest = w.rest; cut = w.cut; goes_on = at.1; stops = at.2 })) w.stops

pub some_reading : (text : List ℕ) → (r : Result TokenList LexFault) × Reads text r
some_reading text = reading_of text (some_cut (length text) 0 text (omega arith))

-- what is answered, where memory isn't wanting
pub answered : (text : List ℕ) (result r : Result TokenList LexFault) → IfOk result (λ found. HasTokens text found) → IfErr result (λ fault. fault ≢ NoMemory → HasFault text fault) → Reads text r → result ≢ Err NoMemory → result ≡ r
answered text (Ok found) r h k reads given = one_reading text (Ok found) r h reads
answered text (Err fault) r h k reads given = one_reading text (Err fault) r (k (λ e. given (ap Err e))) reads
