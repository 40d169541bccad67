-- A list of tokens has one fault, and none where it is a module; and the fault is what the code answers.
use Rattle.std.proofs.Common.{◌≡◌, ◌≢◌, ℕ, zero, suc, ◌+◌, ◌<◌, ◌≤◌, List, [], ◌∷◌, ◌++◌, length, take, append_assoc, Option, Some, None, Result, Ok, Err, IfOk, IfErr, refl, sym, ap, subst, ◌∙◌, ◌⊎◌, inl, inr, ⊎_elim, arith}
use Rattle.std.specs.Prelude.{slice_get}
use Rattle.std.specs.Option.{option_map}
use Rattle.std.proofs.lemmas.Bool.{cases_lt, cases_order}
use Rattle.std.proofs.lemmas.List.{length-map}
use Rattle.std.proofs.lemmas.Option.{slice_get-map}
use Rattle.bx_lex.specs.declared.token.Token.{Token}
use Rattle.bx_lex.specs.Tokens.{TokenList}
use Rattle.bx_syntax.specs.declared.terminal.Terminal.{Terminal}
use Rattle.bx_syntax.specs.declared.terminal.Terminal.TheVariants.{Fixed, Name, Number, Reserved, Symbol}
use Rattle.bx_syntax.specs.declared.terminal.Mark.TheVariants.{Module as ModuleWord}
use Rattle.bx_syntax.specs.declared.fault.Construct.{Construct}
use Rattle.bx_syntax.specs.declared.fault.ReadFault.{ReadFault}
use Rattle.bx_syntax.specs.declared.fault.ReadFault.TheVariants.{Syntax, NotTaken, TooDeep, NoMemory}
use Rattle.bx_syntax.specs.declared.stop.Stop.{Stop}
use Rattle.bx_syntax.specs.declared.stop.Stop.TheVariants.{Bad, Deep, NoMemory as OutOfMemory}
use Rattle.bx_syntax.specs.declared.stop.Wanted.{Wanted}
use Rattle.bx_syntax.specs.Parts.{ModuleTree}
use Rattle.bx_syntax.specs.Terminals.{terminal_of, terminals_of}
use Rattle.bx_syntax.specs.Grammar.{IsModule}
use Rattle.bx_syntax.specs.ReadsModules.{module_at}
use Rattle.bx_syntax.specs.Gives.{Gives}
use Rattle.bx_syntax.specs.Constructs.{construct_of, construct_behind, fault_with}
use Rattle.bx_syntax.specs.Faults.{Begins, Stops, IsDeep, IsConstruct, IsConstructAt, place_of, IsFault, HasReadFault}
use Rattle.bx_syntax.proofs.ReadsModules.{module_reads}
use Rattle.bx_syntax.proofs.Stopping.{Found, found, same_some}

-- what begins a module begins one with fewer terminals

begins_front : (limit : ℕ) (ts us : List Terminal) → Begins limit (ts ++ us) → Begins limit ts
begins_front limit ts us b = record { rest = us ++ b.rest; tree = b.tree; is_module = subst (λ (vs : List Terminal). IsModule limit b.tree vs) (append_assoc ts us b.rest) b.is_module }

taken_front : (ts : List Terminal) (j k : ℕ) → j ≤ k → (us : List Terminal) × (take k ts ≡ take j ts ++ us)
taken_front ts zero k le = (take k ts, refl)
taken_front [] (suc j) zero le = absurd (omega arith)
taken_front [] (suc j) (suc k) le = ([], refl)
taken_front (t ∷ ts) (suc j) zero le = absurd (omega arith)
taken_front (t ∷ ts) (suc j) (suc k) le = let inner = taken_front ts j k (omega arith) in (inner.0, ap (λ us. t ∷ us) inner.1)

taken_whole : (ts : List Terminal) (j : ℕ) → (us : List Terminal) × (ts ≡ take j ts ++ us)
taken_whole ts zero = (ts, refl)
taken_whole [] (suc j) = ([], refl)
taken_whole (t ∷ ts) (suc j) = let inner = taken_whole ts j in (inner.0, ap (λ us. t ∷ us) inner.1)

no_earlier : (limit : ℕ) (ts : List Terminal) (j k : ℕ) → Stops limit ts j → Stops limit ts k → j < k → ⊥
no_earlier limit ts j k s r less =
    let cut = taken_front ts (j + 1) k (omega arith) in
    let within = r.within in
    s.bad (omega arith) (begins_front limit (take (j + 1) ts) cut.0 (subst (λ (us : List Terminal). Begins limit us) cut.1 r.begins))

pub one_place : (limit : ℕ) (ts : List Terminal) (j k : ℕ) → Stops limit ts j → Stops limit ts k → j ≡ k
one_place limit ts j k s r =
    ⊎_elim (λ same. same) (⊎_elim (λ less. absurd (no_earlier limit ts j k s r less)) (λ more. absurd (no_earlier limit ts k j r s more))) (cases_order j k)

no_module : (limit : ℕ) (ts : List Terminal) (k : ℕ) (m : ModuleTree) → Stops limit ts k → IsModule limit m ts → ⊥
no_module limit ts k m s is =
    ⊎_elim
    (λ less. let cut = taken_whole ts (k + 1) in s.bad less (record { rest = cut.0; tree = m; is_module = subst (λ (us : List Terminal). IsModule limit m us) cut.1 is }))
    (λ least. let within = s.within in s.ended (omega arith) m is)
    (cases_lt k (length ts))

one_construct : (limit : ℕ) (ts : List Terminal) (t : Terminal) (c d : Construct) → IsConstruct limit ts t c → IsConstruct limit ts t d → c ≡ d
one_construct limit ts (Symbol b) c d e f = same_some (sym e ∙ f)
one_construct limit ts Reserved c d e f = e ∙ sym f
one_construct limit ts (Name n) c d e f = e.0 ∙ sym f.0
one_construct limit ts Number c d e f = e.0 ∙ sym f.0
one_construct limit ts (Fixed ModuleWord) c d e f = e.0 ∙ sym f.0
one_construct limit ts (Fixed _) c d e f = absurd e
one_construct limit ts _ c d e f = absurd e

one_construct_at : (limit : ℕ) (ts : List Terminal) (k : ℕ) (c d : Construct) → IsConstructAt limit ts k c → IsConstructAt limit ts k d → c ≡ d
one_construct_at limit ts k c d (t, at, e) (u, there, f) =
    one_construct limit (take k ts) t c d e (subst (λ (v : Terminal). IsConstruct limit (take k ts) v d) (same_some (sym there ∙ at)) f)

module _ (limit : ℕ) (ts : List Terminal) (tokens : TokenList) where
  same_place : (j k p q : ℕ) → Stops limit ts j → Stops limit ts k → p ≡ place_of tokens j → q ≡ place_of tokens k → p ≡ q
  same_place j k p q s r e f = e ∙ ap (place_of tokens) (one_place limit ts j k s r) ∙ sym f

  pub one_fault : (f g : ReadFault) → IsFault limit ts tokens f → IsFault limit ts tokens g → f ≡ g
  one_fault (Syntax p) (Syntax q) (j, e, s, u, v) (k, f, r, x, y) = ap Syntax (same_place j k p q s r e f)
  one_fault (Syntax p) (NotTaken q d) (j, e, s, u, v) (k, f, r, x, y) = absurd (v d (subst (λ i. IsConstructAt limit ts i d) (one_place limit ts k j r s) y))
  one_fault (Syntax p) (TooDeep q) (j, e, s, u, v) (k, f, r, x) = absurd (u (subst (IsDeep ts) (one_place limit ts k j r s) x))
  one_fault (NotTaken p c) (Syntax q) (j, e, s, u, v) (k, f, r, x, y) = absurd (y c (subst (λ i. IsConstructAt limit ts i c) (one_place limit ts j k s r) v))
  one_fault (NotTaken p c) (NotTaken q d) (j, e, s, u, v) (k, f, r, x, y) =
      let same : c ≡ d = one_construct_at limit ts k c d (subst (λ i. IsConstructAt limit ts i c) (one_place limit ts j k s r) v) y in
      let place : p ≡ q = same_place j k p q s r e f in
      (λ i. NotTaken (place i) (same i))
  one_fault (NotTaken p c) (TooDeep q) (j, e, s, u, v) (k, f, r, x) = absurd (u (subst (IsDeep ts) (one_place limit ts k j r s) x))
  one_fault (TooDeep p) (Syntax q) (j, e, s, u) (k, f, r, x, y) = absurd (x (subst (IsDeep ts) (one_place limit ts j k s r) u))
  one_fault (TooDeep p) (NotTaken q d) (j, e, s, u) (k, f, r, x, y) = absurd (x (subst (IsDeep ts) (one_place limit ts j k s r) u))
  one_fault (TooDeep p) (TooDeep q) (j, e, s, u) (k, f, r, x) = ap TooDeep (same_place j k p q s r e f)
  one_fault NoMemory g e f = absurd e
  one_fault _ NoMemory e f = absurd f

  pub no_fault : (f : ReadFault) (m : ModuleTree) → IsFault limit ts tokens f → IsModule limit m ts → ⊥
  no_fault NoMemory m e is = e
  no_fault _ m e is = no_module limit ts e.0 m e.2 is

-- why reading stops
pub stop_is : (r : Result ModuleTree Stop) (rest ts : List Terminal) → Gives (λ m. m) rest r (module_at 256 ts) → IfErr r (λ e. e ≢ OutOfMemory → module_at 256 ts ≡ Err e)
stop_is (Ok m) rest ts h = tt
stop_is (Err OutOfMemory) rest ts h = λ other. absurd (other refl)
stop_is (Err (Bad left wanted)) rest ts h = λ other. h
stop_is (Err (Deep left)) rest ts h = λ other. h

bad_parts : {a b : ℕ} {v w : Wanted} → ◌≡◌ {A = Stop} (Bad a v) (Bad b w) → (a ≡ b) × (v ≡ w)
bad_parts h = (cc, cc)

bad_is_not_deep : {a b : ℕ} {v : Wanted} → ◌≡◌ {A = Stop} (Bad a v) (Deep b) → ⊥
bad_is_not_deep h = cc

deep_parts : {a b : ℕ} → ◌≡◌ {A = Stop} (Deep a) (Deep b) → a ≡ b
deep_parts h = cc

none_there : (w : Wanted) (o : Option Terminal) → None ≡ construct_behind w o → (t : Terminal) (d : Construct) → o ≡ Some t → construct_of w t ≡ Some d → ⊥
none_there w None e t d i g = cc
none_there w (Some u) e t d i g = let same : u ≡ t = same_some i in let h = ap (construct_of w) same in cc

some_there : (w : Wanted) (o : Option Terminal) (d : Construct) → Some d ≡ construct_behind w o → (t : Terminal) × (o ≡ Some t) × (construct_of w t ≡ Some d)
some_there w None d e = absurd (cc)
some_there w (Some t) d e = (t, refl, sym e)

module _ (text : List ℕ) (tokens : TokenList) where
  as_many : length (terminals_of text tokens.tokens) ≡ length tokens.tokens
  as_many = length-map tokens.tokens (terminal_of text)

  -- the constructs at a place are those that the wanted thing says
  abbrev AreSaid : ℕ → Wanted → Type 0
  AreSaid k w =
      (c : Construct) → (IsConstructAt 256 (terminals_of text tokens.tokens) k c → (t : Terminal) × (slice_get (terminals_of text tokens.tokens) k ≡ Some t) × (construct_of w t ≡ Some c))
      × ((t : Terminal) → slice_get (terminals_of text tokens.tokens) k ≡ Some t → construct_of w t ≡ Some c → IsConstructAt 256 (terminals_of text tokens.tokens) k c)

  bad_with : (k : ℕ) (w : Wanted) (place : ℕ) (c : Option Construct) → place ≡ place_of tokens k → Stops 256 (terminals_of text tokens.tokens) k → (IsDeep (terminals_of text tokens.tokens) k → ⊥) → AreSaid k w →
      c ≡ construct_behind w (slice_get (terminals_of text tokens.tokens) k) → HasReadFault text tokens (fault_with place c)
  bad_with k w place None at stops shallow said e =
      (k, at, stops, shallow, (λ d there. let t = (said d).0 there in none_there w (slice_get (terminals_of text tokens.tokens) k) e t.0 d t.1 t.2))
  bad_with k w place (Some d) at stops shallow said e =
      let t = some_there w (slice_get (terminals_of text tokens.tokens) k) d e in
      (k, at, stops, shallow, (said d).1 t.0 t.1 t.2)

  pub bad_fault : (left : ℕ) (w : Wanted) (place : ℕ) (c : Option Construct) → module_at 256 (terminals_of text tokens.tokens) ≡ Err (Bad left w) →
      ((k : ℕ) → left + k ≡ length tokens.tokens → place ≡ place_of tokens k) →
      ((k : ℕ) → left + k ≡ length tokens.tokens → c ≡ construct_behind w (slice_get (terminals_of text tokens.tokens) k)) → HasReadFault text tokens (fault_with place c)
  bad_fault left w place c e at says = by_kind (found 256 (terminals_of text tokens.tokens) (Bad left w) e) where
    by_kind : Found 256 (terminals_of text tokens.tokens) (Bad left w) → HasReadFault text tokens (fault_with place c)
    by_kind f =
        ⊎_elim
        (λ x.
        let same = bad_parts x.2 in
        let here : left + f.k ≡ length tokens.tokens = omega (arith, same.0, x.3, as_many) in
        bad_with f.k w place c (at f.k here) f.stops x.4 (subst (AreSaid f.k) (sym same.1) x.5) (says f.k here))
        (λ x. absurd (bad_is_not_deep x.1))
        f.kind

  pub deep_fault : (left place : ℕ) → module_at 256 (terminals_of text tokens.tokens) ≡ Err (Deep left) → ((k : ℕ) → left + k ≡ length tokens.tokens → place ≡ place_of tokens k) → HasReadFault text tokens (TooDeep place)
  deep_fault left place e at = by_kind (found 256 (terminals_of text tokens.tokens) (Deep left) e) where
    by_kind : Found 256 (terminals_of text tokens.tokens) (Deep left) → HasReadFault text tokens (TooDeep place)
    by_kind f =
        ⊎_elim
        (λ x. absurd (bad_is_not_deep (sym x.2)))
        (λ x.
        let same = deep_parts x.1 in
        let here : left + f.k ≡ length tokens.tokens = omega (arith, same, x.2, as_many) in
        (f.k, at f.k here, f.stops, x.3))
        f.kind

  -- what reading doesn't read has a fault
  pub some_fault : (e : Stop) → module_at 256 (terminals_of text tokens.tokens) ≡ Err e → (f : ReadFault) × HasReadFault text tokens f
  some_fault e h = by_kind (found 256 (terminals_of text tokens.tokens) e h) where
    by_kind : Found 256 (terminals_of text tokens.tokens) e → (f : ReadFault) × HasReadFault text tokens f
    by_kind f =
        ⊎_elim
        (λ x.
        let c = construct_behind x.1 (slice_get (terminals_of text tokens.tokens) f.k) in
        (fault_with (place_of tokens f.k) c, bad_with f.k x.1 (place_of tokens f.k) c refl f.stops x.4 x.5 refl))
        (λ x. (TooDeep (place_of tokens f.k), (f.k, refl, f.stops, x.3)))
        f.kind

  -- the construct of a token that isn't there, or is this one
  pub construct_none : (w : Wanted) (k : ℕ) → None ≡ slice_get tokens.tokens k → None ≡ construct_behind w (slice_get (terminals_of text tokens.tokens) k)
  construct_none w k e =
      ap (λ o. construct_behind w (option_map (terminal_of text) o)) e ∙ ap (construct_behind w) (sym (slice_get-map (terminal_of text) tokens.tokens k))

  pub construct_some : (w : Wanted) (k : ℕ) (t : Token) (c : Option Construct) → Some t ≡ slice_get tokens.tokens k → c ≡ construct_of w (terminal_of text t) → c ≡ construct_behind w (slice_get (terminals_of text tokens.tokens) k)
  construct_some w k t c e h =
      h ∙ ap (λ o. construct_behind w (option_map (terminal_of text) o)) e ∙ ap (construct_behind w) (sym (slice_get-map (terminal_of text) tokens.tokens k))

-- Tokens are those of a module, or have a fault.
pub tree_or_fault : (text : List ℕ) (tokens : TokenList) → ((m : ModuleTree) × IsModule 256 m (terminals_of text tokens.tokens)) ⊎ ((f : ReadFault) × HasReadFault text tokens f)
tree_or_fault text tokens = by_read (module_at 256 (terminals_of text tokens.tokens)) refl where
  by_read : (r : Result (ModuleTree × List Terminal) Stop) → module_at 256 (terminals_of text tokens.tokens) ≡ r → ((m : ModuleTree) × IsModule 256 m (terminals_of text tokens.tokens)) ⊎ ((f : ReadFault) × HasReadFault text tokens f)
  by_read (Ok x) e = inl (x.0, module_reads 256 (terminals_of text tokens.tokens) x e)
  by_read (Err w) e = inr (some_fault text tokens w e)

-- what is answered, where memory isn't wanting
pub answered : {M : Type 0} (text : List ℕ) (tokens : TokenList) (r : Result M ReadFault) (view : M → ModuleTree) → IfOk r (λ m. IsModule 256 (view m) (terminals_of text tokens.tokens)) → IfErr r (λ f. f ≢ NoMemory → HasReadFault text tokens f) →
    (f : ReadFault) → HasReadFault text tokens f → r ≢ Err NoMemory → r ≡ Err f
answered text tokens (Ok m) view h k f is given = absurd (no_fault 256 (terminals_of text tokens.tokens) tokens f (view m) is h)
answered text tokens (Err g) view h k f is given = ap Err (one_fault 256 (terminals_of text tokens.tokens) tokens g f (k (λ e. given (ap Err e))) is)
