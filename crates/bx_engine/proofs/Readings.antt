-- What is read is refused for one fault, or taken as one module and one library, and never both.
use Rattle.std.specs.Prelude.{⊤, slice_index_or}
use Rattle.std.proofs.lemmas.Option.{same_Some}
use Rattle.std.proofs.Common.{◌≡◌, ℕ, ◌<◌, [], length, Some, None, Ok, Err, refl, sym, ◌∙◌, ap, subst, arith}
use Rattle.bx_lex.specs.declared.token.LexFault.{LexFault}
use Rattle.bx_lex.specs.Tokens.{TokenList, HasTokens, HasFault}
use Rattle.bx_lex.proofs.Readings.{one_reading}
use Rattle.bx_library.specs.Readings.{Reads}
use Rattle.bx_library.specs.Tiles.{Tiles}
use Rattle.bx_library.specs.declared.fault.LibraryFault.{LibraryFault}
use Rattle.bx_library.proofs.One.{one_reading as one_library_reading}
use Rattle.bx_syntax.specs.declared.fault.ReadFault.{ReadFault}
use Rattle.bx_syntax.specs.Parts.{ModuleTree}
use Rattle.bx_syntax.specs.Terminals.{terminals_of}
use Rattle.bx_syntax.specs.Grammar.{IsModule}
use Rattle.bx_syntax.specs.Faults.{HasReadFault}
use Rattle.bx_syntax.proofs.Faults.{one_fault as one_fault_of, no_fault as no_fault_of}
use Rattle.bx_syntax.proofs.ModuleSteps.{module_once}
use Rattle.bx_verilog.specs.declared.fault.NetFault.{NetFault}
use Rattle.bx_verilog.specs.Formulas.{Text}
use Rattle.bx_verilog.specs.Faults.{IsAccepted, IsFault}
use Rattle.bx_verilog.specs.Elaboration.{net_of}
use Rattle.bx_logic.specs.Nets.{Netlist, output_names}
use Rattle.bx_map.specs.Maps.{first_constant}
use Rattle.bx_verilog.proofs.OneMeaning.{one-meaning}
use Rattle.bx_engine.specs.declared.status.InputFault.{InputFault}
use Rattle.bx_engine.specs.declared.status.InputFault.TheVariants.{TooLong, Lex, Read, Net, Constant, Nodes, Library, Design, Cut, Cert}
use Rattle.bx_engine.specs.declared.status.Which.{Which}
use Rattle.bx_engine.specs.declared.status.Which.TheVariants.{LibFile}
use Rattle.bx_engine.specs.Tasks.{Inputs}
use Rattle.bx_engine.specs.Texts.{IsText, IsUnread, IsGood, IsMapped, IsConstant, HasManyNodes, IsRefused, IsTaken, IsShortLibrary, IsRefusedLibrary, IsTakenLibrary, AreRefused, AreTaken, by_module, by_library}

module _ (text : Text) where
  one_list : (a b : TokenList) → HasTokens text a → HasTokens text b → a ≡ b
  one_list a b x y = let same = one_reading text (Ok a) (Ok b) x y in cc

  one_lex_fault : (a b : LexFault) → HasFault text a → HasFault text b → a ≡ b
  one_lex_fault a b x y = let same = one_reading text (Err a) (Err b) x y in cc

  no_tokens : (a : TokenList) (b : LexFault) → HasTokens text a → HasFault text b → ⊥
  no_tokens a b x y = let lost = one_reading text (Ok a) (Err b) x y in cc

  pub one_text : (m n : ModuleTree) → IsText text m → IsText text n → m ≡ n
  one_text m n a b =
      module_once 256 256 m n (terminals_of text a.found.tokens) a.is_module
      (subst (λ (l : TokenList). IsModule 256 n (terminals_of text l.tokens)) (one_list b.found a.found b.tokens a.tokens) b.is_module)

  pub some_text : (m : ModuleTree) (f : ReadFault) → IsText text m → IsUnread text f → ⊥
  some_text m f a b =
      no_fault_of 256 (terminals_of text b.found.tokens) b.found f m b.has
      (subst (λ (l : TokenList). IsModule 256 m (terminals_of text l.tokens)) (one_list a.found b.found a.tokens b.tokens) a.is_module)

  one_read_fault : (f g : ReadFault) → IsUnread text f → IsUnread text g → f ≡ g
  one_read_fault f g a b =
      one_fault_of 256 (terminals_of text b.found.tokens) b.found f g
      (subst (λ (l : TokenList). HasReadFault text l f) (one_list a.found b.found a.tokens b.tokens) a.has) b.has

one_fault : (m : ModuleTree) (f g : NetFault) → IsFault m f → IsFault m g → f ≡ g
one_fault m f g a b = let same = one-meaning m (Err f) (Err g) a b in cc

no_fault : (m : ModuleTree) (f : NetFault) → IsAccepted m → IsFault m f → ⊥
no_fault m f a b = let lost = one-meaning m (Ok (net_of m)) (Err f) (a, refl) b in cc

-- faults of a text before its module is accepted
abbrev IsEarly : InputFault → Type 0
IsEarly (Constant name) = ⊥
IsEarly (Nodes count) = ⊥
IsEarly _ = ⊤

-- what a net is refused for
one_port : (net : Netlist) (i j : ℕ) → first_constant net ≡ Some i → first_constant net ≡ Some j → i ≡ j
one_port net i j a b = let same : Some i ≡ Some j = sym a ∙ b in cc

one_constant : (net : Netlist) (x y : Text) → IsConstant net x → IsConstant net y → x ≡ y
one_constant net x y a b = a.named ∙ ap (λ (j : ℕ). slice_index_or (output_names net) j []) (one_port net a.port b.port a.first b.first) ∙ sym b.named

no_constant : (net : Netlist) (x : Text) → IsConstant net x → first_constant net ≡ None → ⊥
no_constant net x a none = let lost : Some a.port ≡ None = sym a.first ∙ none in cc

not_many : (net : Netlist) (count : ℕ) → HasManyNodes net count → IsMapped net → ⊥
not_many net count a b = let c = a.counted in let d = a.many in let e = b.few in omega arith

module _ (text : Text) where
  text_fault : (m n : ModuleTree) (f g : NetFault) → IsText text m → IsText text n → IsFault m f → IsFault n g → f ≡ g
  text_fault m n f g a b x y = one_fault n f g (subst (λ (t : ModuleTree). IsFault t f) (one_text text m n a b) x) y

  text_no_fault : (m n : ModuleTree) (f : NetFault) → IsText text m → IsText text n → IsAccepted m → IsFault n f → ⊥
  text_no_fault m n f a b x y = no_fault n f (subst IsAccepted (one_text text m n a b) x) y

  -- a text of an accepted module is refused for what its net is, and for nothing that comes before
  no_early : (m : ModuleTree) (f : InputFault) → IsGood text m → IsEarly f → IsRefused text f → ⊥
  no_early m (TooLong w) good early (e, l) = let short = good.short in omega arith
  no_early m (Lex g) good early (s, x) = no_tokens text good.is_text.found g good.is_text.tokens x
  no_early m (Read g) good early (s, x) = some_text text m g good.is_text x
  no_early m (Net g) good early (s, (n, x, u)) = text_no_fault m n g good.is_text x good.accepted u
  no_early m (Constant name) good early x = early
  no_early m (Nodes count) good early x = early
  no_early m (Library fault) good early x = x
  no_early m (Design fault) good early x = x
  no_early m (Cut fault ratio) good early x = x
  no_early m (Cert fault) good early x = x

  -- what holds of the net of one module of the text holds of that of another
  of_one : (P : Netlist → Type 0) (m n : ModuleTree) → IsGood text m → IsGood text n → P (net_of m) → P (net_of n)
  of_one P m n a b p = subst (λ (t : ModuleTree). P (net_of t)) (one_text text m n a.is_text b.is_text) p

  pub refused_once : (f g : InputFault) → IsRefused text f → IsRefused text g → f ≡ g
  refused_once (TooLong v) (TooLong w) (e, l) (f, m) = ap TooLong (e ∙ sym f)
  refused_once (TooLong v) (Lex g) (e, l) (s, y) = absurd (omega arith)
  refused_once (TooLong v) (Read g) (e, l) (s, y) = absurd (omega arith)
  refused_once (TooLong v) (Net g) (e, l) (s, y) = absurd (omega arith)
  refused_once (Lex f) (TooLong w) (s, x) (e, l) = absurd (omega arith)
  refused_once (Lex f) (Lex g) (s, x) (r, y) = ap Lex (one_lex_fault text f g x y)
  refused_once (Lex f) (Read g) (s, x) (r, y) = absurd (no_tokens text y.found f y.tokens x)
  refused_once (Lex f) (Net g) (s, x) (r, (n, y, z)) = absurd (no_tokens text y.found f y.tokens x)
  refused_once (Read f) (TooLong w) (s, x) (e, l) = absurd (omega arith)
  refused_once (Read f) (Lex g) (s, x) (r, y) = absurd (no_tokens text x.found g x.tokens y)
  refused_once (Read f) (Read g) (s, x) (r, y) = ap Read (one_read_fault text f g x y)
  refused_once (Read f) (Net g) (s, x) (r, (n, y, z)) = absurd (some_text text n f y x)
  refused_once (Net f) (TooLong w) (s, (m, x, u)) (e, l) = absurd (omega arith)
  refused_once (Net f) (Lex g) (s, (m, x, u)) (r, y) = absurd (no_tokens text x.found g x.tokens y)
  refused_once (Net f) (Read g) (s, (m, x, u)) (r, y) = absurd (some_text text m g x y)
  refused_once (Net f) (Net g) (s, (m, x, u)) (r, (n, y, z)) = ap Net (text_fault m n f g x y u z)
  refused_once (Constant x) (Constant y) (m, a, p) (n, b, q) = ap Constant (one_constant (net_of n) x y (of_one (λ net. IsConstant net x) m n a b p) q)
  refused_once (Constant x) (Nodes c) (m, a, p) (n, b, q) = absurd (no_constant (net_of n) x (of_one (λ net. IsConstant net x) m n a b p) q.no_constant)
  refused_once (Nodes c) (Constant y) (m, a, p) (n, b, q) = absurd (no_constant (net_of m) y (of_one (λ net. IsConstant net y) n m b a q) p.no_constant)
  refused_once (Nodes c) (Nodes d) (m, a, p) (n, b, q) = ap Nodes (let e = of_one (λ net. HasManyNodes net c) m n a b p in let f = e.counted in let g = q.counted in omega arith)
  refused_once (TooLong v) (Constant y) x (n, b, q) = absurd (no_early n (TooLong v) b tt x)
  refused_once (TooLong v) (Nodes d) x (n, b, q) = absurd (no_early n (TooLong v) b tt x)
  refused_once (Lex f) (Constant y) x (n, b, q) = absurd (no_early n (Lex f) b tt x)
  refused_once (Lex f) (Nodes d) x (n, b, q) = absurd (no_early n (Lex f) b tt x)
  refused_once (Read f) (Constant y) x (n, b, q) = absurd (no_early n (Read f) b tt x)
  refused_once (Read f) (Nodes d) x (n, b, q) = absurd (no_early n (Read f) b tt x)
  refused_once (Net f) (Constant y) x (n, b, q) = absurd (no_early n (Net f) b tt x)
  refused_once (Net f) (Nodes d) x (n, b, q) = absurd (no_early n (Net f) b tt x)
  refused_once (Constant x) (TooLong w) (m, a, p) y = absurd (no_early m (TooLong w) a tt y)
  refused_once (Constant x) (Lex g) (m, a, p) y = absurd (no_early m (Lex g) a tt y)
  refused_once (Constant x) (Read g) (m, a, p) y = absurd (no_early m (Read g) a tt y)
  refused_once (Constant x) (Net g) (m, a, p) y = absurd (no_early m (Net g) a tt y)
  refused_once (Nodes c) (TooLong w) (m, a, p) y = absurd (no_early m (TooLong w) a tt y)
  refused_once (Nodes c) (Lex g) (m, a, p) y = absurd (no_early m (Lex g) a tt y)
  refused_once (Nodes c) (Read g) (m, a, p) y = absurd (no_early m (Read g) a tt y)
  refused_once (Nodes c) (Net g) (m, a, p) y = absurd (no_early m (Net g) a tt y)
  refused_once (TooLong v) (Library g) x y = absurd y
  refused_once (Lex f) (Library g) x y = absurd y
  refused_once (Read f) (Library g) x y = absurd y
  refused_once (Net f) (Library g) x y = absurd y
  refused_once (Constant n) (Library g) x y = absurd y
  refused_once (Nodes c) (Library g) x y = absurd y
  refused_once (TooLong v) (Design g) x y = absurd y
  refused_once (Lex f) (Design g) x y = absurd y
  refused_once (Read f) (Design g) x y = absurd y
  refused_once (Net f) (Design g) x y = absurd y
  refused_once (Constant n) (Design g) x y = absurd y
  refused_once (Nodes c) (Design g) x y = absurd y
  refused_once (TooLong v) (Cut g r) x y = absurd y
  refused_once (Lex f) (Cut g r) x y = absurd y
  refused_once (Read f) (Cut g r) x y = absurd y
  refused_once (Net f) (Cut g r) x y = absurd y
  refused_once (Constant n) (Cut g r) x y = absurd y
  refused_once (Nodes c) (Cut g r) x y = absurd y
  refused_once (TooLong v) (Cert g) x y = absurd y
  refused_once (Lex f) (Cert g) x y = absurd y
  refused_once (Read f) (Cert g) x y = absurd y
  refused_once (Net f) (Cert g) x y = absurd y
  refused_once (Constant n) (Cert g) x y = absurd y
  refused_once (Nodes c) (Cert g) x y = absurd y
  refused_once (Library f) g x y = absurd x
  refused_once (Design f) g x y = absurd x
  refused_once (Cut f r) g x y = absurd x
  refused_once (Cert f) g x y = absurd x

  pub not_both : (m : ModuleTree) (f : InputFault) → IsTaken text m → IsRefused text f → ⊥
  not_both m (Constant name) is (n, b, q) = no_constant (net_of m) name (of_one (λ net. IsConstant net name) n m b is.good q) is.is_mapped.no_constant
  not_both m (Nodes count) is (n, b, q) = not_many (net_of m) count (of_one (λ net. HasManyNodes net count) n m b is.good q) is.is_mapped
  not_both m (TooLong w) is x = no_early m (TooLong w) is.good tt x
  not_both m (Lex g) is x = no_early m (Lex g) is.good tt x
  not_both m (Read g) is x = no_early m (Read g) is.good tt x
  not_both m (Net g) is x = no_early m (Net g) is.good tt x
  not_both m (Library fault) is x = x
  not_both m (Design fault) is x = x
  not_both m (Cut fault ratio) is x = x
  not_both m (Cert fault) is x = x

  pub one_module : (m n : ModuleTree) → IsTaken text m → IsTaken text n → m ≡ n
  one_module m n a b = one_text text m n a.good.is_text b.good.is_text

-- ---- libraries

-- the two ways in which the text of a library is refused
data IsBadLibrary (text : Text) : InputFault → Type 0 where
  is_long : 4194304 < length text → IsBadLibrary text (TooLong LibFile)
  is_faulty : (fault : LibraryFault) → IsShortLibrary text → Reads text (Err fault) → IsBadLibrary text (Library fault)

module _ (text : Text) where
  bad_library : (f : InputFault) → IsRefusedLibrary text f → IsBadLibrary text f
  bad_library (TooLong w) (is, long) = subst (λ (v : Which). IsBadLibrary text (TooLong v)) (sym is) (is_long long)
  bad_library (Library fault) (short, reads) = is_faulty fault short reads
  bad_library (Lex g) x = absurd x
  bad_library (Read g) x = absurd x
  bad_library (Net g) x = absurd x
  bad_library (Constant name) x = absurd x
  bad_library (Nodes count) x = absurd x
  bad_library (Design fault) x = absurd x
  bad_library (Cut fault ratio) x = absurd x
  bad_library (Cert fault) x = absurd x

  bad_once : (f g : InputFault) → IsBadLibrary text f → IsBadLibrary text g → f ≡ g
  bad_once _ _ (is_long l) (is_long m) = refl
  bad_once _ _ (is_long l) (is_faulty g short reads) = absurd (omega arith)
  bad_once _ _ (is_faulty f short reads) (is_long m) = absurd (omega arith)
  bad_once _ _ (is_faulty f short reads) (is_faulty g too also) =
      let same : Err f ≡ Err g = one_library_reading text (Err f) (Err g) reads also in
      let one : f ≡ g = cc in
      ap Library one

  pub library_refused_once : (f g : InputFault) → IsRefusedLibrary text f → IsRefusedLibrary text g → f ≡ g
  library_refused_once f g x y = bad_once f g (bad_library f x) (bad_library g y)

  taken_not_bad : (lib : Tiles) (f : InputFault) → IsTakenLibrary text lib → IsBadLibrary text f → ⊥
  taken_not_bad lib _ taken (is_long l) = let short = taken.short in omega arith
  taken_not_bad lib _ taken (is_faulty f short reads) = let lost : Ok lib ≡ Err f = one_library_reading text (Ok lib) (Err f) taken.reads reads in cc

  pub library_not_both : (lib : Tiles) (f : InputFault) → IsTakenLibrary text lib → IsRefusedLibrary text f → ⊥
  library_not_both lib f taken x = taken_not_bad lib f taken (bad_library f x)

  pub one_library : (lib other : Tiles) → IsTakenLibrary text lib → IsTakenLibrary text other → lib ≡ other
  one_library lib other a b = let same : Ok lib ≡ Ok other = one_library_reading text (Ok lib) (Ok other) a.reads b.reads in cc

-- ---- both

module _ (inputs : Inputs) where
  -- what holds of one text of the module holds of another
  net_once : (P : Text → Type 0) (a b : Text) → inputs.net ≡ Some a → inputs.net ≡ Some b → P a → P b
  net_once P a b e f p = subst P (same_Some a b (sym e ∙ f)) p

  lib_once : (P : Text → Type 0) (a b : Text) → inputs.lib ≡ Some a → inputs.lib ≡ Some b → P a → P b
  lib_once P a b e f p = subst P (same_Some a b (sym e ∙ f)) p

  pub inputs_refused_once : (f g : InputFault) → AreRefused inputs f → AreRefused inputs g → f ≡ g
  inputs_refused_once f g (by_module a e why) (by_module b h also) = refused_once b f g (net_once (λ t. IsRefused t f) a b e h why) also
  inputs_refused_once f g (by_module a e why) (by_library b l m h taken k also) = absurd (not_both b m f taken (net_once (λ t. IsRefused t f) a b e h why))
  inputs_refused_once f g (by_library a l m e taken k why) (by_module b h also) = absurd (not_both a m g taken (net_once (λ t. IsRefused t g) b a h e also))
  inputs_refused_once f g (by_library a l m e taken k why) (by_library b o n h takes j also) = library_refused_once o f g (lib_once (λ t. IsRefusedLibrary t f) l o k j why) also

  pub inputs_not_both : (m : ModuleTree) (lib : Tiles) (f : InputFault) → AreTaken inputs m lib → AreRefused inputs f → ⊥
  inputs_not_both m lib f are (by_module a e why) = not_both are.net_text m f are.taken (net_once (λ t. IsRefused t f) a are.net_text e are.net_is why)
  inputs_not_both m lib f are (by_library a l n e taken k why) = library_not_both are.lib_text lib f are.taken_library (lib_once (λ t. IsRefusedLibrary t f) l are.lib_text k are.lib_is why)

  pub inputs_taken_once : (m n : ModuleTree) (lib other : Tiles) → AreTaken inputs m lib → AreTaken inputs n other → (m ≡ n) × (lib ≡ other)
  inputs_taken_once m n lib other a b = (
    one_module b.net_text m n (net_once (λ t. IsTaken t m) a.net_text b.net_text a.net_is b.net_is a.taken) b.taken,
    one_library b.lib_text lib other (lib_once (λ t. IsTakenLibrary t lib) a.lib_text b.lib_text a.lib_is b.lib_is a.taken_library) b.taken_library,
  )
