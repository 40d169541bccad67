-- The names of a module of some text are plain, since no token that names something has a space or a
-- line feed in it.
use Rattle.std.proofs.Common.{◌≡◌, ℕ, zero, suc, ◌-◌, ◌<◌, ◌≤◌, Bool, true, false, List, [], ◌∷◌, length, map, take, drop, get_or, Option, Some, None, refl, sym, ◌∙◌, ap, subst, arith, inl, inr}
use Rattle.std.specs.Prelude.{◌≢◌, ◌==◌, ◌&&◌, if◌then◌else◌}
use Rattle.std.specs.List.{AllByRecursion}
use Rattle.std.proofs.lemmas.List.Elements.{recursion_from_All}
use Rattle.bx_lex.specs.declared.token.Token.{Token}
use Rattle.bx_lex.specs.declared.token.TokenKind.{TokenKind}
use Rattle.bx_lex.specs.declared.token.TokenKind.TheVariants.{Word, Escaped, Number as NumberToken, Symbol as SymbolToken}
use Rattle.bx_lex.specs.Bytes.{is_word_byte, is_shown, is_base}
use Rattle.bx_lex.specs.Kinds.{IsLongestRun, IsTokenOf}
use Rattle.bx_lex.proofs.ByKind.{tokens_of_kind}
use Rattle.bx_syntax.specs.declared.terminal.Terminal.{Terminal}
use Rattle.bx_syntax.specs.declared.terminal.Terminal.TheVariants.{Fixed, Name, Bit, Number, Symbol}
use Rattle.bx_syntax.specs.declared.terminal.Mark.{Mark}
use Rattle.bx_syntax.specs.declared.terminal.Mark.TheVariants.{Module as ModuleWord, Open, Comma, Wire as WireWord, TildeCaret}
use Rattle.bx_syntax.specs.declared.tree.Direction.{Direction}
use Rattle.bx_syntax.specs.declared.tree.Port.{Port}
use Rattle.bx_syntax.specs.Terminals.{mark_or_symbol, one_symbol, is_xnor, symbol_terminal, number_terminal, terminal_of_kind, terminal_of, terminals_of}
use Rattle.bx_syntax.specs.Grammar.{Is, IsOptional, IsName, IsDirection, word, ArePortsBehind, ArePorts, IsHeader}
use Rattle.bx_syntax.specs.Parts.{ModuleTree}
use Rattle.bx_syntax.proofs.Words.{name_is_word}
use Rattle.bx_verilog.specs.Formulas.{Text}
use Rattle.bx_verilog.specs.Mentions.{is_input, is_output, ports_as, inputs, outputs}
use Rattle.bx_verilog.specs.declared.role.Role.{Role}
use Rattle.bx_says.specs.Texts.{IsPlain}
use Rattle.bx_engine.specs.Texts.{IsText}
use Rattle.bx_logic.proofs.Members.{Member-filter_cases, AllByRecursion-from_member, member_of_AllByRecursion}
use Rattle.bx_says.proofs.Spellings.{each_map}

-- runs of bytes that are no space and no line feed

abbrev IsPlainByte : ℕ → Type 0
IsPlainByte byte = (byte ≢ 32) × (byte ≢ 10)

passes : (test : ℕ → Bool) → test 32 ≡ false → test 10 ≡ false → (byte : ℕ) → test byte ≡ true → IsPlainByte byte
passes test space feed byte h = (other 32 space, other 10 feed) where
  other : (stop : ℕ) → test stop ≡ false → byte ≢ stop
  other stop none e = let lost : false ≡ true = sym none ∙ ap test (sym e) ∙ h in cc

taken_plain : (n : ℕ) (text : Text) → n ≤ length text → ((k : ℕ) → k < n → IsPlainByte (get_or text k 0)) → IsPlain (take n text)
taken_plain zero text h p = tt
taken_plain (suc n) [] h p = tt
taken_plain (suc n) (byte ∷ text) h p = (p 0 (omega arith), taken_plain n text (omega arith) (λ k l. p (suc k) (omega arith)))

word_plain : (text : Text) (n : ℕ) → IsLongestRun is_word_byte text n → IsPlain (take n text)
word_plain text n run = taken_plain n text run.inside (λ k l. passes is_word_byte refl refl (get_or text k 0) (run.pass k l))

escaped_plain : (text : Text) (n : ℕ) → 1 < n → IsLongestRun is_shown (drop 1 text) (n - 1) → IsPlain (drop 1 (take n text))
escaped_plain text zero h run = absurd (omega arith)
escaped_plain [] (suc n) h run = tt
escaped_plain (byte ∷ text) (suc n) h run =
    let inside = run.inside in
    taken_plain n text (omega arith) (λ k l. passes is_shown refl refl (get_or text k 0) (run.pass k (omega arith)))

-- what is a name to the grammar

bits_are_none : (digits low high : Bool) (name : Text) → (if digits then (if low then Bit false else (if high then Bit true else Number)) else Number) ≡ Name name → ⊥
bits_are_none false low high name e = cc
bits_are_none true true high name e = cc
bits_are_none true false true name e = cc
bits_are_none true false false name e = cc

number_is_none : (text name : Text) → number_terminal text ≡ Name name → ⊥
number_is_none (a ∷ b ∷ c ∷ d ∷ []) name e = bits_are_none (((a == 49) && (b == 39)) && is_base c) (d == 48) (d == 49) name e
number_is_none [] name e = cc
number_is_none (a ∷ []) name e = cc
number_is_none (a ∷ b ∷ []) name e = cc
number_is_none (a ∷ b ∷ c ∷ []) name e = cc
number_is_none (a ∷ b ∷ c ∷ d ∷ f ∷ text) name e = cc

mark_is_none : (b : ℕ) (found : Option Mark) (name : Text) → mark_or_symbol b found ≡ Name name → ⊥
mark_is_none b (Some s) name e = cc
mark_is_none b None name e = cc

xnor_is_none : (xnor : Bool) (a : ℕ) (name : Text) → (if xnor then Fixed TildeCaret else Symbol a) ≡ Name name → ⊥
xnor_is_none true a name e = cc
xnor_is_none false a name e = cc

symbol_is_none : (text name : Text) → symbol_terminal text ≡ Name name → ⊥
symbol_is_none (b ∷ []) name e = mark_is_none b (one_symbol b) name e
symbol_is_none [] name e = cc
symbol_is_none (b ∷ c ∷ []) name e = xnor_is_none (is_xnor b c) b name e
symbol_is_none (b ∷ c ∷ d ∷ text) name e = cc

kind_plain : (kind : TokenKind) (text : Text) (n : ℕ) → IsTokenOf kind text n → (name : Text) → terminal_of_kind kind (take n text) ≡ Name name → IsPlain name
kind_plain Word text n is name e = subst IsPlain (name_is_word (take n text) name e) (word_plain text n is.1)
kind_plain Escaped text n is name e =
    let given : Name (drop 1 (take n text)) ≡ Name name = e in
    let same : drop 1 (take n text) ≡ name = cc in
    subst IsPlain same (escaped_plain text n is.1 is.2)
kind_plain NumberToken text n is name e = absurd (number_is_none (take n text) name e)
kind_plain SymbolToken text n is name e = absurd (symbol_is_none (take n text) name e)

-- if it is a name, it is a plain one
abbrev IsPlainTerminal : Terminal → Type 0
IsPlainTerminal t = (name : Text) → t ≡ Name name → IsPlain name

token_plain : (text : Text) (t : Token) → IsTokenOf t.kind (drop t.start text) (t.end - t.start) → IsPlainTerminal (terminal_of text t)
unfolding terminal_of
token_plain text t is name e = kind_plain t.kind (drop t.start text) (t.end - t.start) is name e

abbrev ArePlain : List Terminal → Type 0
ArePlain ts = AllByRecursion IsPlainTerminal ts

-- the names of a module, whose terminals are plain

rest_plain : (t : Terminal) (ts rest : List Terminal) → Is t ts rest → ArePlain ts → ArePlain rest
rest_plain t ts rest e p = let both : ArePlain (t ∷ rest) = subst ArePlain e p in both.1

name_plain : (name : Text) (ts rest : List Terminal) → IsName name ts rest → ArePlain ts → IsPlain name
name_plain name ts rest e p = let both : ArePlain (Name name ∷ rest) = subst ArePlain e p in both.0 name refl

optional_plain : (t : Terminal) (ts rest : List Terminal) → IsOptional t ts rest → ArePlain ts → ArePlain rest
optional_plain t ts rest (inl same) p = subst ArePlain same p
optional_plain t ts rest (inr is) p = rest_plain t ts rest is p

direction_plain : (d : Direction) (ts rest : List Terminal) → IsDirection d ts rest → ArePlain ts → ArePlain rest
direction_plain d ts rest (a, is, wire) p = optional_plain (Fixed WireWord) a rest wire (rest_plain (word d) ts a is p)

abbrev HavePlainNames : List Port → Type 0
HavePlainNames ports = AllByRecursion (λ p. IsPlain p.name) ports

ports_behind_plain : (d : Option Direction) (ports : List Port) (ts rest : List Terminal) → ArePortsBehind d ports ts rest → ArePlain ts → HavePlainNames ports
ports_behind_plain d [] ts rest is p = tt
ports_behind_plain d (q ∷ ports) ts rest (a, b, comma, inl plain, more) p =
    let here = rest_plain (Fixed Comma) ts a comma p in
    (name_plain q.name a b plain.1 here, ports_behind_plain q.direction ports b rest more (rest_plain (Name q.name) a b plain.1 here))
ports_behind_plain d (q ∷ ports) ts rest (a, b, comma, inr (some, (e, c, same, is, name)), more) p =
    let here = direction_plain e a c is (rest_plain (Fixed Comma) ts a comma p) in
    (name_plain q.name c b name here, ports_behind_plain q.direction ports b rest more (rest_plain (Name q.name) c b name here))

ports_plain : (ports : List Port) (ts rest : List Terminal) → ArePorts ports ts rest → ArePlain ts → HavePlainNames ports
ports_plain [] ts rest is p = tt
ports_plain (q ∷ ports) ts rest (a, inl plain, more) p =
    (name_plain q.name ts a plain.1 p, ports_behind_plain q.direction ports a rest more (rest_plain (Name q.name) ts a plain.1 p))
ports_plain (q ∷ ports) ts rest (a, inr (e, c, same, is, name), more) p =
    let here = direction_plain e ts c is p in
    (name_plain q.name c a name here, ports_behind_plain q.direction ports a rest more (rest_plain (Name q.name) c a name here))

no_ports : (ports : List Port) → ports ≡ [] → HavePlainNames ports
no_ports ports none = subst HavePlainNames (sym none) tt

header_plain : (ports : List Port) (ts rest : List Terminal) → IsHeader ports ts rest → ArePlain ts → HavePlainNames ports
header_plain ports ts rest (inl (none, same)) p = no_ports ports none
header_plain ports ts rest (inr (a, b, opens, inl (none, same), closes)) p = no_ports ports none
header_plain ports ts rest (inr (a, b, opens, inr are, closes)) p = ports_plain ports a b are (rest_plain (Fixed Open) ts a opens p)

module _ (text : Text) (m : ModuleTree) (is : IsText text m) where
  text_plain : ArePlain (terminals_of text is.found.tokens)
  text_plain =
      each_map (terminal_of text) (λ t. IsTokenOf t.kind (drop t.start text) (t.end - t.start)) IsPlainTerminal (token_plain text) is.found.tokens
      (recursion_from_All (λ t. IsTokenOf t.kind (drop t.start text) (t.end - t.start)) is.found.tokens (tokens_of_kind text is.found is.tokens))

  behind_module : ArePlain is.is_module.named
  behind_module = rest_plain (Fixed ModuleWord) (terminals_of text is.found.tokens) is.is_module.named is.is_module.begins text_plain

  pub module_name_plain : IsPlain m.name
  module_name_plain = name_plain m.name is.is_module.named is.is_module.headed is.is_module.name behind_module

  port_names_plain : HavePlainNames m.ports
  port_names_plain =
      header_plain m.ports is.is_module.headed is.is_module.ended is.is_module.header
      (rest_plain (Name m.name) is.is_module.named is.is_module.headed is.is_module.name behind_module)

  directed_plain : (test : Role → Bool) → AllByRecursion IsPlain (ports_as test m)
  directed_plain test =
      AllByRecursion-from_member IsPlain (ports_as test m) (λ name among.
      member_of_AllByRecursion IsPlain name (map (λ (p : Port). p.name) m.ports) (each_map (λ (p : Port). p.name) (λ p. IsPlain p.name) IsPlain (λ p plain. plain) m.ports port_names_plain)
      (Member-filter_cases _ name _ among).0)

  pub inputs_plain : AllByRecursion IsPlain (inputs m)
  inputs_plain = directed_plain is_input

  pub outputs_plain : AllByRecursion IsPlain (outputs m)
  outputs_plain = directed_plain is_output
