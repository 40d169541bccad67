-- A built command of `clap` is the one that the line says.
use Rattle.std.proofs.Common.{◌≡◌, ℕ, suc, true, false, List, [], ◌∷◌, ◌++◌, map, refl, sym, ap, ◌∙◌, arith}
use Rattle.std.specs.List.{All, list_all}
use Rattle.std.proofs.lemmas.List.{append-nil, append_assoc}
use Rattle.clap.specs.Walk.{Rule, rule_of, is_empty}
use Rattle.clap.specs.Built.{AddsArg, AddsInTurn, FitsChain}
use Rattle.clap.specs.Simple.{App, HasMatchesOf, is_simple, matches_of, app_of, app_of_fields, new_app, new_shape, on_top}
use Rattle.clap.specs.Faults.{fault_of, is_simple_and_free}
use Rattle.clap.specs.Kinds.{Kinds, IsAmong}
use Rattle.clap.specs.declared.error.kind.ErrorKind.{ErrorKind}
use Rattle.clap.specs.declared.builder.arg.Arg.{Arg}
use Rattle.clap.specs.declared.builder.command.Command.{Command}
use Rattle.clap.specs.declared.builder.command.Command.TheViews.{out-Command as fields_of}
use Rattle.clap.specs.declared.parser.matches.ArgMatches.{ArgMatches}
use Rattle.clap.proofs.OnLiterals.{clap_on_literals}
use Rattle.clap.proofs.WalkLemmas.{both}
use Rattle.bx_words.specs.declared.verbs.Verb.{Verb}
use Rattle.bx_words.specs.declared.verbs.Verb.TheVariants.{Design, Verify, Extract, Sample}
use Rattle.bx_words.specs.Verbs.{Line, line_of}
use Rattle.bx_words.specs.Clap.{app_of_line, rules_of, rows_in, has_matches, rows}
use Rattle.bx_words.specs.Built.{IsBuilt}
use Rattle.bx_words.proofs.Arguments.{all_fit, is_ours}

-- ---- each command's line

pub ours : (verb : Verb) → list_all is_ours (rules_of (line_of verb)) ≡ true
ours Design = refl
ours Verify = refl
ours Extract = refl
ours Sample = refl

simple : (verb : Verb) → is_simple_and_free (app_of_line (line_of verb)) ≡ true
unfolding clap_on_literals
simple Design = refl
simple Verify = refl
simple Extract = refl
simple Sample = refl

-- ---- the command

abbrev with_rules : App → List Rule → App
with_rules a rules = on_top (λ s. record s { rules = s.rules ++ rules }) a

no_more : (a : App) → a ≡ with_rules a []
no_more a = ap (λ (rules : List Rule). on_top (λ s. record s { rules = rules }) a) (sym (append-nil a.top.rules))

one_more : (a : App) (r : Rule) (rules : List Rule) → with_rules (with_rules a (r ∷ [])) rules ≡ with_rules a (r ∷ rules)
one_more a r rules = ap (λ (all : List Rule). on_top (λ s. record s { rules = all }) a) (append_assoc a.top.rules (r ∷ []) rules)

chain_app : (start c : Command) (xs : List Arg) → AddsInTurn AddsArg start xs c → All FitsChain xs
    → app_of c ≡ with_rules (app_of start) (map rule_of xs)
chain_app start c [] h all = ap app_of (sym h) ∙ no_more (app_of start)
chain_app start c (x ∷ xs) h all =
    chain_app h.0 c xs h.2 (λ k d lt. all (suc k) d (omega arith))
    ∙ ap (λ a. with_rules a (map rule_of xs)) (h.1.shape (all 0 x (omega arith)).1)
    ∙ one_more (app_of start) (rule_of x) (map rule_of xs)

-- a new command without the help flag
pub helpless : (new c : Command) (name : List ℕ) → fields_of c ≡ record (fields_of new) { disable_help_flag = true } → app_of new ≡ new_app name
    → app_of c ≡ record { top = record (new_shape name) { disable_help_flag = true }; subs = [] }
helpless new c name h e =
    let shown : app_of c ≡ on_top (λ s. record s { disable_help_flag = true }) (app_of new) = ap app_of_fields h in
    shown ∙ ap (on_top (λ s. record s { disable_help_flag = true })) e

pub built_app : (line : Line) (c : Command) → IsBuilt line c → list_all is_ours (rules_of line) ≡ true → app_of c ≡ app_of_line line
built_app line c b own =
    chain_app b.start c b.args b.chain (all_fit b.args (rules_of line) b.rules own)
    ∙ ap (λ a. with_rules a (map rule_of b.args)) b.app
    ∙ ap (λ rules. app_with rules) b.rules
  where
    app_with : List Rule → App
    app_with rules = with_rules (app_of_line (record line { read = []; written = []; numbers = []; options = [] })) rules

pub plain_app : (verb : Verb) (c : Command) → IsBuilt (line_of verb) c → is_simple_and_free (app_of c) ≡ true
plain_app verb c b = ap is_simple_and_free (built_app (line_of verb) c b (ours verb)) ∙ simple verb

-- ---- what `clap` says of the words

pub taken : (verb : Verb) (words : List (List ℕ)) (a : App) → a ≡ app_of_line (line_of verb) → fault_of a words ≡ []
    → has_matches verb words ≡ true
unfolding has_matches
taken verb words a same none = ap is_empty (ap (λ (b : App). fault_of b words) (sym same) ∙ none)

some_kind : (kinds : Kinds) (k : ErrorKind) → IsAmong k kinds → is_empty kinds ≡ false
some_kind [] k h = absurd h
some_kind (x ∷ xs) k h = grind arith

pub refused : (verb : Verb) (words : List (List ℕ)) (a : App) (k : ErrorKind) → a ≡ app_of_line (line_of verb) → IsAmong k (fault_of a words)
    → has_matches verb words ≡ false
unfolding has_matches
refused verb words a k same among = ap (λ (b : App). is_empty (fault_of b words)) (sym same) ∙ some_kind (fault_of a words) k among

pub rows_found : (verb : Verb) (words : List (List ℕ)) (a : App) (m : ArgMatches) → a ≡ app_of_line (line_of verb) → HasMatchesOf a words m
    → rows_in m ≡ rows verb words
unfolding rows_in rows
rows_found verb words a m same has =
    let plain : is_simple a ≡ true = ap is_simple same ∙ (both (is_simple (app_of_line (line_of verb))) _ (simple verb)).0 in
    (has plain).0 ∙ ap (λ (b : App). matches_of b words) same
