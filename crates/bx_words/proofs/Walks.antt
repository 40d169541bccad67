-- What `clap` finds in words that it takes, where each argument is set by one value: each that is required has one.
use Rattle.std.proofs.Common.{◌≡◌, ℕ, zero, suc, ◌&&◌, ◌||◌, not, nat_lt, Bool, true, false, List, [], ◌∷◌, ◌++◌, length, Option, Some, None, is_some, map, refl, sym, ap, subst, ◌∙◌, fold, IsSome}
use Rattle.std.specs.Prelude.{find, if◌then◌else◌, option_and_then, slice_get}
use Rattle.std.specs.List.{All, list_all, list_any, slice_index_or}
use Rattle.std.specs.Option.{option_map_or}
use Rattle.std.specs.Str.{bytes_eq, chars}
use Rattle.std.proofs.lemmas.Bool.{true≢false}
use Rattle.std.proofs.lemmas.List.Elements.{All-cons, All-nil}
use Rattle.std.proofs.lemmas.List.Folds.{list_all-append, list_any-append}
use Rattle.clap.specs.Facts.{explicit_source, unwrap_or_range}
use Rattle.clap.specs.Kinds.{Kinds, check_kinds, or_else, range_kinds}
use Rattle.clap.specs.Lexer.{long_of, short_of}
use Rattle.clap.specs.Simple.{Shape, argument_words, built, filled_from, index_after, matches_of, new_rule}
use Rattle.clap.specs.Takes.{is_given}
use Rattle.clap.specs.Walk.{Held, Names, Outcome, Row, Rule, Step, Waiting, Walk, idle, option, positional, done, waits, plain, refused, next, trailing, subcommand, value, action_of, after_flag, after_step, arg_by_id, arg_by_index, arg_by_long, arg_by_short, at_row, attached_value, bundle, bundle_met, bundle_step, default_rows, finished, first_of, flag_met, has_row, is_empty, is_pending, long_met, long_or_other, most_values, more_values, nothing_held, option_met, option_word, plain_word, reacted, reading_by, settled, settled_rows, short_met, short_or_plain, subcommand_met, subcommand_or_other, takes_several, takes_values, to_positional, used, used_as, used_by_id, values_or_missing, walk, walk_from, walked, walked_from, with_default, with_values, without, word_met}
use Rattle.clap.specs.Faults.{bundle_fault, bundle_step_fault, check_fault, defaults_fault, fault_of, flag_word_fault, flags_fault, level_fault, long_fault, option_fault, other_fault, positional_fault, react_fault, settle_fault, short_fault, step_fault, stray_fault, turn_fault, use_fault, walk_fault, word_fault}
use Rattle.clap.specs.declared.builder.action.ArgAction.{ArgAction}
use Rattle.clap.specs.declared.builder.action.ArgAction.TheVariants as action
use Rattle.clap.specs.declared.parser.matches.ValueSource.{ValueSource}
use Rattle.clap.specs.declared.parser.matches.ValueSource.TheVariants.{CommandLine}
use Rattle.clap.specs.declared.error.kind.ErrorKind.TheVariants.{InvalidValue, TooManyValues}
use Rattle.clap.specs.declared.builder.value_parser.Reading.{Reading}
use Rattle.clap.proofs.FaultLemmas.{leaf_fault}
use Rattle.clap.proofs.OnLiterals.{clap_on_literals}
use Rattle.clap.proofs.SimpleLemmas.{is_nil}
use Rattle.clap.proofs.WalkLemmas.{both}
use Rattle.bx_words.specs.declared.verbs.File.{File}
use Rattle.bx_words.specs.declared.verbs.Verb.{Verb}
use Rattle.bx_words.specs.declared.verbs.Verb.TheVariants.{Design, Verify, Extract, Sample}
use Rattle.bx_words.specs.Options.{option_name}
use Rattle.bx_words.specs.Verbs.{Line, Text, file_name, files_of, line_of}
use Rattle.bx_words.specs.Clap.{app_of_line, file_rule, given_in, has_matches, named_in, number_rule, option_rule, rows, rules_of}

-- ---- rows with values

abbrev pub has_some : List Text → Bool
has_some [] = false
has_some (x ∷ xs) = true

abbrev pub has_values : Row → Bool
has_values r = has_some r.values

abbrev pub Valued : List Row → Type 0
Valued rows = list_all has_values rows ≡ true

two : (a b : Bool) → a ≡ true → b ≡ true → (a && b) ≡ true
two true b e f = f
two false b e f = absurd (true≢false (sym e))

some_append : (xs ys : List Text) → has_some xs ≡ true → has_some (xs ++ ys) ≡ true
some_append [] ys e = absurd (true≢false (sym e))
some_append (x ∷ xs) ys e = refl

valued_append : (xs ys : List Row) → Valued xs → Valued ys → Valued (xs ++ ys)
valued_append xs ys v w = list_all-append has_values xs ys ∙ two (list_all has_values xs) (list_all has_values ys) v w

valued_at : (id : Text) (change : Row → List Row) (missing : List Row) → ((r : Row) → has_values r ≡ true → Valued (change r)) → Valued missing
    → (rows : List Row) → Valued rows → Valued (at_row id change missing rows)
valued_at id change missing changed m [] v = m
valued_at id change missing changed m (r ∷ rs) v = go (bytes_eq r.id id) (valued_at id change missing changed m rs (both _ _ v).1)
  where
    go : (b : Bool) → Valued (at_row id change missing rs) → Valued (if b then change r ++ rs else r ∷ at_row id change missing rs)
    go true rest = valued_append (change r) rs (changed r (both _ _ v).0) (both _ _ v).1
    go false rest = two (has_values r) _ (both _ _ v).0 rest

valued_with : (id : Text) (how : Reading) (source : ValueSource) (values : List Text) → has_some values ≡ true → (rows : List Row) → Valued rows
    → Valued (with_values id how source values rows)
valued_with id how source values some rows v =
    valued_at id (more_values source values) _ (λ r e. two (has_some (r.values ++ values)) true (some_append r.values values e) refl)
    (two (has_some values) true some refl) rows v

-- ---- arguments that are set by one value

abbrev is_set : ArgAction → Bool
is_set action.Set = true
is_set action.Append = false
is_set action.SetTrue = false
is_set action.SetFalse = false
is_set action.Count = false
is_set action.Help = false
is_set action.HelpShort = false
is_set action.HelpLong = false
is_set action.Version = false

set_is : (x : ArgAction) → is_set x ≡ true → x ≡ action.Set
set_is action.Set e = refl
set_is action.Append e = absurd (true≢false (sym e))
set_is action.SetTrue e = absurd (true≢false (sym e))
set_is action.SetFalse e = absurd (true≢false (sym e))
set_is action.Count e = absurd (true≢false (sym e))
set_is action.Help e = absurd (true≢false (sym e))
set_is action.HelpShort e = absurd (true≢false (sym e))
set_is action.HelpLong e = absurd (true≢false (sym e))
set_is action.Version e = absurd (true≢false (sym e))

abbrev pub takes_one : Rule → Bool
takes_one a = is_set (action_of a) && (nat_lt 0 (unwrap_or_range a.range).start_inclusive && (takes_values a && is_empty a.defaults))

record TakesOne (a : Rule) : Type 0 where
  set : action_of a ≡ action.Set
  some : nat_lt 0 (unwrap_or_range a.range).start_inclusive ≡ true
  takes : takes_values a ≡ true
  no_default : a.defaults ≡ []

takes : (a : Rule) → takes_one a ≡ true → TakesOne a
takes a one =
    let p = both (is_set (action_of a)) (nat_lt 0 (unwrap_or_range a.range).start_inclusive && (takes_values a && is_empty a.defaults)) one in
    let q = both (nat_lt 0 (unwrap_or_range a.range).start_inclusive) (takes_values a && is_empty a.defaults) p.1 in
    let r = both (takes_values a) (is_empty a.defaults) q.1 in
    record { set = set_is (action_of a) p.0; some = q.0; takes = r.0; no_default = is_nil a.defaults r.1 }

valued_used : (a : Rule) → takes_one a ≡ true → (values : List Text) → has_some values ≡ true → (rows : List Row) → Valued rows → Valued (used a values rows)
valued_used a one [] some rows v = absurd (true≢false (sym some))
valued_used a one (x ∷ xs) some rows v =
    subst (λ (act : ArgAction). Valued (used_as act a.id (reading_by a) (values_or_missing a (x ∷ xs)) rows)) (sym (takes a one).set)
    (valued_with a.id (reading_by a) CommandLine (x ∷ xs) some (without a.id rows) (valued_at a.id (λ _. []) [] (λ r e. refl) refl rows v))

first_none : (a b : Kinds) → or_else a b ≡ [] → a ≡ []
first_none [] b e = refl
first_none (k ∷ ks) b e = cc

second_none : (a b : Kinds) → or_else a b ≡ [] → b ≡ []
second_none [] b e = e
second_none (k ∷ ks) b e = cc

some_values : (least most : ℕ) (values : List Text) → nat_lt 0 least ≡ true → range_kinds least most (length values) ≡ [] → has_some values ≡ true
some_values least most (x ∷ xs) lt e = refl
some_values least most [] lt e = let bad : InvalidValue ∷ [] ≡ [] = rw lt at e in cc

valued_use : (again : Bool) (a : Rule) → takes_one a ≡ true → (values : List Text) (rows : List Row) → use_fault again a values rows ≡ []
    → Valued rows → Valued (used a values rows)
valued_use again a one values rows e v =
    valued_used a one values
    (some_values (unwrap_or_range a.range).start_inclusive (most_values a) values (takes a one).some (first_none _ _ e)) rows v

one_some : {X : Type 0} (x y : X) → Some x ≡ Some y → x ≡ y
one_some x y same = cc

found_passes : {X : Type 0} (p q : X → Bool) (xs : List X) (x : X) → list_all q xs ≡ true → find p xs ≡ Some x → q x ≡ true
found_passes p q [] x each e = cc
found_passes {X} p q (y ∷ ys) x each e = go (p y) (found_passes p q ys x (both _ _ each).1) e
  where
    go : (b : Bool) → (find p ys ≡ Some x → q x ≡ true) → (if b then Some y else find p ys) ≡ Some x → q x ≡ true
    go true rest same = subst (λ (z : X). q z ≡ true) (one_some y x same) (both _ _ each).0
    go false rest same = rest same

found_one : (p : Rule → Bool) (rules : List Rule) (a : Rule) → list_all takes_one rules ≡ true → find p rules ≡ Some a → takes_one a ≡ true
found_one p rules a each e = found_passes p takes_one rules a each e

-- ---- the walk

module _ (c : List Rule) (each : list_all takes_one c ≡ true) (again : Bool) where
  valued_settled : (h : Held) → settle_fault c again h ≡ [] → Valued h.rows → Valued (settled c h).rows
  valued_settled h e v = go h.pending e
    where
      by : (p : Text × List Text) (found : Option Rule) → arg_by_id c p.0 ≡ found → option_map_or (λ a. use_fault again a p.1 h.rows) found [] ≡ []
          → Valued (used_by_id found p.1 h.rows)
      by p None is none = v
      by p (Some a) is none = valued_use again a (found_one (λ x. bytes_eq x.id p.0) c a each is) p.1 h.rows none v

      go : (pending : Option (Text × List Text))
          → option_map_or (λ p. option_map_or (λ a. use_fault again a p.1 h.rows) (arg_by_id c p.0) []) pending [] ≡ []
          → Valued (settled_rows c pending h.rows)
      go None none = v
      go (Some p) none = by p (arg_by_id c p.0) refl none

  valued_reacted : (a : Rule) → takes_one a ≡ true → (values : List Text) (h : Held) → react_fault c again a values h ≡ [] → Valued h.rows
      → Valued (reacted c a values h).rows
  valued_reacted a one values h e v =
      valued_use again a one values (settled c h).rows (second_none _ _ e) (valued_settled h (first_none _ _ e) v)

  valued_option : (a : Rule) → takes_one a ≡ true → (v : Option Text) (h : Held) → option_fault c again a v h ≡ [] → Valued h.rows
      → Valued (option_met c a v h).0.rows
  valued_option a one (Some t) h e v = valued_reacted a one (t ∷ []) h e v
  valued_option a one None h e v = valued_settled h e v

  valued_long : (found : Option Rule) → ((a : Rule) → found ≡ Some a → takes_one a ≡ true) → (v : Option Text) (h : Held)
      → long_fault c again found v h ≡ [] → Valued h.rows → Valued (long_met c found v h).0.rows
  valued_long None one v h e valued = valued
  valued_long (Some a) one v h e valued = go (takes_values a) (takes a (one a refl)).takes e
    where
      go : (b : Bool) → b ≡ true → (if b then option_fault c again a v h else (if is_some v then TooManyValues ∷ [] else react_fault c again a [] h)) ≡ []
          → Valued (if b then option_met c a v h else flag_met c a v h).0.rows
      go true t none = valued_option a (one a refl) v h none valued
      go false t none = absurd (true≢false (sym t))

  valued_short : (found : Option Rule) → ((a : Rule) → found ≡ Some a → takes_one a ≡ true) → (rest : Text) (h : Held)
      (nexts : Held → Held × Outcome) (faults : Held → Kinds)
      → short_fault c again found rest h faults ≡ [] → Valued h.rows → Valued (short_met c found rest h nexts).0.rows
  valued_short None one rest h nexts faults e valued = valued
  valued_short (Some a) one rest h nexts faults e valued = go (takes_values a) (takes a (one a refl)).takes e
    where
      go : (b : Bool) → b ≡ true
          → (if b then option_fault c again a (attached_value rest) h else or_else (react_fault c again a [] h) (faults (reacted c a [] h))) ≡ []
          → Valued (if b then option_met c a (attached_value rest) h else nexts (reacted c a [] h)).0.rows
      go true t none = valued_option a (one a refl) (attached_value rest) h none valued
      go false t none = absurd (true≢false (sym t))

  valued_bundle : (k : ℕ) (flags : Text) (skip : ℕ) (so_far : Outcome) (h : Held) → flags_fault c again k flags skip h ≡ [] → Valued h.rows
      → Valued (bundle_met c k flags skip so_far h).0.rows
  unfolding flags_fault bundle_met
  valued_bundle zero flags skip so_far h e valued = valued
  valued_bundle (suc k) flags skip so_far h e valued =
      go (slice_get (chars flags) 0) skip (λ fs n o g f v. valued_bundle k fs n o g f v) e
    where
      go : (x : Option ℕ) (n : ℕ)
          → ((fs : Text) (m : ℕ) (o : Outcome) (g : Held) → flags_fault c again k fs m g ≡ [] → Valued g.rows → Valued (bundle_met c k fs m o g).0.rows)
          → bundle_step_fault c again x flags n h (flags_fault c again k) ≡ []
          → Valued (bundle_step c x flags n so_far h (bundle_met c k)).0.rows
      go None n rest none = valued
      go (Some x) zero rest none =
          valued_short (arg_by_short c x) (λ a is. found_one _ c a each is) _ h _ _ none valued
      go (Some x) (suc n) rest none = rest _ n so_far h none valued

  valued_plain : (waiting : Waiting) (word : Text) (h : Held) → Valued h.rows → Valued (plain_word c waiting word h).0.rows
  valued_plain idle word h v = v
  valued_plain positional word h v = v
  valued_plain (option id) word h v = go (arg_by_id c id)
    where
      go : (found : Option Rule) → Valued (option_word found id word h).0.rows
      go None = v
      go (Some a) = v

  valued_after : (waiting : Waiting) (word : Text) (h : Held) (o : Outcome) → Valued h.rows → Valued (after_flag c waiting word h o).0.rows
  valued_after waiting word h done v = v
  valued_after waiting word h (waits id) v = v
  valued_after waiting word h plain v = valued_plain waiting word h v
  valued_after waiting word h refused v = valued_plain waiting word h v

  valued_flag : (waiting : Waiting) (word : Text) (flag : Option (Text × Option Text)) (h : Held) → flag_word_fault c again flag word h ≡ []
      → Valued h.rows → Valued (long_or_other c waiting word flag h).0.rows
  valued_flag waiting word (Some p) h e v =
      valued_after waiting word (long_met c (arg_by_long c p.0) p.1 h).0 (long_met c (arg_by_long c p.0) p.1 h).1
      (valued_long (arg_by_long c p.0) (λ a is. found_one _ c a each is) p.1 h e v)
  valued_flag waiting word None h e v = go (short_of word) e
    where
      go : (flags : Option Text) → option_map_or (λ fs. bundle_fault c again fs h) flags [] ≡ [] → Valued (short_or_plain c waiting word flags h).0.rows
      go None none = valued_plain waiting word h v
      go (Some fs) none =
          valued_after waiting word (bundle c fs h).0 (bundle c fs h).1
          (valued_bundle (length fs) fs h.skip plain (record h { skip = 0 }) none v)

-- ---- a word, and all of them

module _ (s : Shape) (each : list_all takes_one s.rules ≡ true) (names : Names) where
  abbrev again : Bool
  again = s.args_override_self

  valued_other : (name : Option Text) (waiting : Waiting) (position : ℕ) (word : Text) (h : Held) → other_fault s name word h ≡ [] → Valued h.rows
      → Valued (subcommand_or_other s.rules name waiting position word h).0.rows
  valued_other (Some name) waiting position word h e v = v
  valued_other None waiting position word h e v = go (bytes_eq word (45 ∷ 45 ∷ [])) e
    where
      go : (b : Bool) → (if b then [] else flag_word_fault s.rules again (long_of word) word h) ≡ []
          → Valued (if b then (h, trailing position) else long_or_other s.rules waiting word (long_of word) h).0.rows
      go true none = v
      go false none = valued_flag s.rules each again waiting word (long_of word) h none v

  valued_word : (is_trailing : Bool) (waiting : Waiting) (position : ℕ) (word : Text) (h : Held) → word_fault s names is_trailing waiting word h ≡ []
      → Valued h.rows → Valued (word_met s.rules names is_trailing waiting position word h).0.rows
  valued_word true waiting position word h e v = v
  valued_word false waiting position word h e v = valued_other (subcommand_met names waiting word) waiting position word h e v

  valued_step : (word : Text) (w : Walk) (h : Held) (step : Step) → step_fault s w.position h step ≡ [] → Valued h.rows
      → Valued (after_step s.rules word w h step).held.rows
  valued_step word w h (next waiting) e v = v
  valued_step word w h (trailing position) e v = v
  valued_step word w h (subcommand name) e v = v
  valued_step word w h value e v = go (arg_by_index s.rules w.position) e
    where
      to : (a : Rule) (b : Bool) → (if b then [] else settle_fault s.rules again h) ≡ [] → Valued (if b then h else settled s.rules h).rows
      to a true none = v
      to a false none = valued_settled s.rules each again h none v

      go : (found : Option Rule) → option_map_or (λ a. positional_fault s.rules again a h) found (stray_fault s) ≡ []
          → Valued (to_positional s.rules found word w h).held.rows
      go None none = v
      go (Some a) none = to a (is_pending a h.pending && takes_several a) none

  valued_turn : (w : Walk) (word : Text) → turn_fault s names w word ≡ [] → Valued w.held.rows → Valued (walked s.rules names w word).held.rows
  unfolding walked
  valued_turn w word e v = go w.stopped e
    where
      met : Held × Step
      met = word_met s.rules names w.is_trailing w.waiting w.position word w.held

      go : (stopped : Option (Text × List Text))
          → (if is_some stopped then [] else or_else (word_fault s names w.is_trailing w.waiting word w.held) (step_fault s w.position met.0 met.1)) ≡ []
          → Valued (walked_from s.rules names stopped w word).held.rows
      go (Some p) none = v
      go None none =
          valued_step word w met.0 met.1 (second_none _ _ none)
          (valued_word w.is_trailing w.waiting w.position word w.held (first_none _ _ none) v)

  valued_walk : (words : List Text) (w : Walk) → walk_fault s names w words ≡ [] → Valued w.held.rows
      → Valued (fold (walked s.rules names) w words).held.rows
  unfolding walk_fault
  valued_walk [] w e v = v
  valued_walk (word ∷ rest) w e v =
      valued_walk rest (walked s.rules names w word) (second_none _ _ e) (valued_turn w word (first_none _ _ e) v)

-- ---- what is required is named

default_kept : (a : Rule) → takes_one a ≡ true → (found : List Row) → with_default found a ≡ found
default_kept a one found = go (has_row a.id found) (takes a one).no_default
  where
    go : (b : Bool) → a.defaults ≡ [] → (if b then found else default_rows a.id (reading_by a) a.defaults found) ≡ found
    go true empty = refl
    go false empty = ap (λ values. default_rows a.id (reading_by a) values found) empty

no_defaults : (rules : List Rule) → list_all takes_one rules ≡ true → (found : List Row) → fold with_default found rules ≡ found
no_defaults [] each found = refl
no_defaults (a ∷ rest) each found =
    ap (λ now. fold with_default now rest) (default_kept a (both _ _ each).0 found) ∙ no_defaults rest (both _ _ each).1 found

-- a rule asks for what isn't there
abbrev is_missed : List Row → Rule → Bool
is_missed found a = a.required && not (is_given a.id found)

filled_same : (found : List Row) (rules : List Rule) (i : ℕ) → list_any (is_missed found) (filled_from i rules) ≡ list_any (is_missed found) rules
filled_same found [] i = refl
filled_same found (a ∷ rest) i = ap (λ (b : Bool). is_missed found a || b) (filled_same found rest (index_after i a))

nothing_missed : (x y z : Bool) → check_kinds x y z ≡ [] → z ≡ false
nothing_missed true y z e = cc
nothing_missed false true z e = cc
nothing_missed false false true e = cc
nothing_missed false false false e = refl

without_negation : (b z : Bool) → (not (b && false) && z) ≡ false → z ≡ false
without_negation true z e = e
without_negation false z e = e

none_missed : (s : Shape) (found : List Row) → check_fault s found false ≡ [] → list_any (is_missed found) s.rules ≡ false
none_missed s found e =
    without_negation s.subcommand_negates_reqs (list_any (is_missed found) s.rules)
    (nothing_missed (s.arg_required_else_help && not (list_any (λ r. explicit_source r.source) found)) s.subcommand_required
    (not (s.subcommand_negates_reqs && false) && list_any (is_missed found) s.rules) e)

neither : (a b : Bool) → (a || b) ≡ false → (a ≡ false) × (b ≡ false)
neither true b e = absurd (true≢false e)
neither false b e = (refl, e)

given : (b : Bool) → not b ≡ false → b ≡ true
given true e = refl
given false e = absurd (true≢false e)

-- a positional that has to be there
abbrev required_rule : Text → Rule
required_rule id = record (new_rule id) { required = true; action = Some action.Set }

each_given : {X : Type 0} (rule : X → Rule) (id : X → Text) → ((x : X) → rule x ≡ required_rule (id x)) → (found : List Row) (xs : List X)
    → list_any (is_missed found) (map rule xs) ≡ false → All (λ x. is_given (id x) found ≡ true) xs
each_given rule id same found [] e = All-nil (λ x. is_given (id x) found ≡ true)
each_given rule id same found (x ∷ xs) e =
    let n = neither (is_missed found (rule x)) (list_any (is_missed found) (map rule xs)) e in
    let here : not (is_given (id x) found) ≡ false = ap (is_missed found) (sym (same x)) ∙ n.0 in
    All-cons (λ y. is_given (id y) found ≡ true) x xs (given (is_given (id x) found) here) (each_given rule id same found xs n.1)

has_text : (found : List Row) → Valued found → (id : Text) → is_given id found ≡ true → IsSome (first_of id found)
has_text found v id e = go (find (λ r. bytes_eq r.id id) found) refl e
  where
    some_first : (values : List Text) → has_some values ≡ true → IsSome (slice_get values 0)
    some_first [] some = absurd (true≢false (sym some))
    some_first (x ∷ xs) some = refl

    go : (row : Option Row) → find (λ r. bytes_eq r.id id) found ≡ row → option_map_or (λ r. explicit_source r.source) row false ≡ true
        → IsSome (option_and_then (λ r. slice_get r.values 0) row)
    go None is explicit = absurd (true≢false (sym explicit))
    go (Some r) is explicit = some_first r.values (found_passes (λ r. bytes_eq r.id id) has_values found r v is)

module _ (line : Line) (each : list_all takes_one (built (app_of_line line)).top.rules ≡ true) (words : List Text)
    (none : fault_of (app_of_line line) words ≡ []) where
  abbrev top : Shape
  top = (built (app_of_line line)).top

  abbrev behind : List Text
  behind = argument_words (app_of_line line) words

  abbrev end : Held
  end = (walk top.rules [] nothing_held behind).held

  abbrev found_rows : List Row
  found_rows = finished top.rules end

  level : level_fault top [] nothing_held behind false [] ≡ []
  level = sym (leaf_fault (built (app_of_line line)) nothing_held behind refl) ∙ none

  at_end : or_else (settle_fault top.rules top.args_override_self end)
      (or_else (defaults_fault (settled top.rules end).rows top.rules) (check_fault top found_rows false)) ≡ []
  at_end = second_none (walk_fault top [] (walk_from nothing_held) behind) _ level

  valued_end : Valued end.rows
  valued_end = valued_walk top each [] behind (walk_from nothing_held) (first_none _ _ level) refl

  valued_found : Valued found_rows
  valued_found =
      subst Valued (sym (no_defaults top.rules each (settled top.rules end).rows))
      (valued_settled top.rules each top.args_override_self end (first_none _ _ at_end) valued_end)

  checked : check_fault top found_rows false ≡ []
  checked =
      second_none (defaults_fault (settled top.rules end).rows top.rules) (check_fault top found_rows false)
      (second_none (settle_fault top.rules top.args_override_self end) _ at_end)

  abbrev file_rules : List Rule
  file_rules = map file_rule (files_of line)

  abbrev number_rules : List Rule
  number_rules = map number_rule line.numbers

  abbrev option_rules : List Rule
  option_rules = map option_rule line.options

  none_of_files : list_any (is_missed found_rows) file_rules ≡ false
  none_of_files =
      (neither (list_any (is_missed found_rows) file_rules) (list_any (is_missed found_rows) (number_rules ++ option_rules))
      (sym (list_any-append (is_missed found_rows) file_rules (number_rules ++ option_rules)) ∙ sym (filled_same found_rows (rules_of line) 1) ∙ none_missed top found_rows checked)).0

  none_of_numbers : list_any (is_missed found_rows) number_rules ≡ false
  none_of_numbers =
      (neither (list_any (is_missed found_rows) number_rules) (list_any (is_missed found_rows) option_rules)
      (sym (list_any-append (is_missed found_rows) number_rules option_rules)
      ∙ (neither (list_any (is_missed found_rows) file_rules) (list_any (is_missed found_rows) (number_rules ++ option_rules))
      (sym (list_any-append (is_missed found_rows) file_rules (number_rules ++ option_rules)) ∙ sym (filled_same found_rows (rules_of line) 1) ∙ none_missed top found_rows checked)).1)).0

  pub all_named : All (λ file. IsSome (named_in (matches_of (app_of_line line) words) file)) (files_of line)
  all_named k d lt =
      has_text found_rows valued_found (file_name (slice_index_or (files_of line) k d)) (each_given file_rule file_name (λ file. refl) found_rows (files_of line) none_of_files k d lt)

  pub all_numbered : All (λ number. IsSome (given_in (matches_of (app_of_line line) words) number)) line.numbers
  all_numbered k d lt =
      has_text found_rows valued_found (option_name (slice_index_or line.numbers k d)) (each_given number_rule option_name (λ number. refl) found_rows line.numbers none_of_numbers k d lt)

one_each : (verb : Verb) → list_all takes_one (built (app_of_line (line_of verb))).top.rules ≡ true
unfolding clap_on_literals
one_each Design = refl
one_each Verify = refl
one_each Extract = refl
one_each Sample = refl

-- each file of a command has a name, where `clap` takes the words
pub named : (verb : Verb) (words : List Text) → has_matches verb words ≡ true → All (λ file. IsSome (named_in (rows verb words) file)) (files_of (line_of verb))
unfolding has_matches rows
named verb words has = all_named (line_of verb) (one_each verb) words (is_nil (fault_of (app_of_line (line_of verb)) words) has)

-- and each number that is always given has a text
pub numbered : (verb : Verb) (words : List Text) → has_matches verb words ≡ true → All (λ number. IsSome (given_in (rows verb words) number)) (line_of verb).numbers
unfolding has_matches rows
numbered verb words has = all_numbered (line_of verb) (one_each verb) words (is_nil (fault_of (app_of_line (line_of verb)) words) has)
