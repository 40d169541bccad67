-- What the arguments of a built command are like: all that is asked of them is told by their rules.
use Rattle.std.proofs.Common.{◌≡◌, ℕ, ◌&&◌, not, Bool, true, false, List, [], ◌∷◌, map, inl, inr, sym, ap, ◌∙◌, codes, is_some}
use Rattle.std.specs.List.{All, list_all, slice_index_or}
use Rattle.std.specs.Str.{bytes_eq}
use Rattle.std.proofs.lemmas.Slice.Eq.{bytes_eq-Decides}
use Rattle.std.proofs.lemmas.Bool.{true≢false}
use Rattle.clap.specs.Walk.{Rule, rule_of, is_empty, is_simple_arg, is_free_arg}
use Rattle.clap.specs.Built.{FitsChain, IsPlainArg}
use Rattle.clap.specs.declared.builder.arg.Arg.{Arg}
use Rattle.clap.proofs.WalkLemmas.{both}
use Rattle.clap.proofs.SimpleLemmas.{is_nil, is_false}
use Rattle.clap.proofs.TakesLemmas.{each_rule}

-- ---- one argument

pub record IsOwn (a : Arg) : Type 0 where
  pub plain : IsPlainArg a
  pub local : a.global ≡ false

own : (a : Arg) → is_simple_arg a ≡ true → is_free_arg a ≡ true → IsOwn a
own a e f =
    let p = both _ _ e in
    let q = both _ _ p.1 in
    let r = both _ _ q.1 in
    let s = both _ _ r.1 in
    let t = both (not (is_some a.terminator)) _ s.1 in
    let u = both (not a.allow_hyphen_values) _ t.1 in
    let v = both (not a.allow_negative_numbers) _ u.1 in
    let w = both (not a.require_equals) _ v.1 in
    let x = both (not a.last) _ w.1 in
    let y = both _ _ f in
    let z = both _ _ y.1 in
    record {
      plain = (is_false _ y.0, is_nil _ z.0, is_nil _ p.0, is_nil _ r.0);
      local = is_false _ x.1;
    }

-- the rule is simple and free, and its id is none that `clap` gives itself
abbrev pub is_ours : Rule → Bool
is_ours r = r.is_simple && (r.is_free && (not (is_empty r.id) && (not (bytes_eq r.id (codes "help")) && not (bytes_eq r.id (codes "version")))))

not_empty : (t : List ℕ) → not (is_empty t) ≡ true → t ≡ [] → ⊥
not_empty [] e same = true≢false (sym e)
not_empty (x ∷ xs) e same = cc

differs : (s t : List ℕ) → not (bytes_eq s t) ≡ true → s ≡ t → ⊥
differs s t e same =
    let eq : bytes_eq s t ≡ true = (bytes_eq-Decides s t).1 same in
    true≢false (sym eq ∙ is_false _ e)

fits : (a : Arg) → is_ours (rule_of a) ≡ true → FitsChain a
fits a e =
    let p = both _ _ e in
    let q = both _ _ p.1 in
    let r = both _ _ q.1 in
    let s = both _ _ r.1 in
    let o = own a p.0 q.0 in
    (o.plain, o.local, not_empty a.id.now r.0, (λ auto. elim auto [ inl h ↦ differs a.id.now (codes "help") s.0 h | inr h ↦ differs a.id.now (codes "version") s.1 h ]))

pub all_fit : (args : List Arg) (rules : List Rule) → map rule_of args ≡ rules → list_all is_ours rules ≡ true → All FitsChain args
all_fit args rules same e =
    let each = each_rule is_ours args (ap (list_all is_ours) same ∙ e) in
    λ k d lt. fits (slice_index_or args k d) (each k d lt)
