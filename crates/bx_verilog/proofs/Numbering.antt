-- The numbers of a module's names, and how often a name stands for something.
use Rattle.std.proofs.Common.{◌≡◌, ℕ, ◌<◌, ◌≤◌, Bool, true, List, ap, ◌∙◌, map, length, Some, refl, sym, subst, ◌&&◌}
use Rattle.std.specs.Prelude.{slice_get}
use Rattle.std.specs.Str.{bytes_eq}
use Rattle.std.specs.List.{Contains}
use Rattle.std.proofs.lemmas.Bool.{and_from, and_parts}
use Rattle.std.proofs.lemmas.Option.{slice_get_within}
use Rattle.std.proofs.lemmas.Simd.{map-map}
use Rattle.bx_syntax.specs.Parts.{ModuleTree}
use Rattle.bx_verilog.specs.declared.role.Role.{Role}
use Rattle.bx_verilog.specs.Formulas.{Text}
use Rattle.bx_verilog.specs.declared.mentions.Mention.{Mention as Found}
use Rattle.bx_verilog.specs.Shown.{shown}
use Rattle.bx_verilog.specs.Mentions.{firsts, Mention, mentions, names, number, count}
use Rattle.bx_verilog.proofs.Membership.{Contains-map, count_by-some, Contains-counted}
use Rattle.bx_verilog.proofs.Firsts
pub use Rattle.bx_verilog.proofs.Firsts.{contains-firsts, firsts-contains, firsts-distinct}

-- the number of a name is its place
pub number-at : (m : ModuleTree) (n : Text) → Contains (names m) n → slice_get (names m) (number m n) ≡ Some n
number-at m n h = Firsts.text-at (names m) n h

pub number-within : (m : ModuleTree) (n : Text) → Contains (names m) n → number m n < length (names m)
number-within m n h = slice_get_within (names m) (number m n) n (number-at m n h)

pub number-of : (m : ModuleTree) (k : ℕ) (n : Text) → slice_get (names m) k ≡ Some n → number m n ≡ k
number-of m k n e = Firsts.place-of (names m) k n (firsts-distinct (map (λ (x : Mention). x.0) (mentions m))) e

pub mentioned : (m : ModuleTree) (n : Text) (r : Role) → Contains (mentions m) (n, r) → Contains (names m) n
mentioned m n r h = contains-firsts (map (λ (x : Mention). x.0) (mentions m)) n (Contains-map (λ (x : Mention). x.0) (mentions m) (n, r) h)

-- the names are those of the mentions that the code found
pub names-found : (m : ModuleTree) (found : List Found) → map shown found ≡ mentions m → firsts (map (λ (x : Found). x.name.now) found) ≡ names m
names-found m found e = ap firsts (sym (map-map (λ (x : Mention). x.0) shown found) ∙ ap (map (λ (x : Mention). x.0)) e)

module _ (test : Role → Bool) (m : ModuleTree) (n : Text) where
  pub count-some : (r : Role) → Contains (mentions m) (n, r) → test r ≡ true → 1 ≤ count test m n
  count-some r h e = count_by-some (λ (x : Mention). bytes_eq n x.0 && test x.1) (mentions m) (n, r) h (and_from (bytes_eq n n) (test r) (Firsts.same_bytes n n refl) e)

  pub count-mention : 1 ≤ count test m n → (r : Role) × Contains (mentions m) (n, r) × (test r ≡ true)
  count-mention h =
      let found = Contains-counted (λ (x : Mention). bytes_eq n x.0 && test x.1) (mentions m) h in
      let parts = and_parts (bytes_eq n found.0.0) (test found.0.1) found.2 in
      let same = Firsts.same_texts n found.0.0 parts.0 in
      (found.0.1, subst (λ (k : Text). Contains (mentions m) (k, found.0.1)) (sym same) found.1, parts.1)
