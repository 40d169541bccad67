-- How often names stand for what, among the mentions of a module or the first of them.
use Rattle.std.specs.Prelude.{◌≡◌, ℕ, ◌+◌, ◌^◌, ◌<◌, Bool, ◌&&◌, List, map, if◌then◌else◌}
use Rattle.std.specs.List.{count_by}
use Rattle.std.specs.Str.{bytes_eq}
use Rattle.bx_syntax.specs.Parts.{ModuleTree}
use Rattle.bx_verilog.specs.declared.role.Role.{Role}
use Rattle.bx_verilog.specs.declared.uses.Uses.{Uses}
use Rattle.bx_verilog.specs.Formulas.{Text}
use Rattle.bx_verilog.specs.Mentions.{Mention, mentions, names, is_header, is_directed, is_input, is_output, is_driven, is_read}

-- how often a name stands for what passes the test among these; `count` is this among all of a module
abbrev pub count_among : (Role → Bool) → List Mention → Text → ℕ
count_among test found n = count_by (λ (x : Mention). bytes_eq n x.0 && test x.1) found

abbrev pub uses_among : List Mention → Text → Uses
uses_among found n = record {
  header = count_among is_header found n;
  directed = count_among is_directed found n;
  input = count_among is_input found n;
  output = count_among is_output found n;
  driven = count_among is_driven found n;
  read = count_among is_read found n;
}

-- a count, one more where the test passes
abbrev pub count_and : Bool → ℕ → ℕ
count_and passes n = if passes then n + 1 else n

-- the uses of a name that stands for one thing more
abbrev pub uses_and : Role → Uses → Uses
uses_and role u = record {
  header = count_and (is_header role) u.header;
  directed = count_and (is_directed role) u.directed;
  input = count_and (is_input role) u.input;
  output = count_and (is_output role) u.output;
  driven = count_and (is_driven role) u.driven;
  read = count_and (is_read role) u.read;
}

-- one more of each can be counted
abbrev pub HasRoom : Uses → Type 0
HasRoom u =
    (u.header + 1 < 2 ^ 64) × (u.directed + 1 < 2 ^ 64) × (u.input + 1 < 2 ^ 64) × (u.output + 1 < 2 ^ 64) × (u.driven + 1 < 2 ^ 64) × (u.read + 1 < 2 ^ 64)

-- the names of a module, and the uses of each
pub record AreUses (m : ModuleTree) (all : List Text) (uses : List Uses) : Type 0 where
  pub named : all ≡ names m
  pub counted : uses ≡ map (uses_among (mentions m)) all
