-- Where names stand in a module, and what they stand there for.
use Rattle.std.specs.Prelude.{ℕ, Bool, true, false, not, ◌&&◌, nat_lt, List, [], ◌∷◌, ◌++◌, map, flat_map, filter, Option, Some, None}
use Rattle.std.specs.List.{count_by, position_or_len}
use Rattle.std.specs.Str.{bytes_eq}
use Rattle.bx_syntax.specs.declared.tree.Direction.{Direction}
use Rattle.bx_syntax.specs.declared.tree.Direction.TheVariants.{Input, Output}
use Rattle.bx_syntax.specs.declared.tree.Port.{Port}
use Rattle.bx_syntax.specs.Parts.{PartTree, declaration, wire, assign, gate, copies, ModuleTree}
use Rattle.bx_verilog.specs.declared.role.Role.{Role}
use Rattle.bx_verilog.specs.declared.role.Role.TheVariants.{Header, Directed, Wired, Driven, Read}
use Rattle.bx_verilog.specs.Formulas.{Text, Formula, formula, names_of}
use Rattle.bx_verilog.specs.Drives.{parts_of}

-- a name, and what it stands for
abbrev pub Mention : Type 0
Mention = Text × Role

abbrev pub all_as : Role → List Text → List Mention
all_as role names = map (λ name. (name, role)) names

abbrev pub direction_mentions : Text → Option Direction → List Mention
direction_mentions n None = []
direction_mentions n (Some d) = (n, Directed d) ∷ []

abbrev pub port_mentions : Port → List Mention
port_mentions p = (p.name, Header) ∷ direction_mentions p.name p.direction

abbrev pub reads_mentions : Formula → List Mention
reads_mentions f = all_as Read (names_of f)

abbrev pub part_mentions : PartTree → List Mention
part_mentions (declaration d n) = (n, Directed d) ∷ []
part_mentions (wire n None) = (n, Wired) ∷ []
part_mentions (wire n (Some e)) = (n, Driven) ∷ reads_mentions (formula e)
part_mentions (assign n e) = (n, Driven) ∷ reads_mentions (formula e)
part_mentions (gate op n es) = (n, Driven) ∷ flat_map (λ e. reads_mentions (formula e)) es
part_mentions (copies op ns e) = all_as Driven ns ++ reads_mentions (formula e)

-- the names behind the module's own, in the order of the text
abbrev pub mentions : ModuleTree → List Mention
mentions m = flat_map port_mentions m.ports ++ flat_map part_mentions (parts_of m)

-- each name once, where it stands first
abbrev pub firsts : List Text → List Text
firsts [] = []
firsts (n ∷ ns) = n ∷ filter (λ other. not (bytes_eq n other)) (firsts ns)

-- the names of a module by first appearance, and the number of one, which is its place among them
abbrev pub names : ModuleTree → List Text
names m = firsts (map (λ (x : Mention). x.0) (mentions m))

abbrev pub number : ModuleTree → Text → ℕ
number m n = position_or_len (bytes_eq n) (names m)

-- how often a name stands for what passes the test
abbrev pub count : (Role → Bool) → ModuleTree → Text → ℕ
count test m n = count_by (λ (x : Mention). bytes_eq n x.0 && test x.1) (mentions m)

abbrev pub is_header : Role → Bool
is_header Header = true
is_header _ = false

abbrev pub is_directed : Role → Bool
is_directed (Directed d) = true
is_directed _ = false

abbrev pub is_input : Role → Bool
is_input (Directed Input) = true
is_input _ = false

abbrev pub is_output : Role → Bool
is_output (Directed Output) = true
is_output _ = false

abbrev pub is_read : Role → Bool
is_read Read = true
is_read _ = false

-- an input is driven by its declaration
abbrev pub is_driven : Role → Bool
is_driven Driven = true
is_driven (Directed Input) = true
is_driven _ = false

-- the ports that are declared so, in the order of the header
abbrev pub ports_as : (Role → Bool) → ModuleTree → List Text
ports_as test m = filter (λ n. nat_lt 0 (count test m n)) (map (λ (p : Port). p.name) m.ports)

abbrev pub inputs : ModuleTree → List Text
inputs m = ports_as is_input m

abbrev pub outputs : ModuleTree → List Text
outputs m = ports_as is_output m
