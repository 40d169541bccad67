-- The reserved words of the profile: those that the grammar uses, each with what it is to it, and those
-- that are refused. Any other word is a name.
use Rattle.std.specs.Prelude.{◌≡◌, ℕ, if◌then◌else◌, List, [], ◌∷◌, ◌++◌, map, codes}
use Rattle.std.specs.List.{list_any}
use Rattle.std.specs.Str.{bytes_eq}
use Rattle.bx_logic.specs.declared.op.Op.TheVariants.{Buf, Not, And, Or, Nand, Nor, Xor, Xnor}
use Rattle.bx_syntax.specs.declared.terminal.Terminal.{Terminal}
use Rattle.bx_syntax.specs.declared.terminal.Terminal.TheVariants.{Fixed, GateWord, Name, Reserved}
use Rattle.bx_syntax.specs.declared.terminal.Mark.TheVariants.{Module, EndModule, Input, Output, Wire, Assign}

-- the words that the grammar uses
abbrev pub uses : List (List ℕ × Terminal)
uses =
    (codes "module", Fixed Module) ∷
    (codes "endmodule", Fixed EndModule) ∷
    (codes "input", Fixed Input) ∷
    (codes "output", Fixed Output) ∷
    (codes "wire", Fixed Wire) ∷
    (codes "assign", Fixed Assign) ∷
    (codes "and", GateWord And) ∷
    (codes "or", GateWord Or) ∷
    (codes "nand", GateWord Nand) ∷
    (codes "nor", GateWord Nor) ∷
    (codes "xor", GateWord Xor) ∷
    (codes "xnor", GateWord Xnor) ∷
    (codes "buf", GateWord Buf) ∷
    (codes "not", GateWord Not) ∷
    []

-- the words that are refused
abbrev pub refused_words : List (List ℕ)
refused_words =
    codes "inout" ∷ codes "reg" ∷ codes "integer" ∷ codes "real" ∷ codes "time" ∷ codes "realtime" ∷
    codes "event" ∷ codes "parameter" ∷ codes "localparam" ∷ codes "defparam" ∷ codes "specparam" ∷
    codes "always" ∷ codes "initial" ∷ codes "function" ∷ codes "task" ∷ codes "generate" ∷
    codes "genvar" ∷ codes "specify" ∷ codes "primitive" ∷ codes "table" ∷ codes "supply0" ∷
    codes "supply1" ∷ codes "tri" ∷ codes "tri0" ∷ codes "tri1" ∷ codes "triand" ∷ codes "trior" ∷
    codes "trireg" ∷ codes "wand" ∷ codes "wor" ∷ codes "bufif0" ∷ codes "bufif1" ∷ codes "notif0" ∷
    codes "notif1" ∷ codes "nmos" ∷ codes "pmos" ∷ codes "rnmos" ∷ codes "rpmos" ∷ codes "cmos" ∷
    codes "rcmos" ∷ codes "tran" ∷ codes "rtran" ∷ codes "tranif0" ∷ codes "tranif1" ∷
    codes "rtranif0" ∷ codes "rtranif1" ∷ codes "pullup" ∷ codes "pulldown" ∷ codes "signed" ∷
    codes "scalared" ∷ codes "vectored" ∷ []

abbrev pub used_words : List (List ℕ)
used_words = map (λ (u : List ℕ × Terminal). u.0) uses

-- no name is one of these
abbrev pub reserved_words : List (List ℕ)
reserved_words = used_words ++ refused_words

-- what a word is by a list of uses, or what it is otherwise
abbrev pub use_of : List ℕ → List (List ℕ × Terminal) → Terminal → Terminal
use_of word [] other = other
use_of word (u ∷ rest) other = if bytes_eq word u.0 then u.1 else use_of word rest other

-- what a word is
unfoldable pub word_terminal : List ℕ → Terminal
word_terminal word = use_of word uses (if list_any (bytes_eq word) refused_words then Reserved else Name word)

abbrev pub IsWord : List ℕ → Terminal → Type 0
IsWord word t = word_terminal word ≡ t
