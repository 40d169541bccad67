-- What is said: the report of a search, or the line of a refusal.
use Rattle.std.specs.Prelude.{ℕ, List, [], ◌∷◌, ◌++◌, codes, decimal, Option, Some, None, unwrap_or, ⊤}
use Rattle.bx_cert.specs.declared.fault.CertFault.{CertFault}
use Rattle.bx_cert.specs.declared.fault.CertFault.TheVariants as cert
use Rattle.bx_cert.specs.declared.parts.CertLast.{CertLast}
use Rattle.bx_cert.specs.declared.parts.CertLast.TheVariants as told
use Rattle.bx_design.specs.declared.solution.LaidOut.{LaidOut}
use Rattle.bx_dots.specs.declared.fault.CutFault.{CutFault}
use Rattle.bx_dots.specs.declared.fault.CutFault.TheVariants as cut
use Rattle.bx_forms.specs.Forms.{form_name}
use Rattle.bx_grid.specs.Tiles.{x_of, y_of}
use Rattle.bx_lex.specs.declared.token.LexFault.{LexFault}
use Rattle.bx_lex.specs.declared.token.LexFault.TheVariants as lex
use Rattle.bx_library.specs.declared.fault.Field.{Field}
use Rattle.bx_library.specs.declared.fault.Field.TheVariants as field
use Rattle.bx_library.specs.declared.fault.LibraryFault.{LibraryFault}
use Rattle.bx_library.specs.declared.fault.LibraryFault.TheVariants as library
use Rattle.bx_syntax.specs.declared.fault.Construct.{Construct}
use Rattle.bx_syntax.specs.declared.fault.Construct.TheVariants.{Vector, Ternary, Delay, Concat, Operator, Directive, Instance, Second, Number, Reserved}
use Rattle.bx_syntax.specs.declared.fault.ReadFault.{ReadFault}
use Rattle.bx_syntax.specs.declared.fault.ReadFault.TheVariants as read
use Rattle.bx_verilog.specs.declared.fault.NetFault.{NetFault}
use Rattle.bx_verilog.specs.declared.fault.NetFault.TheVariants as nets
use Rattle.bx_verilog.specs.Formulas.{Text}
use Rattle.bx_logic.specs.Nets.{Netlist}
use Rattle.bx_grid.specs.declared.ratio.Ratio.{Ratio}
use Rattle.bx_network.specs.Networks.{Network}
use Rattle.bx_lines.specs.Lines.{ended, text_of}
use Rattle.bx_says.specs.Texts.{spaced, IsPlain}
use Rattle.bx_siqad.specs.declared.fault.DesignFault.{DesignFault}
use Rattle.bx_siqad.specs.declared.fault.DesignFault.TheVariants as design
use Rattle.bx_says.specs.Ports.{ports_of}
use Rattle.bx_says.specs.Reports.{head_of, head_lines, found_line, port_lines, row_lines}
use Rattle.bx_words.specs.Options.{option_name}
use Rattle.bx_words.specs.declared.faults.WordFault.{WordFault}
use Rattle.bx_words.specs.declared.faults.WordFault.TheVariants as word
use Rattle.bx_engine.specs.declared.status.InputFault.{InputFault}
use Rattle.bx_engine.specs.declared.status.InputFault.TheVariants.{TooLong, Lex, Read, Net, Constant, Nodes, Library, Design, Cut, Cert}
use Rattle.bx_engine.specs.declared.status.Which.{Which}
use Rattle.bx_engine.specs.declared.status.Which.TheVariants.{NetFile, LibFile, DesignFile, CertFile, Output}

-- ---- reports

abbrev pub undecided_line : Ratio → ℕ → Text
undecided_line ratio spent =
    spaced (codes "undecided") (decimal ratio.w ∷ decimal ratio.h ∷ decimal spent ∷ [])

-- how the search ended
abbrev pub last_line : CertLast → Text
last_line (told.Found ratio spots) = found_line ratio
last_line (told.Undecided ratio spent) = undecided_line ratio spent
last_line told.NoneWithin = codes "none"

-- the ports and the rows of a layout
abbrev pub layout_lines : Netlist → Network → LaidOut → List Text
layout_lines net N laid =
    port_lines laid.grid.ratio (ports_of net N laid.layout.places) ++ row_lines laid.grid

abbrev pub found_lines : Netlist → Network → Option LaidOut → List Text
found_lines net N (Some laid) = layout_lines net N laid
found_lines net N None = []

-- what is said of a search: the module and its network, how it ended, and the layout if one was found
abbrev pub search_text : Netlist → Network → CertLast → Option LaidOut → Text
search_text net N last found =
    text_of (head_lines (head_of net N) ++ last_line last ∷ found_lines net N found)

-- ---- refusals

-- what a refusal names; want of memory is none, and has a text only because it stands among the faults
abbrev pub word_fault_text : WordFault → Text
word_fault_text word.Command = codes "words command"
word_fault_text word.Usage = codes "words usage"
word_fault_text word.Same = codes "words same"
word_fault_text (word.Number option) = spaced (codes "words number") (option_name option ∷ [])
word_fault_text (word.Range option) = spaced (codes "words range") (option_name option ∷ [])
word_fault_text (word.Work work) = spaced (codes "words work") (decimal work ∷ [])

abbrev pub memory_text : Text
memory_text = codes "memory"

abbrev pub which_text : Which → Text
which_text NetFile = codes "net"
which_text LibFile = codes "lib"
which_text DesignFile = codes "design"
which_text CertFile = codes "cert"
which_text Output = codes "output"

-- a place is a number of bytes from the start of the text
abbrev pub lex_fault_text : LexFault → Text
lex_fault_text (lex.BadByte place) = spaced (codes "lex") (codes "byte" ∷ decimal place ∷ [])
lex_fault_text (lex.OpenComment place) = spaced (codes "lex") (codes "comment" ∷ decimal place ∷ [])
lex_fault_text (lex.OpenAttribute place) =
    spaced (codes "lex") (codes "attribute" ∷ decimal place ∷ [])
lex_fault_text lex.NoMemory = memory_text

abbrev pub construct_text : Construct → Text
construct_text Vector = codes "vector"
construct_text Ternary = codes "ternary"
construct_text Delay = codes "delay"
construct_text Concat = codes "concat"
construct_text Operator = codes "operator"
construct_text Directive = codes "directive"
construct_text Instance = codes "instance"
construct_text Second = codes "second"
construct_text Number = codes "number"
construct_text Reserved = codes "reserved"

abbrev pub read_fault_text : ReadFault → Text
read_fault_text (read.Syntax place) = spaced (codes "syntax") (decimal place ∷ [])
read_fault_text (read.NotTaken place construct) =
    spaced (codes "not taken") (decimal place ∷ construct_text construct ∷ [])
read_fault_text (read.TooDeep place) = spaced (codes "deep") (decimal place ∷ [])
read_fault_text read.NoMemory = memory_text

abbrev pub net_fault_text : NetFault → Text
net_fault_text (nets.BadPort name) = spaced (codes "port") (name ∷ [])
net_fault_text nets.NoOutput = codes "no output"
net_fault_text (nets.TwoDrivers name) = spaced (codes "drivers") (name ∷ [])
net_fault_text (nets.NoDriver name) = spaced (codes "no driver") (name ∷ [])
net_fault_text (nets.Cycle name) = spaced (codes "cycle") (name ∷ [])
net_fault_text nets.NoMemory = memory_text

-- the name that the fault names, if any, is plain
abbrev pub IsPlainFault : NetFault → Type 0
IsPlainFault (nets.BadPort name) = IsPlain name
IsPlainFault nets.NoOutput = ⊤
IsPlainFault (nets.TwoDrivers name) = IsPlain name
IsPlainFault (nets.NoDriver name) = IsPlain name
IsPlainFault (nets.Cycle name) = IsPlain name
IsPlainFault nets.NoMemory = ⊤

-- a form by its name
abbrev pub form_text : ℕ → Text
form_text form = unwrap_or (form_name form) []

abbrev pub field_text : Field → Text
field_text field.Name = codes "name"
field_text field.Width = codes "width"
field_text field.Height = codes "height"
field_text field.Forms = codes "forms"
field_text (field.Of form) = form_text form

-- a dot is told by its number in the list of its form, from 0
abbrev pub library_fault_text : LibraryFault → Text
library_fault_text library.NotJson = codes "json"
library_fault_text (library.Shape field) = spaced (codes "shape") (field_text field ∷ [])
library_fault_text (library.BadSize field) = spaced (codes "size") (field_text field ∷ [])
library_fault_text (library.UnknownForm name) = spaced (codes "unknown form") (name ∷ [])
library_fault_text (library.NoDots form) = spaced (codes "no dots") (form_text form ∷ [])
library_fault_text (library.TooManyDots form) = spaced (codes "many dots") (form_text form ∷ [])
library_fault_text (library.DotOutside form k) =
    spaced (codes "dot outside") (form_text form ∷ decimal k ∷ [])
library_fault_text (library.SameDot form k) =
    spaced (codes "dot twice") (form_text form ∷ decimal k ∷ [])
library_fault_text (library.SameDots f g) =
    spaced (codes "same dots") (form_text f ∷ form_text g ∷ [])
library_fault_text library.NoMemory = memory_text

-- a line is told by its number, from 1
abbrev pub design_fault_text : DesignFault → Text
design_fault_text (design.BadDesign line) = spaced (codes "bad design") (decimal line ∷ [])
design_fault_text design.NoMemory = memory_text

abbrev pub cert_fault_text : CertFault → Text
cert_fault_text (cert.BadCert line) = spaced (codes "bad cert") (decimal line ∷ [])
cert_fault_text cert.NoMemory = memory_text

-- a dot is told by where it stands, and a tile by its column and its row
abbrev pub cut_fault_text : Ratio → CutFault → Text
cut_fault_text ratio (cut.StrayDot dot) =
    spaced (codes "stray") (decimal dot.n ∷ decimal dot.m ∷ decimal dot.l ∷ [])
cut_fault_text ratio (cut.StrangeTile tile) =
    spaced (codes "strange") (decimal (x_of ratio tile) ∷ decimal (y_of ratio tile) ∷ [])
cut_fault_text ratio cut.NoMemory = memory_text

abbrev pub input_fault_text : InputFault → Text
input_fault_text (TooLong which) = spaced (codes "long") (which_text which ∷ [])
input_fault_text (Lex fault) = lex_fault_text fault
input_fault_text (Read fault) = read_fault_text fault
input_fault_text (Net fault) = net_fault_text fault
input_fault_text (Constant name) = spaced (codes "constant") (name ∷ [])
input_fault_text (Nodes count) = spaced (codes "nodes") (decimal count ∷ [])
input_fault_text (Library fault) = library_fault_text fault
input_fault_text (Design fault) = design_fault_text fault
input_fault_text (Cut fault ratio) = cut_fault_text ratio fault
input_fault_text (Cert fault) = cert_fault_text fault

unfoldable pub refusal_text : Text → Text
refusal_text fault = ended (spaced (codes "refused") (fault ∷ []))
