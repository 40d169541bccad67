-- What is read: refused, for what is first wrong with it; or taken, as an accepted module which is mapped to a network,
-- and a library of forms.
use Rattle.std.specs.Prelude.{◌≡◌, ℕ, ◌<◌, ◌≤◌, [], length, Some, None, slice_index_or, Ok, Err}
use Rattle.bx_logic.specs.Nets.{Netlist, output_names}
use Rattle.bx_library.specs.Readings.{Reads}
use Rattle.bx_library.specs.Tiles.{Tiles, IsLibrary}
use Rattle.bx_lex.specs.Tokens.{TokenList, HasTokens, HasFault}
use Rattle.bx_syntax.specs.declared.fault.ReadFault.{ReadFault}
use Rattle.bx_syntax.specs.Parts.{ModuleTree}
use Rattle.bx_syntax.specs.Terminals.{terminals_of}
use Rattle.bx_syntax.specs.Grammar.{IsModule}
use Rattle.bx_syntax.specs.Faults.{HasReadFault}
use Rattle.bx_verilog.specs.Formulas.{Text}
use Rattle.bx_verilog.specs.Faults.{IsAccepted, IsFault}
use Rattle.bx_verilog.specs.Elaboration.{net_of}
use Rattle.bx_network.specs.Networks.{Network}
use Rattle.bx_map.specs.Maps.{first_constant, mapping_of, node_count}
use Rattle.bx_engine.specs.declared.limits.TheConstants.{MODULE_BYTES, LIBRARY_BYTES, MODULE_NODES}
use Rattle.bx_engine.specs.declared.status.InputFault.{InputFault}
use Rattle.bx_engine.specs.declared.status.InputFault.TheVariants.{TooLong, Lex, Read, Net, Constant, Nodes, Library, Design, Cut, Cert}
use Rattle.bx_engine.specs.declared.status.Which.TheVariants.{NetFile, LibFile}
use Rattle.bx_engine.specs.Tasks.{Inputs}

-- ---- the module

-- a text that isn't too long to be read
abbrev pub IsShort : Text → Type 0
IsShort text = length text ≤ MODULE_BYTES

-- the text of a module: its tokens are in the grammar with this tree, and nothing nests deeper than 256
pub record IsText (text : Text) (m : ModuleTree) : Type 0 where
  pub found : TokenList
  pub tokens : HasTokens text found
  pub is_module : IsModule 256 m (terminals_of text found.tokens)

-- a text with tokens that are no module's, or nest too deep, and what is wrong with them where
pub record IsUnread (text : Text) (fault : ReadFault) : Type 0 where
  pub found : TokenList
  pub tokens : HasTokens text found
  pub has : HasReadFault text found fault

-- the text of a module that is accepted, and so has a net
pub record IsGood (text : Text) (m : ModuleTree) : Type 0 where
  pub short : IsShort text
  pub is_text : IsText text m
  pub accepted : IsAccepted m

-- no output folds to a constant, and the network has few enough nodes to be laid out
pub record IsMapped (net : Netlist) : Type 0 where
  pub no_constant : first_constant net ≡ None
  pub few : node_count net ≤ MODULE_NODES

-- the first output that folds to a constant has this name
pub record IsConstant (net : Netlist) (name : Text) : Type 0 where
  pub port : ℕ
  pub first : first_constant net ≡ Some port
  pub named : name ≡ slice_index_or (output_names net) port []

-- none does, and there are so many nodes, too many to be laid out
pub record HasManyNodes (net : Netlist) (count : ℕ) : Type 0 where
  pub no_constant : first_constant net ≡ None
  pub counted : count ≡ node_count net
  pub many : MODULE_NODES < count

-- the text of a module is refused for this
abbrev pub IsRefused : Text → InputFault → Type 0
IsRefused text (TooLong which) = (which ≡ NetFile) × (MODULE_BYTES < length text)
IsRefused text (Lex fault) = IsShort text × HasFault text fault
IsRefused text (Read fault) = IsShort text × IsUnread text fault
IsRefused text (Net fault) = IsShort text × ((m : ModuleTree) × IsText text m × IsFault m fault)
IsRefused text (Constant name) = (m : ModuleTree) × IsGood text m × IsConstant (net_of m) name
IsRefused text (Nodes count) = (m : ModuleTree) × IsGood text m × HasManyNodes (net_of m) count
IsRefused text (Library fault) = ⊥
IsRefused text (Design fault) = ⊥
IsRefused text (Cut fault ratio) = ⊥
IsRefused text (Cert fault) = ⊥

-- the text is taken: that of an accepted module which is mapped
pub record IsTaken (text : Text) (m : ModuleTree) : Type 0 where
  pub good : IsGood text m
  pub is_mapped : IsMapped (net_of m)

-- its network
abbrev pub network_of : ModuleTree → Network
network_of m = mapping_of (net_of m)

-- ---- the library

abbrev pub IsShortLibrary : Text → Type 0
IsShortLibrary text = length text ≤ LIBRARY_BYTES

-- the text of a library is refused for this
abbrev pub IsRefusedLibrary : Text → InputFault → Type 0
IsRefusedLibrary text (TooLong which) = (which ≡ LibFile) × (LIBRARY_BYTES < length text)
IsRefusedLibrary text (Library fault) = IsShortLibrary text × Reads text (Err fault)
IsRefusedLibrary text _ = ⊥

-- the text is taken as this library
pub record IsTakenLibrary (text : Text) (lib : Tiles) : Type 0 where
  pub short : IsShortLibrary text
  pub reads : Reads text (Ok lib)
  pub is : IsLibrary lib

-- ---- both

-- they are refused for what is first wrong with the module, or where it is taken, with the library, which else isn't
-- looked at
pub data AreRefused (inputs : Inputs) (fault : InputFault) : Type 0 where
  by_module : (text : Text) → inputs.net ≡ Some text → IsRefused text fault → AreRefused inputs fault
  by_library : (net lib : Text) (m : ModuleTree) → inputs.net ≡ Some net → IsTaken net m
      → inputs.lib ≡ Some lib → IsRefusedLibrary lib fault → AreRefused inputs fault

-- they are taken, as this module and this library
pub record AreTaken (inputs : Inputs) (m : ModuleTree) (lib : Tiles) : Type 0 where
  pub net_text : Text
  pub net_is : inputs.net ≡ Some net_text
  pub taken : IsTaken net_text m
  pub lib_text : Text
  pub lib_is : inputs.lib ≡ Some lib_text
  pub taken_library : IsTakenLibrary lib_text lib
