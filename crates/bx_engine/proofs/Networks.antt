-- From a text to its network or its library, or to why there is none, from the fault of a lower reader.
use Rattle.std.proofs.Common.{◌≡◌, ◌≤◌, length, Option, Result, Ok, Err, ap, ◌∙◌, sym, subst}
use Rattle.std.specs.Prelude.{◌≢◌, IfErr}
use Rattle.std.specs.Result.{IsErrAnd}
use Rattle.bx_logic.specs.Nets.{Netlist}
use Rattle.bx_desk.specs.Desk.{Files}
use Rattle.bx_lex.specs.Tokens.{TokenList, HasTokens}
use Rattle.bx_library.specs.Readings.{Reads}
use Rattle.bx_library.specs.declared.fault.LibraryFault.{LibraryFault}
use Rattle.bx_library.specs.declared.fault.LibraryFault.TheVariants as library
use Rattle.bx_syntax.specs.declared.fault.ReadFault.{ReadFault}
use Rattle.bx_syntax.specs.declared.fault.ReadFault.TheVariants as read
use Rattle.bx_syntax.specs.Parts.{ModuleTree}
use Rattle.bx_syntax.specs.Faults.{HasReadFault}
use Rattle.bx_verilog.specs.declared.fault.NetFault.{NetFault}
use Rattle.bx_verilog.specs.declared.fault.NetFault.TheVariants as nets
use Rattle.bx_verilog.specs.Formulas.{Text}
use Rattle.bx_verilog.specs.Faults.{IsFault}
use Rattle.bx_network.specs.Networks.{Network}
use Rattle.bx_map.specs.Maps.{mapping_of}
use Rattle.bx_engine.specs.declared.load.NoInput.{NoInput}
use Rattle.bx_engine.specs.declared.load.NoInput.TheVariants.{Fault, Unread, NoMemory}
use Rattle.bx_engine.specs.declared.limits.TheConstants.{MODULE_NODES}
use Rattle.bx_engine.specs.declared.status.InputFault.TheVariants.{TooLong, Lex, Read, Net, Constant, Nodes, Library, Design, Cut, Cert}
use Rattle.bx_engine.specs.Runs.{read_end, net_end, library_end, LibraryEnds, HasNet, HasNetwork, HasModule, ReadsModule, NetEnds, TextEnds}
use Rattle.bx_engine.specs.Texts.{IsShort, IsShortLibrary, IsText, IsMapped, IsConstant, HasManyNodes}

-- an error that is the end of this fault
pub ends_so : {T : Type 0} (text : Text) (r : Result T NoInput) (end : NoInput) → IsErrAnd r (λ e. e ≡ end) → TextEnds text end → IfErr r (TextEnds text)
ends_so text (Ok v) end h t = tt
ends_so text (Err e) end h t = subst (TextEnds text) (sym h) t

module _ (text : Text) (short : IsShort text) where
  pub read_ends : (found : TokenList) (fault : ReadFault) → HasTokens text found → (fault ≢ read.NoMemory → HasReadFault text found fault) → TextEnds text (read_end fault)
  read_ends found (read.Syntax place) tokens first = (short, record { found = found; tokens = tokens; has = first (λ e. cc) })
  read_ends found (read.NotTaken place construct) tokens first = (short, record { found = found; tokens = tokens; has = first (λ e. cc) })
  read_ends found (read.TooDeep place) tokens first = (short, record { found = found; tokens = tokens; has = first (λ e. cc) })
  read_ends found read.NoMemory tokens first = tt

  pub net_ends : (m : ModuleTree) (fault : NetFault) → IsText text m → (fault ≢ nets.NoMemory → IsFault m fault) → TextEnds text (net_end fault)
  net_ends m (nets.BadPort name) is first = (short, (m, is, first (λ e. cc)))
  net_ends m nets.NoOutput is first = (short, (m, is, first (λ e. cc)))
  net_ends m (nets.TwoDrivers name) is first = (short, (m, is, first (λ e. cc)))
  net_ends m (nets.NoDriver name) is first = (short, (m, is, first (λ e. cc)))
  net_ends m (nets.Cycle name) is first = (short, (m, is, first (λ e. cc)))
  net_ends m nets.NoMemory is first = tt

-- a net of the text that is not mapped
pub refused-net : (text : Text) (net : Netlist) (end : NoInput) → HasNet text net → NetEnds net end → TextEnds text end
refused-net text net (Fault (Constant name)) has is = (has.tree, has.good, subst (λ (n : Netlist). IsConstant n name) has.same is)
refused-net text net (Fault (Nodes count)) has is = (has.tree, has.good, subst (λ (n : Netlist). HasManyNodes n count) has.same is)
refused-net text net (Fault (TooLong which)) has is = absurd is
refused-net text net (Fault (Lex fault)) has is = absurd is
refused-net text net (Fault (Read fault)) has is = absurd is
refused-net text net (Fault (Net fault)) has is = absurd is
refused-net text net (Fault (Library fault)) has is = absurd is
refused-net text net (Fault (Design fault)) has is = absurd is
refused-net text net (Fault (Cut fault ratio)) has is = absurd is
refused-net text net (Fault (Cert fault)) has is = absurd is
refused-net text net Unread has is = is
refused-net text net NoMemory has is = tt

-- a text with a net that is mapped
pub has-module : (text : Text) (net : Netlist) (N : Network) → HasNet text net → HasNetwork net N → HasModule text net N
has-module text net N has maps = record {
  tree = has.tree;
  taken = record { good = has.good; is_mapped = subst IsMapped has.same maps.is_mapped };
  same = has.same;
  network = maps.network ∙ ap mapping_of has.same;
}

-- the network is small
pub small : (told : Option Files) (name : Text) (net : Netlist) (N : Network) → ReadsModule told name net N → length N.nodes ≤ MODULE_NODES
small told name net N reads =
    let it = reads.has_module in
    let few = it.taken.is_mapped.few in
    subst (λ (M : Network). length M.nodes ≤ MODULE_NODES) (sym it.network) few

-- ---- libraries

pub ends_library : {T : Type 0} (text : Text) (r : Result T NoInput) (end : NoInput) → IsErrAnd r (λ e. e ≡ end) → LibraryEnds text end → IfErr r (LibraryEnds text)
ends_library text (Ok v) end h t = tt
ends_library text (Err e) end h t = subst (LibraryEnds text) (sym h) t

module _ (text : Text) (short : IsShortLibrary text) where
  pub library_ends : (fault : LibraryFault) → (fault ≢ library.NoMemory → Reads text (Err fault)) → LibraryEnds text (library_end fault)
  library_ends library.NotJson first = (short, first (λ e. cc))
  library_ends (library.Shape field) first = (short, first (λ e. cc))
  library_ends (library.BadSize field) first = (short, first (λ e. cc))
  library_ends (library.UnknownForm name) first = (short, first (λ e. cc))
  library_ends (library.NoDots form) first = (short, first (λ e. cc))
  library_ends (library.TooManyDots form) first = (short, first (λ e. cc))
  library_ends (library.DotOutside form k) first = (short, first (λ e. cc))
  library_ends (library.SameDot form k) first = (short, first (λ e. cc))
  library_ends (library.SameDots f g) first = (short, first (λ e. cc))
  library_ends library.NoMemory first = tt
