-- What the verifier answers: one answer for each net, library, design and certificate.
use Rattle.std.specs.Prelude.{◌≡◌, ◌≢◌, ◌≤◌, None, Result, Ok, Err}
use Rattle.bx_cert.specs.Certs.{Certificate}
use Rattle.bx_encode.specs.declared.numbers.TheConstants.{MOST_NODES}
use Rattle.bx_library.specs.Tiles.{Tiles}
use Rattle.bx_logic.specs.Nets.{Netlist}
use Rattle.bx_map.specs.Faults.{IsMapFault}
use Rattle.bx_map.specs.Maps.{first_constant, mapping_of, node_count}
use Rattle.bx_map.specs.declared.map.MapFault.{MapFault}
use Rattle.bx_map.specs.declared.map.MapFault.TheVariants as map_fault
use Rattle.bx_network.specs.Networks.{Network}
use Rattle.bx_siqad.specs.Designs.{Drawing}
use Rattle.bx_verify.specs.Failing.{OfFound, NoneFails, IsFirstToFail}
use Rattle.bx_verify.specs.declared.fault.VerifyFault.{VerifyFault}
use Rattle.bx_verify.specs.declared.fault.VerifyFault.TheVariants.{Map, NoMemory}
use Rattle.bx_verify.specs.declared.verdict.Verdict.{Verdict}
use Rattle.bx_verify.specs.declared.verdict.Verdict.TheVariants.{Minimal, Wrong}

-- the found ratio is minimal where no part fails, and else the first part that fails is wrong
abbrev pub IsVerdict : Network → Tiles → Drawing → Certificate → Verdict → Type 0
IsVerdict N lib design cert (Minimal r) =
    OfFound cert.last (λ found spots. found ≡ r) × NoneFails N lib design cert
IsVerdict N lib design cert (Wrong p k) = IsFirstToFail N lib design cert p k

-- a net has a mapped network that isn't too large
pub record IsMapped (net : Netlist) : Type 0 where
  pub no_constant : first_constant net ≡ None
  pub few : node_count net ≤ MOST_NODES

-- why a net has none
pub record IsUnmapped (net : Netlist) (fault : MapFault) : Type 0 where
  pub fault_is : IsMapFault net MOST_NODES fault
  pub told : fault ≢ map_fault.NoMemory

-- how a fault of the mapping is told
abbrev pub told_as : MapFault → VerifyFault
told_as (map_fault.ConstantOutput j) = Map (map_fault.ConstantOutput j)
told_as (map_fault.TooManyNodes count) = Map (map_fault.TooManyNodes count)
told_as map_fault.NoMemory = NoMemory

-- want of memory is no answer, and may come at any time
abbrev pub IsAnswer : Netlist → Tiles → Drawing → Certificate → Result Verdict VerifyFault → Type 0
IsAnswer net lib design cert (Ok verdict) =
    IsMapped net × IsVerdict (mapping_of net) lib design cert verdict
IsAnswer net lib design cert (Err (Map fault)) = IsUnmapped net fault
IsAnswer net lib design cert (Err NoMemory) = Unit {0}
