-- The report of a layout that was found can be told from any other: the names of a module are plain, and its nodes
-- stand on tiles.
use Rattle.std.proofs.Common.{◌≡◌, ℕ, List, [], ◌∷◌, map, Some, length, refl, sym, ap, subst}
use Rattle.std.specs.List.{AllByRecursion}
use Rattle.bx_cert.specs.Certs.{Certificate}
use Rattle.bx_design.specs.declared.solution.LaidOut.{LaidOut}
use Rattle.bx_design.proofs.Minimal.{laid-of}
use Rattle.bx_logic.specs.Nets.{output_names}
use Rattle.bx_syntax.specs.Parts.{ModuleTree}
use Rattle.bx_verilog.specs.Formulas.{Text}
use Rattle.bx_verilog.specs.Mentions.{outputs, number}
use Rattle.bx_verilog.specs.Elaboration.{net_of}
use Rattle.bx_dots.specs.Permits.{permit_of}
use Rattle.bx_grid.specs.declared.ratio.Ratio.{Ratio}
use Rattle.bx_grid.specs.Tiles.{IsTile}
use Rattle.bx_library.specs.Tiles.{Tiles}
use Rattle.bx_says.specs.Texts.{IsPlain}
use Rattle.bx_says.specs.Reports.{HasPlainNames, IsReportable, report_of}
use Rattle.bx_says.proofs.Reportable.{reportable as plain-reportable}
use Rattle.bx_engine.specs.Answers.{Solves}
use Rattle.bx_engine.specs.Tasks.{Task, IsTask}
use Rattle.bx_engine.specs.Texts.{IsText, IsTaken, network_of}
use Rattle.bx_engine.proofs.PlainNames.{module_name_plain, inputs_plain, outputs_plain}
use Rattle.bx_engine.proofs.Worth.{network-is, minimal}

-- the names of the outputs of a module's net are those of the module
output_names_once : (m : ModuleTree) → output_names (net_of m) ≡ outputs m
output_names_once m = once (outputs m)
  where
    once : (names : List Text) → map (λ (x : Text × ℕ). x.0) (map {B = Text × ℕ} (λ name. (name, number m name)) names) ≡ names
    once [] = refl
    once (name ∷ names) = ap (λ (xs : List Text). name ∷ xs) (once names)

names-plain : (text : Text) (m : ModuleTree) → IsText text m → HasPlainNames (net_of m)
names-plain text m is = record {
  name = module_name_plain text m is;
  inputs = inputs_plain text m is;
  outputs = subst (AllByRecursion IsPlain) (sym (output_names_once m)) (outputs_plain text m is);
}

pub reportable : (words : List Text) (task : Task) → IsTask words task → (text : Text) (m : ModuleTree) → IsTaken text m
    → (lib : Tiles) (cert : Certificate) (laid : LaidOut) → Solves task m lib cert (Some laid) → IsReportable (report_of (net_of m) (network_of m) laid.layout.places laid.grid)
reportable words task asks text m taken lib cert laid solves =
    let good = laid-of (network_of m) (permit_of lib) task.limits task.budget (length cert.sections) laid cert.last (minimal words task asks text m taken lib cert (Some laid) solves).end_at in
    plain-reportable (net_of m) (network_of m) laid.layout.places laid.grid (names-plain text m taken.good.is_text) (network-is text m taken) good.whole
    (λ v t at. subst (λ (r : Ratio). IsTile r t) (sym good.forms.ratio) (good.legal.placed.inside v t at))
