-- What a sample is laid out by, and what is said of it: its numbers, the size of its network, how the search ended, and
-- how the earlier ratios were refuted.
use Rattle.std.specs.Prelude.{◌≡◌, ℕ, List, [], ◌∷◌, length, sum_by, codes, decimal, Option, Some, None}
use Rattle.bx_cert.specs.Certs.{Certificate}
use Rattle.bx_cert.specs.declared.parts.Section.{Section}
use Rattle.bx_design.specs.Solutions.{IsSolution}
use Rattle.bx_design.specs.declared.solution.LaidOut.{LaidOut}
use Rattle.bx_dots.specs.Permits.{permit_of}
use Rattle.bx_grid.specs.declared.ratio.Limits.{Limits}
use Rattle.bx_library.specs.Tiles.{Tiles}
use Rattle.bx_lines.specs.Lines.{text_of}
use Rattle.bx_network.specs.Networks.{Network}
use Rattle.bx_proof.specs.declared.refutation.Refutation.{Refutation}
use Rattle.bx_proof.specs.declared.refutation.Refutation.TheVariants.{Count, Clauses}
use Rattle.bx_sample.specs.Library.{library_text}
use Rattle.bx_sample.specs.Samples.{sample_text}
use Rattle.bx_says.specs.Reports.{nodes_line}
use Rattle.bx_says.specs.Texts.{spaced}
use Rattle.bx_syntax.specs.Parts.{ModuleTree}
use Rattle.bx_verilog.specs.Formulas.{Text}
use Rattle.bx_engine.specs.declared.sample.Tally.{Tally}
use Rattle.bx_engine.specs.declared.status.Status.{Status}
use Rattle.bx_engine.specs.Said.{last_line}
use Rattle.bx_engine.specs.Statuses.{status_of}
use Rattle.bx_engine.specs.Tasks.{Inputs}
use Rattle.bx_engine.specs.Texts.{AreTaken, network_of}

-- ---- the job

-- the text of the sample stands for a module's file, and that of the sample library for a library's
abbrev pub sample_inputs : ℕ → ℕ → ℕ → Inputs
sample_inputs number gates extra = record {
  net = Some (sample_text number gates extra);
  lib = Some library_text;
  design = None;
  cert = None;
}

abbrev pub sample_limits : Limits
sample_limits = record { area = 36; width = 144; height = 144 }

-- ---- what is said

abbrev pub sample_line : ℕ → ℕ → ℕ → Text
sample_line number gates extra = spaced (codes "sample") (decimal number ∷ decimal gates ∷ decimal extra ∷ [])

-- whether a refutation counts or has clauses, as a number, and how many steps it has
abbrev pub by_count : Refutation → ℕ
by_count (Count proof) = 1
by_count (Clauses log) = 0

abbrev pub by_clauses : Refutation → ℕ
by_clauses (Count proof) = 0
by_clauses (Clauses log) = 1

abbrev pub steps_in : Refutation → ℕ
steps_in (Count proof) = 0
steps_in (Clauses log) = length log.steps

-- how many sections count, how many have clauses, and how many steps these have in all
abbrev pub tally_of : List Section → Tally
tally_of sections = record {
  counts = sum_by (λ section. by_count section.proof) sections;
  clauses = sum_by (λ section. by_clauses section.proof) sections;
  steps = sum_by (λ section. steps_in section.proof) sections;
}

abbrev pub tally_line : Tally → Text
tally_line tally =
    spaced (codes "count") (
    decimal tally.counts
    ∷ codes "clauses"
    ∷ decimal tally.clauses
    ∷ codes "steps"
    ∷ decimal tally.steps
    ∷ []
    )

abbrev pub summary_text : ℕ → ℕ → ℕ → Network → Certificate → Text
summary_text number gates extra N cert =
    text_of (
    sample_line number gates extra
    ∷ nodes_line (length N.nodes) (length N.edges)
    ∷ last_line cert.last
    ∷ tally_line (tally_of cert.sections)
    ∷ []
    )

-- the sample is a module that is taken, as the sample library is; it is laid out within the limits and the budget of
-- samples, and what comes of that is told
pub record TellsSampled (number gates extra : ℕ) (status : Status) (said : Text) : Type 0 where
  pub m : ModuleTree
  pub lib : Tiles
  pub taken : AreTaken (sample_inputs number gates extra) m lib
  pub cert : Certificate
  pub found : Option LaidOut
  pub solves : IsSolution (network_of m) (permit_of lib) sample_limits 2000 cert found
  pub status_is : status ≡ status_of cert.last
  pub printed : said ≡ summary_text number gates extra (network_of m) cert
