-- What is said of a design and a certificate that are judged, and the status that goes with it.
use Rattle.std.specs.Prelude.{ℕ, [], ◌∷◌, codes, decimal}
use Rattle.bx_cert.specs.Certs.{Certificate}
use Rattle.bx_grid.specs.declared.ratio.Limits.{Limits}
use Rattle.bx_grid.specs.declared.ratio.Ratio.{Ratio}
use Rattle.bx_lines.specs.Lines.{ended}
use Rattle.bx_says.specs.Texts.{spaced}
use Rattle.bx_verify.specs.declared.verdict.Part.{Part}
use Rattle.bx_verify.specs.declared.verdict.Part.TheVariants as part
use Rattle.bx_verify.specs.declared.verdict.Verdict.{Verdict}
use Rattle.bx_verify.specs.declared.verdict.Verdict.TheVariants as verdict
use Rattle.bx_verilog.specs.Formulas.{Text}
use Rattle.bx_engine.specs.declared.status.Status.{Status}
use Rattle.bx_engine.specs.declared.status.Status.TheVariants.{Minimal, Wrong}

abbrev pub status_for : Verdict → Status
status_for (verdict.Minimal ratio) = Minimal ratio
status_for (verdict.Wrong part k) = Wrong part k

abbrev pub part_text : Part → Text
part_text part.Last = codes "last"
part_text part.Missing = codes "missing"
part_text part.Proof = codes "proof"
part_text part.Size = codes "size"
part_text part.Dots = codes "dots"
part_text part.Network = codes "network"

-- a minimal ratio, with the limits within which it is the first
abbrev pub minimal_line : Ratio → Limits → Text
minimal_line ratio limits =
    spaced (codes "minimal") (
    decimal ratio.w
    ∷ decimal ratio.h
    ∷ codes "limits"
    ∷ decimal limits.area
    ∷ decimal limits.width
    ∷ decimal limits.height
    ∷ []
    )

-- the first part that fails, and where
abbrev pub wrong_line : Part → ℕ → Text
wrong_line part k = spaced (codes "wrong") (part_text part ∷ decimal k ∷ [])

abbrev pub verdict_text : Certificate → Verdict → Text
verdict_text cert (verdict.Minimal ratio) = ended (minimal_line ratio cert.limits)
verdict_text cert (verdict.Wrong part k) = ended (wrong_line part k)
