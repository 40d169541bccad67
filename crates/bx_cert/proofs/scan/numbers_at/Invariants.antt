-- The numbers so far stand at the front, and what numbers stand there go on with the rest.
use Rattle.std.proofs.Common.{◌≡◌, ℕ, ◌+◌, ◌<◌, List, ◌++◌, length, take}
use Rattle.std.specs.List.{AllByRecursion}
use Rattle.bx_lines.specs.Decimals.{EndsNumber}
use Rattle.bx_cert.specs.Certs.{IsNumber}
use Rattle.bx_cert.specs.Texts.{numbers}
use Rattle.bx_cert.specs.Readings.{AreNumbersAt}
use Rattle.bx_cert.proofs.scan.numbers_at.Given as goal

abbrev pub invariant-loop-number : goal.invariant-loop-number
invariant-loop-number l = record {
  are : AllByRecursion IsNumber (take l.number-index l.numbers);
  spelled : l.text ≡ numbers (take l.number-index l.numbers) ++ l.rest;
  stops : 0 < l.number-index → EndsNumber l.rest;
  goes_on : (ns r : List ℕ) → length ns ≡ length l.numbers → AreNumbersAt l.text ns r → (ms : List ℕ) × (length ms + l.number-index ≡ length l.numbers) × AllByRecursion IsNumber ms × (l.rest ≡ numbers ms ++ r);
}
