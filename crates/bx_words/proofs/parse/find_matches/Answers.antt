use Rattle.std.proofs.Common.{refl, sym, subst, inl, inr, IsSome}
use Rattle.std.specs.List.{All}
use Rattle.clap.specs.Simple.{app_of}
use Rattle.clap.specs.Values.{kind_of}
use Rattle.bx_words.specs.declared.faults.NoCommand.{NoCommand}
use Rattle.bx_words.specs.Verbs.{files_of, line_of, texts}
use Rattle.bx_words.specs.Clap.{given_in, has_matches, named_in}
use Rattle.bx_words.specs.Refusals.{IsRefusal}
use Rattle.bx_words.proofs.Parses.{built_app, ours, plain_app, refused, rows_found, taken}
use Rattle.bx_words.proofs.Walks.{named, numbered}
use Rattle.bx_words.proofs.parse.find_matches.Goals as goal

pub returns-in-Ok-clause-found : goal.returns-in-Ok-clause-found
returns-in-Ok-clause-found c =
    let verb = c.args.verb in
    let words = texts c.args.words.now in
    let command = c.in_ok-command.command in
    let app = built_app (line_of verb) command c.in_ok-command.ensures (ours verb) in
    let has = taken verb words (app_of command) app (c.in-Ok.ensures.kinds (plain_app verb command c.in_ok-command.ensures)) in
    let same = rows_found verb words (app_of command) c.in-Ok.matches app c.in-Ok.ensures.matches in
    record {
      taken = has;
      rows_are = same;
      named = subst (λ found. All (λ file. IsSome (named_in found file)) (files_of (line_of verb))) (sym same) (named verb words has);
      numbered = subst (λ found. All (λ number. IsSome (given_in found number)) (line_of verb).numbers) (sym same) (numbered verb words has);
    }

pub returns-in-Err-clause-none : goal.returns-in-Err-clause-none
returns-in-Err-clause-none c =
    let verb = c.args.verb in
    let words = texts c.args.words.now in
    let command = c.in_ok-command.command in
    let app = built_app (line_of verb) command c.in_ok-command.ensures (ours verb) in
    let right = λ (none : NoCommand). IsRefusal (has_matches verb words) none in
    elim (c.in-Err.ensures.kinds (plain_app verb command c.in_ok-command.ensures)) [
      | inl memory ↦ subst right (sym (c.refusal.ensures.memory memory)) tt
      | inr among ↦ elim c.refusal.ensures.either [
        | inl none ↦ subst right (sym none) tt
        | inr usage ↦ subst right (sym usage) (refl, refused verb words (app_of command) (kind_of c.in-Err.error) app among)
      ]
    ]
