use Rattle.std.proofs.Common.{◌≡◌, ◌<◌, ℕ, List, [], ◌∷◌, length, take, drop, arith, sym, ◌∙◌, ap, subst}
use Rattle.std.specs.List.{position_or_len, prefix_len}
use Rattle.std.specs.Char.{is_ascii_whitespace}
use Rattle.std.proofs.lemmas.Str.Ascii.{trim_ascii_start_is}
use Rattle.bx_dimacs.specs.Words.{words_of}
use Rattle.bx_dimacs.proofs.Parting.{place_or_len, words_first, no_words, starts_with_word}
use Rattle.bx_dimacs.proofs.scan.word_at.Goals as goal

pub returns-then-end-eq0-clause-none : goal.returns-then-end-eq0-clause-none
returns-then-end-eq0-clause-none c =
    let words : List ℕ = c.trim_ascii_start-words.result.now in
    let trimmed = trim_ascii_start_is c.args.line.now words c.trim_ascii_start-words.ensures.value in
    let end : c.unwrap_or-end.result ≡ position_or_len is_ascii_whitespace words = place_or_len is_ascii_whitespace words c.blank_at.result c.unwrap_or-end.result c.blank_at.ensures c.unwrap_or-end.ensures in
    no_words c.args.line.now words trimmed (starts_with_word c.args.line.now words trimmed (sym end ∙ c.if-end-eq0.true))

pub returns-clause-some : goal.returns-clause-some
returns-clause-some c =
    let words : List ℕ = c.trim_ascii_start-words.result.now in
    let n : ℕ = c.unwrap_or-end.result in
    let trimmed = trim_ascii_start_is c.args.line.now words c.trim_ascii_start-words.ensures.value in
    let end : n ≡ position_or_len is_ascii_whitespace words = place_or_len is_ascii_whitespace words c.blank_at.result n c.blank_at.ensures c.unwrap_or-end.ensures in
    let some : 0 < n = omega (arith, c.if-end-eq0.false) in
    words_first c.args.line.now words n trimmed end some
    ∙ ap (λ w. w ∷ words_of (drop n words)) (sym c.split_at.ensures.front)
    ∙ ap (λ r. c.split_at.result.0.now ∷ words_of r) (sym c.split_at.ensures.back)
