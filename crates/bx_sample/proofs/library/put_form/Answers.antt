use Rattle.std.proofs.Common.{◌≡◌, ℕ, List, [], ◌++◌, Option, unwrap_or, ◌∙◌, ap, string_bytes}
use Rattle.std.specs.Prelude.{codes}
use Rattle.bx_sample.specs.Library.{before, front_text, digits_text}
use Rattle.bx_sample.proofs.Turns.{put_then}
use Rattle.bx_sample.proofs.library.put_form.Goals as goal

pub returns : goal.returns
returns c =
    let old = string_bytes c.args.text.now in
    let form = c.args.form in
    let front : List ℕ → List ℕ → List ℕ = λ comma name. comma ++ (codes "\"" ++ (name ++ codes "\":[[1,1,0]")) in
    let digits : string_bytes c.put_digits.new.text ≡ string_bytes c.write.new.self ++ digits_text form =
    c.in_ok-put_digits.ensures ∙ ap (λ number. string_bytes c.write.new.self ++ digits_text number) c.number.ensures.same in
    let written : string_bytes c.write.new.self ≡ old ++ front_text form =
    c.in_ok-write.ensures.bytes
    ∙ ap (λ comma. old ++ front comma c.name-name.result.now) c.before-before.ensures
    ∙ ap (λ (name : Option (List ℕ)). old ++ front (before form) (unwrap_or name [])) c.name-name.ensures in
    put_then old (string_bytes c.write.new.self) (string_bytes c.push_str.new.self) (front_text form) (digits_text form ++ codes "]") written
    (put_then (string_bytes c.write.new.self) (string_bytes c.put_digits.new.text) (string_bytes c.push_str.new.self) (digits_text form) (codes "]") digits c.in_ok-push_str.ensures.bytes)
