use Rattle.std.proofs.Common.{◌≡◌, ℕ, List, Vec, Global, length, ◌∙◌, subst}
use Rattle.std.proofs.lemmas.List.{length-map}
use Rattle.std.proofs.lemmas.Result.{err_from_is_err_and}
use Rattle.serde_json.specs.View.{view}
use Rattle.bx_forms.specs.Forms.{form_count}
use Rattle.bx_library.specs.declared.dot.Dot.{Dot}
use Rattle.bx_library.specs.Alike.{AreSame, HasSamePair}
use Rattle.bx_library.specs.Drawn.{lists_of}
use Rattle.bx_library.proofs.Reading.{IsRead, bad_size, bad_form, bad_pair, given}
use Rattle.bx_library.proofs.read.library.Goals as goal

pub returns-in_err-check_size-clause-faults : goal.returns-in_err-check_size-clause-faults
returns-in_err-check_size-clause-faults c =
    let is : IsRead (view c.args.value.now) c.in_ok-fields.fields.width c.in_ok-fields.fields.height (view c.in_ok-fields.fields.forms.now) =
    record { width = c.in_ok-fields.ensures.width; height = c.in_ok-fields.ensures.height; forms = c.in_ok-fields.ensures.forms; free = c.in_ok-fields.ensures.free } in
    let p = err_from_is_err_and c.from_residual-in_err-check_size.result c.from_residual-in_err-check_size.ensures.1 in
    rw (p.1, p.2) (λ other. bad_size (view c.args.value.now) c.in_ok-fields.fields.width c.in_ok-fields.fields.height (view c.in_ok-fields.fields.forms.now) is c.in_err-check_size.field-0.0 c.in_err-check_size.ensures.err)

pub returns-in_err-dots-clause-faults : goal.returns-in_err-dots-clause-faults
returns-in_err-dots-clause-faults c =
    let is : IsRead (view c.args.value.now) c.in_ok-fields.fields.width c.in_ok-fields.fields.height (view c.in_ok-fields.fields.forms.now) =
    record { width = c.in_ok-fields.ensures.width; height = c.in_ok-fields.ensures.height; forms = c.in_ok-fields.ensures.forms; free = c.in_ok-fields.ensures.free } in
    let p = err_from_is_err_and c.from_residual-in_err-dots.result c.from_residual-in_err-dots.ensures.1 in
    rw (p.1, p.2) (λ other. bad_form (view c.args.value.now) c.in_ok-fields.fields.width c.in_ok-fields.fields.height (view c.in_ok-fields.fields.forms.now) is
    c.in_ok-check_size.ensures.free c.in_ok-check_names.ensures.free c.in_err-dots.field-0.0 (c.in_err-dots.ensures.err other))

pub returns-in_err-check_pairs-clause-faults : goal.returns-in_err-check_pairs-clause-faults
returns-in_err-check_pairs-clause-faults c =
    let is : IsRead (view c.args.value.now) c.in_ok-fields.fields.width c.in_ok-fields.fields.height (view c.in_ok-fields.fields.forms.now) =
    record { width = c.in_ok-fields.ensures.width; height = c.in_ok-fields.ensures.height; forms = c.in_ok-fields.ensures.forms; free = c.in_ok-fields.ensures.free } in
    let p = err_from_is_err_and c.from_residual-in_err-check_pairs.result c.from_residual-in_err-check_pairs.ensures.1 in
    let pair = subst (λ (l : List (Vec Dot Global)). HasSamePair (lists_of l) c.in_err-check_pairs.field-0.0) c.deref.ensures.value c.in_err-check_pairs.ensures.err in
    rw (p.1, p.2) (λ other. bad_pair (view c.args.value.now) c.in_ok-fields.fields.width c.in_ok-fields.fields.height (view c.in_ok-fields.fields.forms.now) (lists_of c.in_ok-dots.dots.items) is
    c.in_ok-check_size.ensures.free c.in_ok-check_names.ensures.free c.in_ok-dots.ensures.drawn c.in_ok-dots.ensures.fine c.in_err-check_pairs.field-0.0 pair)

pub returns-clause-found : goal.returns-clause-found
returns-clause-found c =
    let is : IsRead (view c.args.value.now) c.in_ok-fields.fields.width c.in_ok-fields.fields.height (view c.in_ok-fields.fields.forms.now) =
    record { width = c.in_ok-fields.ensures.width; height = c.in_ok-fields.ensures.height; forms = c.in_ok-fields.ensures.forms; free = c.in_ok-fields.ensures.free } in
    let count : length (lists_of c.in_ok-dots.dots.items) ≡ form_count = length-map c.in_ok-dots.dots.items (λ (v : Vec Dot Global). v.items) ∙ c.in_ok-dots.ensures.count in
    let none = subst (λ (l : List (Vec Dot Global)). (f g : ℕ) → AreSame (lists_of l) f g → ⊥) c.deref.ensures.value c.in_ok-check_pairs.ensures.none in
    rw c.new.ensures (given (view c.args.value.now) c.in_ok-fields.fields.width c.in_ok-fields.fields.height (view c.in_ok-fields.fields.forms.now) (lists_of c.in_ok-dots.dots.items) is
    c.in_ok-check_size.ensures.free c.in_ok-check_names.ensures.free count c.in_ok-dots.ensures.drawn c.in_ok-dots.ensures.fine none)
