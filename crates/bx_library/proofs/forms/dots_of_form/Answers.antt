use Rattle.std.proofs.Common.{◌≡◌, Some, Vec, Global, map, option_map, sym, ap, ◌∙◌}
use Rattle.std.proofs.lemmas.Result.{IfErr-weaker, on_ok_weaker}
use Rattle.std.specs.Prelude.{◌≢◌}
use Rattle.serde_json.specs.View.{view}
use Rattle.bx_library.specs.declared.fault.LibraryFault.TheVariants.{NoMemory}
use Rattle.bx_library.specs.declared.values.Triple.{Triple}
use Rattle.bx_library.specs.Faults.{HasBadDots, HasBadForm}
use Rattle.bx_library.specs.Triples.{triple_dot}
use Rattle.bx_library.specs.Values.{dots_of}
use Rattle.bx_library.proofs.Drawing.{fine_value, bad_value}
use Rattle.bx_library.proofs.forms.dots_of_form.Goals as goal

pub returns-in-Some-clause-fine : goal.returns-in-Some-clause-fine
returns-in-Some-clause-fine c =
    let is : dots_of (view c.args.value.now) ≡ Some (map triple_dot c.deref.result.now) =
    sym c.in_ok-listed.ensures ∙ ap (option_map (λ (v : Vec Triple Global). map triple_dot v.items)) c.in-Some.is ∙ ap (λ l. Some (map triple_dot l)) (sym c.deref.ensures.value) in
    on_ok_weaker c.checked_dots.result (fine_value c.args.width c.args.height c.args.form (view c.args.value.now) (map triple_dot c.deref.result.now) is) c.checked_dots.ensures.free

pub returns-in-Some-clause-err : goal.returns-in-Some-clause-err
returns-in-Some-clause-err c =
    let is : dots_of (view c.args.value.now) ≡ Some (map triple_dot c.deref.result.now) =
    sym c.in_ok-listed.ensures ∙ ap (option_map (λ (v : Vec Triple Global). map triple_dot v.items)) c.in-Some.is ∙ ap (λ l. Some (map triple_dot l)) (sym c.deref.ensures.value) in
    IfErr-weaker c.checked_dots.result
    (λ fault. fault ≢ NoMemory → HasBadDots c.args.width c.args.height c.args.form (map triple_dot c.deref.result.now) fault)
    (λ fault. fault ≢ NoMemory → HasBadForm c.args.width c.args.height c.args.form (Some (view c.args.value.now)) fault)
    (λ fault bad other. bad_value c.args.width c.args.height c.args.form (view c.args.value.now) (map triple_dot c.deref.result.now) is fault (bad other))
    c.checked_dots.ensures.err
