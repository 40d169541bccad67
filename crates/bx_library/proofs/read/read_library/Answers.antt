use Rattle.std.proofs.Common.{Ok, Err, inr}
use Rattle.std.proofs.lemmas.Result.{IfOk-weaker, IfErr-weaker}
use Rattle.std.specs.Prelude.{◌≢◌}
use Rattle.serde_json.specs.View.{view}
use Rattle.bx_library.specs.declared.fault.LibraryFault.TheVariants.{NoMemory}
use Rattle.bx_library.specs.Readings.{Gives, Reads}
use Rattle.bx_library.specs.Values.{Holds}
use Rattle.bx_library.proofs.One.{exact}
use Rattle.bx_library.proofs.read.read_library.Goals as goal

pub returns-in-Ok-clause-exact : goal.returns-in-Ok-clause-exact
returns-in-Ok-clause-exact c = λ r.
    let holds : Holds c.args.bytes.now (view c.in-Ok.value) = record { text = c.in-Ok.ensures.ok.0; reads = c.in-Ok.ensures.ok.1 } in
    exact c.args.bytes.now c.library.result r
    (IfOk-weaker c.library.result (λ tiles. Gives (view c.in-Ok.value) (Ok tiles)) (λ tiles. Reads c.args.bytes.now (Ok tiles)) (λ tiles gives. inr (view c.in-Ok.value, holds, gives)) c.library.ensures.found)
    (IfErr-weaker c.library.result (λ fault. fault ≢ NoMemory → Gives (view c.in-Ok.value) (Err fault)) (λ fault. fault ≢ NoMemory → Reads c.args.bytes.now (Err fault))
    (λ fault gives other. inr (view c.in-Ok.value, holds, gives other)) c.library.ensures.faults)
