-- The terminals of the text are written out. What a module gives can be told, and is told here.
use Rattle.std.proofs.Common.{refl, inl, inr, arith, List, [], ◌∷◌}
use Rattle.std.specs.Prelude.{codes}
use Rattle.bx_logic.specs.declared.op.Op.TheVariants.{Not}
use Rattle.bx_syntax.specs.declared.part.Kind.TheVariants.{Wire as WireKind, Gate as GateKind}
use Rattle.bx_syntax.specs.declared.terminal.Mark.TheVariants.{Module, EndModule, Input, Output, Wire, Open, Close, Comma, Semicolon, Tilde, Ampersand}
use Rattle.bx_syntax.specs.declared.terminal.Terminal.{Terminal}
use Rattle.bx_syntax.specs.declared.terminal.Terminal.TheVariants.{Fixed, Name, GateWord}
use Rattle.bx_syntax.specs.declared.tree.Direction.TheVariants.{Input as InputPort, Output as OutputPort}
use Rattle.bx_syntax.specs.Grammar.{IsModule}
use Rattle.bx_verilog.specs.Examples.{two_nots, cycle_of_wire}
use Rattle.bx_verilog.proofs.Existence.{meaning}
use Rattle.bx_verilog.proofs.laws.existence.numbers_follow_the_text.Goals as goal

abbrev terminals : List Terminal
terminals =
    Fixed Module ∷ Name (codes "m") ∷ Fixed Open
    ∷ Fixed Input ∷ Name (codes "a") ∷ Fixed Comma ∷ Fixed Input ∷ Name (codes "b") ∷ Fixed Comma ∷ Fixed Output ∷ Name (codes "y")
    ∷ Fixed Close ∷ Fixed Semicolon
    ∷ Fixed Wire ∷ Name (codes "w") ∷ Fixed Semicolon
    ∷ GateWord Not ∷ Fixed Open ∷ Name (codes "p") ∷ Fixed Comma ∷ Name (codes "y") ∷ Fixed Comma
    ∷ Name (codes "a") ∷ Fixed Ampersand ∷ Fixed Tilde ∷ Name (codes "b")
    ∷ Fixed Close ∷ Fixed Semicolon ∷ Fixed EndModule ∷ []

two_nots-is-module : IsModule 256 two_nots terminals
two_nots-is-module = record {
  named = _;
  headed = _;
  ended = _;
  body = _;
  last = _;
  begins = refl;
  name = refl;
  header = inr (
    _,
    _,
    refl,
    inr (
      _,
      inr (InputPort, _, refl, (_, refl, inl refl), refl),
      (
        _,
        _,
        refl,
        inr (refl, (InputPort, _, refl, (_, refl, inl refl), refl)),
        (_, _, refl, inr (refl, (OutputPort, _, refl, (_, refl, inl refl), refl)), refl),
      ),
    ),
    refl,
  );
  semicolon = refl;
  items = (
    _,
    (WireKind, _, _, refl, (_, refl, refl), refl),
    (
      _,
      (
        GateKind Not,
        _,
        _,
        refl,
        (
          _,
          (
            _,
            inl refl,
            (
              refl,
              inr refl,
              (_, _, _, _, refl, (_, refl, (_, _, refl, refl, refl)), refl, ((omega arith, tt, tt, tt), omega arith, refl), refl),
            ),
          ),
          refl,
        ),
        refl,
      ),
      refl,
    ),
  );
  ends = refl;
}

pub returns-clause-tree : goal.returns-clause-tree
returns-clause-tree c = record { terminals = terminals; is_module = two_nots-is-module; few = omega arith }

pub returns-clause-net : goal.returns-clause-net
unfolding meaning
returns-clause-net c = ((meaning two_nots).1.0, refl)

pub returns-clause-cycle : goal.returns-clause-cycle
unfolding meaning
returns-clause-cycle c = (meaning cycle_of_wire).1
