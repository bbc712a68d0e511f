-- The acts of a program take back nothing.
use Rattle.std.proofs.Common.{◌≡◌, ℕ, Option, None, Some, refl, sym, subst}
use Rattle.op_logic.specs.Term.{Term}
use Rattle.op_logic.specs.Bind.{Bindings}
use Rattle.op_trace.specs.Database.{Text}
use Rattle.op_trace.specs.World.{World, Execution, First, Repeated, Recovery}
use Rattle.op_trace.specs.Act.{Act}
use Rattle.op_trace.specs.Builtins as control
use Rattle.op_moves.specs.Places.{TakesNothingBack, ActsGoOn}
use Rattle.op_moves.proofs.WalkCourses.{goes-kept}
use Rattle.op_moves.proofs.ProgramActs.{program-acts-go-on}
use Rattle.op_machine.specs.Acts.{act_or, act_of_goal, setup_for}
use Rattle.op_inspect.specs.Inspected.{act_on_terms}
use Rattle.op_inspect.proofs.TermActs.{Inspects, nothing, something, inspects, in_world}

-- a world that differs in how many variables were given out
within-goes : (w : World) (a : Act) → TakesNothingBack w (in_world w a)
within-goes w a = record {
  after = goes-kept w (record w { variables = a.after.variables }) refl refl;
  interrupted = goes-kept w (record w { variables = a.interrupted.variables }) refl refl;
}

table-goes : (left : ℕ) (g : Term Text) (σ : Bindings Text) (w : World) → Inspects σ g → TakesNothingBack w (act_of_goal left g σ w)
table-goes left g σ w (nothing e) =
    subst (λ (o : Option Act). TakesNothingBack w (act_or o (control.act_of_goal left g σ w))) (sym (e left w))
    (program-acts-go-on 0 0 left First g σ w)
table-goes left g σ w (something e h) =
    subst (λ (o : Option Act). TakesNothingBack w (act_or o (control.act_of_goal left g σ w))) (sym (e left w))
    (subst (TakesNothingBack w) (sym {A = Act} (h.world left w w refl)) (within-goes w (act_on_terms left g σ w)))

pub table-goes-on : (budget wanted : ℕ) → ActsGoOn (setup_for budget wanted)
table-goes-on budget wanted left First g σ w = table-goes left g σ w (inspects σ g)
table-goes-on budget wanted left Repeated g σ w = table-goes left g σ w (inspects σ g)
table-goes-on budget wanted left Recovery g σ w = program-acts-go-on budget wanted left Recovery g σ w
