-- What kind of goal a term is: a control construct, or a goal with a box.
use Rattle.std.specs.Prelude.{ℕ, codes}
use Rattle.op_logic.specs.Term.{Term, args_of, nth_arg, atom}
use Rattle.op_store.specs.Stored.{Stored}
use Rattle.op_trace.specs.Visit.{Control, TrueGoal, FailGoal, CutGoal, IfThenElse, BoxedGoal, control_of_disjunction}
use Rattle.op_trace.specs.Visit as visit
use Rattle.op_machine.specs.Program.{goal_named}
use Rattle.op_machine.specs.declared.goal_kind.GoalKind.{GoalKind}
use Rattle.op_machine.specs.declared.goal_kind.GoalKind.TheVariants.{True, Fail, Cut, Conjunction, Disjunction, IfThen, Boxed}

abbrev pub control_of_kind : Stored → Term ℕ → GoalKind → Control
control_of_kind t g True = TrueGoal
control_of_kind t g Fail = FailGoal
control_of_kind t g Cut = CutGoal
control_of_kind t g Conjunction = visit.Conjunction (goal_named t (nth_arg (args_of g) 0)) (goal_named t (nth_arg (args_of g) 1))
control_of_kind t g Disjunction = control_of_disjunction (goal_named t (nth_arg (args_of g) 0)) (goal_named t (nth_arg (args_of g) 1))
control_of_kind t g IfThen = IfThenElse (goal_named t (nth_arg (args_of g) 0)) (goal_named t (nth_arg (args_of g) 1)) (atom (codes "fail"))
control_of_kind t g Boxed = BoxedGoal

-- it has two parts
abbrev pub IsPair : GoalKind → Type 0
IsPair Conjunction = Unit {0}
IsPair Disjunction = Unit {0}
IsPair IfThen = Unit {0}
IsPair k = ⊥
