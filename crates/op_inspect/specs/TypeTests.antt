-- The tests of a term's type (ISO/IEC 13211-1, 8.3).
use Rattle.std.specs.Prelude.{Bool, true, false, ℕ}
use Rattle.op_logic.specs.Term.{Term, var, int, node, no_args, arg, size}
use Rattle.op_logic.specs.Bind.{Bindings, apply, follow}
use Rattle.op_term.specs.Variables.{has_no_variable}
use Rattle.op_trace.specs.Database.{Text}
use Rattle.op_trace.specs.World.{World}
use Rattle.op_trace.specs.Act.{Act, pay}
use Rattle.op_inspect.specs.Answering.{decided}
use Rattle.op_inspect.specs.declared.type_test.TypeTest.{TypeTest}
use Rattle.op_inspect.specs.declared.type_test.TypeTest.TheVariants.{Variable, Nonvariable, Atom, Integer, Atomic, Compound, Callable}

-- by the outermost node
abbrev pub passes : {N : Type 0} → TypeTest → Term N → Bool
passes Variable (var v) = true
passes Nonvariable (int i) = true
passes Nonvariable (node f ts) = true
passes Atom (node f no_args) = true
passes Integer (int i) = true
passes Atomic (int i) = true
passes Atomic (node f no_args) = true
passes Compound (node f (arg t ts)) = true
passes Callable (node f ts) = true
passes test t = false

abbrev pub test_act : TypeTest → Term Text → Bindings Text → World → Act
test_act test t σ w = decided (passes test (follow σ t)) σ w

-- `ground` (8.3.10): no variable is in it, at a step for each of its nodes
abbrev pub ground_act : Term Text → ℕ → Bindings Text → World → Act
ground_act t left σ w = let b : Term Text = apply σ t in pay (size b) left w (λ l. decided (has_no_variable b) σ w)
