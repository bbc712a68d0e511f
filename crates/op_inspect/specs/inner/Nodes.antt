-- Outermost nodes: what the code's tests and checks say of them.
use Rattle.std.specs.Prelude.{ℕ, ◌<◌, Bool, true, false, List, Option, Some, None, if◌then◌else◌}
use Rattle.op_logic.specs.Names.{name_at}
use Rattle.op_term.specs.declared.node.Node.{Node}
use Rattle.op_term.specs.declared.node.Node.TheVariants.{Var, Int, Atom, Struct}
use Rattle.op_inspect.specs.Comparison.{is_order}
use Rattle.op_inspect.specs.declared.type_test.TypeTest.{TypeTest}
use Rattle.op_inspect.specs.declared.type_test.TypeTest.TheVariants as tests
use Rattle.op_inspect.specs.declared.problem.Problem.{Problem}
use Rattle.op_inspect.specs.declared.problem.Problem.TheVariants.{NotOfType, NotInDomain}
use Rattle.op_inspect.specs.declared.problem.Expected.TheVariants as expected
use Rattle.op_inspect.specs.declared.problem.Domain.TheVariants as domains

-- a node's name is in the table
abbrev pub HasItsName : ℕ → Node → Type 0
HasItsName count (Var v) = Unit {0}
HasItsName count (Int i) = Unit {0}
HasItsName count (Atom f) = f.0 < count
HasItsName count (Struct f n) = f.0 < count

abbrev pub node_passes : TypeTest → Node → Bool
node_passes tests.Variable (Var v) = true
node_passes tests.Variable n = false
node_passes _ (Var v) = false
node_passes tests.Nonvariable n = true
node_passes tests.Atom (Atom f) = true
node_passes tests.Integer (Int i) = true
node_passes tests.Atomic (Atom f) = true
node_passes tests.Atomic (Int i) = true
node_passes tests.Compound (Struct f n) = true
node_passes tests.Callable (Atom f) = true
node_passes tests.Callable (Struct f n) = true
node_passes _ _ = false

abbrev pub compare_problem : List (List ℕ) → Node → ℕ → Option Problem
compare_problem names (Var v) r = None
compare_problem names (Atom f) r = if is_order (name_at names f.0) then None else Some (NotInDomain domains.Order r)
compare_problem names n r = Some (NotOfType expected.Atom r)
