-- Tests by outermost nodes are the tests by terms, and names don't matter to them.
use Rattle.std.proofs.Common.{◌≡◌, ℕ, List, refl}
use Rattle.op_logic.specs.Term.{Term, var, int, node, no_args, arg}
use Rattle.op_logic.specs.Names.{named}
use Rattle.op_term.specs.Head.{head}
use Rattle.op_inspect.specs.TypeTests.{passes}
use Rattle.op_inspect.specs.inner.Nodes.{node_passes}
use Rattle.op_inspect.specs.declared.type_test.TypeTest.{TypeTest}
use Rattle.op_inspect.specs.declared.type_test.TypeTest.TheVariants.{Variable, Nonvariable, Atom, Integer, Atomic, Compound, Callable}

pub passes-node : (test : TypeTest) (t : Term ℕ) → node_passes test (head t) ≡ passes test t
passes-node Variable (var v) = refl
passes-node Variable (int i) = refl
passes-node Variable (node f no_args) = refl
passes-node Variable (node f (arg t ts)) = refl
passes-node Nonvariable (var v) = refl
passes-node Nonvariable (int i) = refl
passes-node Nonvariable (node f no_args) = refl
passes-node Nonvariable (node f (arg t ts)) = refl
passes-node Atom (var v) = refl
passes-node Atom (int i) = refl
passes-node Atom (node f no_args) = refl
passes-node Atom (node f (arg t ts)) = refl
passes-node Integer (var v) = refl
passes-node Integer (int i) = refl
passes-node Integer (node f no_args) = refl
passes-node Integer (node f (arg t ts)) = refl
passes-node Atomic (var v) = refl
passes-node Atomic (int i) = refl
passes-node Atomic (node f no_args) = refl
passes-node Atomic (node f (arg t ts)) = refl
passes-node Compound (var v) = refl
passes-node Compound (int i) = refl
passes-node Compound (node f no_args) = refl
passes-node Compound (node f (arg t ts)) = refl
passes-node Callable (var v) = refl
passes-node Callable (int i) = refl
passes-node Callable (node f no_args) = refl
passes-node Callable (node f (arg t ts)) = refl

pub passes-named : (names : List (List ℕ)) (test : TypeTest) (t : Term ℕ) → passes test (named names t) ≡ passes test t
passes-named names Variable (var v) = refl
passes-named names Variable (int i) = refl
passes-named names Variable (node f no_args) = refl
passes-named names Variable (node f (arg t ts)) = refl
passes-named names Nonvariable (var v) = refl
passes-named names Nonvariable (int i) = refl
passes-named names Nonvariable (node f no_args) = refl
passes-named names Nonvariable (node f (arg t ts)) = refl
passes-named names Atom (var v) = refl
passes-named names Atom (int i) = refl
passes-named names Atom (node f no_args) = refl
passes-named names Atom (node f (arg t ts)) = refl
passes-named names Integer (var v) = refl
passes-named names Integer (int i) = refl
passes-named names Integer (node f no_args) = refl
passes-named names Integer (node f (arg t ts)) = refl
passes-named names Atomic (var v) = refl
passes-named names Atomic (int i) = refl
passes-named names Atomic (node f no_args) = refl
passes-named names Atomic (node f (arg t ts)) = refl
passes-named names Compound (var v) = refl
passes-named names Compound (int i) = refl
passes-named names Compound (node f no_args) = refl
passes-named names Compound (node f (arg t ts)) = refl
passes-named names Callable (var v) = refl
passes-named names Callable (int i) = refl
passes-named names Callable (node f no_args) = refl
passes-named names Callable (node f (arg t ts)) = refl
