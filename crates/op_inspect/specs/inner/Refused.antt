-- Why construction refuses its arguments, by their outermost nodes and where they stand.
use Rattle.std.specs.Prelude.{ℕ, zero, suc, ℤ, pos, negsuc, Option, Some, None}
use Rattle.op_term.specs.declared.node.Node.{Node}
use Rattle.op_term.specs.declared.node.Node.TheVariants.{Var, Int, Atom, Struct}
use Rattle.op_inspect.specs.declared.problem.Problem.{Problem}
use Rattle.op_inspect.specs.declared.problem.Problem.TheVariants.{Instantiation, NotOfType, NotInDomain}
use Rattle.op_inspect.specs.declared.problem.Expected.TheVariants as expected
use Rattle.op_inspect.specs.declared.problem.Domain.TheVariants as domains

-- functor/3 of a variable: by the nodes of the name and of the number of arguments
abbrev pub name_problem : Node → ℕ → ℕ → Option Problem
name_problem (Struct f k) n r = Some (NotOfType expected.Atomic r)
name_problem (Int i) zero r = None
name_problem (Int i) (suc n) r = Some (NotOfType expected.Atom r)
name_problem (Var v) n r = None
name_problem (Atom f) n r = None

abbrev pub number_problem : Node → ℤ → ℕ → ℕ → Option Problem
number_problem f (pos n) r q = name_problem f n r
number_problem f (negsuc n) r q = Some (NotInDomain domains.NotLessThanZero q)

abbrev pub count_problem : Node → Node → ℕ → ℕ → Option Problem
count_problem f (Var v) r q = Some Instantiation
count_problem f (Int i) r q = number_problem f i r q
count_problem f (Atom g) r q = Some (NotOfType expected.Integer q)
count_problem f (Struct g k) r q = Some (NotOfType expected.Integer q)

abbrev pub functor_problem : Node → Node → ℕ → ℕ → Option Problem
functor_problem (Var v) n r q = Some Instantiation
functor_problem (Int i) n r q = count_problem (Int i) n r q
functor_problem (Atom f) n r q = count_problem (Atom f) n r q
functor_problem (Struct f k) n r q = count_problem (Struct f k) n r q

-- arg/3: by the nodes of the number and of the term
abbrev pub index_problem : ℤ → ℕ → Option Problem
index_problem (pos n) r = None
index_problem (negsuc n) r = Some (NotInDomain domains.NotLessThanZero r)

abbrev pub whole_problem : Node → Node → ℕ → ℕ → Option Problem
whole_problem (Int i) (Struct f k) r q = index_problem i r
whole_problem (Int i) (Var v) r q = Some Instantiation
whole_problem (Int i) (Int j) r q = Some (NotOfType expected.Compound q)
whole_problem (Int i) (Atom f) r q = Some (NotOfType expected.Compound q)
whole_problem n (Var v) r q = Some Instantiation
whole_problem n t r q = Some (NotOfType expected.Integer r)

abbrev pub arg_problem : Node → Node → ℕ → ℕ → Option Problem
arg_problem (Var v) t r q = Some Instantiation
arg_problem (Int i) t r q = whole_problem (Int i) t r q
arg_problem (Atom f) t r q = whole_problem (Atom f) t r q
arg_problem (Struct f k) t r q = whole_problem (Struct f k) t r q

-- `=..`: by the node of the name, and how many arguments are behind it
abbrev pub head_problem : Node → ℕ → ℕ → Option Problem
head_problem (Var v) n r = Some Instantiation
head_problem (Atom f) n r = None
head_problem (Int i) zero r = None
head_problem (Int i) (suc n) r = Some (NotOfType expected.Atom r)
head_problem (Struct f k) zero r = Some (NotOfType expected.Atomic r)
head_problem (Struct f k) (suc n) r = Some (NotOfType expected.Atom r)

-- the natural number that a node says
abbrev pub natural_of : Node → ℕ
natural_of (Int (pos n)) = n
natural_of n = 0
