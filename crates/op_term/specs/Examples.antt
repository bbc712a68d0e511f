-- The standard order, by computation.
use Rattle.std.specs.Prelude.{◌≡◌, ℕ, List, codes, pos, refl}
use Rattle.std.specs.declared.cmp.Ordering.TheVariants.{Less, Equal}
use Rattle.op_logic.specs.Term.{Term, var, int, node, Args, no_args, arg}
use Rattle.op_term.specs.Order.{standard_order, pairs_compared}

abbrev name : List ℕ → Term (List ℕ)
name f = node f no_args

abbrev one : List ℕ → Term (List ℕ) → Term (List ℕ)
one f t = node f (arg t no_args)

abbrev two : List ℕ → Term (List ℕ) → Term (List ℕ) → Term (List ℕ)
two f t u = node f (arg t (arg u no_args))

-- 'B c' before f(a): an atom comes before each compound term, and one pair of nodes tells it
pub atom_first : standard_order (name (codes "B c")) (one (codes "f") (name (codes "a"))) ≡ Less
atom_first = refl

pub atom_first_pairs : pairs_compared (name (codes "B c")) (one (codes "f") (name (codes "a"))) ≡ 1
atom_first_pairs = refl

-- zz(a) before b(a,a): by arity before the name
pub arity_first : standard_order (one (codes "zz") (name (codes "a"))) (two (codes "b") (name (codes "a")) (name (codes "a"))) ≡ Less
arity_first = refl

-- f(a,b) before f(b,a): by the first arguments, and the second ones aren't compared
pub first_arguments : standard_order (two (codes "f") (name (codes "a")) (name (codes "b")))
    (two (codes "f") (name (codes "b")) (name (codes "a"))) ≡ Less
first_arguments = refl

pub first_arguments_pairs : pairs_compared (two (codes "f") (name (codes "a")) (name (codes "b")))
    (two (codes "f") (name (codes "b")) (name (codes "a"))) ≡ 2
first_arguments_pairs = refl

-- a variable before an integer, an integer before an atom
pub variable_first : standard_order (var 9) (int (pos 0)) ≡ Less
variable_first = refl

pub integer_first : standard_order (int (pos 9)) (name (codes "a")) ≡ Less
integer_first = refl

-- ab before abc
pub shorter_first : standard_order (name (codes "ab")) (name (codes "abc")) ≡ Less
shorter_first = refl

pub same_twice : standard_order (two (codes "f") (var 1) (name (codes "b"))) (two (codes "f") (var 1) (name (codes "b"))) ≡ Equal
same_twice = refl
