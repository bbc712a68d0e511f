-- Small unifications, with their counts.
use Rattle.std.specs.Prelude.{◌≡◌, ℕ, nat_eq, [], ◌∷◌, Some, None, refl}
use Rattle.op_logic.specs.Term.{Term, var, node, no_args, arg, atom}
use Rattle.op_logic.specs.Bind.{solve, unify}

abbrev five : Term ℕ
five = node 0 (arg (atom 1) (arg (atom 2) (arg (atom 3) (arg (atom 4) (arg (atom 5) no_args)))))

-- a variable and a term of six nodes
pub a_variable_and_a_term : solve nat_eq 9 [] ((var 0, five) ∷ []) ≡ Some (Some ((0, five) ∷ []), 7)
a_variable_and_a_term = refl

-- s(X,f(X)) and s(Y,Y): X is bound to Y, and then Y occurs in f(Y)
pub an_occurs_check : solve nat_eq 9 []
    ((node 0 (arg (var 0) (arg (node 1 (arg (var 0) no_args)) no_args)), node 0 (arg (var 1) (arg (var 1) no_args))) ∷ [])
    ≡ Some (None, 6)
an_occurs_check = refl

-- of two variables the greater is bound to the lesser
pub two_variables : solve nat_eq 9 [] ((var 3, var 8) ∷ []) ≡ Some (Some ((8, var 3) ∷ []), 2)
two_variables = refl

-- the count is one more than what is left
pub a_step_too_few : unify nat_eq 6 [] ((var 0, five) ∷ []) ≡ None
a_step_too_few = refl
