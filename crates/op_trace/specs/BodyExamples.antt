-- Small bodies.
use Rattle.std.specs.Prelude.{◌≡◌, pos, [], ◌∷◌, Some, None, codes, refl}
use Rattle.op_logic.specs.Term.{Term, var, int, node, atom, no_args, arg}
use Rattle.op_logic.specs.Bind.{Bindings}
use Rattle.op_trace.specs.Database.{Text}
use Rattle.op_trace.specs.Body.{divided, goal, call, control, converted, pair, call_of}

abbrev a : Term Text
a = atom (codes "a")

abbrev both : Term Text → Term Text → Term Text
both = pair (codes ",")

-- a, X ; !
pub a_body : converted [] (pair (codes ";") (both a (var 0)) (atom (codes "!")))
    ≡ record { body = Some (pair (codes ";") (both a (call_of (var 0))) (atom (codes "!"))); steps = 5 }
a_body = refl

-- (a, 1 -> b): the steps up to the number
pub a_number : converted [] (both (pair (codes "->") a (int (pos 1))) (atom (codes "b"))) ≡ record { body = None; steps = 4 }
a_number = refl

-- an argument is no part
pub an_argument : converted [] (node (codes "f") (arg (both a (int (pos 1))) no_args))
    ≡ record { body = Some (node (codes "f") (arg (both a (int (pos 1))) no_args)); steps = 1 }
an_argument = refl

-- a variable is called, and a written call(X) is a goal: X, call(X)
pub a_written_call : (divided [] (both (var 0) (call_of (var 0)))).tree
    ≡ Some (control (codes ",") (call (var 0)) (goal (call_of (var 0))))
a_written_call = refl

-- (a -> X) ; ','(a): a name of a control construct with another number of arguments is a goal
pub a_tree : (divided [] (pair (codes ";") (pair (codes "->") a (var 0)) (node (codes ",") (arg a no_args)))).tree
    ≡ Some (control (codes ";") (control (codes "->") (goal a) (call (var 0))) (goal (node (codes ",") (arg a no_args))))
a_tree = refl

-- G, q(A) where G is bound to (p, X), X to r(A), and A to 1: nothing below a part is followed
abbrev p : Term Text
p = atom (codes "p")

abbrev r_of_A : Term Text
r_of_A = node (codes "r") (arg (var 1) no_args)

abbrev q_of_A : Term Text
q_of_A = node (codes "q") (arg (var 1) no_args)

abbrev bound : Bindings Text
bound = (2, both p (var 3)) ∷ (3, r_of_A) ∷ (1, int (pos 1)) ∷ []

pub followed_parts : divided bound (both (var 2) q_of_A)
    ≡ record { tree = Some (control (codes ",") (control (codes ",") (goal p) (goal r_of_A)) (goal q_of_A)); steps = 5 }
followed_parts = refl

pub followed_term : converted bound (both (var 2) q_of_A) ≡ record { body = Some (both (both p r_of_A) q_of_A); steps = 5 }
followed_term = refl

-- G where G is bound to X, and X to q(A): one part, which is q(A)
pub a_followed_goal : converted ((0, var 3) ∷ (3, q_of_A) ∷ (1, int (pos 1)) ∷ []) (var 0) ≡ record { body = Some q_of_A; steps = 1 }
a_followed_goal = refl

-- a variable that is bound to one without a binding is a call of that one
pub a_followed_variable : converted ((2, var 0) ∷ []) (both (var 2) a) ≡ record { body = Some (both (call_of (var 0)) a); steps = 3 }
a_followed_variable = refl

-- p, (X, q) where X is bound to 1: the number is refused, behind what was converted before it
pub a_bound_number : converted ((2, int (pos 1)) ∷ []) (both p (both (var 2) (atom (codes "q")))) ≡ record { body = None; steps = 4 }
a_bound_number = refl

-- (fail, 1)
pub a_last_number : converted [] (both (atom (codes "fail")) (int (pos 1))) ≡ record { body = None; steps = 3 }
a_last_number = refl
