-- Small runs, whose events are written out, and moves in them by computation.
use Rattle.std.specs.Prelude.{◌≡◌, ℕ, zero, suc, ◌+◌, ◌-◌, pos, true, false, List, [], ◌∷◌, codes, refl}
use Rattle.op_logic.specs.Term.{Term, var, int, node, no_args, arg, atom}
use Rattle.op_trace.specs.declared.port.Port.{Port}
use Rattle.op_trace.specs.declared.port.Port.TheVariants as port
use Rattle.op_trace.specs.Database.{Text}
use Rattle.op_trace.specs.World.{Event}
use Rattle.op_trace.specs.Ending as ending
use Rattle.op_moves.specs.Pattern.{answer, tested}
use Rattle.op_moves.specs.Moves.{Stand, At, No_event, Past_budget, Spent, outcome}
use Rattle.op_moves.specs.Moves.{goto, last, parent, retry, finish, seek_back}

abbrev event : ℕ → ℕ → ℕ → ℕ → Port → Text → Event
event n k p d q f = record { chrono = n; call = k; parent = p; depth = d; port = q; goal = atom f }

abbrev standing : ℕ → ℕ → Stand
standing p f = record { place = p; furthest = f }

-- p :- q, r. q. q. r :- fail.
abbrev failing : List Event
failing =
    event 1 1 0 1 port.Call (codes "p") ∷ event 2 2 1 2 port.Call (codes "q") ∷ event 3 2 1 2 port.Exit (codes "q")
    ∷ event 4 3 1 2 port.Call (codes "r") ∷ event 5 3 1 2 port.Fail (codes "r") ∷ event 6 2 1 2 port.Redo (codes "q")
    ∷ event 7 2 1 2 port.Exit (codes "q") ∷ event 8 4 1 2 port.Call (codes "r") ∷ event 9 4 1 2 port.Fail (codes "r")
    ∷ event 10 2 1 2 port.Redo (codes "q") ∷ event 11 2 1 2 port.Fail (codes "q") ∷ event 12 1 0 1 port.Fail (codes "p") ∷ []

pub a_place : goto failing ending.Failed 8 (standing 0 0) 9 ≡ outcome (At 8) 8 8
a_place = refl

pub its_parent : parent failing (standing 8 8) 9 ≡ outcome (At 1) 8 8
its_parent = refl

pub no_parent : parent failing (standing 1 8) 9 ≡ outcome No_event 8 8
no_parent = refl

-- eleven looks, from event 2 to event 12
pub the_end_of_a_box : finish failing ending.Failed (standing 1 8) 11 ≡ outcome (At 12) 12 0
the_end_of_a_box = refl

pub a_look_too_few : finish failing ending.Failed (standing 1 8) 10 ≡ outcome Spent 11 0
a_look_too_few = refl

pub its_call : retry failing (standing 12 12) 9 ≡ outcome (At 1) 12 8
its_call = refl

pub its_own_call : retry failing (standing 1 12) 9 ≡ outcome (At 1) 12 8
its_own_call = refl

pub the_last_event : last failing ending.Failed (standing 0 0) 9 ≡ outcome (At 12) 13 8
the_last_event = refl

-- event(_,_,_,_,call,r)
abbrev a_call_of_r : Term Text
a_call_of_r =
    node (codes "event") (arg (var 0) (arg (var 1) (arg (var 2) (arg (var 3) (arg (atom (codes "call")) (arg (atom (codes "r"))
    no_args))))))

-- six pairs where the port differs, seven where it doesn't
pub another_port : tested a_call_of_r (event 9 4 1 2 port.Fail (codes "r")) ≡ answer false 6
another_port = refl

pub another_goal : tested a_call_of_r (event 2 2 1 2 port.Call (codes "q")) ≡ answer false 7
another_goal = refl

pub accepted : tested a_call_of_r (event 8 4 1 2 port.Call (codes "r")) ≡ answer true 7
accepted = refl

-- its size, and for each of the events 11, 10 and 9 a look and six pairs, and a look and seven pairs at event 8
pub sought_back : seek_back a_call_of_r failing (standing 12 13) 36 ≡ outcome (At 8) 13 0
sought_back = refl

pub a_pair_too_few : seek_back a_call_of_r failing (standing 12 13) 35 ≡ outcome Spent 13 0
a_pair_too_few = refl

pub past_the_last : goto failing ending.Failed 13 (standing 8 13) 9 ≡ outcome No_event 13 8
past_the_last = refl

-- one variable stands for one value: event(N,N,_,_,_,_) accepts events 1 and 2
abbrev numbered_alike : Term Text
numbered_alike =
    node (codes "event") (arg (var 0) (arg (var 0) (arg (var 1) (arg (var 2) (arg (var 3) (arg (var 4) no_args))))))

pub alike : tested numbered_alike (event 2 2 1 2 port.Call (codes "q")) ≡ answer true 7
alike = refl

pub not_alike : tested numbered_alike (event 3 2 1 2 port.Exit (codes "q")) ≡ answer false 3
not_alike = refl

-- event(_,_,_,_,_,G), and an event that shows a goal
abbrev with_goal : Term Text → Term Text
with_goal g =
    node (codes "event") (arg (var 5) (arg (var 6) (arg (var 7) (arg (var 8) (arg (var 9) (arg g no_args))))))

abbrev a_call : Term Text → Event
a_call g = record { chrono = 1; call = 1; parent = 0; depth = 1; port = port.Call; goal = g }

abbrev r_of : Term Text → Term Text → Term Text
r_of a b = node (codes "r") (arg a (arg b no_args))

abbrev f_of : Term Text → Term Text
f_of a = node (codes "f") (arg a no_args)

-- a variable of the program is seen as '$V'(3), and so never bound
pub a_variable_of_the_program :
    tested (with_goal (r_of (node (codes "$V") (arg (int (pos 3)) no_args)) (var 0))) (a_call (r_of (var 3) (atom (codes "a")))) ≡
    answer true 10
a_variable_of_the_program = refl

-- what a variable stands for is compared node by node
pub a_variable_twice :
    tested (with_goal (r_of (var 0) (var 0))) (a_call (r_of (f_of (atom (codes "a"))) (f_of (atom (codes "b"))))) ≡ answer false 10
a_variable_twice = refl

-- p :- p. of which 34 calls are made in 100 steps
abbrev calls_of_p : ℕ → ℕ → List Event
calls_of_p k zero = []
calls_of_p k (suc n) = event k k (k - 1) k port.Call (codes "p") ∷ calls_of_p (k + 1) n

pub the_last_shown : goto (calls_of_p 1 34) ending.Spent 34 (standing 0 0) 9 ≡ outcome (At 34) 34 8
the_last_shown = refl

pub past_the_budget : goto (calls_of_p 1 34) ending.Spent 35 (standing 34 34) 9 ≡ outcome Past_budget 35 8
past_the_budget = refl

pub no_last_event : last (calls_of_p 1 34) ending.Spent (standing 34 35) 9 ≡ outcome Past_budget 35 8
no_last_event = refl

-- p :- q, r. q :- s. s. r :- fail.
abbrev nested : List Event
nested =
    event 1 1 0 1 port.Call (codes "p") ∷ event 2 2 1 2 port.Call (codes "q") ∷ event 3 3 2 3 port.Call (codes "s")
    ∷ event 4 3 2 3 port.Exit (codes "s") ∷ event 5 2 1 2 port.Exit (codes "q") ∷ event 6 4 1 2 port.Call (codes "r")
    ∷ event 7 4 1 2 port.Fail (codes "r") ∷ event 8 2 1 2 port.Redo (codes "q") ∷ event 9 3 2 3 port.Redo (codes "s")
    ∷ event 10 3 2 3 port.Fail (codes "s") ∷ event 11 2 1 2 port.Fail (codes "q") ∷ event 12 1 0 1 port.Fail (codes "p") ∷ []

-- by the number of the parent: the last call at a lesser depth is another's
pub the_parent_by_its_number : parent nested (standing 9 9) 9 ≡ outcome (At 2) 9 8
the_parent_by_its_number = refl

pub a_redo_ends_no_box : finish failing ending.Failed (standing 3 3) 9 ≡ outcome (At 7) 7 5
a_redo_ends_no_box = refl
