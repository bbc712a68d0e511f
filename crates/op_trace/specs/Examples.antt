-- Small runs by computation.
use Rattle.std.specs.Prelude.{◌≡◌, ℕ, ◌+◌, pos, true, false, List, [], ◌∷◌, ◌++◌, codes, refl, Option, Some, None, max, if◌then◌else◌}
use Rattle.op_logic.specs.Term.{Term, var, int, node, no_args, arg, atom, term_eq}
use Rattle.op_logic.specs.Bind.{Bindings, apply}
use Rattle.op_trace.specs.declared.port.Port.{Port}
use Rattle.op_trace.specs.declared.port.Port.TheVariants as port
use Rattle.op_term.specs.declared.quotes.DoubleQuotes.TheVariants.{Codes}
use Rattle.op_trace.specs.Database.{Text, text_eq, Clause, Indicator, Database, indicator_of_term, name_arity, set_procedure, no_clauses}
use Rattle.op_trace.specs.Database.{with_clause}
use Rattle.op_trace.specs.World.{World, loaded, Event, Turn, Shown, Solved, Execution, Repeated}
use Rattle.op_trace.specs.Act.{Act, Fails, Succeeds, Succeeds_again, done, pay, Setup}
use Rattle.op_trace.specs.Builtins.{setup_for, type_error, no_procedure, instantiation_error}
use Rattle.op_trace.specs.Ending.{Failed, Stopped, Thrown, Halted, Spent}
use Rattle.op_trace.specs.Visit.{visit, visit_by, visit_with}
use Rattle.op_trace.specs.Run.{Run, run, events_of, output_at}

abbrev pub name : Text → Term Text
name f = atom f

abbrev pub conjunction : Term Text → Term Text → Term Text
conjunction a b = node (codes ",") (arg a (arg b no_args))

abbrev disjunction : Term Text → Term Text → Term Text
disjunction a b = node (codes ";") (arg a (arg b no_args))

abbrev if_then : Term Text → Term Text → Term Text
if_then a b = node (codes "->") (arg a (arg b no_args))

abbrev pub clause : ℕ → Text → Term Text → Clause
clause i f b = record { id = i; head = name f; body = b; variables = 0 }

abbrev no_database : Database
no_database = record { procedures = []; next = 0; table = []; flags = record { quotes = Codes; unknown_fails = false } }

abbrev added : Database → Option Indicator → Clause → Database
added d None c = d
added d (Some k) c = with_clause d k c

abbrev with_clauses : Database → List Clause → Database
with_clauses d [] = d
with_clauses d (c ∷ cs) = with_clauses (added d (indicator_of_term c.head) c) cs

-- the world of a program of these clauses
abbrev pub program : List Clause → World
program cs = loaded (with_clauses no_database cs)

abbrev pub event : ℕ → ℕ → ℕ → ℕ → Port → Text → Event
event n k p d q f = record { chrono = n; call = k; parent = p; depth = d; port = q; goal = name f }

abbrev pub setup : Setup
setup = setup_for 100 1

abbrev all : Setup
all = setup_for 100 0

-- a :- b, c. b. c.
abbrev first_program : World
first_program =
    program (clause 0 (codes "a") (conjunction (name (codes "b")) (name (codes "c"))) ∷ clause 1 (codes "b") (name (codes "true"))
    ∷ clause 2 (codes "c") (name (codes "true")) ∷ [])

pub first_events : events_of (run setup (name (codes "a")) 0 first_program).turns
    ≡ event 1 1 0 1 port.Call (codes "a") ∷ event 2 2 1 2 port.Call (codes "b") ∷ event 3 2 1 2 port.Exit (codes "b")
    ∷ event 4 3 1 2 port.Call (codes "c") ∷ event 5 3 1 2 port.Exit (codes "c") ∷ event 6 1 0 1 port.Exit (codes "a") ∷ []
unfolding visit visit_by visit_with
first_events = refl

pub first_ending : (run setup (name (codes "a")) 0 first_program).ending ≡ Stopped
unfolding visit visit_by visit_with
first_ending = refl

pub first_steps : (run setup (name (codes "a")) 0 first_program).world.steps ≡ 10
unfolding visit visit_by visit_with
first_steps = refl

-- p :- q, r. q. q. r :- fail.
abbrev second_program : World
second_program =
    program (clause 0 (codes "p") (conjunction (name (codes "q")) (name (codes "r"))) ∷ clause 1 (codes "q") (name (codes "true"))
    ∷ clause 2 (codes "q") (name (codes "true")) ∷ clause 3 (codes "r") (name (codes "fail")) ∷ [])

pub second_events : events_of (run setup (name (codes "p")) 0 second_program).turns
    ≡ event 1 1 0 1 port.Call (codes "p") ∷ event 2 2 1 2 port.Call (codes "q") ∷ event 3 2 1 2 port.Exit (codes "q")
    ∷ event 4 3 1 2 port.Call (codes "r") ∷ event 5 3 1 2 port.Fail (codes "r") ∷ event 6 2 1 2 port.Redo (codes "q")
    ∷ event 7 2 1 2 port.Exit (codes "q") ∷ event 8 4 1 2 port.Call (codes "r") ∷ event 9 4 1 2 port.Fail (codes "r")
    ∷ event 10 2 1 2 port.Redo (codes "q") ∷ event 11 2 1 2 port.Fail (codes "q") ∷ event 12 1 0 1 port.Fail (codes "p") ∷ []
unfolding visit visit_by visit_with
second_events = refl

pub second_ending : (run setup (name (codes "p")) 0 second_program).ending ≡ Failed
unfolding visit visit_by visit_with
second_ending = refl

-- p :- q, !, r. p. q. q. r :- fail. The cut removes the second q and the second p.
abbrev cut_program : World
cut_program =
    program (clause 0 (codes "p") (conjunction (name (codes "q")) (conjunction (name (codes "!")) (name (codes "r"))))
    ∷ clause 1 (codes "p") (name (codes "true")) ∷ clause 2 (codes "q") (name (codes "true")) ∷ clause 3 (codes "q") (name (codes "true"))
    ∷ clause 4 (codes "r") (name (codes "fail")) ∷ [])

pub cut_events : events_of (run setup (name (codes "p")) 0 cut_program).turns
    ≡ event 1 1 0 1 port.Call (codes "p") ∷ event 2 2 1 2 port.Call (codes "q") ∷ event 3 2 1 2 port.Exit (codes "q")
    ∷ event 4 3 1 2 port.Call (codes "r") ∷ event 5 3 1 2 port.Fail (codes "r") ∷ event 6 1 0 1 port.Fail (codes "p") ∷ []
unfolding visit visit_by visit_with
cut_events = refl

pub cut_ending : (run setup (name (codes "p")) 0 cut_program).ending ≡ Failed
unfolding visit visit_by visit_with
cut_ending = refl

pub cut_steps : (run setup (name (codes "p")) 0 cut_program).world.steps ≡ 13
unfolding visit visit_by visit_with
cut_steps = refl

-- p :- ( q, ! -> r ; s ). p. q. r. s. The cut is local to the condition.
abbrev condition_program : World
condition_program =
    program (clause 0 (codes "p")
    (disjunction (if_then (conjunction (name (codes "q")) (name (codes "!"))) (name (codes "r"))) (name (codes "s")))
    ∷ clause 1 (codes "p") (name (codes "true")) ∷ clause 2 (codes "q") (name (codes "true"))
    ∷ clause 3 (codes "r") (name (codes "true")) ∷ clause 4 (codes "s") (name (codes "true")) ∷ [])

pub condition_events : events_of (run all (name (codes "p")) 0 condition_program).turns
    ≡ event 1 1 0 1 port.Call (codes "p") ∷ event 2 2 1 2 port.Call (codes "q") ∷ event 3 2 1 2 port.Exit (codes "q")
    ∷ event 4 3 1 2 port.Call (codes "r") ∷ event 5 3 1 2 port.Exit (codes "r") ∷ event 6 1 0 1 port.Exit (codes "p")
    ∷ event 7 1 0 1 port.Redo (codes "p") ∷ event 8 3 1 2 port.Redo (codes "r") ∷ event 9 3 1 2 port.Fail (codes "r")
    ∷ event 10 1 0 1 port.Exit (codes "p") ∷ event 11 1 0 1 port.Redo (codes "p") ∷ event 12 1 0 1 port.Fail (codes "p") ∷ []
unfolding visit visit_by visit_with
condition_events = refl

pub condition_ending : (run all (name (codes "p")) 0 condition_program).ending ≡ Failed
unfolding visit visit_by visit_with
condition_ending = refl

pub condition_steps : (run all (name (codes "p")) 0 condition_program).world.steps ≡ 14
unfolding visit visit_by visit_with
condition_steps = refl

-- p :- ( q, !, fail -> r ; s ). q. q. s. The cut leaves the condition no solution, and the else branch is tried.
abbrev else_program : World
else_program =
    program (clause 0 (codes "p") (disjunction
    (if_then (conjunction (name (codes "q")) (conjunction (name (codes "!")) (name (codes "fail")))) (name (codes "r"))) (name (codes "s")))
    ∷ clause 1 (codes "q") (name (codes "true"))
    ∷ clause 2 (codes "q") (name (codes "true")) ∷ clause 3 (codes "s") (name (codes "true")) ∷ [])

pub else_events : events_of (run setup (name (codes "p")) 0 else_program).turns
    ≡ event 1 1 0 1 port.Call (codes "p") ∷ event 2 2 1 2 port.Call (codes "q") ∷ event 3 2 1 2 port.Exit (codes "q")
    ∷ event 4 3 1 2 port.Call (codes "s") ∷ event 5 3 1 2 port.Exit (codes "s") ∷ event 6 1 0 1 port.Exit (codes "p") ∷ []
unfolding visit visit_by visit_with
else_events = refl

pub else_ending : (run setup (name (codes "p")) 0 else_program).ending ≡ Stopped
unfolding visit visit_by visit_with
else_ending = refl

pub else_steps : (run setup (name (codes "p")) 0 else_program).world.steps ≡ 15
unfolding visit visit_by visit_with
else_steps = refl

-- p :- ( q ; r ). q :- fail. r.
abbrev branch_program : World
branch_program =
    program (clause 0 (codes "p") (disjunction (name (codes "q")) (name (codes "r"))) ∷ clause 1 (codes "q") (name (codes "fail"))
    ∷ clause 2 (codes "r") (name (codes "true")) ∷ [])

pub branch_events : events_of (run setup (name (codes "p")) 0 branch_program).turns
    ≡ event 1 1 0 1 port.Call (codes "p") ∷ event 2 2 1 2 port.Call (codes "q") ∷ event 3 2 1 2 port.Fail (codes "q")
    ∷ event 4 3 1 2 port.Call (codes "r") ∷ event 5 3 1 2 port.Exit (codes "r") ∷ event 6 1 0 1 port.Exit (codes "p") ∷ []
unfolding visit visit_by visit_with
branch_events = refl

pub branch_ending : (run setup (name (codes "p")) 0 branch_program).ending ≡ Stopped
unfolding visit visit_by visit_with
branch_ending = refl

pub branch_steps : (run setup (name (codes "p")) 0 branch_program).world.steps ≡ 12
unfolding visit visit_by visit_with
branch_steps = refl

-- p :- ( q -> r ). q :- fail.
abbrev bare_program : World
bare_program =
    program (clause 0 (codes "p") (if_then (name (codes "q")) (name (codes "r"))) ∷ clause 1 (codes "q") (name (codes "fail")) ∷ [])

pub bare_events : events_of (run setup (name (codes "p")) 0 bare_program).turns
    ≡ event 1 1 0 1 port.Call (codes "p") ∷ event 2 2 1 2 port.Call (codes "q") ∷ event 3 2 1 2 port.Fail (codes "q")
    ∷ event 4 1 0 1 port.Fail (codes "p") ∷ []
unfolding visit visit_by visit_with
bare_events = refl

pub bare_ending : (run setup (name (codes "p")) 0 bare_program).ending ≡ Failed
unfolding visit visit_by visit_with
bare_ending = refl

pub bare_steps : (run setup (name (codes "p")) 0 bare_program).world.steps ≡ 10
unfolding visit visit_by visit_with
bare_steps = refl

-- p :- ( fail ; !, r ). p. r :- fail. The cut in a branch is one of the clause.
abbrev transparent_program : World
transparent_program =
    program (clause 0 (codes "p") (disjunction (name (codes "fail")) (conjunction (name (codes "!")) (name (codes "r"))))
    ∷ clause 1 (codes "p") (name (codes "true")) ∷ clause 2 (codes "r") (name (codes "fail")) ∷ [])

pub transparent_events : events_of (run setup (name (codes "p")) 0 transparent_program).turns
    ≡ event 1 1 0 1 port.Call (codes "p") ∷ event 2 2 1 2 port.Call (codes "r") ∷ event 3 2 1 2 port.Fail (codes "r")
    ∷ event 4 1 0 1 port.Fail (codes "p") ∷ []
unfolding visit visit_by visit_with
transparent_events = refl

pub transparent_ending : (run setup (name (codes "p")) 0 transparent_program).ending ≡ Failed
unfolding visit visit_by visit_with
transparent_ending = refl

pub transparent_steps : (run setup (name (codes "p")) 0 transparent_program).world.steps ≡ 12
unfolding visit visit_by visit_with
transparent_steps = refl

-- q. q. The goal is q, !.
abbrev top_program : World
top_program = program (clause 0 (codes "q") (name (codes "true")) ∷ clause 1 (codes "q") (name (codes "true")) ∷ [])

pub top_events : events_of (run all (conjunction (name (codes "q")) (name (codes "!"))) 0 top_program).turns
    ≡ event 1 1 0 1 port.Call (codes "q") ∷ event 2 1 0 1 port.Exit (codes "q") ∷ []
unfolding visit visit_by visit_with
top_events = refl

pub top_ending : (run all (conjunction (name (codes "q")) (name (codes "!"))) 0 top_program).ending ≡ Failed
unfolding visit visit_by visit_with
top_ending = refl

pub top_steps : (run all (conjunction (name (codes "q")) (name (codes "!"))) 0 top_program).world.steps ≡ 5
unfolding visit visit_by visit_with
top_steps = refl

-- p :- p.
abbrev loop_program : World
loop_program = program (clause 0 (codes "p") (name (codes "p")) ∷ [])

abbrev ten : Setup
ten = setup_for 10 1

pub loop_events : events_of (run ten (name (codes "p")) 0 loop_program).turns
    ≡ event 1 1 0 1 port.Call (codes "p") ∷ event 2 2 1 2 port.Call (codes "p") ∷ event 3 3 2 3 port.Call (codes "p")
    ∷ event 4 4 3 4 port.Call (codes "p") ∷ []
unfolding visit visit_by visit_with
loop_events = refl

pub loop_ending : (run ten (name (codes "p")) 0 loop_program).ending ≡ Spent
unfolding visit visit_by visit_with
loop_ending = refl

pub loop_steps : (run ten (name (codes "p")) 0 loop_program).world.steps ≡ 10
unfolding visit visit_by visit_with
loop_steps = refl

-- e(a,b). e(b,c). p(X,Z) :- e(X,Y), e(Y,Z).
abbrev pub two : Text → Term Text → Term Text → Term Text
two f a b = node f (arg a (arg b no_args))

abbrev edges : World
edges = program (record { id = 0; head = two (codes "e") (name (codes "a")) (name (codes "b")); body = name (codes "true"); variables = 0 }
    ∷ record { id = 1; head = two (codes "e") (name (codes "b")) (name (codes "c")); body = name (codes "true"); variables = 0 }
    ∷ record {
      id = 2;
      head = two (codes "p") (var 0) (var 1);
      body = conjunction (two (codes "e") (var 0) (var 2)) (two (codes "e") (var 2) (var 1));
      variables = 3;
    } ∷ [])

abbrev pub shown : ℕ → ℕ → ℕ → ℕ → Port → Term Text → Event
shown n k p d q g = record { chrono = n; call = k; parent = p; depth = d; port = q; goal = g }

-- p(a,W): the goal's variable is _0, those of p's clause are _1 to _3
pub edge_events : events_of (run setup (two (codes "p") (name (codes "a")) (var 0)) 1 edges).turns
    ≡ shown 1 1 0 1 port.Call (two (codes "p") (name (codes "a")) (var 0))
    ∷ shown 2 2 1 2 port.Call (two (codes "e") (name (codes "a")) (var 3))
    ∷ shown 3 2 1 2 port.Exit (two (codes "e") (name (codes "a")) (name (codes "b")))
    ∷ shown 4 3 1 2 port.Call (two (codes "e") (name (codes "b")) (var 0))
    ∷ shown 5 3 1 2 port.Exit (two (codes "e") (name (codes "b")) (name (codes "c")))
    ∷ shown 6 1 0 1 port.Exit (two (codes "p") (name (codes "a")) (name (codes "c"))) ∷ []
unfolding visit visit_by visit_with
edge_events = refl

pub edge_steps : (run setup (two (codes "p") (name (codes "a")) (var 0)) 1 edges).world.steps ≡ 26
unfolding visit visit_by visit_with
edge_steps = refl

-- s(X,f(X)). p :- s(Y,Y).
abbrev circle : World
circle =
    program (record {
      id = 0;
      head = two (codes "s") (var 0) (node (codes "f") (arg (var 0) no_args));
      body = name (codes "true");
      variables = 1;
    }
    ∷ record { id = 1; head = name (codes "p"); body = two (codes "s") (var 0) (var 0); variables = 1 } ∷ [])

pub circle_events : events_of (run setup (name (codes "p")) 0 circle).turns
    ≡ shown 1 1 0 1 port.Call (name (codes "p")) ∷ shown 2 2 1 2 port.Call (two (codes "s") (var 0) (var 0))
    ∷ shown 3 2 1 2 port.Fail (two (codes "s") (var 0) (var 0)) ∷ shown 4 1 0 1 port.Fail (name (codes "p")) ∷ []
unfolding visit visit_by visit_with
circle_events = refl

-- no procedure z
pub missing_events : events_of (run setup (name (codes "z")) 0 (program [])).turns
    ≡ event 1 1 0 1 port.Call (codes "z") ∷ event 2 1 0 1 port.Exception (codes "z") ∷ []
unfolding visit visit_by visit_with
missing_events = refl

pub missing_ending : (run setup (name (codes "z")) 0 (program [])).ending ≡ Thrown (no_procedure (codes "z") 0)
unfolding visit visit_by visit_with
missing_ending = refl

-- where the flag unknown is fail, it fails
abbrev unknown_fails : World
unknown_fails = loaded (record no_database { flags = record { quotes = Codes; unknown_fails = true } })

pub failing_events : events_of (run setup (name (codes "z")) 0 unknown_fails).turns
    ≡ event 1 1 0 1 port.Call (codes "z") ∷ event 2 1 0 1 port.Fail (codes "z") ∷ []
unfolding visit visit_by visit_with
failing_events = refl

-- :- dynamic z/0. A procedure without clauses fails.
abbrev dynamic_program : World
dynamic_program = loaded (set_procedure no_database (name_arity (codes "z") 0) no_clauses)

pub dynamic_events : events_of (run setup (name (codes "z")) 0 dynamic_program).turns
    ≡ event 1 1 0 1 port.Call (codes "z") ∷ event 2 1 0 1 port.Fail (codes "z") ∷ []
unfolding visit visit_by visit_with
dynamic_events = refl

pub dynamic_steps : (run setup (name (codes "z")) 0 dynamic_program).world.steps ≡ 1
unfolding visit visit_by visit_with
dynamic_steps = refl

-- A table of acts for these examples. `hello` writes five bytes, a step for each, taken before the first; `look` looks at the next two
-- bytes of the input, a step for each; `again` succeeds as often as it is executed; `make(X)` gives out a variable and binds X to it;
-- `late`
-- writes and fails.
abbrev looks : ℕ → World → World
looks n w = record w { looked = max w.looked (w.read + n) }

abbrev makes : Term Text → Bindings Text → World → Act
makes (node f (arg (var v) no_args)) σ w = done (record w { variables = w.variables + 1 }) (Succeeds ((v, var w.variables) ∷ σ))
makes t σ w = done w Fails

abbrev example_act : ℕ → Execution → Term Text → Bindings Text → World → Act
example_act left n g σ w =
    if term_eq text_eq g (name (codes "hello"))
    then pay 5 left w (λ l. done (record w { output = w.output ++ codes "hello" }) (Succeeds σ)) else
    if term_eq text_eq g (name (codes "look")) then pay 1 left w (λ l. pay 1 l (looks 1 w) (λ m. done (looks 2 w) (Succeeds σ))) else
    if term_eq text_eq g (name (codes "again")) then done w (Succeeds_again σ Repeated) else
    if term_eq text_eq g (name (codes "late")) then done (record w { output = w.output ++ codes "late" }) Fails else
    makes g σ w

abbrev example_setup : ℕ → ℕ → Setup
example_setup budget wanted = record { budget = budget; wanted = wanted; act = example_act }

abbrev hello : Term Text
hello = name (codes "hello")

abbrev look : Term Text
look = name (codes "look")

-- with two bytes of input
abbrev two_bytes : World
two_bytes = record (program []) { input = codes "ab" }

pub hello_events : events_of (run (example_setup 6 1) hello 0 (program [])).turns
    ≡ event 1 1 0 1 port.Call (codes "hello") ∷ event 2 1 0 1 port.Exit (codes "hello") ∷ []
unfolding visit visit_by visit_with
hello_events = refl

pub hello_output : (run (example_setup 6 1) hello 0 (program [])).world.output ≡ codes "hello"
unfolding visit visit_by visit_with
hello_output = refl

-- a step less, and nothing is written
pub hello_cut_off : (run (example_setup 5 1) hello 0 (program [])).ending ≡ Spent
unfolding visit visit_by visit_with
hello_cut_off = refl

pub hello_unwritten : (run (example_setup 5 1) hello 0 (program [])).world.output ≡ []
unfolding visit visit_by visit_with
hello_unwritten = refl

-- the step for the first byte was there, and not that for the second
pub look_cut_off : (run (example_setup 2 1) look 0 two_bytes).ending ≡ Spent
unfolding visit visit_by visit_with
look_cut_off = refl

pub look_half_done : (run (example_setup 2 1) look 0 two_bytes).world.looked ≡ 1
unfolding visit visit_by visit_with
look_half_done = refl

pub look_done : (run (example_setup 3 1) look 0 two_bytes).world.looked ≡ 2
unfolding visit visit_by visit_with
look_done = refl

-- the goal is again, fail: executed again on backtracking, a step for each further execution, until the budget is spent
pub again_events : events_of (run (example_setup 5 1) (conjunction (name (codes "again")) (name (codes "fail"))) 0 (program [])).turns
    ≡ event 1 1 0 1 port.Call (codes "again") ∷ event 2 1 0 1 port.Exit (codes "again") ∷ event 3 1 0 1 port.Redo (codes "again")
    ∷ event 4 1 0 1 port.Exit (codes "again") ∷ event 5 1 0 1 port.Redo (codes "again") ∷ []
unfolding visit visit_by visit_with
again_events = refl

pub again_ending : (run (example_setup 5 1) (conjunction (name (codes "again")) (name (codes "fail"))) 0 (program [])).ending ≡ Spent
unfolding visit visit_by visit_with
again_ending = refl

-- what looks at the same bytes again costs again and adds nothing
pub look_twice : (run (example_setup 100 1) (conjunction look look) 0 two_bytes).world.looked ≡ 2
unfolding visit visit_by visit_with
look_twice = refl

pub look_twice_steps : (run (example_setup 100 1) (conjunction look look) 0 two_bytes).world.steps ≡ 7
unfolding visit visit_by visit_with
look_twice_steps = refl

-- what was written stays written when the goal fails, and at each place stands what was written by then
abbrev written_run : Run
written_run = run (example_setup 100 1) (disjunction (name (codes "late")) hello) 0 (program [])

pub written_after_failure : output_at written_run 3 ≡ codes "late"
unfolding visit visit_by visit_with
written_after_failure = refl

pub written_before : output_at written_run 1 ≡ []
unfolding visit visit_by visit_with
written_before = refl

pub written_at_the_end : output_at written_run 5 ≡ codes "latehello"
unfolding visit visit_by visit_with
written_at_the_end = refl

-- the goal is again, !: the cut drops the further executions, and nothing is redone
pub again_cut : events_of (run (example_setup 100 0) (conjunction (name (codes "again")) (name (codes "!"))) 0 (program [])).turns
    ≡ event 1 1 0 1 port.Call (codes "again") ∷ event 2 1 0 1 port.Exit (codes "again") ∷ []
unfolding visit visit_by visit_with
again_cut = refl

-- the goal is make(X), z(X), with X the variable 0: the call and the exit show it under their own bindings, and numbers are given once
pub make_events : events_of (run (example_setup 100 1)
    (conjunction (node (codes "make") (arg (var 0) no_args)) (node (codes "z") (arg (var 0) no_args))) 1
    (program (record { id = 0; head = node (codes "z") (arg (var 0) no_args); body = name (codes "true"); variables = 1 } ∷ []))).turns
    ≡ shown 1 1 0 1 port.Call (node (codes "make") (arg (var 0) no_args))
    ∷ shown 2 1 0 1 port.Exit (node (codes "make") (arg (var 1) no_args))
    ∷ shown 3 2 0 1 port.Call (node (codes "z") (arg (var 1) no_args))
    ∷ shown 4 2 0 1 port.Exit (node (codes "z") (arg (var 1) no_args)) ∷ []
unfolding visit visit_by visit_with
make_events = refl

-- a run that may take the ten steps that it needs, and one that may take nine
pub ten_steps : (run (setup_for 10 1) (name (codes "a")) 0 first_program).ending ≡ Stopped
unfolding visit visit_by visit_with
ten_steps = refl

pub nine_steps : (run (setup_for 9 1) (name (codes "a")) 0 first_program).ending ≡ Spent
unfolding visit visit_by visit_with
nine_steps = refl

-- both solutions of e(X,Y) are turns, with the bindings and the count of each
abbrev edges_of_all : List Turn
edges_of_all = (run all (two (codes "e") (var 0) (var 1)) 2 edges).turns

abbrev solutions_of : List Turn → List (Term Text × ℕ)
solutions_of [] = []
solutions_of (Shown e w ∷ ts) = solutions_of ts
solutions_of (Solved σ w ∷ ts) = (apply σ (two (codes "e") (var 0) (var 1)), w.solutions) ∷ solutions_of ts

pub edge_solutions : solutions_of edges_of_all
    ≡ (two (codes "e") (name (codes "a")) (name (codes "b")), 1) ∷ (two (codes "e") (name (codes "b")) (name (codes "c")), 2) ∷ []
unfolding visit visit_by visit_with
edge_solutions = refl

-- Goals as arguments, and balls.
abbrev pub one : Text → Term Text → Term Text
one f a = node f (arg a no_args)

abbrev call_one : Term Text → Term Text
call_one g = one (codes "call") g

-- call((fail,1)): a part that is no goal is refused before any other runs
abbrev no_body : Term Text
no_body = conjunction (name (codes "fail")) (int (pos 1))

pub refused_events : events_of (run setup (call_one no_body) 0 (program [])).turns
    ≡ shown 1 1 0 1 port.Call (call_one no_body) ∷ shown 2 1 0 1 port.Exception (call_one no_body) ∷ []
unfolding visit visit_by visit_with
refused_events = refl

pub refused_ending : (run setup (call_one no_body) 0 (program [])).ending ≡ Thrown (type_error (codes "callable") no_body)
unfolding visit visit_by visit_with
refused_ending = refl

pub refused_steps : (run setup (call_one no_body) 0 (program [])).world.steps ≡ 11
unfolding visit visit_by visit_with
refused_steps = refl

-- halt(3): no further event
pub halt_events : events_of (run setup (one (codes "halt") (int (pos 3))) 0 (program [])).turns
    ≡ shown 1 1 0 1 port.Call (one (codes "halt") (int (pos 3))) ∷ []
unfolding visit visit_by visit_with
halt_events = refl

pub halt_ending : (run setup (one (codes "halt") (int (pos 3))) 0 (program [])).ending ≡ Halted (pos 3)
unfolding visit visit_by visit_with
halt_ending = refl

pub halt_steps : (run setup (one (codes "halt") (int (pos 3))) 0 (program [])).world.steps ≡ 1
unfolding visit visit_by visit_with
halt_steps = refl

-- a. The goal is \+ a.
abbrev fact_program : World
fact_program = program (clause 0 (codes "a") (name (codes "true")) ∷ [])

abbrev not_a : Term Text
not_a = one (codes "\\+") (name (codes "a"))

pub not_events : events_of (run setup not_a 0 fact_program).turns
    ≡ shown 1 1 0 1 port.Call not_a ∷ event 2 2 1 2 port.Call (codes "a") ∷ event 3 2 1 2 port.Exit (codes "a")
    ∷ shown 4 1 0 1 port.Fail not_a ∷ []
unfolding visit visit_by visit_with
not_events = refl

pub not_steps : (run setup not_a 0 fact_program).world.steps ≡ 7
unfolding visit visit_by visit_with
not_steps = refl

-- nosuch(1)
pub nosuch_steps : (run setup (one (codes "nosuch") (int (pos 1))) 0 (program [])).world.steps ≡ 8
unfolding visit visit_by visit_with
nosuch_steps = refl

-- throw(f(X,X)), and throw(X)
pub ball_ending : (run setup (one (codes "throw") (two (codes "f") (var 0) (var 0))) 1 (program [])).ending
    ≡ Thrown (two (codes "f") (var 1) (var 1))
unfolding visit visit_by visit_with
ball_ending = refl

pub ball_steps : (run setup (one (codes "throw") (two (codes "f") (var 0) (var 0))) 1 (program [])).world.steps ≡ 4
unfolding visit visit_by visit_with
ball_steps = refl

pub no_ball_ending : (run setup (one (codes "throw") (var 0)) 1 (program [])).ending ≡ Thrown instantiation_error
unfolding visit visit_by visit_with
no_ball_ending = refl

-- call(write(x)), where write/1 has no procedure
abbrev written : Term Text
written = one (codes "write") (name (codes "x"))

pub write_events : events_of (run setup (call_one written) 0 (program [])).turns
    ≡ shown 1 1 0 1 port.Call (call_one written) ∷ shown 2 2 1 2 port.Call written ∷ shown 3 2 1 2 port.Exception written
    ∷ shown 4 1 0 1 port.Exception (call_one written) ∷ []
unfolding visit visit_by visit_with
write_events = refl

pub write_steps : (run setup (call_one written) 0 (program [])).world.steps ≡ 10
unfolding visit visit_by visit_with
write_steps = refl

-- e(X,X). q(_). The goal is e(A,1), e(G,q(f(A))), call(G): what a leaf is bound to is followed, and nothing below it is touched.
abbrev followed_program : World
followed_program =
    program (record { id = 0; head = two (codes "e") (var 0) (var 0); body = name (codes "true"); variables = 1 }
    ∷ record { id = 1; head = one (codes "q") (var 0); body = name (codes "true"); variables = 1 } ∷ [])

abbrev q_of : Term Text → Term Text
q_of t = one (codes "q") (one (codes "f") t)

abbrev followed_goal : Term Text
followed_goal =
    conjunction (two (codes "e") (var 0) (int (pos 1)))
    (conjunction (two (codes "e") (var 2) (q_of (var 0))) (call_one (var 2)))

pub followed_events : events_of (run setup followed_goal 3 followed_program).turns
    ≡ shown 1 1 0 1 port.Call (two (codes "e") (var 0) (int (pos 1))) ∷ shown 2 1 0 1 port.Exit (two (codes "e") (int (pos 1))
    (int (pos 1)))
    ∷ shown 3 2 0 1 port.Call (two (codes "e") (var 2) (q_of (int (pos 1))))
    ∷ shown 4 2 0 1 port.Exit (two (codes "e") (q_of (int (pos 1))) (q_of (int (pos 1))))
    ∷ shown 5 3 0 1 port.Call (call_one (q_of (int (pos 1)))) ∷ shown 6 4 3 2 port.Call (q_of (int (pos 1)))
    ∷ shown 7 4 3 2 port.Exit (q_of (int (pos 1))) ∷ shown 8 3 0 1 port.Exit (call_one (q_of (int (pos 1)))) ∷ []
unfolding visit visit_by visit_with
followed_events = refl

pub followed_steps : (run setup followed_goal 3 followed_program).world.steps ≡ 29
unfolding visit visit_by visit_with
followed_steps = refl

-- q. q. The goal is q, throw(x): a box that has exited gives no exception, also with alternatives left.
pub exited_events : events_of (run setup (conjunction (name (codes "q")) (one (codes "throw") (name (codes "x")))) 0 top_program).turns
    ≡ event 1 1 0 1 port.Call (codes "q") ∷ event 2 1 0 1 port.Exit (codes "q")
    ∷ shown 3 2 0 1 port.Call (one (codes "throw") (name (codes "x"))) ∷ shown 4 2 0 1 port.Exception (one (codes "throw") (name
    (codes "x"))) ∷ []
unfolding visit visit_by visit_with
exited_events = refl

pub exited_steps : (run setup (conjunction (name (codes "q")) (one (codes "throw") (name (codes "x")))) 0 top_program).world.steps ≡ 6
unfolding visit visit_by visit_with
exited_steps = refl

-- call((q,!)), all solutions: the cut is local to the box
abbrev local_cut : Term Text
local_cut = call_one (conjunction (name (codes "q")) (name (codes "!")))

pub local_events : events_of (run all local_cut 0 top_program).turns
    ≡ shown 1 1 0 1 port.Call local_cut ∷ event 2 2 1 2 port.Call (codes "q") ∷ event 3 2 1 2 port.Exit (codes "q")
    ∷ shown 4 1 0 1 port.Exit local_cut ∷ shown 5 1 0 1 port.Redo local_cut ∷ shown 6 1 0 1 port.Fail local_cut ∷ []
unfolding visit visit_by visit_with
local_events = refl

-- q, call(!), all solutions: the cut leaves the second q
pub outer_steps : (run all (conjunction (name (codes "q")) (call_one (name (codes "!")))) 0 top_program).world.steps ≡ 12
unfolding visit visit_by visit_with
outer_steps = refl

pub outer_events : (run all (conjunction (name (codes "q")) (call_one (name (codes "!")))) 0 top_program).world.events ≡ 14
unfolding visit visit_by visit_with
outer_events = refl

-- once(true) and once(fail): what stands around the goal isn't converted, but it is selected
pub once_steps : (run setup (one (codes "once") (name (codes "true"))) 0 (program [])).world.steps ≡ 5
unfolding visit visit_by visit_with
once_steps = refl

pub once_failed_steps : (run setup (one (codes "once") (name (codes "fail"))) 0 (program [])).world.steps ≡ 6
unfolding visit visit_by visit_with
once_failed_steps = refl

-- call((true,X)): a variable is a call of its own
pub variable_ending : (run setup (call_one (conjunction (name (codes "true")) (var 0))) 1 (program [])).ending ≡ Thrown instantiation_error
unfolding visit visit_by visit_with
variable_ending = refl

pub variable_steps : (run setup (call_one (conjunction (name (codes "true")) (var 0))) 1 (program [])).world.steps ≡ 10
unfolding visit visit_by visit_with
variable_steps = refl

-- call(',',a,fail): the goal with its added arguments is a control construct
pub added_steps : (run setup (node (codes "call") (arg (name (codes ",")) (arg (name (codes "a")) (arg (name (codes "fail")) no_args)))) 0
    fact_program).world.steps ≡ 9
unfolding visit visit_by visit_with
added_steps = refl

-- call(call,1): the culprit is the number
pub called_call_ending : (run setup (two (codes "call") (name (codes "call")) (int (pos 1))) 0 (program [])).ending
    ≡ Thrown (type_error (codes "callable") (int (pos 1)))
unfolding visit visit_by visit_with
called_call_ending = refl

-- budgets that end in a conversion, and in the copy of a ball, which then has given out no variable
pub spent_converting : (run (setup_for 3 1) (call_one no_body) 0 (program [])).ending ≡ Spent
unfolding visit visit_by visit_with
spent_converting = refl

pub spent_in_ball : (run (setup_for 10 1) (call_one no_body) 0 (program [])).ending ≡ Spent
unfolding visit visit_by visit_with
spent_in_ball = refl

pub spent_ball_variables : (run (setup_for 3 1) (one (codes "throw") (two (codes "f") (var 0) (var 0))) 1 (program [])).world.variables ≡ 1
unfolding visit visit_by visit_with
spent_ball_variables = refl
