-- Balls that are caught, by computation (ISO/IEC 13211-1, 7.8.9).
use Rattle.std.specs.Prelude.{◌≡◌, [], ◌∷◌, codes, refl}
use Rattle.op_logic.specs.Term.{Term, var, node, no_args, arg}
use Rattle.op_trace.specs.declared.port.Port.TheVariants as port
use Rattle.op_trace.specs.Database.{Text}
use Rattle.op_trace.specs.World.{World}
use Rattle.op_trace.specs.Ending.{Stopped, Thrown}
use Rattle.op_trace.specs.Visit.{visit, visit_by, visit_with}
use Rattle.op_trace.specs.Run.{run, events_of}
use Rattle.op_trace.specs.Examples.{name, conjunction, clause, program, event, setup, one, shown}

abbrev catch : Term Text → Term Text → Term Text → Term Text
catch g c r = node (codes "catch") (arg g (arg c (arg r no_args)))

abbrev throw_x : Term Text
throw_x = one (codes "throw") (name (codes "x"))

-- p :- catch(q,E,h(E)). q :- s, throw(x). s. h(_).
abbrev recovered : Term Text → Term Text
recovered e = catch (name (codes "q")) e (one (codes "h") e)

abbrev recovery_program : World
recovery_program =
    program (record { id = 0; head = name (codes "p"); body = recovered (var 0); variables = 1 }
    ∷ clause 1 (codes "q") (conjunction (name (codes "s")) throw_x) ∷ clause 2 (codes "s") (name (codes "true"))
    ∷ record { id = 3; head = one (codes "h") (var 0); body = name (codes "true"); variables = 1 } ∷ [])

pub recovery_events : events_of (run setup (name (codes "p")) 0 recovery_program).turns
    ≡ event 1 1 0 1 port.Call (codes "p") ∷ shown 2 2 1 2 port.Call (recovered (var 0)) ∷ event 3 3 2 3 port.Call (codes "q")
    ∷ event 4 4 3 4 port.Call (codes "s") ∷ event 5 4 3 4 port.Exit (codes "s") ∷ shown 6 5 3 4 port.Call throw_x
    ∷ shown 7 5 3 4 port.Exception throw_x ∷ event 8 3 2 3 port.Exception (codes "q")
    ∷ shown 9 6 2 3 port.Call (one (codes "h") (name (codes "x"))) ∷ shown 10 6 2 3 port.Exit (one (codes "h") (name (codes "x")))
    ∷ shown 11 2 1 2 port.Exit (recovered (name (codes "x"))) ∷ event 12 1 0 1 port.Exit (codes "p") ∷ []
unfolding visit visit_by visit_with
recovery_events = refl

pub recovery_ending : (run setup (name (codes "p")) 0 recovery_program).ending ≡ Stopped
unfolding visit visit_by visit_with
recovery_ending = refl

pub recovery_steps : (run setup (name (codes "p")) 0 recovery_program).world.steps ≡ 25
unfolding visit visit_by visit_with
recovery_steps = refl

-- p :- catch(throw(x),x,throw(x)). A catch doesn't protect its own recovery.
abbrev thrown_again : Term Text
thrown_again = catch throw_x (name (codes "x")) throw_x

abbrev again_program : World
again_program = program (clause 0 (codes "p") thrown_again ∷ [])

pub again_events : events_of (run setup (name (codes "p")) 0 again_program).turns
    ≡ event 1 1 0 1 port.Call (codes "p") ∷ shown 2 2 1 2 port.Call thrown_again ∷ shown 3 3 2 3 port.Call throw_x
    ∷ shown 4 3 2 3 port.Exception throw_x ∷ shown 5 4 2 3 port.Call throw_x ∷ shown 6 4 2 3 port.Exception throw_x
    ∷ shown 7 2 1 2 port.Exception thrown_again ∷ event 8 1 0 1 port.Exception (codes "p") ∷ []
unfolding visit visit_by visit_with
again_events = refl

pub again_ending : (run setup (name (codes "p")) 0 again_program).ending ≡ Thrown (name (codes "x"))
unfolding visit visit_by visit_with
again_ending = refl

-- catch((!,throw(x)),x,true). A cut in its goal leaves the catch.
abbrev cut_inside : Term Text
cut_inside = catch (conjunction (name (codes "!")) throw_x) (name (codes "x")) (name (codes "true"))

pub inside_events : events_of (run setup cut_inside 0 (program [])).turns
    ≡ shown 1 1 0 1 port.Call cut_inside ∷ shown 2 2 1 2 port.Call throw_x ∷ shown 3 2 1 2 port.Exception throw_x
    ∷ shown 4 1 0 1 port.Exit cut_inside ∷ []
unfolding visit visit_by visit_with
inside_events = refl

pub inside_steps : (run setup cut_inside 0 (program [])).world.steps ≡ 12
unfolding visit visit_by visit_with
inside_steps = refl

-- p :- catch(q,x,true), throw(x). q. A catch that has exited doesn't catch.
abbrev exited : Term Text
exited = catch (name (codes "q")) (name (codes "x")) (name (codes "true"))

abbrev exited_program : World
exited_program =
    program (clause 0 (codes "p") (conjunction exited throw_x) ∷ clause 1 (codes "q") (name (codes "true")) ∷ [])

pub exited_events : events_of (run setup (name (codes "p")) 0 exited_program).turns
    ≡ event 1 1 0 1 port.Call (codes "p") ∷ shown 2 2 1 2 port.Call exited ∷ event 3 3 2 3 port.Call (codes "q")
    ∷ event 4 3 2 3 port.Exit (codes "q") ∷ shown 5 2 1 2 port.Exit exited ∷ shown 6 4 1 2 port.Call throw_x
    ∷ shown 7 4 1 2 port.Exception throw_x ∷ event 8 1 0 1 port.Exception (codes "p") ∷ []
unfolding visit visit_by visit_with
exited_events = refl

pub exited_ending : (run setup (name (codes "p")) 0 exited_program).ending ≡ Thrown (name (codes "x"))
unfolding visit visit_by visit_with
exited_ending = refl

-- catch(throw(x),y,true). A ball that isn't unified with the catcher leaves the catch.
abbrev uncaught : Term Text
uncaught = catch throw_x (name (codes "y")) (name (codes "true"))

pub uncaught_events : events_of (run setup uncaught 0 (program [])).turns
    ≡ shown 1 1 0 1 port.Call uncaught ∷ shown 2 2 1 2 port.Call throw_x ∷ shown 3 2 1 2 port.Exception throw_x
    ∷ shown 4 1 0 1 port.Exception uncaught ∷ []
unfolding visit visit_by visit_with
uncaught_events = refl

pub uncaught_ending : (run setup uncaught 0 (program [])).ending ≡ Thrown (name (codes "x"))
unfolding visit visit_by visit_with
uncaught_ending = refl

pub uncaught_steps : (run setup uncaught 0 (program [])).world.steps ≡ 5
unfolding visit visit_by visit_with
uncaught_steps = refl
