-- Commands over small runs, whose events are written out, by computation.
use Rattle.std.specs.Prelude.{◌≡◌, ℕ, zero, suc, ◌+◌, ◌-◌, pos, negsuc, false, List, [], ◌∷◌, codes, refl}
use Rattle.std.specs.Prelude.{Option, Some, None}
use Rattle.std.specs.Fmt.{digits}
use Rattle.op_logic.specs.Term.{Term, var, int, node, no_args, arg, atom}
use Rattle.op_term.specs.Ops.{iso_table, iso_operators}
use Rattle.op_term.specs.declared.quotes.DoubleQuotes.TheVariants.{Codes}
use Rattle.op_trace.specs.declared.port.Port.{Port}
use Rattle.op_trace.specs.declared.port.Port.TheVariants as port
use Rattle.op_trace.specs.Database.{Text}
use Rattle.op_trace.specs.World.{World, Event, Turn, Shown, loaded}
use Rattle.op_trace.specs.Ending.{Ending}
use Rattle.op_trace.specs.Ending as ending
use Rattle.op_moves.specs.Moves.{Stand}
use Rattle.op_store.specs.Load.{Query, query}
use Rattle.op_session.specs.declared.command.Command.{Command}
use Rattle.op_session.specs.Traced.{Traced}
use Rattle.op_session.specs.Commands.{command_in, replies, reply_text}

abbrev event : ℕ → ℕ → ℕ → ℕ → Port → Text → Event
event n k p d q f = record { chrono = n; call = k; parent = p; depth = d; port = q; goal = atom f }

abbrev world : World
world = loaded (record { procedures = []; next = 0; table = iso_table; flags = record { quotes = Codes; unknown_fails = false } })

abbrev turns : List Event → List Turn
turns [] = []
turns (e ∷ es) = Shown e world ∷ turns es

abbrev traced : List Event → Ending → Traced
traced es e = record { run = record { turns = turns es; ending = e; world = world }; table = iso_table }

abbrev standing : ℕ → ℕ → Stand
standing p f = record { place = p; furthest = f }

-- what is said to a goal, and where the user stands then
abbrev said_by : Traced → Stand → Query → Option Command → List ℕ × Stand
said_by t s q None = (codes "none", s)
said_by t s q (Some c) = (reply_text t s q.names (replies t s q c), (replies t s q c).stand)

abbrev said : Traced → Stand → Term Text → List (Text × ℕ) → List ℕ × Stand
said t s g names = said_by t s (query g g names) (command_in g)

abbrev with : Text → Term Text → Term Text
with f t = node f (arg t no_args)

-- p :- q, r. q. q. r :- fail.
abbrev failing : Traced
failing = traced
    (event 1 1 0 1 port.Call (codes "p") ∷ event 2 2 1 2 port.Call (codes "q") ∷ event 3 2 1 2 port.Exit (codes "q")
    ∷ event 4 3 1 2 port.Call (codes "r") ∷ event 5 3 1 2 port.Fail (codes "r") ∷ event 6 2 1 2 port.Redo (codes "q")
    ∷ event 7 2 1 2 port.Exit (codes "q") ∷ event 8 4 1 2 port.Call (codes "r") ∷ event 9 4 1 2 port.Fail (codes "r")
    ∷ event 10 2 1 2 port.Redo (codes "q") ∷ event 11 2 1 2 port.Fail (codes "q") ∷ event 12 1 0 1 port.Fail (codes "p") ∷ []) ending.Failed

-- goto(8). parent. parent. finish. retry. retry.
pub a_place : said failing (standing 0 0) (with (codes "goto") (int (pos 8))) [] ≡ (codes "8 4 2 call r\nyes\n", standing 8 8)
unfolding digits
a_place = refl

pub its_parent : said failing (standing 8 8) (atom (codes "parent")) [] ≡ (codes "1 1 1 call p\nyes\n", standing 1 8)
unfolding digits
its_parent = refl

pub no_parent : said failing (standing 1 8) (atom (codes "parent")) [] ≡ (codes "no\n", standing 1 8)
no_parent = refl

pub the_end_of_a_box : said failing (standing 1 8) (atom (codes "finish")) [] ≡ (codes "12 1 1 fail p\nyes\n", standing 12 12)
unfolding digits
the_end_of_a_box = refl

pub its_call : said failing (standing 12 12) (atom (codes "retry")) [] ≡ (codes "1 1 1 call p\nyes\n", standing 1 12)
unfolding digits
its_call = refl

pub in_place : said failing (standing 1 12) (atom (codes "retry")) [] ≡ (codes "yes\n", standing 1 12)
in_place = refl

pub the_last_event : said failing (standing 1 12) (atom (codes "last")) [] ≡ (codes "12 1 1 fail p\nyes\n", standing 12 13)
unfolding digits
the_last_event = refl

pub the_one_before : said failing (standing 1 12) (atom (codes "prev")) [] ≡ (codes "0 start\nyes\n", standing 0 12)
the_one_before = refl

pub none_before : said failing (standing 0 12) (atom (codes "prev")) [] ≡ (codes "no\n", standing 0 12)
none_before = refl

pub the_next_one : said failing (standing 0 12) (atom (codes "next")) [] ≡ (codes "1 1 1 call p\nyes\n", standing 1 12)
unfolding digits
the_next_one = refl

pub no_box_at_the_start : said failing (standing 0 12) (atom (codes "finish")) [] ≡ (codes "no\n", standing 0 12)
no_box_at_the_start = refl

-- event(_,_,_,_,call,r), and one with a name
abbrev a_call_of_r : Term Text
a_call_of_r =
    node (codes "event") (arg (var 0) (arg (var 1) (arg (var 2) (arg (var 3) (arg (atom (codes "call")) (arg (atom (codes "r"))
    no_args))))))

pub the_last_call : said failing (standing 12 13) (with (codes "seek_back") a_call_of_r) [] ≡ (codes "8 4 2 call r\nyes\n", standing 8 13)
unfolding digits
the_last_call = refl

pub nothing_is_bound :
    said failing (standing 0 0) (with (codes "seek") a_call_of_r) ((codes "_C", 0) ∷ (codes "K", 1) ∷ [])
    ≡ (codes "K = _1\n4 3 2 call r\nyes\n", standing 4 4)
unfolding iso_table iso_operators digits
nothing_is_bound = refl

pub past_the_last : said failing (standing 8 13) (with (codes "goto") (int (pos 13))) [] ≡ (codes "no\n", standing 8 13)
past_the_last = refl

pub the_start : said failing (standing 8 13) (atom (codes "first")) [] ≡ (codes "0 start\nyes\n", standing 0 13)
the_start = refl

-- arguments that are refused
pub no_number :
    said failing (standing 8 8) (with (codes "goto") (var 0)) ((codes "N", 0) ∷ [])
    ≡ (codes "thrown error(instantiation_error,opium)\n", standing 8 8)
unfolding iso_table iso_operators
no_number = refl

pub a_name :
    said failing (standing 8 8) (with (codes "goto") (with (codes "f") (var 0))) []
    ≡ (codes "thrown error(type_error(integer,f(_1)),opium)\n", standing 8 8)
unfolding iso_table iso_operators digits
a_name = refl

pub below_zero :
    said failing (standing 8 8) (with (codes "goto") (int (negsuc 0))) []
    ≡ (codes "thrown error(domain_error(not_less_than_zero,-1),opium)\n", standing 8 8)
unfolding iso_table iso_operators digits
below_zero = refl

pub no_pattern :
    said failing (standing 8 8) (with (codes "seek") (atom (codes "foo"))) []
    ≡ (codes "thrown error(domain_error(event_pattern,foo),opium)\n", standing 8 8)
unfolding iso_table iso_operators
no_pattern = refl

pub any_pattern :
    said failing (standing 8 8) (with (codes "seek") (var 0)) []
    ≡ (codes "thrown error(instantiation_error,opium)\n", standing 8 8)
unfolding iso_table iso_operators
any_pattern = refl

pub no_command : command_in (with (codes "next") (var 0)) ≡ None
no_command = refl

-- p :- q, r. q :- s. s. r :- fail. The parent of a box is the one with its number, which need not be called last at the depth above.
abbrev nested : Traced
nested = traced
    (event 1 1 0 1 port.Call (codes "p") ∷ event 2 2 1 2 port.Call (codes "q") ∷ event 3 3 2 3 port.Call (codes "s")
    ∷ event 4 3 2 3 port.Exit (codes "s") ∷ event 5 2 1 2 port.Exit (codes "q") ∷ event 6 4 1 2 port.Call (codes "r")
    ∷ event 7 4 1 2 port.Fail (codes "r") ∷ event 8 2 1 2 port.Redo (codes "q") ∷ event 9 3 2 3 port.Redo (codes "s")
    ∷ event 10 3 2 3 port.Fail (codes "s") ∷ event 11 2 1 2 port.Fail (codes "q") ∷ event 12 1 0 1 port.Fail (codes "p") ∷ []) ending.Failed

pub its_parent_by_number : said nested (standing 9 9) (atom (codes "parent")) [] ≡ (codes "2 2 2 call q\nyes\n", standing 2 9)
unfolding digits
its_parent_by_number = refl

-- p :- p. of which 34 calls are made in 100 steps
abbrev calls_of_p : ℕ → ℕ → List Event
calls_of_p k zero = []
calls_of_p k (suc n) = event k k (k - 1) k port.Call (codes "p") ∷ calls_of_p (k + 1) n

pub past_the_budget :
    said (traced (calls_of_p 1 34) ending.Spent) (standing 34 34) (with (codes "goto") (int (pos 35))) []
    ≡ (codes "thrown trace_budget\n", standing 34 35)
unfolding iso_table iso_operators
past_the_budget = refl

pub the_last_within : said (traced (calls_of_p 1 34) ending.Spent) (standing 0 0) (with (codes "goto") (int (pos 34))) []
    ≡ (codes "34 34 34 call p\nyes\n", standing 34 34)
unfolding digits
the_last_within = refl

pub no_last : said (traced (calls_of_p 1 34) ending.Spent) (standing 34 35) (atom (codes "last")) [] ≡ (codes "thrown trace_budget\n", standing 34 35)
unfolding iso_table iso_operators
no_last = refl
