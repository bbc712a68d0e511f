-- Small texts that are loaded, goals and commands.
use Rattle.std.specs.Prelude.{◌≡◌, ℕ, pos, true, false, List, [], ◌∷◌, Some, None, Ok, Err, codes, refl}
use Rattle.op_logic.specs.Term.{Term, var, int, node, atom, no_args, arg}
use Rattle.op_term.specs.Ops.{iso_table, iso_operators}
use Rattle.op_trace.specs.Database.{Clause, Text}
use Rattle.op_term.specs.declared.quotes.DoubleQuotes.TheVariants.{Codes}
use Rattle.op_reader.specs.declared.fault.ReadFaultKind.TheVariants.{NoEnd, NoOperand, Priority}
use Rattle.op_reader.specs.Reading.{reading_of}
use Rattle.op_reader.specs.Row.{tree_of}
use Rattle.op_store.specs.declared.names.locked.Locked.TheVariants.{Program, Analysis}
use Rattle.op_trace.specs.Database.{Indicator, Database, name_arity, Procedure, no_clauses}
use Rattle.op_store.specs.Locked.{builtins, commands}
use Rattle.op_store.specs.Fault.{Fault, syntax, trailing, head, body, locked, directive}
use Rattle.op_store.specs.Load.{Loaded, stopped, load_from, load_text, query, goal_of, goal_in, command_of, unreadable}

abbrev start : Database
start = record { procedures = []; next = 0; table = iso_table; flags = record { quotes = Codes; unknown_fails = false } }

abbrev load : List ℕ → Loaded
load text = load_text Program start text

abbrev a : Term Text
a = atom (codes "a")

abbrev one : List ℕ → Term Text → Term Text
one f t = node f (arg t no_args)

abbrev two : List ℕ → Term Text → Term Text → Term Text
two f t u = node f (arg t (arg u no_args))

abbrev clause : ℕ → Term Text → Term Text → ℕ → Clause
clause id h b n = record { id = id; head = h; body = b; variables = n }

abbrev static : List Clause → Procedure
static cs = record { dynamic = false; clauses = cs }

abbrev truth : Term Text
truth = atom (codes "true")

-- the world at first with these procedures, and the number of the next clause
abbrev made : List (Indicator × Procedure) → ℕ → Database
made ps n = record start { procedures = ps; next = n }

-- what was found
abbrev fault_of : Loaded → ℕ → Fault → Type 0
fault_of l line f = l.found ≡ Some (record { line = line; fault = f })

pub two_clauses : (load (codes "a. p(X) :- X.")).world
    ≡ made ((name_arity (codes "a") 0, static (clause 0 a truth 0 ∷ []))
    ∷ (name_arity (codes "p") 1, static (clause 1 (one (codes "p") (var 0)) (one (codes "call") (var 0)) 1 ∷ [])) ∷ []) 2
unfolding load_from reading_of iso_table iso_operators tree_of builtins commands
two_clauses = refl

pub two_necks : fault_of (load (codes "a :- b :- c.")) 1 (syntax Priority)
unfolding load_from reading_of iso_table iso_operators tree_of builtins commands
two_necks = refl

-- the operators of the moment
pub an_operator : (load (codes ":- op(700,xfx,===>). p(a ===> a).")).world.procedures
    ≡ (name_arity (codes "p") 1, static (clause 0 (one (codes "p") (two (codes "===>") a a)) truth 0 ∷ [])) ∷ []
unfolding load_from reading_of iso_table iso_operators tree_of builtins commands
an_operator = refl

pub an_operator_too_late : fault_of (load (codes "p(a ===> a).\n:- op(700,xfx,===>).")) 1 (syntax NoOperand)
unfolding load_from reading_of iso_table iso_operators tree_of builtins commands
an_operator_too_late = refl

pub a_dynamic_procedure : (load (codes ":- dynamic q/1, r/0.\nq(1).")).world.procedures
    ≡ (name_arity (codes "q") 1, record { dynamic = true; clauses = clause 0 (one (codes "q") (int (pos 1))) truth 0 ∷ [] })
    ∷ (name_arity (codes "r") 0, no_clauses) ∷ []
unfolding load_from reading_of iso_table iso_operators tree_of builtins commands
a_dynamic_procedure = refl

pub dynamic_too_late : load (codes "q(1).\n\n :- dynamic q/1. a.")
    ≡ stopped (made ((name_arity (codes "q") 1, static (clause 0 (one (codes "q") (int (pos 1))) truth 0 ∷ [])) ∷ []) 1) 3 directive
unfolding load_from reading_of iso_table iso_operators tree_of builtins commands
dynamic_too_late = refl

pub a_locked_name : fault_of (load (codes "a.\nwrite(x).")) 2 (locked (name_arity (codes "write") 1))
unfolding load_from reading_of iso_table iso_operators tree_of builtins commands
a_locked_name = refl

pub a_command_is_no_builtin : (load (codes "next.")).found ≡ None
unfolding load_from reading_of iso_table iso_operators tree_of builtins commands
a_command_is_no_builtin = refl

pub a_command_is_locked : fault_of (load_text Analysis start (codes "next.")) 1 (locked (name_arity (codes "next") 0))
unfolding load_from reading_of iso_table iso_operators tree_of builtins commands
a_command_is_locked = refl

-- the head comes first, then the body, then the name
pub a_variable_as_head : fault_of (load (codes "X :- 1.")) 1 head
unfolding load_from reading_of iso_table iso_operators tree_of builtins commands
a_variable_as_head = refl

pub a_number_in_a_body : fault_of (load (codes "nl :- a, 1.")) 1 body
unfolding load_from reading_of iso_table iso_operators tree_of builtins commands
a_number_in_a_body = refl

pub a_query : fault_of (load (codes "?- a.")) 1 directive
unfolding load_from reading_of iso_table iso_operators tree_of builtins commands
a_query = refl

pub a_flag : (load (codes ":- set_prolog_flag(unknown, fail).")).world.flags.unknown_fails ≡ true
unfolding load_from reading_of iso_table iso_operators tree_of builtins commands
a_flag = refl

pub entries_mixed : fault_of (load (codes ":- dynamic(([a/1], b/1)).")) 1 directive
unfolding load_from reading_of iso_table iso_operators tree_of builtins commands
entries_mixed = refl

-- the line of a clause that has no end
pub no_end : fault_of (load (codes "a.\n\nb")) 3 (syntax NoEnd)
unfolding load_from reading_of iso_table iso_operators tree_of builtins commands
no_end = refl

pub a_goal : goal_of iso_table Codes (codes "p(X), a")
    ≡ Ok (query (two (codes ",") (one (codes "p") (var 0)) a) (two (codes ",") (one (codes "p") (var 0)) a) ((codes "X", 0) ∷ []))
unfolding goal_of goal_in reading_of iso_table iso_operators tree_of
a_goal = refl

pub an_empty_goal : goal_of iso_table Codes [] ≡ Err (record { line = 2; fault = syntax NoOperand })
unfolding goal_of goal_in reading_of iso_table iso_operators tree_of
an_empty_goal = refl

pub a_goal_with_a_stop : goal_of iso_table Codes (codes "a. ") ≡ Ok (query a a [])
unfolding goal_of goal_in reading_of iso_table iso_operators tree_of
a_goal_with_a_stop = refl

pub a_goal_with_a_comment : goal_of iso_table Codes (codes "a. % a") ≡ Err (record { line = 1; fault = trailing })
unfolding goal_of goal_in reading_of iso_table iso_operators tree_of
a_goal_with_a_comment = refl

pub a_command_without_stop : command_of iso_table Codes (codes "next") ≡ Err (unreadable 4 NoEnd)
unfolding command_of reading_of iso_table iso_operators tree_of
a_command_without_stop = refl
