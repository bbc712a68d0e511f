-- The procedure of a term, by its outermost node.
use Rattle.std.proofs.Common.{◌≡◌, ℕ, List, map, Option, Some, None, refl, ap}
use Rattle.std.specs.Prelude.{option_map}
use Rattle.op_logic.specs.Term.{Term, var, int, node, no_args, arg}
use Rattle.op_term.specs.Head.{head}
use Rattle.op_term.specs.declared.node.Node.{Node}
use Rattle.op_term.specs.declared.node.Node.TheVariants as nodes
use Rattle.op_store.specs.declared.procedures.pi.Pi.{Pi}
use Rattle.op_store.specs.NumberedProcedures.{pi_of, clause_named}
use Rattle.op_store.specs.Stored.{Stored, database_of}
use Rattle.op_logic.specs.Names.{named}
use Rattle.op_bind.specs.declared.places.Clause.{Clause as NumberedClause}
use Rattle.op_trace.specs.Database.{Text, Procedure, procedure_of}
use Rattle.op_trace.specs.Visit.{Clauses, inside_procedure, inside}
use Rattle.op_machine.specs.Program.{goal_named, inside_snapshot}

abbrev pub pi_of_node : Node → Option Pi
pi_of_node (nodes.Var v) = None
pi_of_node (nodes.Int i) = None
pi_of_node (nodes.Atom f) = Some (record { name = f; arity = 0 })
pi_of_node (nodes.Struct f n) = Some (record { name = f; arity = n })

pub pi_head : (t : Term ℕ) (n : Node) → head t ≡ n → pi_of t ≡ pi_of_node n
pi_head (var v) n e = ap pi_of_node e
pi_head (int i) n e = ap pi_of_node e
pi_head (node f no_args) n e = ap pi_of_node e
pi_head (node f (arg t ts)) n e = ap pi_of_node e

-- what is in the box of a goal, by the clauses of its procedure
inside-clauses : (t : Stored) (g : Term Text) (o : Option Procedure) (q : Option (List NumberedClause))
    → option_map (λ (p : Procedure). p.clauses) o
    ≡ option_map (map (clause_named t.names)) q
    → inside_procedure o g ≡ inside_snapshot t q g
inside-clauses t g None None e = refl
inside-clauses t g None (Some q) e = absurd cc
inside-clauses t g (Some p) None e = absurd cc
inside-clauses t g (Some p) (Some q) e =
    let same : p.clauses ≡ map (clause_named t.names) q = cc in
    ap Clauses same

pub inside-found : (t : Stored) (g : Term ℕ) (q : Option (List NumberedClause))
    → option_map (λ (p : Procedure). p.clauses) (procedure_of (database_of t) (named t.names g)) ≡ option_map (map (clause_named t.names)) q
    → inside (database_of t) (goal_named t g) ≡ inside_snapshot t q (goal_named t g)
inside-found t g q e = inside-clauses t (goal_named t g) (procedure_of (database_of t) (named t.names g)) q e

-- a term that is no goal has no procedure
pub inside-none : (t : Stored) (g : Term ℕ) → pi_of g ≡ None → inside (database_of t) (goal_named t g)
    ≡ inside_snapshot t None (goal_named t g)
inside-none t (var v) e = refl
inside-none t (int i) e = refl
inside-none t (node f ts) e = absurd cc
