-- Which builtin a goal is of, and what its execution does.
use Rattle.std.specs.Prelude.{◌≡◌, ℕ, pos, true, None}
use Rattle.op_logic.specs.Term.{Term, node, Args, no_args, arg, args_of, nth_arg, arity}
use Rattle.op_logic.specs.Bind.{Bindings, follow}
use Rattle.op_logic.specs.Names.{name_at}
use Rattle.op_term.specs.declared.symbols.Sym.{Sym}
use Rattle.op_trace.specs.Database.{Text}
use Rattle.op_trace.specs.World.{World}
use Rattle.op_trace.specs.Act.{Act, Fails, Halts, done}
use Rattle.op_trace.specs.Builtins.{added, run_goal, alone, first_solution, no_solution, throw_argument, halt_with, unknown}
use Rattle.op_inspect.specs.Inspected.{inspected, act_on_terms, is_builtin}
use Rattle.op_store.specs.Stored.{Stored}
use Rattle.op_machine.specs.Program.{goal_named}
use Rattle.op_machine.specs.declared.builtin_kind.Builtin.{Builtin}
use Rattle.op_machine.specs.declared.builtin_kind.Builtin.TheVariants as builtin
use Rattle.op_machine.specs.declared.builtin_kind.Around.{Around}
use Rattle.op_machine.specs.declared.builtin_kind.Around.TheVariants.{Alone, FirstSolution, NoSolution}

-- what stands around a goal's body
abbrev pub body_around : Around → Term Text → Term Text
body_around Alone = alone
body_around FirstSolution = first_solution
body_around NoSolution = no_solution

abbrev pub behind_first : {N : Type 0} → Args N → Args N
behind_first no_args = no_args
behind_first (arg t ts) = ts

-- the first argument of a goal, and the arguments behind it
abbrev pub first_argument : {N : Type 0} → Term N → Term N
first_argument g = nth_arg (args_of g) 0

abbrev pub more_arguments : {N : Type 0} → Term N → Args N
more_arguments g = behind_first (args_of g)

-- a goal with arguments added; a number takes none
abbrev pub with_more_arguments : Term Text → Args Text → Term Text
with_more_arguments (node f ts) us = node f (added ts us)
with_more_arguments t us = t

abbrev pub act_of_kind : Stored → Builtin → Term Text → ℕ → Bindings Text → World → Act
act_of_kind t (builtin.Run r) g left σ w = run_goal (body_around r) (follow σ (first_argument g)) (more_arguments g) left σ w
act_of_kind t builtin.Catch g left σ w = run_goal alone (follow σ (first_argument g)) no_args left σ w
act_of_kind t builtin.Throw g left σ w = throw_argument (follow σ (first_argument g)) left σ w
act_of_kind t builtin.Halt g left σ w = done w (Halts (pos 0))
act_of_kind t builtin.HaltWith g left σ w = halt_with (follow σ (first_argument g)) left σ w
act_of_kind t (builtin.OnTerms f n) g left σ w = act_on_terms left g σ w
act_of_kind t (builtin.Unknown f n) g left σ w = unknown (name_at t.names f.0) n left σ w
act_of_kind t builtin.NoGoal g left σ w = done w Fails

-- it has an argument
abbrev pub HasArgument : Builtin → Type 0
HasArgument (builtin.Run r) = Unit {0}
HasArgument builtin.Catch = Unit {0}
HasArgument builtin.Throw = Unit {0}
HasArgument builtin.HaltWith = Unit {0}
HasArgument b = ⊥

-- a goal is the one of the builtins on terms of this name with so many arguments
abbrev pub IsOnTerms : Stored → Sym → ℕ → Term ℕ → Type 0
IsOnTerms t f n g = (g ≡ node f.0 (args_of g)) × (arity (args_of g) ≡ n) × (is_builtin (name_at t.names f.0) n ≡ true)

-- a goal is none of them
abbrev pub IsNotOnTerms : Stored → Term ℕ → Type 0
IsNotOnTerms t g = (left : ℕ) (σ : Bindings Text) (w : World) → inspected left (goal_named t g) σ w ≡ None

-- what a goal of a builtin of control, or of none, is
abbrev pub IsOfControl : Stored → Builtin → Term ℕ → Type 0
IsOfControl t (builtin.Run r) g = IsNotOnTerms t g
IsOfControl t builtin.Catch g = IsNotOnTerms t g
IsOfControl t builtin.Throw g = IsNotOnTerms t g
IsOfControl t builtin.Halt g = IsNotOnTerms t g
IsOfControl t builtin.HaltWith g = IsNotOnTerms t g
IsOfControl t (builtin.OnTerms f n) g = ⊥
IsOfControl t (builtin.Unknown f n) g = (g ≡ node f.0 (args_of g)) × (arity (args_of g) ≡ n)
IsOfControl t builtin.NoGoal g = IsNotOnTerms t g
