-- An execution of a builtin, or of a goal that has no procedure, as an act: what it costs, what it does to the world, and what it yields. A
-- builtin that can be re-executed (ISO/IEC 13211-1, 7.7.8) is executed again on backtracking.
use Rattle.std.specs.Prelude.{ℕ, ℤ, suc, ◌+◌, ◌-◌, nat_le, Bool, true, false}
use Rattle.op_logic.specs.Term.{Term}
use Rattle.op_logic.specs.Bind.{Bindings}
use Rattle.op_trace.specs.Database.{Text}
use Rattle.op_trace.specs.World.{World, Execution}

-- no solution; one with these bindings; one with these bindings, and a further execution on backtracking; those of a body that runs in the
-- box; a ball that leaves it (7.8.10); or the end of the run, with a number (8.17.3)
pub data Yield : Type 0 where
  Fails : Yield
  Succeeds : Bindings Text → Yield
  Succeeds_again : Bindings Text → Execution → Yield
  Runs : Term Text → Yield
  Throws : Term Text → Yield
  Halts : ℤ → Yield

-- An act takes so many steps. Where these are there, it leaves a world and yields; else it is interrupted, in the world to which the
-- steps that were there have brought it. The counts of steps, calls, conditions, events and solutions are the walk's own: an act doesn't
-- change them.
pub record Act : Type 0 where
  pub cost : ℕ
  pub after : World
  pub interrupted : World
  pub yield : Yield

-- nothing more is to be paid
abbrev pub done : World → Yield → Act
done w y = record { cost = 0; after = w; interrupted = w; yield = y }

abbrev pub paid : Bool → ℕ → ℕ → World → (ℕ → Act) → Act
paid true n left w rest = let a : Act = rest (left - n) in record a { cost = n + a.cost }
paid false n left w rest = record { cost = suc left; after = w; interrupted = w; yield = Fails }

-- of so many steps that are left n are taken, and then the rest; where they are not there, it is interrupted in this world
abbrev pub pay : ℕ → ℕ → World → (ℕ → Act) → Act
pay n left w rest = paid (nat_le n left) n left w rest

-- what is fixed for a whole run: it may take so many steps, and ends at this solution (0: at none); and what an execution of a goal
-- does with so
-- many steps left
pub record Setup : Type 0 where
  pub budget : ℕ
  pub wanted : ℕ
  pub act : ℕ → Execution → Term Text → Bindings Text → World → Act
