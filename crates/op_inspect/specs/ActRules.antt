-- What a table of acts is to keep, whatever acts join it.
use Rattle.std.specs.Prelude.{◌≡◌, ℕ, ◌≤◌, ◌++◌}
use Rattle.op_logic.specs.Term.{Term}
use Rattle.op_logic.specs.Bind.{Bindings}
use Rattle.op_trace.specs.Database.{Text}
use Rattle.op_trace.specs.World.{World, Execution}
use Rattle.op_trace.specs.Act.{Yield, Fails, Succeeds, Succeeds_again, Runs, Throws, Halts, Act}

-- these bindings are those with some before them, which are newer
pub record Extends (old new : Bindings Text) : Type 0 where
  pub newer : Bindings Text
  pub is : new ≡ newer ++ old

-- a solution adds bindings, and drops none
abbrev pub OnlyBinds : Bindings Text → Yield → Type 0
OnlyBinds σ Fails = Unit {0}
OnlyBinds σ (Succeeds τ) = Extends σ τ
OnlyBinds σ (Succeeds_again τ t) = Extends σ τ
OnlyBinds σ (Runs b) = Unit {0}
OnlyBinds σ (Throws b) = Unit {0}
OnlyBinds σ (Halts n) = Unit {0}

-- two acts that were not interrupted are the same
pub record IsSameAct (a b : Act) : Type 0 where
  pub cost : a.cost ≡ b.cost
  pub after : a.after ≡ b.after
  pub yield : a.yield ≡ b.yield

-- an act is the same for all numbers of steps left that cover it
pub record KeepsActRules (act : ℕ → Execution → Term Text → Bindings Text → World → Act) : Type 0 where
  pub binds : (left : ℕ) (t : Execution) (g : Term Text) (σ : Bindings Text) (w : World) → OnlyBinds σ (act left t g σ w).yield
  pub same : (m n : ℕ) (t : Execution) (g : Term Text) (σ : Bindings Text) (w : World) → (act m t g σ w).cost ≤ m → (act m t g σ w).cost ≤ n
      → IsSameAct (act m t g σ w) (act n t g σ w)

-- of the world only the number of variables that were given out changed, and it didn't fall
pub record OnlyGivesOut (before after : World) : Type 0 where
  pub world : after ≡ record before { variables = after.variables }
  pub more : before.variables ≤ after.variables
