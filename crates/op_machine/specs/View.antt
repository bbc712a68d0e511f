-- What a solution view shows.
use Rattle.std.specs.Prelude.{ℕ, List, length}
use Rattle.op_logic.specs.Names.{HaveNames}
use Rattle.op_bind.specs.State.{State, resolved}
use Rattle.op_machine.specs.inner.Invariant.{AreValues}

-- a solution: the goal's named variables with a Ref to each, the bindings and the names of its moment
pub record Solving : Type 0 where
  pub variables : List (List ℕ × ℕ)
  pub values : List ℕ
  pub state : State
  pub names : List (List ℕ)

pub record IsSolving (v : Solving) : Type 0 where
  pub known : AreValues v.state.terms v.values v.variables
  pub bound : HaveNames (length v.names) (resolved v.state.terms v.state.bound)
