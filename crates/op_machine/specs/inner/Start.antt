-- What is made of a goal before a machine's first move.
use Rattle.std.specs.Prelude.{◌≡◌, ℕ, ◌<◌, ◌≤◌, List, [], ◌∷◌, length, take}
use Rattle.op_term.specs.Places.{term_at}
use Rattle.op_trace.specs.declared.barrier.Barrier.TheVariants.{Call}
use Rattle.op_store.specs.declared.goals.goal.Goal.{Goal}
use Rattle.op_machine.specs.declared.continuations.Item.{Item}
use Rattle.op_machine.specs.declared.continuations.Item.TheVariants as item
use Rattle.op_machine.specs.declared.start.Parts.{Parts}
use Rattle.op_machine.specs.inner.Invariant.{AreValues, IsFailure}

-- no item, and the goal alone
abbrev pub first_continuations : ℕ → List (List Item)
first_continuations body = [] ∷ (item.Goal body (Call 0) ∷ []) ∷ []

-- the goal's variables are unbound, and those that have names and the atom `fail` were made before its body
pub record IsMade (q : Goal) (p : Parts) : Type 0 where
  pub continuations : p.continuations ≡ first_continuations p.body
  pub items : p.items ≡ 1
  pub bound : p.bindings.bound ≡ []
  pub there : p.body < length p.bindings.terms
  pub value : term_at p.bindings.terms p.body ≡ q.body
  pub count : p.bindings.count ≡ q.vars
  pub names : p.names ≡ q.names
  pub values : AreValues (take p.floor.terms p.bindings.terms) p.values.items q.names
  pub failure : IsFailure (take p.floor.terms p.bindings.terms) p.failure
  pub floor_there : p.floor.terms ≤ length p.bindings.terms
