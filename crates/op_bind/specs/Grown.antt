-- A later state: what was there is still there.
use Rattle.std.specs.Prelude.{◌≡◌, ◌≤◌, length, take}
use Rattle.op_bind.specs.State.{State, oldest}

-- the terms of the old are the first of the new, and its bindings the oldest
pub record Grows (old new : State) : Type 0 where
  pub terms_there : length old.terms ≤ length new.terms
  pub terms : take (length old.terms) new.terms ≡ old.terms
  pub bound_there : length old.bound ≤ length new.bound
  pub bound : oldest (length old.bound) new.bound ≡ old.bound
  pub count : old.count ≤ new.count

-- more may be bound, and all else is as it was
pub record IsLater (old new : State) : Type 0 where
  pub terms : new.terms ≡ old.terms
  pub count : new.count ≡ old.count
  pub enough : length old.bound ≤ length new.bound
  pub bound : oldest (length old.bound) new.bound ≡ old.bound
