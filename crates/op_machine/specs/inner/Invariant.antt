-- What holds of a machine's parts between two moves.
use Rattle.std.specs.Prelude.{◌≡◌, ℕ, ◌+◌, ◌^◌, ◌<◌, ◌≤◌, List, [], ◌∷◌, length, reverse, take, All, Option, Some, None}
use Rattle.op_logic.specs.Term.{Term, var, atom, args_of, arity, IsWithin}
use Rattle.op_logic.specs.Names.{HasNames, HaveNames}
use Rattle.op_term.specs.Places.{term_at}
use Rattle.op_bind.specs.State.{resolved, oldest}
use Rattle.op_machine.specs.declared.continuations.Item.{Item}
use Rattle.op_machine.specs.declared.continuations.Item.TheVariants as item
use Rattle.op_machine.specs.declared.choice_points.ChoiceKind.{ChoiceKind}
use Rattle.op_machine.specs.declared.choice_points.ChoiceKind.TheVariants as kind
use Rattle.op_machine.specs.declared.core_state.Core.{Core}
use Rattle.op_machine.specs.declared.core_state.Mode.{Mode}
use Rattle.op_machine.specs.declared.core_state.Mode.TheVariants as mode
use Rattle.op_machine.specs.inner.Continuations.{continuation_in}
use Rattle.op_machine.specs.inner.Boxes.{AreBoxes, AreBoxed, IsCalled}
use Rattle.op_store.specs.Stored.{Stored}
use Rattle.op_machine.specs.Program.{AreKnown}
use Rattle.op_machine.specs.inner.Bounds.{Counted}
use Rattle.op_machine.specs.inner.Barriers.{InStep}
use Rattle.op_machine.specs.Meaning.{Frame, Level, level_at, setup_of, level_in, state_of}

-- a Ref to a term whose names are among the first n
abbrev pub IsGoal : ℕ → List (Term ℕ) → ℕ → Type 0
IsGoal n ts r = (r < length ts) × HasNames n (term_at ts r)

-- a goal with the arguments of catch/3, the last of which is its recovery
abbrev pub HasRecovery : List (Term ℕ) → ℕ → Type 0
HasRecovery ts r = arity (args_of (term_at ts r)) ≡ 3

abbrev pub IsItem : ℕ → List (Term ℕ) → Item → Type 0
IsItem n ts (item.Goal r m) = IsGoal n ts r
IsItem n ts (item.Cut m) = Unit {0}
IsItem n ts (item.Exit k r) = IsGoal n ts r
IsItem n ts (item.Execute k r) = IsGoal n ts r
IsItem n ts (item.Recover k r) = IsGoal n ts r × HasRecovery ts r

abbrev pub AreItems : ℕ → List (Term ℕ) → List Item → Type 0
AreItems n ts [] = Unit {0}
AreItems n ts (i ∷ I) = IsItem n ts i × AreItems n ts I

abbrev pub AreContinuations : ℕ → List (Term ℕ) → List (List Item) → Type 0
AreContinuations n ts L = (m : ℕ) → m < length L → AreItems n ts (continuation_in L m)

-- each continuation's items and each binding lead to what is there, and the first terms are
pub record IsLevel (t : Stored) (floor : ℕ) (v : Level) : Type 0 where
  pub continuations : AreContinuations (length t.names) v.terms v.continuations
  pub bound : HaveNames (length t.names) (resolved v.terms v.bound)
  pub floor_there : floor ≤ length v.terms

-- a choice point was made at an earlier moment
pub record IsEarlier (f : Frame) (v : Level) : Type 0 where
  pub terms_there : f.mark.terms ≤ length v.terms
  pub bound_there : f.mark.bound ≤ length v.bound
  pub bound_below : All (λ p. p.1 < f.mark.terms) (oldest f.mark.bound v.bound)
  pub continuations_there : f.kept.continuations ≤ length v.continuations

-- some clause is left of those that are tried, and a box that may catch a ball has a recovery
abbrev pub IsKind : ℕ → List (Term ℕ) → ℕ → ChoiceKind → Type 0
IsKind n ts g (kind.Redo k) = Unit {0}
IsKind n ts g (kind.Branch m) = Unit {0}
IsKind n ts g (kind.More k rs i) = (i < length rs) × AreKnown n rs
IsKind n ts g (kind.Fail k) = Unit {0}
IsKind n ts g (kind.Catch k) = HasRecovery ts g
IsKind n ts g (kind.Condition c m) = Unit {0}

-- a choice point leads to what was there when it was made
pub record IsFrame (t : Stored) (v : Level) (f : Frame) : Type 0 where
  pub rest : f.rest < length v.continuations
  pub goal : IsGoal (length t.names) v.terms f.kept.goal
  pub kind : IsKind (length t.names) v.terms f.kept.goal f.kept.kind

-- the last first
abbrev pub AreFrames : Stored → ℕ → Level → List Frame → Type 0
AreFrames t floor v [] = Unit {0}
AreFrames t floor v (f ∷ F) = IsEarlier f v × IsLevel t floor (level_at f v) × IsFrame t (level_at f v) f
    × AreFrames t floor (level_at f v) F

abbrev pub IsMode : ℕ → Mode → Type 0
IsMode n (mode.Forward m) = m < n
IsMode n mode.Backward = Unit {0}
IsMode n (mode.Throwing m) = Unit {0}
IsMode n (mode.Over e) = Unit {0}

-- a Ref to each variable that has a name
abbrev pub AreValues : List (Term ℕ) → List ℕ → List (List ℕ × ℕ) → Type 0
AreValues ts [] [] = Unit {0}
AreValues ts (r ∷ rs) (p ∷ ps) = (r < length ts) × (term_at ts r ≡ var p.1) × AreValues ts rs ps
AreValues ts _ _ = ⊥

-- the Ref to the atom `fail`
abbrev pub IsFailure : List (Term ℕ) → ℕ → Type 0
IsFailure ts r = (r < length ts) × (term_at ts r ≡ atom 1)

-- the names of the ball that was thrown are among the first n, and its variables among so many that were given out
abbrev pub IsBall : ℕ → ℕ → Option (Term ℕ) → Type 0
IsBall n variables None = Unit {0}
IsBall n variables (Some b) = HasNames n b × IsWithin variables b

-- each number leads to what is there
pub record IsGood (c : Core) : Type 0 where
  pub level : IsLevel c.store c.floor.terms (level_in c)
  pub frames : AreFrames c.store c.floor.terms (level_in c) (reverse c.frames.choices)
  pub mode : IsMode (length c.continuations) c.mode
  pub values : AreValues (take c.floor.terms c.bindings.terms) c.values.items c.names
  pub failure : IsFailure (take c.floor.terms c.bindings.terms) c.failure
  pub ball : IsBall (length c.store.names) c.bindings.count c.ball
  pub boxes : AreBoxes c.frames.boxes c.calls c.continuations
  pub boxed : AreBoxed c.frames.boxes c.continuations c.calls (length c.continuations) (reverse c.frames.choices)

-- a machine has a continuation, a goal, and a box that was called with a goal before a continuation
abbrev pub HasItems : Core → ℕ → Type 0
HasItems c n = n < length c.continuations

abbrev pub HasGoal : Core → ℕ → Type 0
HasGoal c g = IsGoal (length c.store.names) c.bindings.terms g

abbrev pub HasCalled : Core → ℕ → ℕ → ℕ → Type 0
HasCalled c k g n = IsCalled c.frames.boxes c.calls c.continuations k g n

-- a count that is far from its type's end
abbrev pub CanGrow : ℕ → Type 0
CanGrow n = n < 2 ^ 63

-- each count of a machine is, and the budget isn't passed
pub record Fits (c : Core) : Type 0 where
  pub steps : c.steps ≤ c.budget
  pub events : CanGrow c.events
  pub solutions : CanGrow c.solutions
  pub calls : CanGrow c.calls
  pub conditions : CanGrow c.conditions
  pub turns : CanGrow (c.events + c.solutions)

-- the last event's goal is there
abbrev pub IsSeen : Core → Type 0
IsSeen c = IsGoal (length c.store.names) c.bindings.terms c.seen.goal

-- what holds of every machine between two turns
pub record IsSound (c : Core) : Type 0 where
  pub good : IsGood c
  pub counted : Counted (setup_of c) (state_of c)
  pub in_step : InStep (state_of c)
  pub limit : c.budget ≤ 1000000000
