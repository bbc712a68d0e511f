-- A builtin on terms is called, and what its answer leads to.
use Rattle.std.specs.Prelude.{◌≡◌, ℕ, ◌-◌, ◌<◌, ◌≤◌, Bool, true, false, List, ◌∷◌, length, All, Result, Ok, Err}
use Rattle.op_logic.specs.Term.{Term, node}
use Rattle.op_logic.specs.Names.{name_at, named}
use Rattle.op_term.specs.Places.{args_at}
use Rattle.op_term.specs.declared.walk.WalkFault.{WalkFault}
use Rattle.op_term.specs.declared.walk.WalkFault.TheVariants.{Memory}
use Rattle.op_bind.specs.State.{State, Marked, mark_of, undone}
use Rattle.op_trace.specs.Database.{Text}
use Rattle.op_trace.specs.World as world
use Rattle.op_inspect.specs.declared.outcome.Outcome.{Outcome}
use Rattle.op_inspect.specs.declared.outcome.Outcome.TheVariants.{Yes, No, Throw}
use Rattle.op_inspect.specs.Inspected.{act_on_terms, is_builtin}
use Rattle.op_inspect.specs.Outcomes.{IsKnown, IsSetting, Answers, texts_of}
use Rattle.op_store.specs.Stored.{database_of}
use Rattle.op_machine.specs.declared.core_state.Core.{Core}
use Rattle.op_machine.specs.declared.inspection.Inspection.{Inspection}
use Rattle.op_machine.specs.declared.inspection.Inspected.{Inspected}
use Rattle.op_machine.specs.Meaning.{goal_now, items_now, bindings_now, choice_points_in, world_in}
use Rattle.op_machine.specs.Resume.{Moved, Forward, silent}
use Rattle.op_machine.specs.inner.Moves.{HasGrown, steps_left}

-- the goal of a call, over texts
abbrev pub goal_of : List Text → Inspection → Term Text
goal_of names i = named names (node i.name.0 (args_at i.bindings.terms i.args.items))

-- it is one of the builtins, with arguments and bindings over these names
pub record IsFit (i : Inspection) (names : List Text) : Type 0 where
  pub name : i.name.0 < length names
  pub builtin : is_builtin (name_at names i.name.0) (length i.args.items) ≡ true
  pub args : All (IsKnown names i.bindings) i.args.items
  pub setting : IsSetting names i.bindings

-- it answers by its act
abbrev pub IsMade : Inspection → List Text → List Text → Inspected → Type 0
IsMade i names more r =
    Answers (act_on_terms i.fuel (goal_of names i) (texts_of names i.bindings)) names i.bindings i.fuel r.answer more r.bindings r.fuel

abbrev pub success : Result Outcome WalkFault → Bool
success (Ok Yes) = true
success (Ok No) = false
success (Ok (Throw b)) = false
success (Err e) = false

-- the bindings of a success stand, others are undone
abbrev pub settled : Bool → State → Marked → State
settled true s m = s
settled false s m = undone s m

-- an answer by the act of a goal, with these bindings before any are undone, and with so many steps left
pub record Asked (old new : Core) (g : ℕ) (r : Result Outcome WalkFault) (s : State) (left : ℕ) : Type 0 where
  pub answers : Answers (act_on_terms (steps_left old) (goal_now old g) (bindings_now old)) old.store.names old.bindings
      (steps_left old) r new.store.names s left
  pub bindings : new.bindings ≡ settled (success r) s (mark_of old.bindings)
  pub steps : new.steps ≡ old.budget - left

abbrev pub IsAsked : Core → Core → ℕ → Result Outcome WalkFault → Type 0
IsAsked old new g (Err Memory) = Unit {0}
IsAsked old new g r = (s : State) × ((left : ℕ) × Asked old new g r s left)

pub record HasAsked (old new : Core) (g : ℕ) (r : Result Outcome WalkFault) : Type 0 where
  pub rest : new ≡ record old { store = new.store; bindings = new.bindings; steps = new.steps }
  pub store : HasGrown old.store new.store
  pub world : database_of new.store ≡ database_of old.store
  pub later : old.steps ≤ new.steps
  pub answer : IsAsked old new g r

-- the exit of a box comes next
abbrev pub exit_next : Core → ℕ → ℕ → ℕ → Moved
exit_next c k g n =
    silent (Forward (world.Exit k (goal_now c g) ∷ items_now c n) (choice_points_in c) (bindings_now c) (world_in c))
