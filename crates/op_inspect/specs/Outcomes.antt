-- What an answer of the code tells of an act: over texts, in any world in which as many variables were given out.
use Rattle.std.specs.Prelude.{◌≡◌, ℕ, ◌+◌, ◌<◌, ◌≤◌, Bool, true, false, List, length, take, Result, Ok, Err}
use Rattle.op_logic.specs.Term.{Term, IsWithin}
use Rattle.op_logic.specs.Bind.{Bindings}
use Rattle.op_logic.specs.Laws.{rename_bindings}
use Rattle.op_logic.specs.Names.{name_at, named, HasNames, HaveNames}
use Rattle.op_term.specs.Places.{term_at}
use Rattle.op_term.specs.declared.walk.WalkFault.{WalkFault}
use Rattle.op_term.specs.declared.walk.WalkFault.TheVariants.{Memory, Spent}
use Rattle.op_bind.specs.State as bind
use Rattle.op_bind.specs.State.{State}
use Rattle.op_bind.specs.Grown.{Grows}
use Rattle.op_trace.specs.Database.{Text}
use Rattle.op_trace.specs.World.{World}
use Rattle.op_trace.specs.Act.{Yield, Fails, Succeeds, Throws, Act}
use Rattle.op_inspect.specs.declared.outcome.Outcome.{Outcome}
use Rattle.op_inspect.specs.declared.outcome.Outcome.TheVariants.{Yes, No, Throw}

-- the bindings, and the term of a Ref
abbrev pub texts_of : List (List ℕ) → State → Bindings Text
texts_of names s = rename_bindings (name_at names) (bind.bindings s)

abbrev pub text_at : List (List ℕ) → State → ℕ → Term Text
text_at names s r = named names (term_at s.terms r)

-- the names of a Ref's term, and those of the bindings, are in the table
abbrev pub IsKnown : List (List ℕ) → State → ℕ → Type 0
IsKnown names s r = (r < length s.terms) × HasNames (length names) (term_at s.terms r)

abbrev pub IsSetting : List (List ℕ) → State → Type 0
IsSetting names s = HaveNames (length names) (bind.bindings s)

-- what a test answers
abbrev pub outcome_of : Bool → Outcome
outcome_of true = Yes
outcome_of false = No

-- what an answer yields
abbrev pub yield_of : List (List ℕ) → State → Outcome → Yield
yield_of names s Yes = Succeeds (texts_of names s)
yield_of names s No = Fails
yield_of names s (Throw t) = Throws (named names t)

-- an act takes the steps that are there no longer, changes the world by the count of variables alone, and yields this
pub record Comes (a : Act) (w : World) (left : ℕ) (y : Yield) (count after : ℕ) : Type 0 where
  pub cost : left ≡ a.cost + after
  pub world : a.after ≡ record w { variables = count }
  pub yield : a.yield ≡ y

-- the names of an answer's bindings, or of its ball, are in the table, and the ball's variables were given out
abbrev pub IsNamed : List (List ℕ) → State → Outcome → Type 0
IsNamed names s Yes = IsSetting names s
IsNamed names s No = Unit {0}
IsNamed names s (Throw t) = HasNames (length names) t × IsWithin s.count t

abbrev pub IsAnswer : (World → Act) → ℕ → ℕ → Result Outcome WalkFault → List (List ℕ) → State → ℕ → Type 0
IsAnswer act count left (Ok o) names s after =
    ((w : World) → w.variables ≡ count → Comes (act w) w left (yield_of names s o) s.count after) × IsNamed names s o
IsAnswer act count left (Err Spent) names s after = (w : World) → w.variables ≡ count → left < (act w).cost
IsAnswer act count left (Err Memory) names s after = Unit {0}

-- a call answers by an act; names keep their numbers, and what was there before is still there
pub record Answers (act : World → Act) (names : List (List ℕ)) (s : State) (left : ℕ) (result : Result Outcome WalkFault)
    (more : List (List ℕ)) (t : State) (after : ℕ) : Type 0 where
  pub answer : IsAnswer act s.count left result more t after
  pub kept : take (length names) more ≡ names
  pub grows : Grows s t
  pub falls : after ≤ left
