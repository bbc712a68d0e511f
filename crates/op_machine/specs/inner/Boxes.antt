-- The boxes that a machine keeps: those that exit in a continuation are the open boxes of the innermost of them.
use Rattle.std.specs.Prelude.{◌≡◌, ℕ, ◌<◌, ◌≤◌, List, [], ◌∷◌, length, filter, nat_lt, All}
use Rattle.op_trace.specs.World.{head_number}
use Rattle.op_frames.specs.declared.boxes.BoxFrame.{BoxFrame}
use Rattle.op_frames.specs.declared.choice.Choice.{Choice}
use Rattle.op_machine.specs.declared.choice_points.ChoiceKind.{ChoiceKind}
use Rattle.op_machine.specs.declared.choice_points.ChoiceKind.TheVariants as kind
use Rattle.op_frames.specs.Frames.{open_from}
use Rattle.op_machine.specs.declared.choice_points.Alternative.{Alternative}
use Rattle.op_machine.specs.declared.continuations.Item.{Item}
use Rattle.op_machine.specs.declared.continuations.Item.TheVariants as item
use Rattle.op_machine.specs.inner.Continuations.{continuation_in, opened}

-- the boxes with numbers below one
abbrev pub boxes_before : ℕ → List BoxFrame → List BoxFrame
boxes_before n B = filter (λ (b : BoxFrame). nat_lt b.number n) B

-- the boxes that are open in a continuation, each with its goal, the innermost first
abbrev pub exits : List Item → List (ℕ × ℕ)
exits [] = []
exits (item.Goal g m ∷ I) = exits I
exits (item.Cut m ∷ I) = exits I
exits (item.Exit k g ∷ I) = (k, g) ∷ exits I
exits (item.Execute k g ∷ I) = (k, g) ∷ exits I
exits (item.Recover k g ∷ I) = (k, g) ∷ exits I

-- the number of the innermost of them, or 0
abbrev pub innermost : List Item → ℕ
innermost I = head_number (opened I)

-- of so many boxes that were called, one was called with a goal before a continuation
pub record IsCalled (B : List BoxFrame) (calls : ℕ) (L : List (List Item)) (k g n : ℕ) : Type 0 where
  pub given : k ≤ calls
  pub chain : open_from B k ≡ (k, g) ∷ exits (continuation_in L n)

-- an item that is an exit or an execution is that of a box that was called before the continuation
abbrev pub IsEntered : List BoxFrame → ℕ → List (List Item) → Item → ℕ → Type 0
IsEntered B calls L (item.Goal g m) n = Unit {0}
IsEntered B calls L (item.Cut m) n = Unit {0}
IsEntered B calls L (item.Exit k g) n = IsCalled B calls L k g n
IsEntered B calls L (item.Execute k g) n = IsCalled B calls L k g n
IsEntered B calls L (item.Recover k g) n = IsCalled B calls L k g n

-- the boxes have numbers that were given out, and the exits of each continuation are the open boxes of the innermost
pub record AreBoxes (B : List BoxFrame) (calls : ℕ) (L : List (List Item)) : Type 0 where
  pub numbers : All (λ (b : BoxFrame). b.number ≤ calls) B
  pub given : (n : ℕ) → n < length L → innermost (continuation_in L n) ≤ calls
  pub chains : (n : ℕ) → n < length L → open_from B (innermost (continuation_in L n)) ≡ exits (continuation_in L n)

-- the box whose clauses a choice point tries, or which may catch a ball, is kept, and a box that fails was called, of so many that had
-- been
abbrev pub IsTried : List BoxFrame → ℕ → List (List Item) → ChoiceKind → ℕ → ℕ → Type 0
IsTried B calls L (kind.Redo k) g n = Unit {0}
IsTried B calls L (kind.Branch m) g n = Unit {0}
IsTried B calls L (kind.More k rs i) g n = IsCalled B calls L k g n
IsTried B calls L (kind.Fail k) g n = k ≤ calls
IsTried B calls L (kind.Catch k) g n = IsCalled B calls L k g n
IsTried B calls L (kind.Condition c m) g n = Unit {0}

-- a choice point was made when no more boxes had been called, and no more continuations were there
pub record IsBoxed (B : List BoxFrame) (L : List (List Item)) (calls continuations : ℕ) (f : Choice Alternative) : Type 0 where
  pub calls_there : f.kept.calls ≤ calls
  pub continuations_there : f.kept.continuations ≤ continuations
  pub rest : f.rest < f.kept.continuations
  pub given : (n : ℕ) → n < f.kept.continuations → innermost (continuation_in L n) ≤ f.kept.calls
  pub tried : IsTried B f.kept.calls L f.kept.kind f.kept.goal f.rest

-- the last first
abbrev pub AreBoxed : List BoxFrame → List (List Item) → ℕ → ℕ → List (Choice Alternative) → Type 0
AreBoxed B L calls continuations [] = Unit {0}
AreBoxed B L calls continuations (f ∷ F) = IsBoxed B L calls continuations f × AreBoxed B L f.kept.calls f.kept.continuations F
