-- Barriers and choice points in step: a cut to the barrier of an item leaves what the cuts of the items behind it keep, and the boxes
-- that are
-- open behind it.
use Rattle.std.specs.Prelude.{◌≡◌, ◌⊎◌, ℕ, ◌≤◌, ◌<◌, true, List, [], ◌∷◌, if◌then◌else◌}
use Rattle.op_trace.specs.declared.barrier.Barrier.{Barrier}
use Rattle.op_trace.specs.declared.barrier.Barrier.TheVariants.{Call, InCondition, AtSuccess}
use Rattle.op_trace.specs.World.{Recovery, Item, Goal, Cut, Exit, Execute, Has, open_boxes}
use Rattle.op_trace.specs.Visit.{Choice, Redo, Branch, More, Again, Fail, Catch, Condition, is_open}
use Rattle.op_machine.specs.Resume.{keep, State, Forward, Backward, Throwing, Over}

-- the choice points from that of the next of these boxes on
abbrev pub left_to : List ℕ → List Choice → List Choice
left_to o [] = []
left_to o (Redo k g σ J ∷ K) = left_to o K
left_to o (Branch t m σ J ∷ K) = left_to o K
left_to o (More cs k g σ J ∷ K) = left_to o K
left_to o (Again t k g σ J ∷ K) = left_to o K
left_to o (Fail k g σ J ∷ K) = if is_open k o then Fail k g σ J ∷ K else left_to o K
left_to o (Catch k g σ J ∷ K) = if is_open k o then Catch k g σ J ∷ K else left_to o K
left_to o (Condition n t m σ J ∷ K) = left_to o K

-- each box of o is one of these, or has a number above c
abbrev pub AreAmong : List ℕ → List ℕ → ℕ → Type 0
AreAmong o O c = (k : ℕ) → is_open k o ≡ true → (is_open k O ≡ true) ⊎ (c < k)

-- two lists of choice points that lead on alike from these items, by a cut to one of their barriers, or by a ball that leaves a box
-- which is
-- open in them, or one that isn't called yet, of c that were
abbrev pub SameFor : ℕ → List Choice → List Choice → List Item → Type 0
SameFor c K L J =
    ((n : Barrier) → Has n J → keep n L ≡ keep n K) × ((o : List ℕ) → AreAmong o (open_boxes J) c → left_to o L ≡ left_to o K)

-- a cut to m drops nothing to which the items behind it lead
abbrev pub Behind : ℕ → Barrier → List Choice → List Item → Type 0
Behind c m K J = SameFor c K (keep m K) J

-- each barrier of the items, with those behind it
abbrev pub Scoped : ℕ → List Choice → List Item → Type 0
Scoped c K [] = Unit {0}
Scoped c K (Goal t m ∷ J) = Behind c m K J × Scoped c K J
Scoped c K (Cut m ∷ J) = Behind c m K J × Scoped c K J
Scoped c K (Exit k g ∷ J) = Scoped c K J
Scoped c K (Execute t k g ∷ J) = Behind c (Call k) K (Exit k g ∷ J) × Scoped c K J

-- a barrier's number was given out, of so many calls and conditions
abbrev pub IsGiven : ℕ → ℕ → Barrier → Type 0
IsGiven calls conditions (Call k) = k ≤ calls
IsGiven calls conditions (InCondition n) = n ≤ conditions
IsGiven calls conditions (AtSuccess n) = n ≤ conditions

-- a goal's barrier: no goal cuts to the time before a condition, to which the condition's success cuts
abbrev pub IsGoalBarrier : ℕ → ℕ → Barrier → Type 0
IsGoalBarrier calls conditions (Call k) = k ≤ calls
IsGoalBarrier calls conditions (InCondition n) = n ≤ conditions
IsGoalBarrier calls conditions (AtSuccess n) = ⊥

abbrev pub AreGiven : ℕ → ℕ → List Item → Type 0
AreGiven c d [] = Unit {0}
AreGiven c d (Goal t m ∷ J) = IsGoalBarrier c d m × AreGiven c d J
AreGiven c d (Cut m ∷ J) = IsGiven c d m × AreGiven c d J
AreGiven c d (Exit k g ∷ J) = (k ≤ c) × AreGiven c d J
AreGiven c d (Execute t k g ∷ J) = (k ≤ c) × AreGiven c d J

-- a choice point goes on over the choice points below it: a cut to the box of further clauses leaves all of these, and a recovery goes on
-- over its box's own that catches nothing
abbrev pub IsScopedChoicePoint : ℕ → ℕ → Choice → List Choice → Type 0
IsScopedChoicePoint c d (Redo k g σ J) K = Unit {0}
IsScopedChoicePoint c d (Branch t m σ J) K = Scoped c K (Goal t m ∷ J) × AreGiven c d (Goal t m ∷ J)
IsScopedChoicePoint c d (More cs k g σ J) K = (keep (Call k) K ≡ K) × Scoped c K J × (k ≤ c) × AreGiven c d J
IsScopedChoicePoint c d (Again t k g σ J) K = Scoped c K (Execute t k g ∷ J) × AreGiven c d (Execute t k g ∷ J)
IsScopedChoicePoint c d (Fail k g σ J) K = Unit {0}
IsScopedChoicePoint c d (Catch k g σ J) K =
    Scoped c (Fail k g σ J ∷ K) (Execute Recovery k g ∷ J) × AreGiven c d (Execute Recovery k g ∷ J)
IsScopedChoicePoint c d (Condition n t m σ J) K = Scoped c K (Goal t m ∷ J) × AreGiven c d (Goal t m ∷ J)

abbrev pub AreScoped : ℕ → ℕ → List Choice → Type 0
AreScoped c d [] = Unit {0}
AreScoped c d (x ∷ K) = IsScopedChoicePoint c d x K × AreScoped c d K

abbrev pub InStep : State → Type 0
InStep (Forward I K σ w) = Scoped w.calls K I × AreGiven w.calls w.conditions I × AreScoped w.calls w.conditions K
InStep (Backward K w) = AreScoped w.calls w.conditions K
InStep (Throwing b o K w) = AreScoped w.calls w.conditions K
InStep (Over r w) = Unit {0}
