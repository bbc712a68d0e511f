-- Bounds on what a machine counts: between two steps each box that is open or can be entered again shows few events.
use Rattle.std.specs.Prelude.{ℕ, suc, ◌+◌, ◌*◌, ◌<◌, ◌≤◌, List, [], ◌∷◌, length}
use Rattle.op_trace.specs.World.{World, Item, Goal, Cut, Exit, Execute, open_boxes}
use Rattle.op_trace.specs.Act.{Setup}
use Rattle.op_trace.specs.Visit.{Choice, Redo, Branch, More, Again, Fail, Catch, Condition}
use Rattle.op_machine.specs.Resume.{State, Forward, Backward, Throwing, Over}

-- how many events the choice points show by themselves
abbrev pub pending : List Choice → ℕ
pending [] = 0
pending (Redo k g σ J ∷ K) = suc (pending K)
pending (More cs k g σ J ∷ K) = pending K
pending (Again t k g σ J ∷ K) = pending K
pending (Branch t m σ J ∷ K) = pending K
pending (Fail k g σ J ∷ K) = suc (pending K)
pending (Catch k g σ J ∷ K) = suc (pending K)
pending (Condition n t m σ J ∷ K) = pending K

-- these items begin with a goal
abbrev pub IsGoalFirst : List Item → Type 0
IsGoalFirst (Goal t m ∷ J) = Unit {0}
IsGoalFirst I = ⊥

-- of the boxes that exit, or whose goal is executed, each has a number that was given out, and fewer are open behind it; behind a cut
-- comes a
-- goal
abbrev pub IsNested : ℕ → List Item → Type 0
IsNested n [] = Unit {0}
IsNested n (Goal t m ∷ J) = IsNested n J
IsNested n (Cut m ∷ J) = IsGoalFirst J × IsNested n J
IsNested n (Exit k g ∷ J) = (length (open_boxes J) < k) × (k ≤ n) × IsNested n J
IsNested n (Execute t k g ∷ J) = (length (open_boxes J) < k) × (k ≤ n) × IsNested n J

abbrev pub AreNested : ℕ → List Choice → Type 0
AreNested n [] = Unit {0}
AreNested n (Redo k g σ J ∷ K) = IsNested n (Exit k g ∷ J) × AreNested n K
AreNested n (More cs k g σ J ∷ K) = IsNested n (Exit k g ∷ J) × AreNested n K
AreNested n (Again t k g σ J ∷ K) = IsNested n (Exit k g ∷ J) × AreNested n K
AreNested n (Branch t m σ J ∷ K) = IsNested n J × AreNested n K
AreNested n (Condition c t m σ J ∷ K) = IsNested n J × AreNested n K
AreNested n (Fail k g σ J ∷ K) = IsNested n (Exit k g ∷ J) × AreNested n K
AreNested n (Catch k g σ J ∷ K) = IsNested n (Exit k g ∷ J) × AreNested n K

-- so many events come with so many steps at the most
abbrev pub event_bound : ℕ → ℕ
event_bound n = n * (2 * n + 4)

pub record Counts (s : Setup) (w : World) : Type 0 where
  pub steps : w.steps ≤ s.budget
  pub calls : w.calls ≤ w.steps
  pub conditions : w.conditions ≤ w.steps

abbrev pub Counted : Setup → State → Type 0
Counted s (Forward I K σ w) =
    Counts s w × (w.events + (2 * length (open_boxes I) + pending K) ≤ event_bound w.steps) × (w.solutions ≤ w.steps)
    × IsNested w.calls I × AreNested w.calls K
Counted s (Backward K w) =
    Counts s w × (w.events + pending K ≤ event_bound w.steps) × (w.solutions ≤ suc w.steps) × AreNested w.calls K
Counted s (Throwing b o K w) =
    Counts s w × (w.events + pending K ≤ event_bound w.steps) × (w.solutions ≤ suc w.steps) × AreNested w.calls K
Counted s (Over r w) = Counts s w × (w.events ≤ event_bound w.steps) × (w.solutions ≤ suc w.steps)
