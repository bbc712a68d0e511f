-- The choice points that a ball goes up to: those from the next open box on, the last first; and the box that shows it.
use Rattle.std.specs.Prelude.{◌≡◌, ℕ, ◌<◌, Bool, true, false, List, [], ◌∷◌, if◌then◌else◌}
use Rattle.op_trace.specs.Visit.{is_open, around}
use Rattle.op_frames.specs.Frames.{Framed}
use Rattle.op_machine.specs.declared.choice_points.ChoiceKind.{ChoiceKind}
use Rattle.op_machine.specs.declared.choice_points.ChoiceKind.TheVariants as kind
use Rattle.op_machine.specs.declared.choice_points.Alternative.{Alternative}
use Rattle.op_machine.specs.declared.core_state.Core.{Core}
use Rattle.op_machine.specs.declared.throwing.Leaving.{Leaving}
use Rattle.op_machine.specs.Meaning.{Frame, open_in, ball_text, goal_now, bindings_now, items_now, choice_points_in, world_in, setup_of}
use Rattle.op_machine.specs.Resume.{Moved, raised, ball_met}

-- a choice point of a box that is open
abbrev pub kind_leaves : List ℕ → ChoiceKind → Bool
kind_leaves o (kind.Fail k) = is_open k o
kind_leaves o (kind.Catch k) = is_open k o
kind_leaves o q = false

abbrev pub frame_leaves : List ℕ → Frame → Bool
frame_leaves o f = kind_leaves o f.kept.kind

abbrev pub left_frames : List ℕ → List Frame → List Frame
left_frames o [] = []
left_frames o (f ∷ F) = if frame_leaves o f then f ∷ F else left_frames o F

-- a choice point of this box that a ball comes to
abbrev pub IsOwn : ℕ → ChoiceKind → Type 0
IsOwn call (kind.Fail k) = k ≡ call
IsOwn call (kind.Catch k) = k ≡ call
IsOwn call q = ⊥

-- this choice point is that of this box, which is open in another, and these are the boxes around it
pub record IsLeft (x : Framed Alternative) (inner call outer : ℕ) (f : Frame) : Type 0 where
  pub own : IsOwn call f.kept.kind
  pub among : is_open call (open_in x inner) ≡ true
  pub outer_boxes : open_in x outer ≡ around call (open_in x inner)
  pub below : outer < call

-- the last of these choice points, where there is one, is that of the box that is left
abbrev pub BeginsLeft : Framed Alternative → ℕ → Leaving → List Frame → Type 0
BeginsLeft x inner l [] = Unit {0}
BeginsLeft x inner l (f ∷ F) = IsLeft x inner l.call l.around f

-- a box with these items behind it shows the ball that leaves it, and the ball goes on up from the one around it
abbrev pub box_left : Core → ℕ → ℕ → ℕ → ℕ → Moved
box_left c k g n outer = raised k (goal_now c g) (bindings_now c) (items_now c n) (choice_points_in c) (ball_text c.store c.ball)
    (open_in c.frames outer) (world_in c)

-- one that may catch it meets it
abbrev pub box_met : Core → ℕ → ℕ → ℕ → ℕ → Moved
box_met c k g n outer = ball_met (setup_of c) k (goal_now c g) (bindings_now c) (items_now c n) (choice_points_in c)
    (ball_text c.store c.ball) (open_in c.frames outer) (world_in c)

-- the box of a choice point that a ball comes to
abbrev pub box_reached : Core → ChoiceKind → ℕ → ℕ → ℕ → ℕ → Moved
box_reached c (kind.Catch call) k g n outer = box_met c k g n outer
box_reached c q k g n outer = box_left c k g n outer
