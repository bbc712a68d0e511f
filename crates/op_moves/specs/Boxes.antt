-- What the events of a run tell of its boxes: each box is called once, before it is seen at another port and before a box is called in it.
use Rattle.std.specs.Prelude.{◌≡◌, ℕ, ◌<◌, true, false, List, Some}
use Rattle.op_trace.specs.World.{Event}
use Rattle.op_moves.specs.Moves.{At, event_at, is_call, call_of}

-- the call of a box is at an earlier place
abbrev pub IsCalledBefore : List Event → ℕ → ℕ → Type 0
IsCalledBefore es i k = (j : ℕ) × ((j < i) × (call_of es k ≡ At j))

-- An event at port call is the call of its box, so that no other is. The box of an event at another port was called before, and so was its
-- parent, where it has one.
pub record AreCalled (es : List Event) : Type 0 where
  pub here : (i : ℕ) (e : Event) → event_at es i ≡ Some e → is_call e.port ≡ true → call_of es e.call ≡ At i
  pub before : (i : ℕ) (e : Event) → event_at es i ≡ Some e → is_call e.port ≡ false → IsCalledBefore es i e.call
  pub parent : (i : ℕ) (e : Event) → event_at es i ≡ Some e → 0 < e.parent → IsCalledBefore es i e.parent
