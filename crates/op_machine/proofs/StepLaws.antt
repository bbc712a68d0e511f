-- Steps that are there, and steps that are not; the bounds of the counts stay.
use Rattle.std.proofs.Common.{◌≡◌, ℕ, ◌+◌, ◌<◌, ◌≤◌, nat_le, Bool, true, false, List, ap, arith}
use Rattle.std.proofs.lemmas.Bool.Decides.{nat_tests}
use Rattle.op_trace.specs.World.{World}
use Rattle.op_trace.specs.Act.{Setup}
use Rattle.op_trace.specs.Visit.{Spent}
use Rattle.op_bind.specs.State as bind
use Rattle.op_frames.specs.Frames.{Framed}
use Rattle.op_machine.specs.declared.choice_points.Alternative.{Alternative}
use Rattle.op_machine.specs.declared.continuations.Item.{Item}
use Rattle.op_machine.specs.declared.core_state.Core.{Core}
use Rattle.op_machine.specs.inner.Invariant.{Fits}
use Rattle.op_machine.specs.Resume.{Over, Moved, silent, paid, pay}

pub pay-yes : (s : Setup) (n : ℕ) (w : World) (h : World → Moved) → w.steps + n ≤ s.budget → pay s n w h
    ≡ h (record w { steps = w.steps + n })
pay-yes s n w h fits = let e : nat_le (w.steps + n) s.budget ≡ true = grind (arith, nat_tests) in ap (λ (t : Bool). paid t s n w h) e

pub pay-no : (s : Setup) (n : ℕ) (w : World) (h : World → Moved) → s.budget < w.steps + n → pay s n w h
    ≡ silent (Over Spent (record w { steps = s.budget }))
pay-no s n w h over = let e : nat_le (w.steps + n) s.budget ≡ false = grind (arith, nat_tests) in ap (λ (t : Bool). paid t s n w h) e

-- the counts, where steps, bindings, continuations and choice points change
pub fits-at : (c : Core) (n : ℕ) (b : bind.State) (L : List (List Item)) (x : Framed Alternative) → Fits c → n ≤ c.budget
    → Fits (record c { steps = n; bindings = b; continuations = L; frames = x })
fits-at c n b L x f h = record {
  steps = h;
  events = f.events;
  solutions = f.solutions;
  calls = f.calls;
  conditions = f.conditions;
  turns = f.turns;
}
