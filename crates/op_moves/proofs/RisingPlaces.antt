-- What the course of a run says of its places.
use Rattle.std.proofs.Common.{◌≡◌, ℕ, zero, suc, ◌+◌, ◌-◌, ◌≤◌, nat_le, List, [], ◌∷◌, get_or}
use Rattle.std.proofs.Common.{Some, refl, ap, ◌∙◌, subst, arith}
use Rattle.std.proofs.lemmas.Bool.{lt-leb}
use Rattle.op_logic.specs.Term.{Term}
use Rattle.op_logic.proofs.BoolCases.{if_false}
use Rattle.op_trace.specs.Database.{Text}
use Rattle.op_trace.specs.declared.barrier.Barrier.TheVariants.{Call}
use Rattle.op_trace.specs.World.{World, Event, Turn, Shown, Solved, Goal}
use Rattle.op_trace.specs.Act.{Setup}
use Rattle.op_trace.specs.Run.{Run, run, started, events_of, worlds_of, at_place, steps_at, looked_at, output_at}
use Rattle.op_moves.specs.Moves.{event_at, nth_event}
use Rattle.op_moves.specs.Places.{IsWrittenBehind, GoesOn, ActsGoOn, IsSilent, IsShown, IsCourse, Rising, IsNumbered}
use Rattle.op_moves.proofs.WalkCourses.{goes-same, goes-then, visit-course}

-- a part of the world at an event or at the end
pub behind_first : {A : Type 0} (nothing : A) (part : World → A) (r : Run) (i : ℕ)
    → at_place nothing part r (suc i) ≡ part (get_or (worlds_of r.turns) i r.world)
behind_first nothing part r i =
    let p : suc i - 1 ≡ i = omega arith in
    if_false (nat_le (suc i) 0) nothing (part (get_or (worlds_of r.turns) (suc i - 1) r.world)) (lt-leb (suc i) 0 (omega arith))
    ∙ ap (λ (k : ℕ). part (get_or (worlds_of r.turns) k r.world)) p

-- no fewer steps, and nothing taken back
pub record IsLater (w u : World) : Type 0 where
  pub steps : w.steps ≤ u.steps
  pub goes_on : GoesOn w u

later-same : (w : World) → IsLater w w
later-same w = record { steps = omega arith; goes_on = goes-same w }

later-then : (w u v : World) → IsLater w u → IsLater u v → IsLater w v
later-then w u v a b = record {
  steps = let p = a.steps in let q = b.steps in omega arith;
  goes_on = goes-then w u v a.goes_on b.goes_on;
}

silent-later : (w u : World) → IsSilent w u → IsLater w u
silent-later w u a = record { steps = a.steps; goes_on = a.goes_on }

shown-later : (w : World) (e : Event) (u : World) → IsShown w e u → IsLater w u
shown-later w e u a = record { steps = a.steps; goes_on = a.goes_on }

-- each place is later than the first world
pub first-later : (w : World) (ts : List Turn) (v : World) (j : ℕ) → IsCourse w ts v → IsLater w (get_or (worlds_of ts) j v)
first-later w [] v j c = silent-later w v c
first-later w (Shown e u ∷ ts) v zero c = shown-later w e u c.0
first-later w (Shown e u ∷ ts) v (suc j) c =
    later-then w u (get_or (worlds_of ts) j v) (shown-later w e u c.0) (first-later u ts v j c.1)
first-later w (Solved σ u ∷ ts) v j c =
    later-then w u (get_or (worlds_of ts) j v) (silent-later w u c.0) (first-later u ts v j c.1)

places-later : (w : World) (ts : List Turn) (v : World) (i j : ℕ) → IsCourse w ts v → i ≤ j
    → IsLater (get_or (worlds_of ts) i v) (get_or (worlds_of ts) j v)
places-later w [] v i j c h = later-same v
places-later w (Shown e u ∷ ts) v zero zero c h = later-same u
places-later w (Shown e u ∷ ts) v zero (suc j) c h = first-later u ts v j c.1
places-later w (Shown e u ∷ ts) v (suc i) zero c h = absurd (omega arith)
places-later w (Shown e u ∷ ts) v (suc i) (suc j) c h = places-later u ts v i j c.1 (omega arith)
places-later w (Solved σ u ∷ ts) v i j c h = places-later u ts v i j c.1 h

-- the world behind a place
here : Run → ℕ → World
here r i = get_or (worlds_of r.turns) i r.world

rising-steps : (w : World) (r : Run) (i j : ℕ) → IsCourse w r.turns r.world → i ≤ j → steps_at r i ≤ steps_at r j
rising-steps w r zero j c h = omega arith
rising-steps w r (suc i) zero c h = absurd (omega arith)
rising-steps w r (suc i) (suc j) c h =
    let l = places-later w r.turns r.world i j c (omega arith) in
    let p = behind_first 0 (λ w. w.steps) r i in
    let q = behind_first 0 (λ w. w.steps) r j in
    let s = l.steps in
    rw (p, q) s

rising-looked : (w : World) (r : Run) (i j : ℕ) → IsCourse w r.turns r.world → i ≤ j → looked_at r i ≤ looked_at r j
rising-looked w r zero j c h = omega arith
rising-looked w r (suc i) zero c h = absurd (omega arith)
rising-looked w r (suc i) (suc j) c h =
    let l = places-later w r.turns r.world i j c (omega arith) in
    let p = behind_first 0 (λ w. w.looked) r i in
    let q = behind_first 0 (λ w. w.looked) r j in
    let s = l.goes_on.looked in
    rw (p, q) s

rising-output : (w : World) (r : Run) (i j : ℕ) → IsCourse w r.turns r.world → i ≤ j
    → IsWrittenBehind (output_at r i) (output_at r j)
rising-output w r zero j c h = (output_at r j, refl)
rising-output w r (suc i) zero c h = absurd (omega arith)
rising-output w r (suc i) (suc j) c h =
    let l = places-later w r.turns r.world i j c (omega arith) in
    let p = behind_first [] (λ w. w.output) r i in
    let q = behind_first [] (λ w. w.output) r j in
    let s = l.goes_on.output in
    rw (p, q) s

pub course-rises : (w : World) (r : Run) → IsCourse w r.turns r.world → Rising r
course-rises w r c = record {
  steps = λ i j h. rising-steps w r i j c h;
  looked = λ i j h. rising-looked w r i j c h;
  output = λ i j h. rising-output w r i j c h;
}

-- the events are numbered on from those of the first world
numbered-on : (w : World) (ts : List Turn) (v : World) (i : ℕ) (e : Event) → IsCourse w ts v → nth_event (events_of ts) i ≡ Some e
    → e.chrono ≡ w.events + suc i
numbered-on w [] v i e c h = absurd cc
numbered-on w (Shown x u ∷ ts) v zero e c h =
    let p : x ≡ e = cc in
    subst (λ (y : Event). y.chrono ≡ w.events + 1) p c.0.chrono
numbered-on w (Shown x u ∷ ts) v (suc i) e c h =
    let p = numbered-on u ts v i e c.1 h in
    let q = c.0.events in
    omega arith
numbered-on w (Solved σ u ∷ ts) v i e c h =
    let p = numbered-on u ts v i e c.1 h in
    let q = c.0.events in
    omega arith

numbered-at : (w : World) (r : Run) (i : ℕ) (e : Event) → w.events ≡ 0 → IsCourse w r.turns r.world
    → event_at (events_of r.turns) i ≡ Some e → e.chrono ≡ i
numbered-at w r zero e z c h = absurd cc
numbered-at w r (suc i) e z c h = let p = numbered-on w r.turns r.world i e c h in omega arith

pub course-numbers : (w : World) (r : Run) → w.events ≡ 0 → IsCourse w r.turns r.world → IsNumbered r
course-numbers w r z c i e h = numbered-at w r i e z c h

pub run-course : (s : Setup) (g : Term Text) (n : ℕ) (w : World) → ActsGoOn s → w.steps ≤ s.budget
    → IsCourse (started n w) (run s g n w).turns (run s g n w).world
run-course s g n w acts_go below = visit-course s acts_go (Goal g (Call 0) ∷ []) [] (started n w) below

pub run-rises : (s : Setup) (g : Term Text) (n : ℕ) (w : World) → ActsGoOn s → w.steps ≤ s.budget → Rising (run s g n w)
run-rises s g n w acts_go below = course-rises (started n w) (run s g n w) (run-course s g n w acts_go below)

pub run-numbers : (s : Setup) (g : Term Text) (n : ℕ) (w : World) → ActsGoOn s → w.steps ≤ s.budget → w.events ≡ 0
    → IsNumbered (run s g n w)
run-numbers s g n w acts_go below z = course-numbers (started n w) (run s g n w) z (run-course s g n w acts_go below)
