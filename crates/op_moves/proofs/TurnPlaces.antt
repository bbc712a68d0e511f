-- Places of a run, by the turns that are past at them.
use Rattle.std.proofs.Common.{◌≡◌, ℕ, zero, suc, ◌+◌, ◌-◌, ◌≤◌, List, [], ◌∷◌, ◌++◌, length, get_or, Some, None, refl}
use Rattle.std.proofs.Common.{ap, ◌∙◌, arith, add-one, length-append}
use Rattle.std.proofs.lemmas.List.{get_or-append_right, get_or_past}
use Rattle.op_trace.specs.World.{World, Event, Turn, Shown, Solved}
use Rattle.op_trace.specs.Run.{Run, events_of, worlds_of, at_place}
use Rattle.op_moves.specs.Moves.{event_at, nth_event}
use Rattle.op_moves.specs.Places.{event_count, turns_to}
use Rattle.op_moves.proofs.RisingPlaces.{behind_first}

pub events-append : (ts us : List Turn) → events_of (ts ++ us) ≡ events_of ts ++ events_of us
events-append [] us = refl
events-append (Shown e w ∷ ts) us = ap (λ (es : List Event). e ∷ es) (events-append ts us)
events-append (Solved σ w ∷ ts) us = events-append ts us

pub worlds-append : (ts us : List Turn) → worlds_of (ts ++ us) ≡ worlds_of ts ++ worlds_of us
worlds-append [] us = refl
worlds-append (Shown e w ∷ ts) us = ap (λ (ws : List World). w ∷ ws) (worlds-append ts us)
worlds-append (Solved σ w ∷ ts) us = worlds-append ts us

pub worlds-count : (ts : List Turn) → length (worlds_of ts) ≡ length (events_of ts)
worlds-count [] = refl
worlds-count (Shown e w ∷ ts) = ap suc (worlds-count ts)
worlds-count (Solved σ w ∷ ts) = worlds-count ts

pub events-few : (ts : List Turn) → length (events_of ts) ≤ length ts
events-few [] = omega arith
events-few (Shown e w ∷ ts) = let h = events-few ts in omega arith
events-few (Solved σ w ∷ ts) = let h = events-few ts in omega arith

pub nth-none : (es : List Event) (i : ℕ) → length es ≤ i → nth_event es i ≡ None
nth-none [] i h = refl
nth-none (e ∷ es) zero h = absurd (omega arith)
nth-none (e ∷ es) (suc i) h = nth-none es i (omega arith)

pub nth-behind : (es : List Event) (e : Event) (fs : List Event) (i : ℕ) → length es ≡ i → nth_event (es ++ e ∷ fs) i ≡ Some e
nth-behind [] e fs zero h = refl
nth-behind [] e fs (suc i) h = absurd (omega arith)
nth-behind (x ∷ es) e fs zero h = absurd (omega arith)
nth-behind (x ∷ es) e fs (suc i) h = nth-behind es e fs i (omega arith)

-- the turns up to an event, and all behind the last one
pub turns-to-event : (ts : List Turn) (e : Event) (w : World) (us : List Turn) (i : ℕ) → length (events_of ts) ≡ i
    → turns_to (ts ++ Shown e w ∷ us) (suc i) ≡ length ts + 1
turns-to-event [] e w us zero h = refl
turns-to-event [] e w us (suc i) h = absurd (omega arith)
turns-to-event (Shown x u ∷ ts) e w us zero h = absurd (omega arith)
turns-to-event (Shown x u ∷ ts) e w us (suc i) h = let p = turns-to-event ts e w us i (omega arith) in omega arith
turns-to-event (Solved σ u ∷ ts) e w us i h = let p = turns-to-event ts e w us i h in omega arith

pub turns-to-all : (ts : List Turn) (i : ℕ) → length (events_of ts) ≡ i → turns_to ts (suc i) ≡ length ts
turns-to-all [] i h = refl
turns-to-all (Shown x u ∷ ts) zero h = absurd (omega arith)
turns-to-all (Shown x u ∷ ts) (suc i) h = let p = turns-to-all ts i (omega arith) in omega arith
turns-to-all (Solved σ u ∷ ts) i h = let p = turns-to-all ts i h in omega arith

-- a part of the world at the place behind one
pub behind : {A : Type 0} (nothing : A) (part : World → A) (r : Run) (p : ℕ) (w : World) → get_or (worlds_of r.turns) p r.world ≡ w
    → at_place nothing part r (p + 1) ≡ part w
behind nothing part r p w h = rw add-one (behind_first nothing part r p ∙ ap part h)

-- the place behind so many events is an event
pub record IsAt (r : Run) (p : ℕ) (e : Event) (w : World) (turns : ℕ) : Type 0 where
  pub within : p + 1 ≤ event_count r
  pub event : event_at (events_of r.turns) (p + 1) ≡ Some e
  pub world : get_or (worlds_of r.turns) p r.world ≡ w
  pub turns_are : turns_to r.turns (p + 1) ≡ turns

pub is-at : (r : Run) (ts : List Turn) (e : Event) (w : World) (us : List Turn) (p : ℕ) → r.turns ≡ ts ++ Shown e w ∷ us
    → length (events_of ts) ≡ p → IsAt r p e w (length ts + 1)
is-at r ts e w us p h n =
    let events : events_of r.turns ≡ events_of ts ++ e ∷ events_of us = ap events_of h ∙ events-append ts (Shown e w ∷ us) in
    let worlds : worlds_of r.turns ≡ worlds_of ts ++ w ∷ worlds_of us = ap worlds_of h ∙ worlds-append ts (Shown e w ∷ us) in
    let count : length (worlds_of ts) ≡ p = worlds-count ts ∙ n in
    let all = ap length events ∙ length-append (events_of ts) (e ∷ events_of us) in
    let zeroth : p - p ≡ 0 = omega arith in
    let there = get_or-append_right (worlds_of ts) (w ∷ worlds_of us) p p r.world count (omega arith) in
    record {
      within = omega arith;
      event = rw add-one (ap (λ es. nth_event es p) events ∙ nth-behind (events_of ts) e (events_of us) p n);
      world = ap (λ ws. get_or ws p r.world) worlds ∙ there ∙ ap (λ i. get_or (w ∷ worlds_of us) i r.world) zeroth;
      turns_are = rw add-one (ap (λ us. turns_to us (suc p)) h ∙ turns-to-event ts e w us p n);
    }

-- the place behind all events is the end
pub record IsPast (r : Run) (p : ℕ) (turns : ℕ) : Type 0 where
  pub count : event_count r ≡ p
  pub event : event_at (events_of r.turns) (p + 1) ≡ None
  pub world : get_or (worlds_of r.turns) p r.world ≡ r.world
  pub turns_are : turns_to r.turns (p + 1) ≡ turns

pub is-past : (r : Run) (p : ℕ) → event_count r ≡ p → IsPast r p (length r.turns)
is-past r p h =
    let count = worlds-count r.turns in
    record {
      count = h;
      event = rw add-one (nth-none (events_of r.turns) p (omega arith));
      world = get_or_past (worlds_of r.turns) p r.world (omega arith);
      turns_are = rw add-one (turns-to-all r.turns p h);
    }
