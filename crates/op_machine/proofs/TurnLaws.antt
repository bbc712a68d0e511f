-- Moves, one after another, up to a turn or the ending.
use Rattle.std.proofs.Common.{◌≡◌, ℕ, suc, ◌+◌, ◌<◌, ◌≤◌, List, [], ◌∷◌, length, reverse, Option, refl, sym, ap, ◌∙◌, subst}
use Rattle.std.proofs.Common.{arith}
use Rattle.op_trace.specs.Database.{Clause}
use Rattle.op_trace.specs.World.{World, Turn, Shown, Solved}
use Rattle.op_trace.specs.Outside.{Outside, at}
use Rattle.op_trace.specs.Act.{Setup}
use Rattle.op_machine.specs.Acts.{setup_for}
use Rattle.op_trace.specs.Visit.{gives, with_turns, More}
use Rattle.op_machine.specs.declared.core_state.Core.{Core}
use Rattle.op_machine.specs.declared.core_state.Outcome.{Outcome}
use Rattle.op_machine.specs.declared.turn.Ending.{Ending}
use Rattle.op_machine.specs.declared.core_state.Mode.{Mode}
use Rattle.op_machine.specs.declared.core_state.Mode.TheVariants as mode
use Rattle.op_machine.specs.declared.core_state.Step.{Step}
use Rattle.op_machine.specs.declared.core_state.Step.TheVariants as step
use Rattle.op_machine.specs.Meaning.{Frame}
use Rattle.op_machine.specs.declared.choice_points.ChoiceKind.{ChoiceKind}
use Rattle.op_machine.specs.declared.choice_points.ChoiceKind.TheVariants as kind
use Rattle.op_store.specs.Stored.{Stored}
use Rattle.op_machine.specs.Meaning.{Level, level_at, level_in, setup_of, world_in, state_of, state_with, items_in, term_in, bindings_in}
use Rattle.op_machine.specs.Meaning.{choice_points_of, choice_point_by, verdict_of, left_by, world_left, event_seen, bindings_now}
use Rattle.op_machine.specs.Machine.{ending_for, HasBallNames}
use Rattle.op_frames.specs.Frames.{Framed}
use Rattle.op_logic.specs.Term.{Term}
use Rattle.op_trace.specs.Run.{ending_of}
use Rattle.op_machine.specs.declared.choice_points.Alternative.{Alternative}
use Rattle.op_machine.specs.inner.Invariant.{IsSound, AreFrames, IsKind, Fits}
use Rattle.op_machine.specs.inner.Bounds.{Counted, event_bound}
use Rattle.op_machine.specs.Resume.{State, Forward, Backward, Throwing, Over, Moved, owed, move, world_of}
use Rattle.op_machine.specs.inner.Barriers.{InStep}
use Rattle.op_machine.specs.Outer.{state_at, turns_at}
use Rattle.op_machine.specs.inner.Moves.{KeepsProgram, Proceeds, turns_of}
use Rattle.op_machine.specs.inner.Turns.{turns_in, Follows, Walked, Showed, Ended}
use Rattle.op_machine.proofs.ClauseLists.{clauses_from-some}
use Rattle.op_machine.proofs.BoundLaws.{move-counted, bound-same}
use Rattle.op_machine.proofs.OuterLaws.{move-equation-outer}
use Rattle.op_machine.proofs.BarrierLaws.{move-in_step}
use Rattle.op_machine.proofs.ProgramLaws.{grown-self, grown-grown}
use Rattle.op_machine.proofs.ToldWorlds.{Tells, move-told}
use Rattle.op_machine.proofs.ProgressLaws.{count_in, IsOnward, move-onward, move-lighter, weight, IsOver, HasClauses}

pub world-with : (t : Stored) (v : Level) (x : Framed Alternative) (w : World) (b : Option (Term ℕ)) (q : Mode)
    → world_of (state_with t v x w b q) ≡ left_by q w
world-with t v x w b (mode.Forward n) = refl
world-with t v x w b mode.Backward = refl
world-with t v x w b (mode.Throwing n) = refl
world-with t v x w b (mode.Over e) = refl

pub world-is : (c : Core) → world_of (state_of c) ≡ world_left c
world-is c = world-with c.store (level_in c) c.frames (world_in c) c.ball c.mode

pub counted-numbers : (s : Setup) (t : State) → s.budget ≤ 1000000000 → Counted s t
    → ((world_of t).steps ≤ s.budget) × ((world_of t).events ≤ event_bound (world_of t).steps)
    × ((world_of t).solutions ≤ suc (world_of t).steps) × ((world_of t).calls ≤ (world_of t).steps)
    × ((world_of t).conditions ≤ (world_of t).steps)
counted-numbers s (Forward I K σ w) b h = (h.0.steps, omega arith, omega arith, h.0.calls, h.0.conditions)
counted-numbers s (Backward K w) b h = (h.0.steps, omega arith, omega arith, h.0.calls, h.0.conditions)
counted-numbers s (Throwing x p K w) b h = (h.0.steps, omega arith, omega arith, h.0.calls, h.0.conditions)
counted-numbers s (Over r w) b h = (h.0.steps, omega arith, omega arith, h.0.calls, h.0.conditions)

pub bound-top : (n : ℕ) → n ≤ 1000000000 → event_bound n ≤ 2000000004000000000
bound-top n h = bound-same n 1000000000 h

pub numbers-fit : (c : Core) (w : World) → world_of (state_of c) ≡ w → c.budget ≤ 1000000000
    → (w.steps ≤ c.budget) × (w.events ≤ event_bound w.steps) × (w.solutions ≤ suc w.steps) × (w.calls ≤ w.steps)
    × (w.conditions ≤ w.steps) → w ≡ world_left c → Fits c
numbers-fit c w e b h same =
    let s : w.steps ≡ c.steps = ap (λ (x : World). x.steps) same in
    let ev : w.events ≡ c.events = ap (λ (x : World). x.events) same in
    let so : w.solutions ≡ c.solutions = ap (λ (x : World). x.solutions) same in
    let ca : w.calls ≡ c.calls = ap (λ (x : World). x.calls) same in
    let co : w.conditions ≡ c.conditions = ap (λ (x : World). x.conditions) same in
    let top : event_bound w.steps ≤ 2000000004000000000 = bound-top w.steps (omega (arith, h.0)) in
    record {
      steps = omega (arith, h.0);
      events = omega (arith, h.1, top);
      solutions = omega (arith, h.0, h.2);
      calls =
          omega (arith, h.0, h.3);
      conditions = omega (arith, h.0, h.4);
      turns = omega (arith, h.0, h.1, h.2, top);
    }

pub sound-fits : (c : Core) → IsSound c → Fits c
sound-fits c s = numbers-fit c (world_of (state_of c)) refl s.limit (counted-numbers (setup_of c) (state_of c) s.limit s.counted)
    (world-is c)

abbrev pub moved_from : Core → Moved
moved_from c = move (setup_of c) (state_of c)

pub below-budget : (c : Core) → IsSound c → (world_of (state_of c)).steps ≤ (setup_of c).budget
below-budget c s = (counted-numbers (setup_of c) (state_of c) s.limit s.counted).0

pub setup-same : (old new : Core) → new.budget ≡ old.budget → new.wanted ≡ old.wanted → setup_of old ≡ setup_of new
setup-same old new b w =
    ap (λ (x : ℕ). setup_for x old.wanted) (sym b) ∙ ap (λ (x : ℕ). setup_for new.budget x) (sym w)

pub advance-sound : (old new : Core) (s : Step) → IsSound old → Proceeds old new (moved_from old) s → IsSound new
advance-sound old new s h a = record {
  good = a.good;
  counted = subst (λ (x : Setup). Counted x (state_of new)) (setup-same old new a.budget a.wanted)
      (subst (λ (t : State). Counted (setup_of old) t) (sym a.state) (move-counted (setup_of old) (state_of old) h.counted));
  in_step = subst InStep (sym a.state) (move-in_step (setup_of old) (state_of old) h.in_step);
  limit = omega (arith, h.limit, a.budget);
}

pub advance-onward : (old new : Core) (s : Step) → IsSound old → Proceeds old new (moved_from old) s
    → (turns_in new ≡ turns_in old + length (turns_of s new)) × (old.steps ≤ new.steps)
advance-onward old new s h a =
    let on : IsOnward (setup_of old) (world_of (state_of old)) (moved_from old) =
    move-onward (setup_of old) (state_of old) (below-budget old h) in
    let before : world_of (state_of old) ≡ world_left old = world-is old in
    let after : world_of (moved_from old).state ≡ world_left new = ap world_of (sym a.state) ∙ world-is new in
    let be : (world_of (state_of old)).events + (world_of (state_of old)).solutions
    ≡ turns_in old = ap (λ (w : World). w.events + w.solutions) before in
    let ae : count_in (moved_from old).state ≡ turns_in new = ap (λ (w : World). w.events + w.solutions) after in
    let n : length (turns_of s new) ≡ length (moved_from old).turns = ap length a.turns in
    let bs : (world_of (state_of old)).steps ≡ old.steps = ap (λ (w : World). w.steps) before in
    let as_ : (world_of (moved_from old).state).steps ≡ new.steps = ap (λ (w : World). w.steps) after in
    (omega (arith, on.count, be, ae, n), omega (arith, on.steps, bs, as_))

-- whatever lies outside and whatever was written before
pub advance-owed : (old new : Core) (s : Step) → IsSound old → Proceeds old new (moved_from old) s → (g : Outside) (o : List ℕ)
    → owed (setup_of old) (state_at g o (state_of old))
    ≡ with_turns (turns_at g o (turns_of s new)) (owed (setup_of new) (state_at g o (state_of new)))
advance-owed old new s h a g o =
    move-equation-outer g o old.budget old.wanted (state_of old) (below-budget old h) h.in_step
    ∙ (ap (λ (ts : List Turn). with_turns (turns_at g o ts) (owed (setup_of old) (state_at g o (moved_from old).state))) (sym a.turns)
    ∙ (ap (λ (t : State). with_turns (turns_at g o (turns_of s new)) (owed (setup_of old) (state_at g o t))) (sym a.state)
    ∙ ap (λ (x : Setup). with_turns (turns_at g o (turns_of s new)) (owed x (state_at g o (state_of new))))
    (setup-same old new a.budget a.wanted)))

pub follows-on : (first mid new : Core) (s : Step) → Follows first mid → Proceeds mid new (moved_from mid) s → Follows first new
follows-on first mid new s f a = record {
  sound = advance-sound mid new s f.sound a;
  store = grown-grown first.store mid.store new.store f.store a.store;
  names = a.names ∙ f.names;
  budget = a.budget ∙ f.budget;
  wanted = a.wanted ∙ f.wanted;
  later = omega (arith, f.later, (advance-onward mid new s f.sound a).1);
}

pub walked-on : (first mid new : Core) → Walked first mid → Proceeds mid new (moved_from mid) step.Silent → Walked first new
walked-on first mid new w a = record {
  follows = follows-on first mid new step.Silent w.follows a;
  owed = λ g o. w.owed g o ∙ advance-owed mid new step.Silent w.follows.sound a g o;
  count = omega (arith, w.count, (advance-onward mid new step.Silent w.follows.sound a).0);
}

pub showed-on : (first mid new : Core) (s : Step) (t : Turn) → turns_of s new ≡ t ∷ [] → Walked first mid
    → Proceeds mid new (moved_from mid) s → Showed first new t
showed-on first mid new s t one w a = record {
  follows = follows-on first mid new s w.follows a;
  owed = λ g o. w.owed g o ∙ (advance-owed mid new s w.follows.sound a g o
      ∙ ap (λ (ts : List Turn). with_turns (turns_at g o ts) (owed (setup_of new) (state_at g o (state_of new)))) one);
  count = omega (arith, w.count, (advance-onward mid new s w.follows.sound a).0, ap length one);
}

-- the world of a turn is the one that was left
told-left : (mid new : Core) (s : Step) → Proceeds mid new (moved_from mid) s → Tells (turns_of s new) (world_left new)
told-left mid new s a =
    let left : world_of (moved_from mid).state ≡ world_left new = ap world_of (sym a.state) ∙ world-is new in
    subst (λ (ts : List Turn). Tells ts (world_left new)) (sym a.turns)
    (subst (λ (w : World). Tells (moved_from mid).turns w) left (move-told (setup_of mid) (state_of mid)))

pub event-on : (first mid new : Core) → Walked first mid → Proceeds mid new (moved_from mid) step.Event
    → Showed first new (Shown (event_seen new.store new.bindings new.seen) (world_left new))
event-on first mid new w a =
    showed-on first mid new step.Event (Shown (event_seen new.store new.bindings new.seen) (world_left new))
    (ap (λ (u : World). Shown (event_seen new.store new.bindings new.seen) u ∷ []) (told-left mid new step.Event a).0) w a

pub solution-on : (first mid new : Core) → Walked first mid → Proceeds mid new (moved_from mid) step.Solution
    → Showed first new (Solved (bindings_now new) (world_left new))
solution-on first mid new w a =
    showed-on first mid new step.Solution (Solved (bindings_now new) (world_left new))
    (ap (λ (u : World). Solved (bindings_now new) u ∷ []) (told-left mid new step.Solution a).0) w a

-- an outcome is answered as this ending
pub ended-at : (first mid : Core) (r : Outcome) (e : Ending) → Walked first mid → mid.mode ≡ mode.Over r
    → ending_of (verdict_of mid.store mid.frames mid.ball r) ≡ ending_for mid.store.names e → HasBallNames (length mid.store.names) e
    → Ended first mid e
unfolding owed
ended-at first mid r e w m is names = record {
  walked = w;
  verdict = verdict_of mid.store mid.frames mid.ball r;
  is = is;
  owed = λ g o. w.owed g o
      ∙ (ap (λ (q : Mode). owed (setup_of mid) (state_at g o
      (state_with mid.store (level_in mid) mid.frames (world_in mid) mid.ball q))) m
      ∙ ap (λ (q : Mode). gives (verdict_of mid.store mid.frames mid.ball r) (at g o (left_by q (world_in mid)))) (sym m));
  names = names;
}

pub walked-self : (c : Core) → IsSound c → Walked c c
walked-self c s = record {
  follows = record { sound = s; store = grown-self c.store; names = refl; budget = refl; wanted = refl; later = omega arith };
  owed = λ g o. refl;
  count = refl;
}

pub walked-keeps : (first mid : Core) → Walked first mid → KeepsProgram first mid
walked-keeps first mid w = record { store = w.follows.store; names = w.follows.names; later = w.follows.later }

-- choice points of clauses have some
pub frames-clauses : (t : Stored) (floor : ℕ) (v : Level) (F : List Frame) (w : World) → AreFrames t floor v F
    → HasClauses (Backward (choice_points_of t v F) w)
frames-clauses t floor v [] w a = tt
frames-clauses t floor v (f ∷ F) w a = go f.kept.kind a.2.kind
  where
    u : Level
    u = level_at f v

    go : (q : ChoiceKind) → IsKind (length t.names) (level_at f v).terms f.kept.goal q
        → HasClauses (Backward (choice_point_by t u q f.kept.goal f.rest ∷ choice_points_of t u F) w)
    go (kind.Redo c) k = tt
    go (kind.Branch m) k = tt
    go (kind.More c rs i) k = subst (λ (cs : List Clause).
        HasClauses (Backward (More cs c (term_in t u f.kept.goal) (bindings_in t u) (items_in t u f.rest) ∷ choice_points_of t u F) w))
        (sym (clauses_from-some t rs i k.0).1.1) tt
    go (kind.Fail c) k = tt
    go (kind.Catch c) k = tt
    go (kind.Condition c m) k = tt

pub has-clauses : (t : Stored) (floor : ℕ) (v : Level) (x : Framed Alternative) (w : World) (b : Option (Term ℕ)) (q : Mode)
    → AreFrames t floor v (reverse x.choices) → HasClauses (state_with t v x w b q)
has-clauses t floor v x w b (mode.Forward i) a = tt
has-clauses t floor v x w b mode.Backward a = frames-clauses t floor v (reverse x.choices) w a
has-clauses t floor v x w b (mode.Throwing i) a = tt
has-clauses t floor v x w b (mode.Over e) a = tt

pub not-over : (t : Stored) (v : Level) (x : Framed Alternative) (w : World) (b : Option (Term ℕ)) (q : Mode)
    → ((e : Outcome) → q ≡ mode.Over e → ⊥) → IsOver (state_with t v x w b q) → ⊥
not-over t v x w b (mode.Forward i) no_end o = o
not-over t v x w b mode.Backward no_end o = o
not-over t v x w b (mode.Throwing i) no_end o = o
not-over t v x w b (mode.Over e) no_end o = no_end e refl

pub lighter-on : (mid new : Core) → IsSound mid → ((e : Outcome) → mid.mode ≡ mode.Over e → ⊥)
    → Proceeds mid new (moved_from mid) step.Silent
    → weight (setup_of new) (state_of new) < weight (setup_of mid) (state_of mid)
lighter-on mid new s no_end a =
    let l : weight (setup_of mid) (moved_from mid).state < weight (setup_of mid) (state_of mid) =
    move-lighter (setup_of mid) (state_of mid) (below-budget mid s)
    (not-over mid.store (level_in mid) mid.frames (world_in mid) mid.ball mid.mode no_end)
    (has-clauses mid.store mid.floor.terms (level_in mid) mid.frames (world_in mid) mid.ball mid.mode s.good.frames) s.counted
    (sym a.turns) in
    subst (λ (x : Setup). weight x (state_of new) < weight (setup_of mid) (state_of mid)) (setup-same mid new a.budget a.wanted)
    (subst (λ (t : State). weight (setup_of mid) t < weight (setup_of mid) (state_of mid)) (sym a.state) l)
