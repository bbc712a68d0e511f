-- What the machine does in each case is one move.
use Rattle.std.proofs.Common.{◌≡◌, ℕ, suc, ◌+◌, ◌-◌, ◌<◌, ◌≤◌, List, [], ◌∷◌, length, get_or, reverse, refl, sym, ap, ◌∙◌, subst}
use Rattle.op_logic.specs.Term.{shift}
use Rattle.op_logic.specs.Bind.{unify}
use Rattle.op_trace.specs.declared.port.Port.TheVariants as port
use Rattle.op_trace.specs.World as world
use Rattle.op_trace.specs.declared.barrier.Barrier.{Barrier}
use Rattle.op_trace.specs.Database.{text_eq, Clause}
use Rattle.op_trace.specs.World.{World, Event, Shown}
use Rattle.op_trace.specs.Visit as visit
use Rattle.op_trace.specs.Visit.{event_of, with_event, last_choice}
use Rattle.op_machine.specs.declared.core_state.Core.{Core}
use Rattle.op_machine.specs.declared.core_state.Seen.{Seen}
use Rattle.op_machine.specs.declared.core_state.Mode.{Mode}
use Rattle.op_machine.specs.declared.core_state.Mode.TheVariants as mode
use Rattle.op_machine.specs.declared.core_state.Outcome.TheVariants as outcome
use Rattle.op_machine.specs.declared.core_state.Step.{Step}
use Rattle.op_machine.specs.declared.core_state.Step.TheVariants as step
use Rattle.op_bind.specs.declared.places.Clause.{Clause as NumberedClause}
use Rattle.op_bind.specs.State as bind
use Rattle.op_trace.specs.Visit.{inside}
use Rattle.op_store.specs.Stored.{Stored, database_of}
use Rattle.op_machine.specs.Program.{clauses_from, clause_in}
use Rattle.op_machine.specs.Meaning.{Frame, level_in, choice_points_of, setup_of, world_in, items_now, goal_now, bindings_now}
use Rattle.op_machine.specs.Meaning.{choice_points_in, state_of, event_seen}
use Rattle.op_machine.specs.inner.Invariant.{IsGood, IsMode, IsGoal, HasGoal}
use Rattle.op_machine.specs.inner.Moves.{Advances, goal_moved, chosen_now, clause_tried, clause_unified, clauses_tried, box_invoked}
use Rattle.op_machine.specs.inner.Moves.{box_entered}
use Rattle.op_machine.specs.Resume.{State, entered_state, Backward, Moved, silent, pay, head_unified, tried, move, with_more}
use Rattle.op_machine.proofs.StepLaws.{pay-yes, pay-no}
use Rattle.op_machine.proofs.ClauseLists.{clauses_from-here}

-- other steps, and another mode that leads to what is there
pub good-at : (c : Core) (steps : ℕ) (q : Mode) → IsGood c → IsMode (length c.continuations) q
    → IsGood (record c { steps = steps; mode = q })
good-at c steps q good at = record {
  level = good.level;
  frames = good.frames;
  mode = at;
  values = good.values;
  failure = good.failure;
  ball = good.ball;
  boxes = good.boxes;
  boxed = good.boxed;
}

-- a silent move that changes these alone
pub silent-advances : (c : Core) (steps : ℕ) (q : Mode) (m : Moved) → IsGood c → IsMode (length c.continuations) q
    → m ≡ silent (state_of (record c { steps = steps; mode = q }))
    → Advances c (record c { steps = steps; mode = q }) m step.Silent
silent-advances c steps q m good at e = record {
  turns = ap (λ (x : Moved). x.turns) (sym e);
  state = ap (λ (x : Moved). x.state) (sym e);
  good = good-at c steps q good at;
  looked = tt;
  store = refl;
  names = refl;
  budget = refl;
  wanted = refl;
}

-- the move of a machine that has the same program, names and setup, in another form
pub advances-from : (c mid new : Core) (m n : Moved) (s : Step) → mid.store ≡ c.store → mid.names ≡ c.names → mid.budget ≡ c.budget
    → mid.wanted ≡ c.wanted → m ≡ n → Advances mid new m s → Advances c new n s
advances-from c mid new m n s store names budget wanted e a = record {
  turns = a.turns ∙ ap (λ (x : Moved). x.turns) e;
  state = a.state ∙ ap (λ (x : Moved). x.state) e;
  good = a.good;
  looked = a.looked;
  store = a.store ∙ store;
  names = a.names ∙ names;
  budget = a.budget ∙ budget;
  wanted = a.wanted ∙ wanted;
}

-- where a step is not there, the run is spent
pub spent-advances : (c : Core) (h : World → Moved) → IsGood c → c.budget < c.steps + 1
    → Advances c (record c { steps = c.budget; mode = mode.Over outcome.Spent }) (pay (setup_of c) 1 (world_in c) h) step.Silent
spent-advances c h good over =
    silent-advances c c.budget (mode.Over outcome.Spent) (pay (setup_of c) 1 (world_in c) h) good tt
    (pay-no (setup_of c) 1 (world_in c) h over)

-- what a paid step leads to
pub paid-advances : (c new : Core) (h : World → Moved) (s : Step) → c.steps + 1 ≤ c.budget
    → Advances (record c { steps = c.steps + 1 }) new (h (world_in (record c { steps = c.steps + 1 }))) s
    → Advances c new (pay (setup_of c) 1 (world_in c) h) s
paid-advances c new h s fits a =
    let paid : Core = record c { steps = c.steps + 1 } in
    advances-from c paid new (h (world_in paid)) (pay (setup_of c) 1 (world_in c) h) s refl refl refl refl
    (sym (pay-yes (setup_of c) 1 (world_in c) h fits)) a

-- the step of a goal was paid, and then the goal was chosen
pub chosen-paid : (c paid new : Core) (g n : ℕ) (m : Barrier) (s : Step) → paid ≡ record c { steps = c.steps + 1 } → c.steps + 1 ≤ c.budget
    → Advances paid new (chosen_now paid (goal_now paid g) m n (world_in paid)) s → Advances c new (goal_moved c (goal_now c g) m n) s
chosen-paid c paid new g n m s e fits a =
    paid-advances c new (chosen_now c (goal_now c g) m n) s fits
    (subst (λ (x : Core). Advances x new (chosen_now x (goal_now x g) m n (world_in x)) s) e a)

-- the clause was paid, and then its head was unified
pub tried-paid : (c paid new : Core) (r : NumberedClause) (k g n : ℕ) (s : Step) → paid ≡ record c { steps = c.steps + 1 }
    → c.steps + 1 ≤ c.budget
    → Advances paid new (clause_unified paid r k g n) s → Advances c new (clause_tried c r k g n) s
tried-paid c paid new r k g n s e fits a =
    let h : World → Moved =
    λ u. head_unified (setup_of c) (clause_in c.store r) k (goal_now c g) (items_now c n) (choice_points_in c) u
    (unify text_eq (c.budget - u.steps) (bindings_now c) ((goal_now c g, shift u.variables (clause_in c.store r).head) ∷ [])) in
    paid-advances c new h s fits (subst (λ (x : Core). Advances x new (clause_unified x r k g n) s) e a)

-- the first of the clauses is tried, with those behind it as a choice point
pub clauses-tried : (c mid : Core) (snapshot : List NumberedClause) (i : ℕ) (r : NumberedClause) (k g n : ℕ) → mid
    ≡ record c { frames = mid.frames }
    → choice_points_in mid ≡ with_more (clauses_from c.store snapshot (suc i)) k (goal_now c g) (bindings_now c) (items_now c n)
    (choice_points_in c)
    → i < length snapshot → r ≡ get_or snapshot i r → clause_tried mid r k g n ≡ clauses_tried c snapshot i k g n
clauses-tried c mid snapshot i r k g n e choices inside here =
    let J : List world.Item = items_now c n in
    let tried_over : List visit.Choice → Moved = λ K.
    tried (setup_of c) (clause_in c.store r) k (goal_now c g) (bindings_now c) J K (world_in c) in
    ap (λ (x : Core). tried (setup_of x) (clause_in x.store r) k (goal_now x g) (bindings_now x) (items_now x n) (choice_points_in mid)
    (world_in x)) e
    ∙ (ap tried_over choices
    ∙ ap (λ (cs : List Clause).
    move (setup_of c) (Backward (visit.More cs k (goal_now c g) (bindings_now c) J ∷ choice_points_in c) (world_in c)))
    (sym (clauses_from-here c.store snapshot i r inside here)))

pub clauses-tried-advances : (c mid new : Core) (m : Moved) (n : Moved) (s : Step) → mid ≡ record c { frames = mid.frames } → m ≡ n
    → Advances mid new m s → Advances c new n s
clauses-tried-advances c mid new m n s e q a =
    advances-from c mid new m n s (ap (λ (x : Core). x.store) e) (ap (λ (x : Core). x.names) e) (ap (λ (x : Core). x.budget) e)
    (ap (λ (x : Core). x.wanted) e) q a

-- a machine that has called a box
abbrev pub called : Core → Core → Core
called c more = record c { calls = c.calls + 1; events = c.events + 1; seen = more.seen; frames = more.frames }

abbrev pub world_called : Core → World
world_called c = record (world_in c) { calls = c.calls + 1 }

-- a box was entered over some choice points
abbrev entered_over : ℕ → Core → ℕ → ℕ → List visit.Choice → State
entered_over k c g n K =
    entered_state (inside (database_of c.store) (goal_now c g)) k (goal_now c g) (items_now c n) K (bindings_now c) (world_in c)

-- the choice point of a box that is invoked now
abbrev pub last_at : ℕ → Core → ℕ → ℕ → visit.Choice
last_at k c g n = last_choice (inside (database_of c.store) (goal_now c g)) k (goal_now c g) (bindings_now c) (items_now c n)

-- the box was called, the event was shown, the box's own choice point was made, and the box was entered, one after the other
pub invoked-advances : (c boxed shown pushed new : Core) (g n k : ℕ) → k ≡ c.calls + 1
    → boxed ≡ record c { calls = boxed.calls; frames = boxed.frames } → boxed.calls ≡ c.calls + 1 → boxed.frames.choices ≡ c.frames.choices
    → shown ≡ record boxed { events = boxed.events + 1; seen = shown.seen }
    → pushed ≡ record shown { frames = pushed.frames }
    → new ≡ record pushed { frames = new.frames; continuations = new.continuations; mode = new.mode }
    → event_seen boxed.store boxed.bindings shown.seen
    ≡ event_of port.Call k (goal_now boxed g) (bindings_now boxed) (items_now boxed n) (world_in boxed)
    → choice_points_in pushed ≡ last_at k shown g n ∷ choice_points_in shown
    → state_of new ≡ box_entered pushed k g n
    → IsGood new → shown.seen.goal ≡ g → HasGoal c g
    → Advances c new (box_invoked c g n) step.Event
invoked-advances c boxed shown pushed new g n k ek eb ec same_choice_points es ep en seen one entered good goal there =
    let bs : boxed ≡ record c { calls = c.calls + 1; frames = boxed.frames } = eb
    ∙ ap (λ (i : ℕ). record c { calls = i; frames = boxed.frames }) ec in
    let seen_pushed : pushed.seen ≡ shown.seen = ap (λ (x : Core). x.seen) ep in
    let seen_new : new.seen ≡ shown.seen = ap (λ (x : Core). x.seen) en ∙ seen_pushed in
    let whole : pushed ≡ called c pushed =
    ep ∙ (ap (λ (x : Core). record x { frames = pushed.frames }) es
    ∙ (ap (λ (x : Core). record x { events = x.events + 1; seen = shown.seen; frames = pushed.frames }) bs
    ∙ ap (λ (x : Seen). record c { calls = c.calls + 1; events = c.events + 1; seen = x; frames = pushed.frames }) (sym seen_pushed))) in
    let u : World = world_called c in
    let own_at : ℕ → Core → List visit.Choice → List visit.Choice = λ j x K. last_at j x g n ∷ K in
    let below : choice_points_in boxed ≡ choice_points_in c =
    ap (λ (x : Core). choice_points_of x.store (level_in x) (reverse boxed.frames.choices)) bs
    ∙ ap (λ (F : List Frame). choice_points_of c.store (level_in c) (reverse F)) same_choice_points in
    let choices : choice_points_in pushed ≡ own_at (c.calls + 1) c (choice_points_in c) =
    one
    ∙ (ap (λ (x : Core). own_at k x (choice_points_in x)) es
    ∙ (ap (λ (x : Core). own_at k x (choice_points_in boxed)) bs
    ∙ (ap (λ (K : List visit.Choice). own_at k c K) below
    ∙ ap (λ (j : ℕ). own_at j c (choice_points_in c)) ek))) in
    let state : state_of new ≡ entered_over (c.calls + 1) (called c pushed) g n (own_at (c.calls + 1) c (choice_points_in c)) =
    entered
    ∙ (ap (λ (x : Core). entered_over k x g n (choice_points_in pushed)) whole
    ∙ (ap (entered_over k (called c pushed) g n) choices
    ∙ ap (λ (j : ℕ). entered_over j (called c pushed) g n (own_at (c.calls + 1) c (choice_points_in c))) ek)) in
    let same_world : world_in new ≡ with_event u = ap world_in en ∙ ap world_in whole in
    let shows : event_seen c.store c.bindings shown.seen
    ≡ event_of port.Call (c.calls + 1) (goal_now c g) (bindings_now c) (items_now c n) u =
    sym (ap (λ (x : Core). event_seen x.store x.bindings shown.seen) bs)
    ∙ (seen
    ∙ (ap (λ (x : Core). event_of port.Call k (goal_now x g) (bindings_now x) (items_now x n) (world_in x)) bs
    ∙ ap (λ (j : ℕ). event_of port.Call j (goal_now c g) (bindings_now c) (items_now c n) u) ek)) in
    let store : new.store ≡ c.store = ap (λ (x : Core). x.store) en ∙ ap (λ (x : Core). x.store) whole in
    let bindings : new.bindings ≡ c.bindings = ap (λ (x : Core). x.bindings) en ∙ ap (λ (x : Core). x.bindings) whole in
    let shown_new : event_seen new.store new.bindings new.seen
    ≡ event_of port.Call (c.calls + 1) (goal_now c g) (bindings_now c) (items_now c n) u =
    ap (λ (t : Stored). event_seen t new.bindings new.seen) store
    ∙ (ap (λ (b : bind.State). event_seen c.store b new.seen) bindings
    ∙ (ap (event_seen c.store c.bindings) seen_new ∙ shows)) in
    record {
      turns = ap (λ (x : Event). Shown x (world_in new) ∷ []) shown_new
          ∙ ap (λ (w : World). Shown (event_of port.Call (c.calls + 1) (goal_now c g) (bindings_now c) (items_now c n) u) w ∷ [])
          same_world;
      state = state;
      good = good;
      looked = subst (λ (t : Stored). IsGoal (length t.names) new.bindings.terms new.seen.goal) (sym store)
          (subst (λ (b : bind.State). IsGoal (length c.store.names) b.terms new.seen.goal) (sym bindings)
          (subst (λ (x : ℕ). HasGoal c x) (sym (ap (λ (x : Seen). x.goal) seen_new ∙ goal)) there));
      store = store;
      names = ap (λ (x : Core). x.names) en ∙ ap (λ (x : Core). x.names) whole;
      budget = ap (λ (x : Core). x.budget) en ∙ ap (λ (x : Core). x.budget) whole;
      wanted = ap (λ (x : Core). x.wanted) en ∙ ap (λ (x : Core). x.wanted) whole;
    }
