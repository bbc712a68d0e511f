-- A machine that has made no move.
use Rattle.std.proofs.Common.{◌≡◌, ℕ, zero, suc, ◌+◌, ◌<◌, ◌≤◌, List, [], ◌∷◌, ◌++◌, length, map, take, reverse, refl, sym, ap, ◌∙◌, subst}
use Rattle.std.proofs.Common.{None, arith}
use Rattle.op_logic.specs.Term.{Term, shift, atom}
use Rattle.op_logic.specs.Bind.{Bindings}
use Rattle.op_logic.specs.Laws.{rename_bindings}
use Rattle.op_logic.specs.Names.{name_at, HasNames, HaveNames}
use Rattle.op_logic.proofs.ShiftedTerms.{shift-none}
use Rattle.op_term.specs.Places.{term_at}
use Rattle.op_bind.specs.State as bind
use Rattle.op_bind.specs.State.{resolved}
use Rattle.op_bind.specs.Grown.{Grows}
use Rattle.op_trace.specs.World as world
use Rattle.op_trace.specs.declared.barrier.Barrier.TheVariants.{Call}
use Rattle.op_trace.specs.Database.{Text}
use Rattle.op_trace.specs.World.{World, loaded}
use Rattle.op_machine.specs.Acts.{setup_for}
use Rattle.op_trace.specs.Run.{started}
use Rattle.op_machine.specs.declared.core_state.Core.{Core}
use Rattle.op_machine.specs.declared.core_state.Mode.{Mode}
use Rattle.op_machine.specs.declared.core_state.Mode.TheVariants as mode
use Rattle.op_machine.specs.declared.continuations.Item.{Item}
use Rattle.op_machine.specs.declared.continuations.Item.TheVariants as item
use Rattle.op_store.specs.declared.goals.goal.Goal.{Goal}
use Rattle.op_store.specs.Queries.{IsSoundGoal}
use Rattle.op_store.specs.Stored.{Stored, database_of}
use Rattle.op_machine.specs.Program.{goal_named}
use Rattle.op_machine.specs.Meaning.{Level, level_in, setup_of, world_in, state_with, state_of, items_in, item_term, bindings_in}
use Rattle.op_machine.specs.Meaning.{choice_points_of, Frame}
use Rattle.op_machine.specs.inner.Invariant.{IsGood, IsGoal, AreContinuations, AreFrames, AreValues, IsFailure, IsBall, IsMode, IsSound}
use Rattle.op_machine.specs.inner.Continuations.{continuation_in}
use Rattle.op_frames.specs.declared.boxes.BoxFrame.{BoxFrame}
use Rattle.op_machine.specs.inner.Boxes.{exits, innermost, AreBoxes, AreBoxed}
use Rattle.op_machine.specs.inner.Bounds.{Counted}
use Rattle.op_machine.specs.Resume.{State, Forward}
use Rattle.op_machine.specs.inner.Barriers.{InStep}
use Rattle.op_machine.specs.inner.Turns.{IsBegun}
use Rattle.op_machine.specs.inner.Start.{first_continuations, IsMade}
use Rattle.op_machine.specs.declared.start.Parts.{Parts}
use Rattle.op_machine.specs.declared.choice_points.Alternative.{Alternative}
use Rattle.op_frames.specs.Frames.{Framed}
use Rattle.op_trace.specs.declared.port.Port.TheVariants as port
use Rattle.op_machine.proofs.NamedVariables.{values-stay}

-- what was made before the first move
pub record IsFirst (c : Core) (q : Goal) (body : ℕ) : Type 0 where
  pub continuations : c.continuations ≡ first_continuations body
  pub mode : c.mode ≡ mode.Forward 1
  pub frames : c.frames.choices ≡ []
  pub boxes : c.frames.boxes ≡ []
  pub bound : c.bindings.bound ≡ []
  pub there : body < length c.bindings.terms
  pub value : term_at c.bindings.terms body ≡ q.body
  pub count : c.bindings.count ≡ q.vars
  pub names : c.names ≡ q.names
  pub values : AreValues (take c.floor.terms c.bindings.terms) c.values.items q.names
  pub failure : IsFailure (take c.floor.terms c.bindings.terms) c.failure
  pub ball : c.ball ≡ None
  pub floor_there : c.floor.terms ≤ length c.bindings.terms
  pub numbers : (c.calls ≡ 0) × (c.steps ≡ 0) × (c.events ≡ 0) × (c.solutions ≡ 0) × (c.conditions ≡ 0)

abbrev begun : Stored → Goal → State
begun t q = Forward (world.Goal (goal_named t q.body) (Call 0) ∷ []) [] [] (started q.vars (loaded (database_of t)))

abbrev numbered : Stored → ℕ → ℕ → ℕ → ℕ → ℕ → ℕ → World
numbered t variables calls conditions steps events solutions =
    record (loaded (database_of t))
    { variables = variables; calls = calls; conditions = conditions; steps = steps; events = events; solutions = solutions }

first-world : (c : Core) (q : Goal) (body n : ℕ) → IsSoundGoal n q → IsFirst c q body → world_in c
    ≡ started q.vars (loaded (database_of c.store))
first-world c q body n query f =
    let v : c.bindings.count ≡ q.vars = f.count in
    let a = f.numbers.0 in
    let b = f.numbers.1 in
    let d = f.numbers.2 in
    let e = f.numbers.3 in
    let g = f.numbers.4 in
    ap (λ (x : ℕ). numbered c.store x c.calls c.conditions c.steps c.events c.solutions) v
    ∙ (ap (λ (x : ℕ). numbered c.store q.vars x c.conditions c.steps c.events c.solutions) a
    ∙ (ap (λ (x : ℕ). numbered c.store q.vars 0 x c.steps c.events c.solutions) g
    ∙ (ap (λ (x : ℕ). numbered c.store q.vars 0 0 x c.events c.solutions) b
    ∙ (ap (λ (x : ℕ). numbered c.store q.vars 0 0 0 x c.solutions) d
    ∙ ap (λ (x : ℕ). numbered c.store q.vars 0 0 0 0 x) e))))

first-state : (c : Core) (q : Goal) (body n : ℕ) → IsSoundGoal n q → IsFirst c q body → state_of c ≡ begun c.store q
first-state c q body n query f =
    let t : Stored = c.store in
    let v : Level = level_in c in
    let items : items_in t v 1 ≡ world.Goal (goal_named t q.body) (Call 0) ∷ [] =
    ap (λ (L : List (List Item)). map (item_term t v) (continuation_in L 1)) f.continuations
    ∙ ap (λ (x : Term ℕ). world.Goal (goal_named t x) (Call 0) ∷ []) f.value in
    let bound : bindings_in t v ≡ [] = ap (λ (ps : List (ℕ × ℕ)). rename_bindings (name_at t.names) (resolved c.bindings.terms ps))
    f.bound in
    ap (state_with t v c.frames (world_in c) c.ball) f.mode
    ∙ (ap (λ (F : List Frame). Forward (items_in t v 1) (choice_points_of t v (reverse F)) (bindings_in t v) (world_in c)) f.frames
    ∙ (ap (λ I. Forward I [] (bindings_in t v) (world_in c)) items
    ∙ (ap (λ (σ : Bindings Text). Forward (world.Goal (goal_named t q.body) (Call 0) ∷ []) [] σ (world_in c)) bound
    ∙ ap (λ (w : World). Forward (world.Goal (goal_named t q.body) (Call 0) ∷ []) [] [] w) (first-world c q body n query f))))

pub first-begun : (c : Core) (q : Goal) (body n budget wanted : ℕ) → IsSoundGoal n q → IsFirst c q body → c.budget ≡ budget → c.wanted
    ≡ wanted → IsBegun c.store q.body q.vars q.names budget wanted c
first-begun c q body n budget wanted query f b w = record {
  state = first-state c q body n query f;
  names = f.names;
  setup = ap (λ (x : ℕ). setup_for x c.wanted) b ∙ ap (λ (x : ℕ). setup_for budget x) w;
  steps = f.numbers.1;
  turns = omega (arith, f.numbers.2, f.numbers.3);
}

first-continuations-good : (n : ℕ) (ts : List (Term ℕ)) (body : ℕ) → IsGoal n ts body → AreContinuations n ts (first_continuations body)
first-continuations-good n ts body g zero h = tt
first-continuations-good n ts body g (suc zero) h = (g, tt)
first-continuations-good n ts body g (suc (suc m)) h = absurd (omega arith)

first-continuation : (body n : ℕ) → n < length (first_continuations body) → exits (continuation_in (first_continuations body) n) ≡ []
first-continuation body zero h = refl
first-continuation body (suc zero) h = refl
first-continuation body (suc (suc n)) h = absurd (omega arith)

first-innermost : (body n : ℕ) → n < length (first_continuations body) → innermost (continuation_in (first_continuations body) n) ≡ 0
first-innermost body zero h = refl
first-innermost body (suc zero) h = refl
first-innermost body (suc (suc n)) h = absurd (omega arith)

-- no box was called
first-boxes : (c : Core) (q : Goal) (body : ℕ) → IsFirst c q body → AreBoxes c.frames.boxes c.calls c.continuations
first-boxes c q body f =
    subst (λ (B : List BoxFrame). AreBoxes B c.calls c.continuations) (sym f.boxes)
    (subst (AreBoxes [] c.calls) (sym f.continuations) (record {
      numbers = λ i d h. absurd (omega arith);
      given = λ n h. omega (arith, first-innermost body n h);
      chains = λ n h. sym (first-continuation body n h);
    }))

first-good : (c : Core) (q : Goal) (body : ℕ) → IsSoundGoal (length c.store.names) q → IsFirst c q body → IsGood c
first-good c q body query f =
    let n : ℕ = length c.store.names in
    let goal : IsGoal n c.bindings.terms body = (f.there, subst (HasNames n) (sym f.value) query.names) in
    record {
      level = record {
        continuations = subst (AreContinuations n c.bindings.terms) (sym f.continuations)
            (first-continuations-good n c.bindings.terms body goal);
        bound = subst (λ (ps : List (ℕ × ℕ)). HaveNames n (resolved c.bindings.terms ps)) (sym f.bound) tt;
        floor_there = f.floor_there;
      };
      frames = subst (λ (F : List Frame). AreFrames c.store c.floor.terms (level_in c) (reverse F)) (sym f.frames) tt;
      mode = subst (λ (q : Mode). IsMode (length c.continuations) q) (sym f.mode)
          (subst (λ (L : List (List Item)). 1 < length L) (sym f.continuations) (omega arith));
      values = subst (AreValues (take c.floor.terms c.bindings.terms) c.values.items) (sym f.names) f.values;
      failure = f.failure;
      ball = subst (IsBall n c.bindings.count) (sym f.ball) tt;
      boxes = first-boxes c q body f;
      boxed = subst (λ (F : List Frame). AreBoxed c.frames.boxes c.continuations c.calls (length c.continuations) (reverse F))
          (sym f.frames) tt;
    }

pub first-sound : (c : Core) (q : Goal) (body : ℕ) → IsSoundGoal (length c.store.names) q → IsFirst c q body → c.budget ≤ 1000000000
    → IsSound c
first-sound c q body query f limit =
    let s : state_of c ≡ begun c.store q = first-state c q body (length c.store.names) query f in
    record {
      good = first-good c q body query f;
      counted = subst (Counted (setup_of c)) (sym s)
          (record { steps = omega arith; calls = omega arith; conditions = omega arith }, omega arith, omega arith, tt, tt);
      in_step = subst InStep (sym s) (((λ n h. absurd h, λ o h. refl), tt), (omega arith, tt), tt);
      limit = limit;
    }

-- a machine of these parts
abbrev pub core_of : Stored → Framed Alternative → Parts → ℕ → ℕ → Core
core_of t f p budget wanted = record {
  store = t;
  bindings = p.bindings;
  continuations = p.continuations;
  frames = f;
  mode = mode.Forward p.items;
  ball = None;
  seen = record { chrono = 0; call = 0; parent = 0; depth = 0; port = port.Call; goal = p.body };
  names = p.names;
  values = p.values;
  failure = p.failure;
  floor = p.floor;
  calls = 0;
  conditions = 0;
  steps = 0;
  events = 0;
  solutions = 0;
  budget = budget;
  wanted = wanted;
}

pub first-core : (t : Stored) (f : Framed Alternative) (p : Parts) (q : Goal) (budget wanted : ℕ) → IsMade q p → f.choices ≡ [] →
    f.boxes ≡ []
    → IsFirst (core_of t f p budget wanted) q p.body
first-core t f p q budget wanted made choices boxes = record {
  continuations = made.continuations;
  mode = ap mode.Forward made.items;
  frames = choices;
  boxes = boxes;
  bound = made.bound;
  there = made.there;
  value = made.value;
  count = made.count;
  names = made.names;
  values = made.values;
  failure = made.failure;
  ball = refl;
  floor_there = made.floor_there;
  numbers = (refl, refl, refl, refl, refl);
}

-- each part was made by its call
pub parts-made : (p : Parts) (q : Goal) (first : ℕ) (none given valued failed : bind.State) (empty : List (List Item))
    → none ≡ record { terms = []; bound = []; count = 0 } → first ≡ none.count → given ≡ record none { count = none.count + q.vars }
    → valued.bound ≡ given.bound → valued.count ≡ given.count → AreValues valued.terms p.values.items q.names
    → failed.bound ≡ valued.bound → failed.count ≡ valued.count → Grows valued failed → p.failure < length failed.terms
    → term_at failed.terms p.failure ≡ atom 1
    → p.floor ≡ bind.mark_of failed → p.body < length p.bindings.terms → term_at p.bindings.terms p.body ≡ shift first q.body
    → p.bindings.bound ≡ failed.bound → p.bindings.count ≡ failed.count → Grows failed p.bindings
    → empty ≡ [] ∷ [] → p.items ≡ length empty → p.continuations ≡ empty ++ (item.Goal p.body (Call 0) ∷ continuation_in empty 0) ∷ []
    → p.names ≡ q.names → IsMade q p
parts-made p q first none given valued failed empty en ef eg vb vc vv fb fc more inside fail em there value cb cc_ grows ee ei el names =
    let start : first ≡ 0 = ef ∙ ap (λ (s : bind.State). s.count) en in
    let at : p.floor.terms ≡ length failed.terms = ap (λ (m : bind.Marked). m.terms) em in
    let front : take p.floor.terms p.bindings.terms ≡ failed.terms = ap (λ (n : ℕ). take n p.bindings.terms) at ∙ grows.terms in
    record {
      continuations = el ∙ ap (λ (L : List (List Item)). L ++ (item.Goal p.body (Call 0) ∷ continuation_in L 0) ∷ []) ee;
      items = ei ∙ ap (λ (L : List (List Item)). length L) ee;
      bound = cb ∙ (fb ∙ (vb ∙ (ap (λ (s : bind.State). s.bound) eg ∙ ap (λ (s : bind.State). s.bound) en)));
      there = there;
      value = value ∙ (ap (λ (k : ℕ). shift k q.body) start ∙ shift-none q.body);
      count = cc_ ∙ (fc ∙ (vc ∙ (ap (λ (s : bind.State). s.count) eg ∙ ap (λ (s : bind.State). s.count + q.vars) en ∙ omega arith)));
      names = names;
      values = subst (λ (ts : List (Term ℕ)). AreValues ts p.values.items q.names) (sym front)
          (values-stay valued failed p.values.items q.names more vv);
      failure = subst (λ (ts : List (Term ℕ)). IsFailure ts p.failure) (sym front) (inside, fail);
      floor_there = omega (arith, at, grows.terms_there);
    }
