-- A goal of one of the builtins on terms: how it is called, and what its answer leads to.
use Rattle.std.proofs.Common.{◌≡◌, ℕ, suc, ◌+◌, ◌-◌, ◌<◌, ◌≤◌, nat_le, Bool, true, false, List, [], ◌∷◌, length, map, reverse}
use Rattle.std.proofs.Common.{All, Some, Result, Ok, Err, refl, sym, ap, ◌∙◌, subst, arith}
use Rattle.std.proofs.lemmas.Bool.Decides.{nat_tests}
use Rattle.std.proofs.lemmas.List.Elements.{All-head, All-tail, All-cons}
use Rattle.op_logic.specs.Term.{Term, node, Args, no_args, arg, arity, IsWithin}
use Rattle.op_logic.specs.Bind.{Bindings}
use Rattle.op_logic.specs.Names.{named, HasNames, ArgsHaveNames, HaveNames}
use Rattle.op_term.specs.Places.{term_at, args_at}
use Rattle.op_term.specs.Arguments.{args_list}
use Rattle.op_term.specs.declared.walk.WalkFault.{WalkFault}
use Rattle.op_term.specs.declared.walk.WalkFault.TheVariants.{Memory, Spent}
use Rattle.op_bind.specs.Grown.{Grows}
use Rattle.op_bind.specs.State as bind
use Rattle.op_bind.specs.State.{State, mark_of, undone}
use Rattle.op_bind.proofs.StateGrowth.{grows-self, undone-later}
use Rattle.op_trace.specs.Database.{Text, Database}
use Rattle.op_trace.specs.World as world
use Rattle.op_trace.specs.World.{World, loaded, open_boxes}
use Rattle.op_trace.specs.Act.{Yield, Fails, Succeeds, Throws, Act}
use Rattle.op_trace.specs.Visit as visit
use Rattle.op_trace.specs.Visit.{counted_as}
use Rattle.op_inspect.specs.declared.outcome.Outcome.{Outcome}
use Rattle.op_inspect.specs.declared.outcome.Outcome.TheVariants.{Yes, No, Throw}
use Rattle.op_inspect.specs.Inspected.{act_on_terms}
use Rattle.op_inspect.specs.Outcomes.{Answers, texts_of}
use Rattle.op_store.specs.Stored.{Stored, database_of}
use Rattle.op_machine.specs.declared.core_state.Core.{Core}
use Rattle.op_machine.specs.declared.core_state.Mode.TheVariants as mode
use Rattle.op_machine.specs.declared.core_state.Outcome.TheVariants as outcome
use Rattle.op_machine.specs.declared.core_state.Step.{Step}
use Rattle.op_machine.specs.declared.core_state.Step.TheVariants as step
use Rattle.op_machine.specs.declared.inspection.Inspection.{Inspection}
use Rattle.op_machine.specs.declared.inspection.Inspected.{Inspected}
use Rattle.op_machine.specs.Meaning.{setup_of, world_in, level_in, level_of, items_now, goal_now, bindings_now, choice_points_in, state_of}
use Rattle.op_machine.specs.Meaning.{open_in}
use Rattle.op_machine.specs.Resume.{Moved, Forward, Backward, Throwing, Over, silent, acted, yielded}
use Rattle.op_machine.specs.inner.Inspection.{IsMade, HasAsked, IsAsked, Asked, success, settled, exit_next}
use Rattle.op_machine.specs.inner.Invariant.{IsGood, HasItems, HasGoal, HasCalled}
use Rattle.op_machine.specs.inner.Moves.{HasGrown, KeepsProgram, Advances, Proceeds, act_moved, steps_left}
use Rattle.op_machine.proofs.AdvanceLaws.{good-at}
use Rattle.op_machine.proofs.GrownNames.{renamed_core, grown-good, goal-same, items-same, choices-same, goal-more, more}
use Rattle.op_machine.proofs.HeadUnification.{bound_on, bound-good, bound-rises}
use Rattle.op_machine.proofs.LevelLaws.{choice_points-rise, term-rises, goal-rises, items_in-rise}
use Rattle.op_machine.proofs.OpenBoxes.{open-called}
use Rattle.op_inspect.proofs.TermActs.{on-terms}

-- the terms of some places are these arguments
module _ (terms : List (Term ℕ)) where
  pub args-at : (ts : Args ℕ) (rs : List ℕ) → map (term_at terms) rs ≡ args_list ts → args_at terms rs ≡ ts
  args-at no_args [] e = refl
  args-at no_args (r ∷ rs) e = absurd cc
  args-at (arg t ts) [] e = absurd cc
  args-at (arg t ts) (r ∷ rs) e =
      let first : term_at terms r ≡ t = cc in
      let rest : map (term_at terms) rs ≡ args_list ts = cc in
      ap (λ (x : Term ℕ). arg x (args_at terms rs)) first ∙ ap (arg t) (args-at ts rs rest)

  pub args-count : (ts : Args ℕ) (rs : List ℕ) → map (term_at terms) rs ≡ args_list ts → length rs ≡ arity ts
  args-count no_args [] e = refl
  args-count no_args (r ∷ rs) e = absurd cc
  args-count (arg t ts) [] e = absurd cc
  args-count (arg t ts) (r ∷ rs) e = let rest : map (term_at terms) rs ≡ args_list ts = cc in ap suc (args-count ts rs rest)

  abbrev IsThere : ℕ → Type 0
  IsThere r = r < length terms

  abbrev IsNamedHere : ℕ → ℕ → Type 0
  IsNamedHere n r = (r < length terms) × HasNames n (term_at terms r)

  pub args-known : (n : ℕ) (ts : Args ℕ) (rs : List ℕ) → All IsThere rs → map (term_at terms) rs ≡ args_list ts → ArgsHaveNames n ts
      → All (IsNamedHere n) rs
  args-known n no_args [] there e h = λ i d l. absurd (omega arith)
  args-known n no_args (r ∷ rs) there e h = absurd cc
  args-known n (arg t ts) [] there e h = absurd cc
  args-known n (arg t ts) (r ∷ rs) there e h =
      let first : term_at terms r ≡ t = cc in
      let rest : map (term_at terms) rs ≡ args_list ts = cc in
      All-cons (IsNamedHere n) r rs (All-head IsThere r rs there, subst (HasNames n) (sym first) h.0)
      (args-known n ts rs (All-tail IsThere r rs there) rest h.1)

-- a call over the bindings and the steps of a machine, with a goal's arguments
pub asked-answers : (old : Core) (names : List Text) (i : Inspection) (r : Inspected) (g : ℕ) → i.bindings ≡ old.bindings
    → i.fuel ≡ steps_left old → named old.store.names (node i.name.0 (args_at old.bindings.terms i.args.items)) ≡ goal_now old g
    → IsMade i old.store.names names r
    → Answers (act_on_terms (steps_left old) (goal_now old g) (bindings_now old)) old.store.names old.bindings (steps_left old) r.answer
    names r.bindings r.fuel
asked-answers old names i r g bindings fuel goal made =
    let P : State → ℕ → Term Text → Type 0 = λ b l t.
    Answers (act_on_terms l t (texts_of old.store.names b)) old.store.names b l r.answer names r.bindings r.fuel in
    subst (P old.bindings (steps_left old)) goal
    (subst (λ (l : ℕ). P old.bindings l (named old.store.names (node i.name.0 (args_at old.bindings.terms i.args.items)))) fuel
    (subst (λ (b : State). P b i.fuel (named old.store.names (node i.name.0 (args_at b.terms i.args.items)))) bindings made))

-- the machine behind a call, whose names have grown, and whose bindings stand or are undone
module _ (old : Core) (t : Stored) (s b : State) (left g : ℕ) where
  abbrev behind : Core
  behind = record old { store = t; bindings = b; steps = old.budget - left }

  answer-of : (r : Result Outcome WalkFault) → Asked old behind g r s left → IsAsked old behind g r
  answer-of (Ok o) a = (s, (left, a))
  answer-of (Err Spent) a = (s, (left, a))
  answer-of (Err Memory) a = tt

  pub has-asked : (r : Result Outcome WalkFault) → old.steps ≤ old.budget → HasGrown old.store t → database_of t ≡ database_of old.store
      → Answers (act_on_terms (steps_left old) (goal_now old g) (bindings_now old)) old.store.names old.bindings (steps_left old) r t.names
      s left → b ≡ settled (success r) s (mark_of old.bindings) → HasAsked old behind g r
  has-asked r below grown world answers e = record {
    rest = refl;
    store = grown;
    world = world;
    later = omega (arith, below, answers.falls);
    answer = answer-of r (record { answers = answers; bindings = e; steps = refl });
  }

-- an act that was not interrupted, and one that was
pub acted-moved : (c : Core) (a : Act) (k g n : ℕ) (y : Yield) (count after : ℕ) → c.steps ≤ c.budget → steps_left c ≡ a.cost + after
    → a.after ≡ record (world_in c) { variables = count } → a.yield ≡ y
    → act_moved c a k g n ≡ yielded k (goal_now c g) (items_now c n) (choice_points_in c) (bindings_now c) y
    (record (world_in c) { variables = count; steps = c.budget - after })
acted-moved c a k g n y count after below cost world yield =
    let h : Yield → World → Moved = yielded k (goal_now c g) (items_now c n) (choice_points_in c) (bindings_now c) in
    let there : nat_le (c.steps + a.cost) c.budget ≡ true = grind (arith, nat_tests) in
    let steps : c.steps + a.cost ≡ c.budget - after = omega (arith, below, cost) in
    ap (λ (t : Bool). acted t (setup_of c) a (world_in c) h) there
    ∙ (ap (λ (w : World). h a.yield (record (counted_as (world_in c) w) { steps = c.steps + a.cost })) world
    ∙ (ap (λ (z : Yield). h z (record (world_in c) { variables = count; steps = c.steps + a.cost })) yield
    ∙ ap (λ (m : ℕ). h y (record (world_in c) { variables = count; steps = m })) steps))

pub unpaid-moved : (c : Core) (a : Act) (k g n : ℕ) → c.steps ≤ c.budget → steps_left c < a.cost → a.interrupted ≡ world_in c
    → act_moved c a k g n ≡ silent (Over visit.Spent (record (world_in c) { steps = c.budget }))
unpaid-moved c a k g n below short still =
    let h : Yield → World → Moved = yielded k (goal_now c g) (items_now c n) (choice_points_in c) (bindings_now c) in
    let over : nat_le (c.steps + a.cost) c.budget ≡ false = grind (arith, nat_tests) in
    ap (λ (t : Bool). acted t (setup_of c) a (world_in c) h) over
    ∙ ap (λ (w : World). silent (Over visit.Spent (record (counted_as (world_in c) w) { steps = c.budget }))) still

-- the machine behind a call
module _ (old new : Core) (g : ℕ) (r : Result Outcome WalkFault) (good : IsGood old) (a : HasAsked old new g r) where
  abbrev grown : Core
  grown = renamed_core old new.store.names

  whole : new ≡ bound_on grown new.bindings new.steps
  whole = a.rest ∙ ap (λ (t : Stored). record old { store = t; bindings = new.bindings; steps = new.steps }) a.store.rest

  module _ (grows : Grows old.bindings new.bindings) (names : HaveNames (length new.store.names) (bind.bindings new.bindings)) where
    pub asked-good : IsGood new
    asked-good =
        subst IsGood (sym whole)
        (bound-good grown new.bindings new.steps (grown-good old new.store.names a.store.names good) grows names)

    pub asked-has : (h : ℕ) → HasGoal old h → HasGoal new h
    asked-has h there =
        goal-rises (length new.store.names) (level_in old) (level_of new.bindings old.continuations) h (bound-rises old new.bindings grows)
        (goal-more (length old.store.names) (length new.store.names) old.bindings.terms h (more old.store new.store.names a.store.names)
        there)

    pub asked-goal : (h : ℕ) → HasGoal old h → goal_now new h ≡ goal_now old h
    asked-goal h there =
        ap (λ (x : Core). goal_now x h) whole
        ∙ (ap (named new.store.names) (term-rises (level_in old) (level_of new.bindings old.continuations) h
        (bound-rises old new.bindings grows) there.0)
        ∙ goal-same old.store new.store.names a.store.names (level_in old) h there)

    pub asked-items : (n : ℕ) → HasItems old n → items_now new n ≡ items_now old n
    asked-items n there =
        ap (λ (x : Core). items_now x n) whole
        ∙ (items_in-rise grown.store old.floor.terms (level_in old) (level_of new.bindings old.continuations) n
        (bound-rises old new.bindings grows) (grown-good old new.store.names a.store.names good).level there
        ∙ items-same old.store new.store.names a.store.names old.floor.terms (level_in old) n good.level there)

    pub asked-choices : choice_points_in new ≡ choice_points_in old
    asked-choices =
        ap choice_points_in whole
        ∙ (choice_points-rise grown.store old.floor.terms (level_in old) (level_of new.bindings old.continuations)
        (reverse old.frames.choices) (bound-rises old new.bindings grows) (grown-good old new.store.names a.store.names good).frames
        ∙ choices-same old.store new.store.names a.store.names old.floor.terms (level_in old) (reverse old.frames.choices) good.frames)

  -- the world in it
  world_by : Database → World
  world_by d = record (loaded d) {
    variables = new.bindings.count;
    calls = old.calls;
    conditions = old.conditions;
    steps = new.steps;
    events = old.events;
    solutions = old.solutions;
  }

  pub asked-world : world_in new ≡ record (world_in old) { variables = new.bindings.count; steps = new.steps }
  unfolding world_by
  asked-world = ap world_in a.rest ∙ ap world_by a.world

  pub asked-open : (k : ℕ) → open_in new.frames k ≡ open_in old.frames k
  asked-open k = ap (λ (x : Core). open_in x.frames k) a.rest

  -- what goes on from it
  pub asked-proceeds : (fin : Core) (m : Moved) → fin.store ≡ new.store → fin.names ≡ new.names → fin.budget ≡ new.budget
      → fin.wanted ≡ new.wanted → m ≡ silent (state_of fin) → IsGood fin → Proceeds old fin m step.Silent
  asked-proceeds fin m store names budget wanted e fin_good = record {
    turns = ap (λ (x : Moved). x.turns) (sym e);
    state = ap (λ (x : Moved). x.state) (sym e);
    good = fin_good;
    looked = tt;
    store = subst (HasGrown old.store) (sym store) a.store;
    names = names ∙ ap (λ (x : Core). x.names) a.rest;
    budget = budget ∙ ap (λ (x : Core). x.budget) a.rest;
    wanted = wanted ∙ ap (λ (x : Core). x.wanted) a.rest;
  }

-- where it does not succeed, its bindings are those before, and more variables may have been given out
undone-grows : (old s new : State) → Grows old s → new ≡ undone s (mark_of old) → Grows old new
undone-grows old s new grows e =
    subst (Grows old) (sym (e ∙ undone-later old s grows))
    (let self = grows-self old in
    record {
      terms_there = self.terms_there;
      terms = self.terms;
      bound_there = self.bound_there;
      bound = self.bound;
      count = grows.count;
    })

undone-bindings : (old s new : State) → Grows old s → new ≡ undone s (mark_of old) → bind.bindings new ≡ bind.bindings old
undone-bindings old s new grows e = ap bind.bindings (e ∙ undone-later old s grows)

undone-count : (old s new : State) → Grows old s → new ≡ undone s (mark_of old) → new.count ≡ s.count
undone-count old s new grows e = ap (λ (x : State). x.count) (e ∙ undone-later old s grows)

module _ (old new : Core) (k g n : ℕ) (good : IsGood old) (below : old.steps ≤ old.budget) (goal : HasGoal old g) (there : HasItems old n)
    (called : HasCalled old k g n) where
  abbrev the_act : Act
  the_act = act_on_terms (steps_left old) (goal_now old g) (bindings_now old) (world_in old)

  abbrev moved : Moved
  moved = act_moved old the_act k g n

  -- it has succeeded, and the machine has gone on
  module _ (a : HasAsked old new g (Ok Yes)) where
    yes-grows : Grows old.bindings new.bindings
    yes-grows = subst (Grows old.bindings) (sym a.answer.1.1.bindings) a.answer.1.1.answers.grows

    yes-names : HaveNames (length new.store.names) (bind.bindings new.bindings)
    yes-names = subst (λ (s : State). HaveNames (length new.store.names) (bind.bindings s)) (sym a.answer.1.1.bindings)
        a.answer.1.1.answers.answer.1

    pub yes-good : IsGood new
    yes-good = asked-good old new g (Ok Yes) good a yes-grows yes-names

    pub yes-goal : HasGoal new g
    yes-goal = asked-has old new g (Ok Yes) good a yes-grows yes-names g goal

    pub yes-moved : moved ≡ exit_next new k g n
    yes-moved =
        let p = a.answer.1.1 in
        let c = p.answers.answer.0 (world_in old) refl in
        let G : Term Text = goal_now new g in
        let w : World = record (world_in old) { variables = a.answer.0.count; steps = old.budget - a.answer.1.0 } in
        let next : Term Text → List world.Item → List visit.Choice → Bindings Text → World → Moved = λ t J K σ u.
        silent (Forward (world.Exit k t ∷ J) K σ u) in
        let count : a.answer.0.count ≡ new.bindings.count = sym (ap (λ (s : State). s.count) p.bindings) in
        acted-moved old the_act k g n (Succeeds (texts_of new.store.names a.answer.0)) a.answer.0.count a.answer.1.0 below c.cost c.world
        c.yield
        ∙ (ap (λ (t : Term Text). next t (items_now old n) (choice_points_in old) (texts_of new.store.names a.answer.0) w)
        (sym (asked-goal old new g (Ok Yes) good a yes-grows yes-names g goal))
        ∙ (ap (λ (J : List world.Item). next G J (choice_points_in old) (texts_of new.store.names a.answer.0) w)
        (sym (asked-items old new g (Ok Yes) good a yes-grows yes-names n there))
        ∙ (ap (λ (K : List visit.Choice). next G (items_now new n) K (texts_of new.store.names a.answer.0) w)
        (sym (asked-choices old new g (Ok Yes) good a yes-grows yes-names))
        ∙ (ap (λ (s : State). next G (items_now new n) (choice_points_in new) (texts_of new.store.names s) w) (sym p.bindings)
        ∙ (ap (λ (m : ℕ). next G (items_now new n) (choice_points_in new) (bindings_now new)
        (record (world_in old) { variables = m; steps = old.budget - a.answer.1.0 })) count
        ∙ (ap (λ (m : ℕ). next G (items_now new n) (choice_points_in new) (bindings_now new)
        (record (world_in old) { variables = new.bindings.count; steps = m })) (sym p.steps)
        ∙ ap (next G (items_now new n) (choice_points_in new) (bindings_now new)) (sym (asked-world old new g (Ok Yes) good a))))))))

    pub yes-proceeds : (fin : Core) (s : Step) → Advances new fin (exit_next new k g n) s → Proceeds old fin moved s
    yes-proceeds fin s h = record {
      turns = h.turns ∙ ap (λ (x : Moved). x.turns) (sym yes-moved);
      state = h.state ∙ ap (λ (x : Moved). x.state) (sym yes-moved);
      good = h.good;
      looked = h.looked;
      store = subst (HasGrown old.store) (sym h.store) a.store;
      names = h.names ∙ ap (λ (x : Core). x.names) a.rest;
      budget = h.budget ∙ ap (λ (x : Core). x.budget) a.rest;
      wanted = h.wanted ∙ ap (λ (x : Core). x.wanted) a.rest;
    }

  -- it has failed
  module _ (a : HasAsked old new g (Ok No)) where
    no-grows : Grows old.bindings new.bindings
    no-grows = undone-grows old.bindings a.answer.0 new.bindings a.answer.1.1.answers.grows a.answer.1.1.bindings

    same-bindings : bind.bindings new.bindings ≡ bind.bindings old.bindings
    same-bindings = undone-bindings old.bindings a.answer.0 new.bindings a.answer.1.1.answers.grows a.answer.1.1.bindings

    no-names : HaveNames (length new.store.names) (bind.bindings new.bindings)
    no-names = subst (HaveNames (length new.store.names)) (sym same-bindings)
        (grown-good old new.store.names a.store.names good).level.bound

    pub no-proceeds : Proceeds old (record new { mode = mode.Backward }) moved step.Silent
    no-proceeds =
        let p = a.answer.1.1 in
        let c = p.answers.answer.0 (world_in old) refl in
        let count : a.answer.0.count ≡ new.bindings.count =
        sym (undone-count old.bindings a.answer.0 new.bindings p.answers.grows p.bindings) in
        asked-proceeds old new g (Ok No) good a (record new { mode = mode.Backward }) moved refl refl refl refl
        (acted-moved old the_act k g n Fails a.answer.0.count a.answer.1.0 below c.cost c.world c.yield
        ∙ (ap (λ (K : List visit.Choice).
        silent (Backward K (record (world_in old) { variables = a.answer.0.count; steps = old.budget - a.answer.1.0 })))
        (sym (asked-choices old new g (Ok No) good a no-grows no-names))
        ∙ (ap (λ (m : ℕ).
        silent (Backward (choice_points_in new) (record (world_in old) { variables = m; steps = old.budget - a.answer.1.0 }))) count
        ∙ (ap (λ (m : ℕ).
        silent (Backward (choice_points_in new) (record (world_in old) { variables = new.bindings.count; steps = m }))) (sym p.steps)
        ∙ ap (λ (w : World). silent (Backward (choice_points_in new) w)) (sym (asked-world old new g (Ok No) good a))))))
        (good-at new new.steps mode.Backward (asked-good old new g (Ok No) good a no-grows no-names) tt)

  -- it has thrown a ball
  module _ (b : Term ℕ) (a : HasAsked old new g (Ok (Throw b))) where
    ball-grows : Grows old.bindings new.bindings
    ball-grows = undone-grows old.bindings a.answer.0 new.bindings a.answer.1.1.answers.grows a.answer.1.1.bindings

    ball-count : new.bindings.count ≡ a.answer.0.count
    ball-count = undone-count old.bindings a.answer.0 new.bindings a.answer.1.1.answers.grows a.answer.1.1.bindings

    ball-names : HaveNames (length new.store.names) (bind.bindings new.bindings)
    ball-names = subst (HaveNames (length new.store.names))
        (sym (undone-bindings old.bindings a.answer.0 new.bindings a.answer.1.1.answers.grows a.answer.1.1.bindings))
        (grown-good old new.store.names a.store.names good).level.bound

    abbrev thrown : Core
    thrown = record new { ball = Some b; mode = mode.Throwing k }

    thrown-good : IsGood thrown
    thrown-good =
        let h = asked-good old new g (Ok (Throw b)) good a ball-grows ball-names in
        let q = a.answer.1.1.answers.answer.1 in
        record {
          level = h.level;
          frames = h.frames;
          mode = tt;
          values = h.values;
          failure = h.failure;
          ball = (q.0, subst (λ (m : ℕ). IsWithin m b) (sym ball-count) q.1);
          boxes = h.boxes;
          boxed = h.boxed;
        }

    pub ball-proceeds : Proceeds old thrown moved step.Silent
    ball-proceeds =
        let p = a.answer.1.1 in
        let c = p.answers.answer.0 (world_in old) refl in
        let t : Term Text = named new.store.names b in
        let opened : k ∷ open_boxes (items_now old n) ≡ open_in new.frames k =
        sym (asked-open old new g (Ok (Throw b)) good a k ∙ open-called old k g n called) in
        let next : List ℕ → List visit.Choice → World → Moved = λ o K w. silent (Throwing t o K w) in
        asked-proceeds old new g (Ok (Throw b)) good a thrown moved refl refl refl refl
        (acted-moved old the_act k g n (Throws t) a.answer.0.count a.answer.1.0 below c.cost c.world c.yield
        ∙ (ap (λ (o : List ℕ). next o (choice_points_in old)
        (record (world_in old) { variables = a.answer.0.count; steps = old.budget - a.answer.1.0 })) opened
        ∙ (ap (λ (K : List visit.Choice). next (open_in new.frames k) K
        (record (world_in old) { variables = a.answer.0.count; steps = old.budget - a.answer.1.0 }))
        (sym (asked-choices old new g (Ok (Throw b)) good a ball-grows ball-names))
        ∙ (ap (λ (m : ℕ). next (open_in new.frames k) (choice_points_in new)
        (record (world_in old) { variables = m; steps = old.budget - a.answer.1.0 })) (sym ball-count)
        ∙ (ap (λ (m : ℕ). next (open_in new.frames k) (choice_points_in new)
        (record (world_in old) { variables = new.bindings.count; steps = m })) (sym p.steps)
        ∙ ap (next (open_in new.frames k) (choice_points_in new)) (sym (asked-world old new g (Ok (Throw b)) good a)))))))
        thrown-good

  -- its steps were not there
  module _ (a : HasAsked old new g (Err Spent)) (before : ℕ) (count : before ≡ old.bindings.count) where
    spent-grows : Grows old.bindings new.bindings
    spent-grows = undone-grows old.bindings a.answer.0 new.bindings a.answer.1.1.answers.grows a.answer.1.1.bindings

    spent-names : HaveNames (length new.store.names) (bind.bindings new.bindings)
    spent-names = subst (HaveNames (length new.store.names))
        (sym (undone-bindings old.bindings a.answer.0 new.bindings a.answer.1.1.answers.grows a.answer.1.1.bindings))
        (grown-good old new.store.names a.store.names good).level.bound

    abbrev interrupted : Core
    interrupted = record new { steps = new.budget; mode = mode.Over (outcome.Interrupted before) }

    pub spent-proceeds : Proceeds old interrupted moved step.Silent
    spent-proceeds =
        let short = a.answer.1.1.answers.answer (world_in old) refl in
        let still : the_act.interrupted ≡ world_in old =
        (on-terms (bindings_now old) (goal_now old g)).still (steps_left old) (world_in old) short in
        let budget : old.budget ≡ new.budget = sym (ap (λ (x : Core). x.budget) a.rest) in
        let left : World → Moved = λ w. silent (Over visit.Spent (record w { variables = before; steps = new.budget })) in
        asked-proceeds old new g (Err Spent) good a interrupted moved refl refl refl refl
        (unpaid-moved old the_act k g n below short still
        ∙ (ap (λ (m : ℕ). silent (Over visit.Spent (record (world_in old) { steps = m }))) budget
        ∙ (ap (λ (m : ℕ). silent (Over visit.Spent (record (world_in old) { variables = m; steps = new.budget }))) (sym count)
        ∙ ap left (sym (asked-world old new g (Err Spent) good a)))))
        (good-at new new.budget (mode.Over (outcome.Interrupted before))
        (asked-good old new g (Err Spent) good a spent-grows spent-names) tt)

-- the program and the goal's names stay, but for names that have joined the program's
pub asked-keeps : (old new fin : Core) (g : ℕ) (r : Result Outcome WalkFault) → HasAsked old new g r → fin.store ≡ new.store
    → fin.names ≡ new.names → old.steps ≤ fin.steps → KeepsProgram old fin
asked-keeps old new fin g r a store names later = record {
  store = subst (HasGrown old.store) (sym store) a.store;
  names = names ∙ ap (λ (x : Core). x.names) a.rest;
  later = later;
}

-- the bindings of the machine that is asked are those of the machine before
pub asked-same : (old new : Core) (b : State) (g : ℕ) (r q : Result Outcome WalkFault) → b ≡ old.bindings → r ≡ q
    → HasAsked (record old { bindings = b }) new g r → HasAsked old new g q
asked-same old new b g r q e f h =
    subst (λ (x : Result Outcome WalkFault). HasAsked old new g x) f
    (subst (λ (s : State). HasAsked (record old { bindings = s }) new g r) e h)
