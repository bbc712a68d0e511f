-- Each move keeps what is owed.
use Rattle.std.proofs.Common.{◌≡◌, ℕ, ℤ, ◌+◌, ◌-◌, ◌≤◌, ◌==◌, nat_le, Bool, true, false, List, [], ◌∷◌, Option, Some, None, refl, sym, ap}
use Rattle.std.proofs.Common.{◌∙◌, append_assoc, if◌then◌else◌, arith}
use Rattle.std.proofs.lemmas.Bool.Decides.{nat_tests}
use Rattle.op_logic.specs.Term.{Term, shift}
use Rattle.op_logic.specs.Bind.{Bindings, unify, Solved as Result}
use Rattle.op_trace.specs.declared.port.Port.TheVariants as port
use Rattle.op_trace.specs.declared.barrier.Barrier.{Barrier}
use Rattle.op_trace.specs.declared.barrier.Barrier.TheVariants.{Call, InCondition, AtSuccess}
use Rattle.op_trace.specs.Database.{Text, text_eq, Clause}
use Rattle.op_trace.specs.World.{World, same_barrier, Execution, Recovery, Item, Goal, Cut, Exit, Execute, open_boxes, Turn, Shown}
use Rattle.op_trace.specs.World.{Solved}
use Rattle.op_trace.specs.Act.{Yield, Fails, Succeeds, Succeeds_again, Runs, Throws, Halts, Act, Setup}
use Rattle.op_trace.specs.Visit.{Verdict, Failed, CutTo, Thrown, Stopped, Halted, Spent, is_open, around, fails, raises}
use Rattle.op_trace.specs.Visit.{Visited, gives, with_turns, and_then, event_of, with_event, pays}
use Rattle.op_trace.specs.Visit.{reaches, cut, Control, TrueGoal, FailGoal, CutGoal, Conjunction, Disjunction, IfThenElse}
use Rattle.op_trace.specs.Visit.{BoxedGoal, control, entered, Choice, Redo, Branch, More, Fail}
use Rattle.op_trace.specs.Visit.{Catch, Condition, matched, try_clause, catcher_of, caught, catches, last_choice}
use Rattle.op_trace.specs.Visit.{Again, Inside, Clauses, WithoutProcedure, Protected, inside, counted_as, acts}
use Rattle.op_trace.specs.Visit.{executes_again, entered_box, exits, yields}
use Rattle.op_trace.specs.Visit.{branches, after, boxed, selected, solved, visit, visit_with}
use Rattle.op_trace.proofs.WalkEquations.{visit_equations}
use Rattle.op_trace.proofs.WalkBarriers.{Only, visit-only}
use Rattle.op_trace.proofs.WalkBalls.{LeavesOnly, visit_throws}
use Rattle.op_machine.specs.Resume.{resume, keep, with_more, State, Forward, Backward, Throwing, Over, owed, Moved}
use Rattle.op_machine.specs.Resume.{silent, paid, invoked, chosen, raised, ball_unified, ball_met, leaving}
use Rattle.op_machine.specs.Resume.{head_unified, tried, branched, at_solution, move, world_of}
use Rattle.op_machine.specs.Resume.{entered_state, acted, yielded, executed_again}
use Rattle.op_machine.specs.inner.Barriers.{left_to, Behind, InStep}

-- a walk that leads to another, and then to a third
pub and_then-assoc : (v : Visited) (h i : Verdict → World → Visited)
    → and_then (and_then v h) i ≡ and_then v (λ r w. and_then (h r w) i)
and_then-assoc v h i =
    ap (λ (ts : List Turn). record {
      turns = ts;
      verdict = (i (h v.verdict v.world).verdict (h v.verdict v.world).world).verdict;
      world = (i (h v.verdict v.world).verdict (h v.verdict v.world).world).world;
    }) (append_assoc v.turns (h v.verdict v.world).turns (i (h v.verdict v.world).verdict (h v.verdict v.world).world).turns)

-- the results that no choice point changes
pub resume-Stopped : (s : Setup) (K : List Choice) (w : World) → resume s K Stopped w ≡ gives Stopped w
unfolding resume
resume-Stopped s [] w = refl
resume-Stopped s (Redo k g σ J ∷ K) w = resume-Stopped s K w
resume-Stopped s (Branch t m σ J ∷ K) w = resume-Stopped s K w
resume-Stopped s (Again t k g σ J ∷ K) w = resume-Stopped s K w
resume-Stopped s (Condition n t m σ J ∷ K) w = resume-Stopped s K w
resume-Stopped s (More [] k g σ J ∷ K) w = resume-Stopped s K w
resume-Stopped s (More (c ∷ cs) k g σ J ∷ K) w = resume-Stopped s K w
resume-Stopped s (Fail k g σ J ∷ K) w = resume-Stopped s K w
resume-Stopped s (Catch k g σ J ∷ K) w = resume-Stopped s K w

pub resume-Halted : (s : Setup) (K : List Choice) (i : ℤ) (w : World) → resume s K (Halted i) w ≡ gives (Halted i) w
unfolding resume
resume-Halted s [] i w = refl
resume-Halted s (Redo k g σ J ∷ K) i w = resume-Halted s K i w
resume-Halted s (Branch t m σ J ∷ K) i w = resume-Halted s K i w
resume-Halted s (Again t k g σ J ∷ K) i w = resume-Halted s K i w
resume-Halted s (Condition n t m σ J ∷ K) i w = resume-Halted s K i w
resume-Halted s (More [] k g σ J ∷ K) i w = resume-Halted s K i w
resume-Halted s (More (c ∷ cs) k g σ J ∷ K) i w = resume-Halted s K i w
resume-Halted s (Fail k g σ J ∷ K) i w = resume-Halted s K i w
resume-Halted s (Catch k g σ J ∷ K) i w = resume-Halted s K i w

-- what a move comes to
abbrev pub comes : Setup → Moved → Visited
comes s m = with_turns m.turns (owed s m.state)

pub resume-Spent : (s : Setup) (K : List Choice) (w : World) → resume s K Spent w ≡ gives Spent w
unfolding resume
resume-Spent s [] w = refl
resume-Spent s (Redo k g σ J ∷ K) w = resume-Spent s K w
resume-Spent s (Branch t m σ J ∷ K) w = resume-Spent s K w
resume-Spent s (Again t k g σ J ∷ K) w = resume-Spent s K w
resume-Spent s (Condition n t m σ J ∷ K) w = resume-Spent s K w
resume-Spent s (More [] k g σ J ∷ K) w = resume-Spent s K w
resume-Spent s (More (c ∷ cs) k g σ J ∷ K) w = resume-Spent s K w
resume-Spent s (Fail k g σ J ∷ K) w = resume-Spent s K w
resume-Spent s (Catch k g σ J ∷ K) w = resume-Spent s K w

-- a ball goes up to the next box that it leaves
pub resume-ball : (s : Setup) (K : List Choice) (b : Term Text) (o : List ℕ) (w : World)
    → resume s K (Thrown b o) w ≡ resume s (left_to o K) (Thrown b o) w
unfolding resume
resume-ball s [] b o w = refl
resume-ball s (Redo k g σ J ∷ K) b o w = resume-ball s K b o w
resume-ball s (Branch t m σ J ∷ K) b o w = resume-ball s K b o w
resume-ball s (Again t k g σ J ∷ K) b o w = resume-ball s K b o w
resume-ball s (Condition n t m σ J ∷ K) b o w = resume-ball s K b o w
resume-ball s (More [] k g σ J ∷ K) b o w = resume-ball s K b o w
resume-ball s (More (c ∷ cs) k g σ J ∷ K) b o w = resume-ball s K b o w
resume-ball s (Fail k g σ J ∷ K) b o w = go (is_open k o) refl (resume-ball s K b o w)
  where
    go : (t : Bool) → is_open k o ≡ t → resume s K (Thrown b o) w ≡ resume s (left_to o K) (Thrown b o) w
        → and_then (reaches t (raises k g σ J b (around k o)) (gives (Thrown b o)) w) (resume s K)
        ≡ resume s (if t then Fail k g σ J ∷ K else left_to o K) (Thrown b o) w
    go true e below =
        ap (λ (x : Bool). and_then (reaches x (raises k g σ J b (around k o)) (gives (Thrown b o)) w) (resume s K)) (sym e)
    go false e below = below
resume-ball s (Catch k g σ J ∷ K) b o w = go (is_open k o) refl (resume-ball s K b o w)
  where
    go : (t : Bool) → is_open k o ≡ t → resume s K (Thrown b o) w ≡ resume s (left_to o K) (Thrown b o) w
        → and_then (reaches t (catches (visit s) s k g σ J b (around k o)) (gives (Thrown b o)) w) (resume s K)
        ≡ resume s (if t then Catch k g σ J ∷ K else left_to o K) (Thrown b o) w
    go true e below =
        ap (λ (x : Bool). and_then (reaches x (catches (visit s) s k g σ J b (around k o)) (gives (Thrown b o)) w) (resume s K)) (sym e)
    go false e below = below

-- a cut leads to the choice points that it keeps
pub resume-cut : (s : Setup) (K : List Choice) (m : Barrier) (w : World) → resume s K (CutTo m) w ≡ resume s (keep m K) Failed w
unfolding resume
resume-cut s [] m w = refl
resume-cut s (Redo k g σ J ∷ K) m w = resume-cut s K m w
resume-cut s (Branch t b σ J ∷ K) m w = resume-cut s K m w
resume-cut s (Again t k g σ J ∷ K) m w = resume-cut s K m w
resume-cut s (More [] k g σ J ∷ K) m w = resume-cut s K m w
resume-cut s (More (c ∷ cs) k g σ J ∷ K) m w = resume-cut s K m w
resume-cut s (Fail k g σ J ∷ K) m w = go (same_barrier m (Call k)) (resume-cut s K m w)
  where
    go : (b : Bool) → resume s K (CutTo m) w ≡ resume s (keep m K) Failed w
        → and_then (reaches b (fails k g σ J) (gives (CutTo m)) w) (resume s K)
        ≡ resume s (if b then Fail k g σ J ∷ K else keep m K) Failed w
    go true below = refl
    go false below = below
resume-cut s (Catch k g σ J ∷ K) m w = go (same_barrier m (Call k)) (resume-cut s K m w)
  where
    go : (b : Bool) → resume s K (CutTo m) w ≡ resume s (keep m K) Failed w
        → and_then (reaches b (fails k g σ J) (gives (CutTo m)) w) (resume s K)
        ≡ resume s (if b then Catch k g σ J ∷ K else keep m K) Failed w
    go true below = refl
    go false below = below
resume-cut s (Condition n t b σ J ∷ K) m w = go (same_barrier m (InCondition n)) (same_barrier m (AtSuccess n)) (resume-cut s K m w)
  where
    go : (c d : Bool) → resume s K (CutTo m) w ≡ resume s (keep m K) Failed w
        → and_then (reaches c (branches (visit s) s t b σ J) (reaches d (gives Failed) (gives (CutTo m))) w) (resume s K)
        ≡ resume s (if c then Condition n t b σ J ∷ K else (if d then K else keep m K)) Failed w
    go true d below = refl
    go false true below = refl
    go false false below = below

-- with items behind it whose cuts keep the same, a cut can be made at once
pub cut-equation : (s : Setup) (c : ℕ) (m : Barrier) (J : List Item) (K : List Choice) (r : Verdict) (w : World) → Behind c m K J → Only J r
    → LeavesOnly (open_boxes J) c r
    → and_then (cut m r w) (resume s K) ≡ resume s (keep m K) r w
cut-equation s c m J K Failed w b o l = resume-cut s K m w
cut-equation s c m J K (CutTo n) w b o l =
    resume-cut s K n w ∙ (ap (λ (L : List Choice). resume s L Failed w) (sym (b.0 n o)) ∙ sym (resume-cut s (keep m K) n w))
cut-equation s c m J K (Thrown x p) w b o l =
    resume-ball s K x p w ∙ (ap (λ (L : List Choice). resume s L (Thrown x p) w) (sym (b.1 p l)) ∙ sym (resume-ball s (keep m K) x p w))
cut-equation s c m J K Stopped w b o l = resume-Stopped s K w ∙ sym (resume-Stopped s (keep m K) w)
cut-equation s c m J K (Halted i) w b o l = resume-Halted s K i w ∙ sym (resume-Halted s (keep m K) i w)
cut-equation s c m J K Spent w b o l = resume-Spent s K w ∙ sym (resume-Spent s (keep m K) w)

pub cuts-equation : (s : Setup) (m : Barrier) (J : List Item) (K : List Choice) (σ : Bindings Text) (w : World) → Behind w.calls m K J
    → and_then (and_then (visit s J σ w) (cut m)) (resume s K) ≡ and_then (visit s J σ w) (resume s (keep m K))
cuts-equation s m J K σ w b =
    and_then-assoc (visit s J σ w) (cut m) (resume s K)
    ∙ ap (with_turns (visit s J σ w).turns)
    (cut-equation s w.calls m J K (visit s J σ w).verdict (visit s J σ w).world b (visit-only s J σ w) (visit_throws s J σ w).0)

pub paid-equation : (t : Bool) (s : Setup) (n : ℕ) (w : World) (h : World → Visited) (m : World → Moved) (K : List Choice)
    → (and_then (h (record w { steps = w.steps + n })) (resume s K) ≡ comes s (m (record w { steps = w.steps + n })))
    → and_then (pays t s n w h) (resume s K) ≡ comes s (paid t s n w m)
unfolding owed
paid-equation true s n w h m K e = e
paid-equation false s n w h m K e = resume-Spent s K _

pub matched-equation : (s : Setup) (c : Clause) (k : ℕ) (g : Term Text) (J : List Item) (w : World) (o : Option (Result Text))
    (K : List Choice)
    → and_then (matched (visit s) s c k g J w o) (resume s K) ≡ comes s (head_unified s c k g J K w o)
unfolding owed
matched-equation s c k g J w None K = resume-Spent s K _
matched-equation s c k g J w (Some (None, left)) K = refl
matched-equation s c k g J w (Some (Some τ, left)) K =
    paid-equation (nat_le (s.budget - left + c.variables) s.budget) s c.variables (record w { steps = s.budget - left })
    (λ u. visit s (entered w.variables c k g J) τ (record u { variables = u.variables + c.variables }))
    (λ u. silent (Forward (entered w.variables c k g J) K τ (record u { variables = u.variables + c.variables }))) K refl

pub tried-equation : (s : Setup) (c : Clause) (k : ℕ) (g : Term Text) (σ : Bindings Text) (J : List Item) (w : World) (K : List Choice)
    → and_then (try_clause (visit s) s c k g σ J w) (resume s K) ≡ comes s (tried s c k g σ J K w)
tried-equation s c k g σ J w K =
    let pairs : World → List (Term Text × Term Text) = λ u. (g, shift u.variables c.head) ∷ [] in
    paid-equation (nat_le (w.steps + 1) s.budget) s 1 w
    (λ u. matched (visit s) s c k g J u (unify text_eq (s.budget - u.steps) σ ((g, shift u.variables c.head) ∷ [])))
    (λ u. head_unified s c k g J K u (unify text_eq (s.budget - u.steps) σ ((g, shift u.variables c.head) ∷ []))) K
    (matched-equation s c k g J (record w { steps = w.steps + 1 })
    (unify text_eq (s.budget - (w.steps + 1)) σ ((g, shift w.variables c.head) ∷ [])) K)

-- a walk whose row makes a choice point
pub push-equation : (s : Setup) (v : Visited) (c : Choice) (K : List Choice)
    → and_then (and_then v (after (visit s) s c)) (resume s K) ≡ and_then v (resume s (c ∷ K))
unfolding resume
push-equation s v c K = and_then-assoc v (after (visit s) s c) (resume s K)

-- no further clauses are no choice point
pub resume-with_more : (s : Setup) (cs : List Clause) (k : ℕ) (g : Term Text) (σ : Bindings Text) (J : List Item) (K : List Choice)
    (r : Verdict) (w : World)
    → resume s (with_more cs k g σ J K) r w ≡ resume s (More cs k g σ J ∷ K) r w
unfolding resume
resume-with_more s [] k g σ J K r w = refl
resume-with_more s (c ∷ cs) k g σ J K r w = refl

pub entered_box-equation : (i : Inside) (s : Setup) (k : ℕ) (g : Term Text) (J : List Item) (σ : Bindings Text) (w : World)
    (K : List Choice)
    → and_then (entered_box (visit s) s i k g σ J w) (resume s K) ≡ owed s (entered_state i k g J K σ w)
unfolding owed resume
entered_box-equation (Clauses cs) s k g J σ w K = sym (resume-with_more s cs k g σ J K Failed w)
entered_box-equation WithoutProcedure s k g J σ w K = refl
entered_box-equation Protected s k g J σ w K = refl

pub boxed-equation : (s : Setup) (g : Term Text) (J : List Item) (σ : Bindings Text) (w : World) (K : List Choice)
    → and_then (boxed (visit s) s g J σ w) (resume s K) ≡ comes s (invoked g J K σ w)
unfolding resume
boxed-equation s g J σ w K =
    let k : ℕ = w.calls + 1 in
    let u : World = record w { calls = k } in
    let i : Inside = inside w.database g in
    let c : Choice = last_choice i k g σ J in
    ap (with_turns (Shown (event_of port.Call k g σ J u) (with_event u) ∷ []))
    (and_then-assoc (entered_box (visit s) s i k g σ J (with_event u)) (after (visit s) s c) (resume s K)
    ∙ entered_box-equation i s k g J σ (with_event u) (c ∷ K))

pub acted-equation : (t : Bool) (s : Setup) (a : Act) (w : World) (h : Yield → World → Visited) (m : Yield → World → Moved)
    (K : List Choice)
    → nat_le (w.steps + a.cost) s.budget ≡ t
    → ((u : World) → u.steps ≤ s.budget → and_then (h a.yield u) (resume s K) ≡ comes s (m a.yield u))
    → and_then (acts t s a w h) (resume s K) ≡ comes s (acted t s a w m)
unfolding owed
acted-equation true s a w h m K test e =
    let fits : w.steps + a.cost ≤ s.budget = grind (arith, nat_tests) in
    e (record (counted_as w a.after) { steps = w.steps + a.cost }) fits
acted-equation false s a w h m K test e = resume-Spent s K _

-- the yield of a try
pub yields-equation : (s : Setup) (k : ℕ) (g : Term Text) (J : List Item) (σ : Bindings Text) (y : Yield) (w : World) (K : List Choice)
    → w.steps ≤ s.budget
    → and_then (yields (visit s) s (visit_with (visit s) s J) k g J σ y w) (resume s K) ≡ comes s (yielded k g J K σ y w)
unfolding owed visit_with
yields-equation s k g J σ Fails w K below = refl
yields-equation s k g J σ (Succeeds τ) w K below =
    ap (λ (v : Visited). and_then v (resume s K)) (sym (visit_equations s (Exit k g ∷ J) τ w below))
yields-equation s k g J σ (Succeeds_again τ t) w K below =
    push-equation s (exits (visit s) s (visit_with (visit s) s J) k g J τ w) (Again t k g σ J) K
    ∙ ap (λ (v : Visited). and_then v (resume s (Again t k g σ J ∷ K))) (sym (visit_equations s (Exit k g ∷ J) τ w below))
yields-equation s k g J σ (Runs b) w K below =
    ap (λ (v : Visited). and_then v (resume s K)) (sym (visit_equations s (Goal b (Call k) ∷ Exit k g ∷ J) σ w below))
yields-equation s k g J σ (Throws b) w K below = refl
yields-equation s k g J σ (Halts i) w K below = resume-Halted s K i w

pub again-equation : (s : Setup) (t : Execution) (k : ℕ) (g : Term Text) (σ : Bindings Text) (J : List Item) (w : World) (K : List Choice)
    → and_then (executes_again (visit s) s t k g σ J w) (resume s K) ≡ comes s (executed_again s t k g σ J K w)
unfolding owed
again-equation s t k g σ J w K =
    paid-equation (nat_le (w.steps + 1) s.budget) s 1 w (visit s (Execute t k g ∷ J) σ) (λ u. silent (Forward
    (Execute t k g ∷ J) K σ u)) K refl

-- a ball that comes to a box which catches
pub unified-equation : (s : Setup) (k : ℕ) (g : Term Text) (σ : Bindings Text) (J : List Item) (K : List Choice) (b : Term Text)
    (o : List ℕ) (w : World) (r : Option (Result Text))
    → and_then (caught (visit s) s k g σ J b o w r) (resume s K) ≡ comes s (ball_unified s k g σ J K b o w r)
unfolding owed
unified-equation s k g σ J K b o w None = resume-Spent s K _
unified-equation s k g σ J K b o w (Some (None, left)) = refl
unified-equation s k g σ J K b o w (Some (Some τ, left)) =
    let u : World = record w { steps = s.budget - left } in
    push-equation s (executes_again (visit s) s Recovery k g τ J u) (Fail k g σ J) K
    ∙ again-equation s Recovery k g τ J u (Fail k g σ J ∷ K)

pub leaving-equation : (s : Setup) (K : List Choice) (b : Term Text) (o : List ℕ) (w : World)
    → resume s K (Thrown b o) w ≡ comes s (leaving s b o K w)
unfolding resume owed
leaving-equation s [] b o w = refl
leaving-equation s (Redo k g σ J ∷ K) b o w = leaving-equation s K b o w
leaving-equation s (Branch t m σ J ∷ K) b o w = leaving-equation s K b o w
leaving-equation s (Again t k g σ J ∷ K) b o w = leaving-equation s K b o w
leaving-equation s (Condition n t m σ J ∷ K) b o w = leaving-equation s K b o w
leaving-equation s (More [] k g σ J ∷ K) b o w = leaving-equation s K b o w
leaving-equation s (More (c ∷ cs) k g σ J ∷ K) b o w = leaving-equation s K b o w
leaving-equation s (Fail k g σ J ∷ K) b o w = go (is_open k o) (leaving-equation s K b o w)
  where
    go : (t : Bool) → resume s K (Thrown b o) w ≡ comes s (leaving s b o K w)
        → and_then (reaches t (raises k g σ J b (around k o)) (gives (Thrown b o)) w) (resume s K)
        ≡ comes s (if t then raised k g σ J K b (around k o) w else leaving s b o K w)
    go true below = refl
    go false below = below
leaving-equation s (Catch k g σ J ∷ K) b o w = go (is_open k o) (leaving-equation s K b o w)
  where
    go : (t : Bool) → resume s K (Thrown b o) w ≡ comes s (leaving s b o K w)
        → and_then (reaches t (catches (visit s) s k g σ J b (around k o)) (gives (Thrown b o)) w) (resume s K)
        ≡ comes s (if t then ball_met s k g σ J K b (around k o) w else leaving s b o K w)
    go true below =
        unified-equation s k g σ J K b (around k o) w (unify text_eq (s.budget - w.steps) σ ((b, catcher_of g) ∷ []))
    go false below = below

pub branched-equation : (s : Setup) (t : Term Text) (m : Barrier) (σ : Bindings Text) (J : List Item) (w : World) (K : List Choice)
    → and_then (branches (visit s) s t m σ J w) (resume s K) ≡ comes s (branched s t m σ J K w)
unfolding owed
branched-equation s t m σ J w K =
    paid-equation (nat_le (w.steps + 1) s.budget) s 1 w (visit s (Goal t m ∷ J) σ) (λ u. silent (Forward (Goal t m ∷ J) K σ u)) K refl

pub selected-equation : (s : Setup) (q : Control) (t : Term Text) (m : Barrier) (J : List Item) (σ : Bindings Text) (w : World)
    (K : List Choice)
    → Behind w.calls m K J → and_then (selected (visit s) s q t m J σ w) (resume s K) ≡ comes s (chosen q t m J K σ w)
unfolding owed
selected-equation s TrueGoal t m J σ w K b = refl
selected-equation s FailGoal t m J σ w K b = refl
selected-equation s CutGoal t m J σ w K b = cuts-equation s m J K σ w b
selected-equation s (Conjunction x y) t m J σ w K b = refl
selected-equation s (Disjunction x y) t m J σ w K b = push-equation s (visit s (Goal x m ∷ J) σ w) (Branch y m σ J) K
selected-equation s (IfThenElse c x y) t m J σ w K b =
    let n : ℕ = w.conditions + 1 in
    push-equation s (visit s (Goal c (InCondition n) ∷ Cut (AtSuccess n) ∷ Goal x m ∷ J) σ (record w { conditions = n }))
    (Condition n y m σ J)
    K
selected-equation s BoxedGoal t m J σ w K b = boxed-equation s t J σ w K

pub solved-equation : (s : Setup) (σ : Bindings Text) (w : World) (K : List Choice)
    → and_then (solved s σ w) (resume s K) ≡ comes s (at_solution s K σ w)
unfolding owed
solved-equation s σ w K = go (w.solutions + 1 == s.wanted)
  where
    u : World
    u = record w { solutions = w.solutions + 1 }

    go : (b : Bool) → and_then (with_turns (Solved σ (record w { solutions = w.solutions + 1 }) ∷ [])
        (gives (if b then Stopped else Failed) (record w { solutions = w.solutions + 1 }))) (resume s K)
        ≡ comes s (record {
          turns = Solved σ (record w { solutions = w.solutions + 1 }) ∷ [];
          state =
              if b then Over Stopped (record w { solutions = w.solutions + 1 }) else Backward K (record w { solutions = w.solutions + 1 });
        })
    go true = ap (with_turns (Solved σ (record w { solutions = w.solutions + 1 }) ∷ []))
        (resume-Stopped s K (record w { solutions = w.solutions + 1 }))
    go false = refl

pub exit-equation : (s : Setup) (k : ℕ) (g : Term Text) (J : List Item) (σ : Bindings Text) (w : World) (K : List Choice)
    → w.steps ≤ s.budget
    → and_then (visit_with (visit s) s (Exit k g ∷ J) σ w) (resume s K) ≡ comes s (move s (Forward (Exit k g ∷ J) K σ w))
unfolding owed visit_with resume
exit-equation s k g J σ w K below =
    ap (with_turns (Shown (event_of port.Exit k g σ J w) (with_event w) ∷ []))
    (push-equation s (visit_with (visit s) s J σ (with_event w)) (Redo k g σ J) K
    ∙ ap (λ (v : Visited). and_then v (resume s (Redo k g σ J ∷ K))) (sym (visit_equations s J σ (with_event w) below)))

-- what is owed before a move is the turn that it shows and what is owed after it
pub move-equation : (s : Setup) (t : State) → (world_of t).steps ≤ s.budget → InStep t → owed s t ≡ comes s (move s t)
unfolding owed resume visit_with
move-equation s (Forward [] K σ w) below h = ap (λ (v : Visited). and_then v (resume s K)) (visit_equations s [] σ w below)
    ∙ solved-equation s σ w K
move-equation s (Forward (Exit k g ∷ J) K σ w) below h =
    ap (λ (v : Visited). and_then v (resume s K)) (visit_equations s (Exit k g ∷ J) σ w below) ∙ exit-equation s k g J σ w K below
move-equation s (Forward (Cut m ∷ J) K σ w) below h =
    ap (λ (v : Visited). and_then v (resume s K)) (visit_equations s (Cut m ∷ J) σ w below)
    ∙ (ap (λ (v : Visited). and_then (and_then v (cut m)) (resume s K)) (sym (visit_equations s J σ w below))
    ∙ cuts-equation s m J K σ w h.0.0)
move-equation s (Forward (Execute t k g ∷ J) K σ w) below h =
    let a : Act = s.act (s.budget - w.steps) t g σ w in
    ap (λ (v : Visited). and_then v (resume s K)) (visit_equations s (Execute t k g ∷ J) σ w below)
    ∙ acted-equation (nat_le (w.steps + a.cost) s.budget) s a w (yields (visit s) s (visit_with (visit s) s J) k g J σ)
    (yielded k g J K σ) K refl
    (λ u fits. yields-equation s k g J σ a.yield u K fits)
move-equation s (Forward (Goal t m ∷ J) K σ w) below h =
    ap (λ (v : Visited). and_then v (resume s K)) (visit_equations s (Goal t m ∷ J) σ w below)
    ∙ paid-equation (nat_le (w.steps + 1) s.budget) s 1 w (selected (visit s) s (control t) t m J σ) (chosen (control t) t m J K σ) K
    (selected-equation s (control t) t m J σ (record w { steps = w.steps + 1 }) K h.0.0)
move-equation s (Backward [] w) below h = refl
move-equation s (Backward (Redo k g σ J ∷ K) w) below h = refl
move-equation s (Backward (Branch t m σ J ∷ K) w) below h = branched-equation s t m σ J w K
move-equation s (Backward (Condition n t m σ J ∷ K) w) below h = branched-equation s t m σ J w K
move-equation s (Backward (Again t k g σ J ∷ K) w) below h = again-equation s t k g σ J w K
move-equation s (Backward (Fail k g σ J ∷ K) w) below h = refl
move-equation s (Backward (Catch k g σ J ∷ K) w) below h = refl
move-equation s (Backward (More [] k g σ J ∷ K) w) below h = refl
move-equation s (Backward (More (c ∷ cs) k g σ J ∷ K) w) below h =
    let v : Visited = try_clause (visit s) s c k g σ J w in
    push-equation s v (More cs k g σ J) K
    ∙ (ap (with_turns v.turns) (sym (resume-with_more s cs k g σ J K v.verdict v.world))
    ∙ tried-equation s c k g σ J w (with_more cs k g σ J K))
move-equation s (Throwing b o K w) below h = leaving-equation s K b o w
move-equation s (Over r w) below h = refl
