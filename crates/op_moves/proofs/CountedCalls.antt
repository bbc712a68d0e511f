-- The calls of a walk are numbered on from those before it, and only boxes that were called are seen.
use Rattle.std.proofs.Common.{◌≡◌, ◌⊎◌, inl, inr, ℕ, zero, suc, ◌+◌, ◌-◌, ◌<◌, ◌≤◌, nat_le, Bool, true, false, List, [], ◌∷◌, ◌++◌}
use Rattle.std.proofs.Common.{Option, Some, None, refl, subst, arith, if◌then◌else◌}
use Rattle.op_logic.specs.Term.{Term, shift}
use Rattle.op_logic.specs.Bind.{Bindings, unify, Solved as Result}
use Rattle.op_trace.specs.declared.port.Port.{Port}
use Rattle.op_trace.specs.declared.port.Port.TheVariants as port
use Rattle.op_trace.specs.declared.barrier.Barrier.{Barrier}
use Rattle.op_trace.specs.declared.barrier.Barrier.TheVariants.{Call, InCondition, AtSuccess}
use Rattle.op_trace.specs.Database.{Text, text_eq, Clause}
use Rattle.op_trace.specs.World.{World, same_barrier, Execution, First, Recovery, Item, Goal, Cut, Exit, Execute, open_boxes, head_number}
use Rattle.op_trace.specs.World.{Turn, Shown, Solved}
use Rattle.op_trace.specs.Act.{Yield, Fails, Succeeds, Succeeds_again, Runs, Throws, Halts, Act, Setup}
use Rattle.op_trace.specs.Visit.{acts, Inside, Clauses, WithoutProcedure, Protected, inside, Again, Catch}
use Rattle.op_trace.specs.Visit.{catcher_of, ends, caught, catches, last_choice}
use Rattle.op_trace.specs.Visit.{executes_again, entered_box, exits, yields}
use Rattle.op_trace.specs.Visit.{Verdict, Failed, CutTo, Thrown, Stopped, Halted, Spent, Visited, gives, and_then, on_failed, reaches}
use Rattle.op_trace.specs.Visit.{on_end, on_condition, is_open, around, selects, fails, raises, shows, solved, is_true}
use Rattle.op_trace.specs.Visit.{cut, with_event, pays, spends, Control, TrueGoal, FailGoal, CutGoal, Conjunction, Disjunction, IfThenElse}
use Rattle.op_trace.specs.Visit.{BoxedGoal, control, Visitor, Choice, Redo, Branch, More, Fail, Condition, entered, matched, try_clause}
use Rattle.op_trace.specs.Visit.{alternatives, branches, after, boxed, selected, visit_with, visit_by, visit}
use Rattle.op_moves.specs.Moves.{is_call}

-- a number that was given out behind the first c, where n are given out
abbrev pub IsGiven : ℕ → ℕ → ℕ → Type 0
IsGiven c n k = (c < k) × (k ≤ n)

abbrev pub AreGiven : ℕ → ℕ → List ℕ → Type 0
AreGiven c n [] = Unit {0}
AreGiven c n (k ∷ ks) = IsGiven c n k × AreGiven c n ks

-- the parent of a box: none, or a box that was called
abbrev pub IsParent : ℕ → ℕ → ℕ → Type 0
IsParent c n k = (k ≡ 0) ⊎ IsGiven c n k

-- at a call the box gets the next number; else it has got its own by then
abbrev pub IsNumberOf : Bool → ℕ → ℕ → ℕ → Type 0
IsNumberOf true c n k = k ≡ n + 1
IsNumberOf false c n k = IsGiven c n k

-- how many were given out behind an event
abbrev pub given_after : Bool → ℕ → ℕ
given_after true n = n + 1
given_after false n = n

-- turns on whose way the numbers behind n were given out, up to m
abbrev pub Number : ℕ → ℕ → List Turn → ℕ → Type 0
Number c n [] m = n ≡ m
Number c n (Shown e w ∷ ts) m =
    IsNumberOf (is_call e.port) c n e.call × IsParent c n e.parent × Number c (given_after (is_call e.port) n) ts m
Number c n (Solved σ w ∷ ts) m = Number c n ts m

number-then : (c n : ℕ) (ts : List Turn) (m : ℕ) (us : List Turn) (o : ℕ) → Number c n ts m → Number c m us o → Number c n (ts ++ us) o
number-then c n [] m us o a b = subst (λ (k : ℕ). Number c k us o) (sym-of n m a) b
  where
    sym-of : (x y : ℕ) → x ≡ y → y ≡ x
    sym-of x y h = cc
number-then c n (Shown e w ∷ ts) m us o a b = (a.0, a.1, number-then c (given_after (is_call e.port) n) ts m us o a.2 b)
number-then c n (Solved σ w ∷ ts) m us o a b = number-then c n ts m us o a b

given-more : (c n m : ℕ) (ks : List ℕ) → n ≤ m → AreGiven c n ks → AreGiven c m ks
given-more c n m [] h a = tt
given-more c n m (k ∷ ks) h a = ((a.0.0, omega (arith, a.0.1)), given-more c n m ks h a.1)

head-given : (c n : ℕ) (ks : List ℕ) → AreGiven c n ks → IsParent c n (head_number ks)
head-given c n [] a = inl refl
head-given c n (k ∷ ks) a = inr a.0

-- a walk that numbers its calls on from those of a world
abbrev Counts : ℕ → World → Visited → Type 0
Counts c w v = Number c w.calls v.turns v.world.calls × (w.calls ≤ v.world.calls)

abbrev VisitsCount : ℕ → Visitor → Type 0
VisitsCount c visit =
    (I : List Item) (σ : Bindings Text) (w : World) → c ≤ w.calls → AreGiven c w.calls (open_boxes I) → Counts c w (visit I σ w)

-- a box that was called before these items
abbrev InBox : ℕ → World → ℕ → List Item → Type 0
InBox c w k J = AreGiven c w.calls (k ∷ open_boxes J)

counts-gives : (c : ℕ) (r : Verdict) (w : World) → Counts c w (gives r w)
counts-gives c r w = (refl, omega arith)

counts-then : (c : ℕ) (w : World) (v : Visited) (h : Verdict → World → Visited) → Counts c w v
    → ((r : Verdict) (u : World) → w.calls ≤ u.calls → Counts c u (h r u)) → Counts c w (and_then v h)
counts-then c w v h l k =
    let m : Counts c v.world (h v.verdict v.world) = k v.verdict v.world l.1 in (
      number-then c w.calls v.turns v.world.calls (h v.verdict v.world).turns (h v.verdict v.world).world.calls l.0 m.0,
      omega (arith, l.1, m.1),
    )

counts-pays : (c : ℕ) (t : Bool) (s : Setup) (n : ℕ) (w : World) (h : World → Visited)
    → Counts c w (h (record w { steps = w.steps + n })) → Counts c w (pays t s n w h)
counts-pays c true s n w h l = l
counts-pays c false s n w h l = (refl, omega arith)

counts-spends : (c : ℕ) (s : Setup) (n : ℕ) (w : World) (h : World → Visited)
    → Counts c w (h (record w { steps = w.steps + n })) → Counts c w (spends s n w h)
counts-spends c s n w h l = counts-pays c (nat_le (w.steps + n) s.budget) s n w h l

counts-acts : (c : ℕ) (t : Bool) (s : Setup) (a : Act) (w : World) (h : Yield → World → Visited)
    → ((y : Yield) (u : World) → u.calls ≡ w.calls → Counts c u (h y u)) → Counts c w (acts t s a w h)
counts-acts c true s a w h l = l a.yield _ refl
counts-acts c false s a w h l = (refl, omega arith)

counts-failed : (c : ℕ) (h : World → Visited) (r : Verdict) (w : World) → Counts c w (h w) → Counts c w (on_failed h r w)
counts-failed c h Failed w l = l
counts-failed c h (CutTo m) w l = counts-gives c (CutTo m) w
counts-failed c h (Thrown x o) w l = counts-gives c (Thrown x o) w
counts-failed c h Stopped w l = counts-gives c Stopped w
counts-failed c h (Halted i) w l = counts-gives c (Halted i) w
counts-failed c h Spent w l = counts-gives c Spent w

counts-reaches : (c : ℕ) (t : Bool) (h i : World → Visited) (w : World) → Counts c w (h w) → Counts c w (i w)
    → Counts c w (reaches t h i w)
counts-reaches c true h i w l m = l
counts-reaches c false h i w l m = m

counts-end : (c k : ℕ) (h : World → Visited) (i : Term Text → List ℕ → World → Visited) (r : Verdict) (w : World) → Counts c w (h w)
    → ((x : Term Text) (o : List ℕ) → Counts c w (i x o w)) → Counts c w (on_end k h i r w)
counts-end c k h i Failed w l e = l
counts-end c k h i (CutTo x) w l e =
    counts-reaches c (same_barrier x (Call k)) h (gives (CutTo x)) w l (counts-gives c (CutTo x) w)
counts-end c k h i (Thrown x o) w l e =
    counts-reaches c (is_open k o) (i x (around k o)) (gives (Thrown x o)) w (e x (around k o)) (counts-gives c (Thrown x o) w)
counts-end c k h i Stopped w l e = counts-gives c Stopped w
counts-end c k h i (Halted x) w l e = counts-gives c (Halted x) w
counts-end c k h i Spent w l e = counts-gives c Spent w

counts-condition : (c n : ℕ) (h : World → Visited) (r : Verdict) (w : World) → Counts c w (h w) → Counts c w (on_condition n h r w)
counts-condition c n h Failed w l = l
counts-condition c n h (CutTo x) w l =
    counts-reaches c (same_barrier x (InCondition n)) h (reaches (same_barrier x (AtSuccess n)) (gives Failed) (gives (CutTo x))) w l
    (counts-reaches c (same_barrier x (AtSuccess n)) (gives Failed) (gives (CutTo x)) w (counts-gives c Failed w)
    (counts-gives c (CutTo x) w))
counts-condition c n h (Thrown x o) w l = counts-gives c (Thrown x o) w
counts-condition c n h Stopped w l = counts-gives c Stopped w
counts-condition c n h (Halted i) w l = counts-gives c (Halted i) w
counts-condition c n h Spent w l = counts-gives c Spent w

-- an event at another port than call
counts-shows : (c : ℕ) (p : Port) (k : ℕ) (g : Term Text) (σ : Bindings Text) (J : List Item) (w : World) (h : World → Visited)
    → is_call p ≡ false → InBox c w k J → Counts c w (h (with_event w)) → Counts c w (shows p k g σ J w h)
counts-shows c p k g σ J w h other box l = (
  (
    subst (λ (b : Bool). IsNumberOf b c w.calls k) (turned (is_call p) other) box.0,
    head-given c w.calls (open_boxes J) box.1,
    subst (λ (b : Bool). Number c (given_after b w.calls) (h (with_event w)).turns (h (with_event w)).world.calls)
        (turned (is_call p) other) l.0,
  ),
  l.1,
)
  where
    turned : (b : Bool) → b ≡ false → false ≡ b
    turned b e = cc

counts-ends : (c k : ℕ) (g : Term Text) (σ : Bindings Text) (J : List Item) (r : Verdict) (w : World) → InBox c w k J
    → Counts c w (ends k g σ J r w)
counts-ends c k g σ J r w box =
    counts-end c k (fails k g σ J) (raises k g σ J) r w
    (counts-shows c port.Fail k g σ J w (gives Failed) refl box (counts-gives c Failed (with_event w)))
    (λ x o. counts-shows c port.Exception k g σ J w (gives (Thrown x o)) refl box (counts-gives c (Thrown x o) (with_event w)))

-- a body, and the exit behind it, are in the box
entered-given : (c n first : ℕ) (x : Clause) (k : ℕ) (g : Term Text) (J : List Item) → AreGiven c n (k ∷ open_boxes J)
    → AreGiven c n (open_boxes (entered first x k g J))
entered-given c n first x k g J box = over (is_true x.body)
  where
    over : (b : Bool) → AreGiven c n (open_boxes (if b then Exit k g ∷ J else Goal (shift first x.body) (Call k) ∷ Exit k g ∷ J))
    over true = box
    over false = box

module _ (c : ℕ) (visit : Visitor) (s : Setup) (lv : VisitsCount c visit) where
  counts-matched : (x : Clause) (k : ℕ) (g : Term Text) (J : List Item) (w : World) (o : Option (Result Text))
      → c ≤ w.calls → InBox c w k J → Counts c w (matched visit s x k g J w o)
  counts-matched x k g J w None low box = (refl, omega arith)
  counts-matched x k g J w (Some (None, left)) low box = (refl, omega arith)
  counts-matched x k g J w (Some (Some τ, left)) low box =
      let u : World = record w { steps = s.budget - left } in
      counts-spends c s x.variables u
      (λ y. visit (entered w.variables x k g J) τ (record y { variables = y.variables + x.variables }))
      (lv (entered w.variables x k g J) τ (record u { steps = u.steps + x.variables; variables = u.variables + x.variables }) low
      (entered-given c w.calls w.variables x k g J box))

  counts-clause : (x : Clause) (k : ℕ) (g : Term Text) (σ : Bindings Text) (J : List Item) (w : World)
      → c ≤ w.calls → InBox c w k J → Counts c w (try_clause visit s x k g σ J w)
  counts-clause x k g σ J w low box =
      counts-spends c s 1 w _ (counts-matched x k g J (record w { steps = w.steps + 1 }) _ low box)

  counts-alternatives : (xs : List Clause) (k : ℕ) (g : Term Text) (σ : Bindings Text) (J : List Item) (r : Verdict) (w : World)
      → c ≤ w.calls → InBox c w k J → Counts c w (alternatives visit s xs k g σ J r w)
  counts-alternatives [] k g σ J r w low box = counts-gives c r w
  counts-alternatives (x ∷ xs) k g σ J r w low box =
      counts-failed c _ r w
      (counts-then c w (try_clause visit s x k g σ J w) (alternatives visit s xs k g σ J) (counts-clause x k g σ J w low box)
      (λ q u h. counts-alternatives xs k g σ J q u (omega arith) (given-more c w.calls u.calls (k ∷ open_boxes J) h box)))

  counts-branches : (t : Term Text) (m : Barrier) (σ : Bindings Text) (J : List Item) (w : World)
      → c ≤ w.calls → AreGiven c w.calls (open_boxes J) → Counts c w (branches visit s t m σ J w)
  counts-branches t m σ J w low given =
      counts-spends c s 1 w _ (lv (Goal t m ∷ J) σ (record w { steps = w.steps + 1 }) low given)

  counts-again : (t : Execution) (k : ℕ) (g : Term Text) (σ : Bindings Text) (J : List Item) (w : World)
      → c ≤ w.calls → InBox c w k J → Counts c w (executes_again visit s t k g σ J w)
  counts-again t k g σ J w low box =
      counts-spends c s 1 w _ (lv (Execute t k g ∷ J) σ (record w { steps = w.steps + 1 }) low box)

  counts-caught : (k : ℕ) (g : Term Text) (σ : Bindings Text) (J : List Item) (b : Term Text) (o : List ℕ) (w : World)
      (q : Option (Result Text)) → c ≤ w.calls → InBox c w k J → Counts c w (caught visit s k g σ J b o w q)
  counts-caught k g σ J b o w None low box = (refl, omega arith)
  counts-caught k g σ J b o w (Some (None, left)) low box =
      let u : World = record w { steps = s.budget - left } in
      counts-shows c port.Exception k g σ J u (gives (Thrown b o)) refl box (counts-gives c (Thrown b o) (with_event u))
  counts-caught k g σ J b o w (Some (Some τ, left)) low box =
      let u : World = record w { steps = s.budget - left } in
      counts-then c u (executes_again visit s Recovery k g τ J u) (ends k g σ J) (counts-again Recovery k g τ J u low box)
      (λ r x h. counts-ends c k g σ J r x (given-more c w.calls x.calls (k ∷ open_boxes J) h box))

  counts-catches : (k : ℕ) (g : Term Text) (σ : Bindings Text) (J : List Item) (b : Term Text) (o : List ℕ) (w : World)
      → c ≤ w.calls → InBox c w k J → Counts c w (catches visit s k g σ J b o w)
  counts-catches k g σ J b o w low box =
      counts-caught k g σ J b o w (unify text_eq (s.budget - w.steps) σ ((b, catcher_of g) ∷ [])) low box

  -- the boxes that a choice point knows
  abbrev Knows : ℕ → Choice → Type 0
  Knows n (Redo k g σ J) = AreGiven c n (k ∷ open_boxes J)
  Knows n (Branch t m σ J) = AreGiven c n (open_boxes J)
  Knows n (More xs k g σ J) = AreGiven c n (k ∷ open_boxes J)
  Knows n (Again t k g σ J) = AreGiven c n (k ∷ open_boxes J)
  Knows n (Fail k g σ J) = AreGiven c n (k ∷ open_boxes J)
  Knows n (Catch k g σ J) = AreGiven c n (k ∷ open_boxes J)
  Knows n (Condition i t m σ J) = AreGiven c n (open_boxes J)

  knows-more : (n m : ℕ) (x : Choice) → n ≤ m → Knows n x → Knows m x
  knows-more n m (Redo k g σ J) h a = given-more c n m (k ∷ open_boxes J) h a
  knows-more n m (Branch t b σ J) h a = given-more c n m (open_boxes J) h a
  knows-more n m (More xs k g σ J) h a = given-more c n m (k ∷ open_boxes J) h a
  knows-more n m (Again t k g σ J) h a = given-more c n m (k ∷ open_boxes J) h a
  knows-more n m (Fail k g σ J) h a = given-more c n m (k ∷ open_boxes J) h a
  knows-more n m (Catch k g σ J) h a = given-more c n m (k ∷ open_boxes J) h a
  knows-more n m (Condition i t b σ J) h a = given-more c n m (open_boxes J) h a

  counts-after : (x : Choice) (r : Verdict) (w : World) → c ≤ w.calls → Knows w.calls x → Counts c w (after visit s x r w)
  counts-after (Redo k g σ J) r w low box =
      counts-failed c _ r w (counts-shows c port.Redo k g σ J w (gives Failed) refl box (counts-gives c Failed (with_event w)))
  counts-after (Branch t m σ J) r w low given = counts-failed c (branches visit s t m σ J) r w (counts-branches t m σ J w low given)
  counts-after (More xs k g σ J) r w low box = counts-alternatives xs k g σ J r w low box
  counts-after (Again t k g σ J) r w low box =
      counts-failed c (executes_again visit s t k g σ J) r w (counts-again t k g σ J w low box)
  counts-after (Fail k g σ J) r w low box = counts-ends c k g σ J r w box
  counts-after (Catch k g σ J) r w low box =
      counts-end c k (fails k g σ J) (catches visit s k g σ J) r w
      (counts-shows c port.Fail k g σ J w (gives Failed) refl box (counts-gives c Failed (with_event w)))
      (λ x o. counts-catches k g σ J x o w low box)
  counts-after (Condition i t m σ J) r w low given =
      counts-condition c i (branches visit s t m σ J) r w (counts-branches t m σ J w low given)

  -- a walk, and then a choice point
  counts-chosen : (w : World) (v : Visited) (x : Choice) → c ≤ w.calls → Knows w.calls x → Counts c w v
      → Counts c w (and_then v (after visit s x))
  counts-chosen w v x low known l =
      counts-then c w v (after visit s x) l
      (λ r u h. counts-after x r u (omega arith) (knows-more w.calls u.calls x h known))

  counts-entered : (i : Inside) (k : ℕ) (g : Term Text) (σ : Bindings Text) (J : List Item) (w : World)
      → c ≤ w.calls → InBox c w k J → Counts c w (entered_box visit s i k g σ J w)
  counts-entered (Clauses xs) k g σ J w low box = counts-alternatives xs k g σ J Failed w low box
  counts-entered WithoutProcedure k g σ J w low box = lv (Execute First k g ∷ J) σ w low box
  counts-entered Protected k g σ J w low box = lv (Execute First k g ∷ J) σ w low box

  last-known : (n : ℕ) (i : Inside) (k : ℕ) (g : Term Text) (σ : Bindings Text) (J : List Item) → AreGiven c n (k ∷ open_boxes J)
      → Knows n (last_choice i k g σ J)
  last-known n (Clauses xs) k g σ J box = box
  last-known n WithoutProcedure k g σ J box = box
  last-known n Protected k g σ J box = box

  -- the number of a call is one more than there were
  counts-boxed : (g : Term Text) (J : List Item) (σ : Bindings Text) (w : World) → c ≤ w.calls → AreGiven c w.calls (open_boxes J)
      → Counts c w (boxed visit s g J σ w)
  counts-boxed g J σ w low given =
      let k : ℕ = w.calls + 1 in
      let u : World = with_event (record w { calls = k }) in
      let i : Inside = inside w.database g in
      let box : InBox c u k J = ((omega arith, omega arith), given-more c w.calls k (open_boxes J) (omega arith) given) in
      let up : c ≤ u.calls = omega arith in
      let v : Visited = and_then (entered_box visit s i k g σ J u) (after visit s (last_choice i k g σ J)) in
      let l : Counts c u v =
      counts-chosen u (entered_box visit s i k g σ J u) (last_choice i k g σ J) up (last-known k i k g σ J box)
      (counts-entered i k g σ J u up box) in
      let more : k ≤ v.world.calls = l.1 in
      ((refl, head-given c w.calls (open_boxes J) given, l.0), omega (arith, more))

  -- a walk of the rest of some items, from any bindings
  abbrev RestCounts : (Bindings Text → World → Visited) → List Item → Type 0
  RestCounts rest J = (σ : Bindings Text) (w : World) → c ≤ w.calls → AreGiven c w.calls (open_boxes J) → Counts c w (rest σ w)

  counts-exits : (rest : Bindings Text → World → Visited) (k : ℕ) (g : Term Text) (J : List Item) (σ : Bindings Text) (w : World)
      → RestCounts rest J → c ≤ w.calls → InBox c w k J → Counts c w (exits visit s rest k g J σ w)
  counts-exits rest k g J σ w lr low box =
      counts-shows c port.Exit k g σ J w (λ x. and_then (rest σ x) (after visit s (Redo k g σ J))) refl box
      (counts-chosen (with_event w) (rest σ (with_event w)) (Redo k g σ J) low box (lr σ (with_event w) low box.1))

  counts-cut : (w : World) (m : Barrier) (v : Visited) → Counts c w v → Counts c w (and_then v (cut m))
  counts-cut w m v l = counts-then c w v (cut m) l (λ r u h. counts-failed c (gives (CutTo m)) r u (counts-gives c (CutTo m) u))

  counts-selected : (q : Control) (t : Term Text) (m : Barrier) (J : List Item) (σ : Bindings Text) (w : World)
      → c ≤ w.calls → AreGiven c w.calls (open_boxes J) → Counts c w (selected visit s q t m J σ w)
  counts-selected TrueGoal t m J σ w low given = lv J σ w low given
  counts-selected FailGoal t m J σ w low given = counts-gives c Failed w
  counts-selected CutGoal t m J σ w low given = counts-cut w m (visit J σ w) (lv J σ w low given)
  counts-selected (Conjunction a b) t m J σ w low given = lv (Goal a m ∷ Goal b m ∷ J) σ w low given
  counts-selected (Disjunction a b) t m J σ w low given =
      counts-chosen w (visit (Goal a m ∷ J) σ w) (Branch b m σ J) low given (lv (Goal a m ∷ J) σ w low given)
  counts-selected (IfThenElse a b e) t m J σ w low given =
      let n : ℕ = w.conditions + 1 in
      let u : World = record w { conditions = n } in
      let I : List Item = Goal a (InCondition n) ∷ Cut (AtSuccess n) ∷ Goal b m ∷ J in
      counts-chosen u (visit I σ u) (Condition n e m σ J) low given (lv I σ u low given)
  counts-selected BoxedGoal t m J σ w low given = counts-boxed t J σ w low given

  counts-selects : (t : Term Text) (m : Barrier) (J : List Item) (σ : Bindings Text) (w : World)
      → c ≤ w.calls → AreGiven c w.calls (open_boxes J) → Counts c w (selects visit s t m J σ w)
  counts-selects t m J σ w low given =
      counts-spends c s 1 w _ (counts-selected (control t) t m J σ (record w { steps = w.steps + 1 }) low given)

  counts-yields : (rest : Bindings Text → World → Visited) (k : ℕ) (g : Term Text) (J : List Item) (σ : Bindings Text) (y : Yield)
      (w : World) → RestCounts rest J → c ≤ w.calls → InBox c w k J → Counts c w (yields visit s rest k g J σ y w)
  counts-yields rest k g J σ Fails w lr low box = counts-gives c Failed w
  counts-yields rest k g J σ (Succeeds τ) w lr low box = counts-exits rest k g J τ w lr low box
  counts-yields rest k g J σ (Succeeds_again τ t) w lr low box =
      counts-chosen w (exits visit s rest k g J τ w) (Again t k g σ J) low box (counts-exits rest k g J τ w lr low box)
  counts-yields rest k g J σ (Runs b) w lr low box = counts-selects b (Call k) (Exit k g ∷ J) σ w low box
  counts-yields rest k g J σ (Throws b) w lr low box = counts-gives c (Thrown b (k ∷ open_boxes J)) w
  counts-yields rest k g J σ (Halts i) w lr low box = counts-gives c (Halted i) w

  counts-solved : (σ : Bindings Text) (w : World) → Counts c w (solved s σ w)
  counts-solved σ w = (refl, omega arith)

  counts-with : VisitsCount c (visit_with visit s)
  unfolding visit_with
  counts-with [] σ w low given = counts-solved σ w
  counts-with (Exit k g ∷ J) σ w low box = counts-exits (visit_with visit s J) k g J σ w (counts-with J) low box
  counts-with (Execute t k g ∷ J) σ w low box =
      let a : Act = s.act (s.budget - w.steps) t g σ w in
      counts-acts c (nat_le (w.steps + a.cost) s.budget) s a w (yields visit s (visit_with visit s J) k g J σ)
      (λ y u e. counts-yields (visit_with visit s J) k g J σ y u (counts-with J) (omega arith)
      (given-more c w.calls u.calls (k ∷ open_boxes J) (omega arith) box))
  counts-with (Cut m ∷ J) σ w low given = counts-cut w m (visit_with visit s J σ w) (counts-with J σ w low given)
  counts-with (Goal t m ∷ J) σ w low given = counts-selects t m J σ w low given

counts-by : (c f : ℕ) (s : Setup) → VisitsCount c (visit_by f s)
unfolding visit_by
counts-by c zero s I σ w low given = counts-gives c Spent w
counts-by c (suc f) s I σ w low given = counts-with c (visit_by f s) s (counts-by c f s) I σ w low given

-- the calls of a walk
pub visit-numbers : (s : Setup) (I : List Item) (σ : Bindings Text) (w : World) → open_boxes I ≡ []
    → Number w.calls w.calls (visit s I σ w).turns (visit s I σ w).world.calls
unfolding visit
visit-numbers s I σ w none =
    (counts-by w.calls (suc (s.budget - w.steps)) s I σ w (omega arith)
    (subst (λ (ks : List ℕ). AreGiven w.calls w.calls ks) (turned (open_boxes I) none) tt)).0
  where
    turned : (ks : List ℕ) → ks ≡ [] → [] ≡ ks
    turned ks e = cc
