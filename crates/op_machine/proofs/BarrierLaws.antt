-- Each move keeps barriers and choice points in step.
use Rattle.std.proofs.Common.{◌≡◌, inl, inr, ◌⊎◌, ◌||◌, ℕ, ◌+◌, ◌-◌, ◌<◌, ◌≤◌, ◌==◌, nat_le, Bool, true}
use Rattle.std.proofs.Common.{false, List, [], ◌∷◌, Option, Some, None}
use Rattle.std.proofs.Common.{refl, sym, ap, ◌∙◌, subst, arith, if◌then◌else◌}
use Rattle.std.proofs.lemmas.Bool.Decides.{nat_tests}
use Rattle.op_logic.specs.Term.{Term, shift}
use Rattle.op_logic.specs.Bind.{Bindings, Solved as Result, unify}
use Rattle.op_trace.specs.declared.barrier.Barrier.{Barrier}
use Rattle.op_trace.specs.declared.barrier.Barrier.TheVariants.{Call, InCondition, AtSuccess}
use Rattle.op_trace.specs.Database.{Text, text_eq, Clause}
use Rattle.op_trace.specs.World.{World, same_barrier, Execution, First, Recovery, Item, Goal, Cut, Exit, Execute, Has, open_boxes}
use Rattle.op_trace.specs.Act.{Yield, Fails, Succeeds, Succeeds_again, Runs, Throws, Halts, Act, Setup}
use Rattle.op_trace.specs.Visit.{is_open, around, Stopped, Control, TrueGoal, FailGoal, CutGoal}
use Rattle.op_trace.specs.Visit.{Conjunction, Disjunction, IfThenElse, BoxedGoal, control}
use Rattle.op_trace.specs.Visit.{Inside, Clauses, WithoutProcedure, Protected, inside, last_choice, catcher_of, counted_as, is_true}
use Rattle.op_trace.specs.Visit.{entered, Choice, Redo, Branch, More, Again, Fail, Catch, Condition}
use Rattle.op_machine.specs.Resume.{stays, goes, keep, with_more, State, Forward, Backward, Throwing, Over}
use Rattle.op_machine.specs.Resume.{Moved, paid, chosen, head_unified, tried}
use Rattle.op_machine.specs.Resume.{branched, entered_state, acted, yielded, raised, ball_unified, ball_met, leaving, move}
use Rattle.op_machine.specs.inner.Barriers.{left_to, AreAmong, SameFor, Behind, Scoped, IsGiven, IsGoalBarrier, AreGiven}
use Rattle.op_machine.specs.inner.Barriers.{IsScopedChoicePoint, AreScoped, InStep}

-- no choice point is dropped as the last by a cut of a goal
pub goal-goes : (c d : ℕ) (x : Choice) (m : Barrier) → IsGoalBarrier c d m → goes x m ≡ false
goal-goes c d (Redo k g σ J) m h = refl
goal-goes c d (Branch t b σ J) m h = refl
goal-goes c d (More cs k g σ J) m h = refl
goal-goes c d (Again t k g σ J) m h = refl
goal-goes c d (Fail k g σ J) m h = refl
goal-goes c d (Catch k g σ J) m h = refl
goal-goes c d (Condition n t b σ J) (Call k) h = refl
goal-goes c d (Condition n t b σ J) (InCondition k) h = refl
goal-goes c d (Condition n t b σ J) (AtSuccess k) h = absurd h

-- a cut of a goal that is made twice is made once
pub keep-keep : (c d : ℕ) (m : Barrier) (K : List Choice) → IsGoalBarrier c d m → keep m (keep m K) ≡ keep m K
keep-keep c d m [] h = refl
keep-keep c d m (x ∷ K) h = go (stays x m) (goes x m) refl (goal-goes c d x m h) (keep-keep c d m K h)
  where
    go : (a b : Bool) → stays x m ≡ a → b ≡ false → keep m (keep m K) ≡ keep m K
        → keep m (if a then x ∷ K else (if b then K else keep m K)) ≡ (if a then x ∷ K else (if b then K else keep m K))
    go true b e f below = ap (λ (a : Bool). if a then x ∷ K else (if goes x m then K else keep m K)) e
    go false true e f below = cc
    go false false e f below = below

-- further clauses end no cut
pub keep-with_more : (m : Barrier) (cs : List Clause) (k : ℕ) (g : Term Text) (σ : Bindings Text) (J : List Item) (K : List Choice)
    → keep m (with_more cs k g σ J K) ≡ keep m K
keep-with_more m [] k g σ J K = refl
keep-with_more m (c ∷ cs) k g σ J K = refl

pub left-with_more : (o : List ℕ) (cs : List Clause) (k : ℕ) (g : Term Text) (σ : Bindings Text) (J : List Item) (K : List Choice)
    → left_to o (with_more cs k g σ J K) ≡ left_to o K
left-with_more o [] k g σ J K = refl
left-with_more o (c ∷ cs) k g σ J K = refl

pub among_more : (o O : List ℕ) (k c : ℕ) → AreAmong o O c → AreAmong o (k ∷ O) c
among_more o O k c a j e = go (k == j) (a j e)
  where
    go : (b : Bool) → (is_open j O ≡ true) ⊎ (c < j) → ((b || is_open j O) ≡ true) ⊎ (c < j)
    go true h = inl refl
    go false h = h

-- what is alike for an exit and the items behind it is for these
pub same-behind : (c k : ℕ) (g : Term Text) (K L : List Choice) (J : List Item) → SameFor c K L (Exit k g ∷ J) → SameFor c K L J
same-behind c k g K L J s =
    ((λ n h. s.0 n h), (λ o a. s.1 o (among_more o (open_boxes J) k c a)))

pub along : (c : ℕ) (m : Barrier) (K L : List Choice) (J : List Item) → keep m L ≡ keep m K → SameFor c K L J → Behind c m K J
    → Behind c m L J
along c m K L J e s b =
    ((λ n h. ap (keep n) e ∙ (b.0 n h ∙ sym (s.0 n h))), (λ o a. ap (left_to o) e ∙ (b.1 o a ∙ sym (s.1 o a))))

pub scoped-along : (c : ℕ) (K L : List Choice) (I : List Item) → SameFor c K L I → Scoped c K I → Scoped c L I
scoped-along c K L [] same s = tt
scoped-along c K L (Goal t m ∷ J) same s =
    let below : SameFor c K L J = ((λ n h. same.0 n (inr h)), (λ o a. same.1 o a)) in
    (along c m K L J (same.0 m (inl refl)) below s.0, scoped-along c K L J below s.1)
scoped-along c K L (Cut m ∷ J) same s =
    let below : SameFor c K L J = ((λ n h. same.0 n (inr h)), (λ o a. same.1 o a)) in
    (along c m K L J (same.0 m (inl refl)) below s.0, scoped-along c K L J below s.1)
scoped-along c K L (Exit k g ∷ J) same s = scoped-along c K L J (same-behind c k g K L J same) s
scoped-along c K L (Execute t k g ∷ J) same s =
    let below : SameFor c K L (Exit k g ∷ J) = ((λ n h. same.0 n (inr h)), (λ o a. same.1 o a)) in (
      along c (Call k) K L (Exit k g ∷ J) (same.0 (Call k) (inl refl)) below s.0,
      scoped-along c K L J (same-behind c k g K L J below) s.1,
    )

-- with more boxes called
pub same-more : (c x : ℕ) (K L : List Choice) (J : List Item) → c ≤ x → SameFor c K L J → SameFor x K L J
same-more c x K L J h s =
    ((λ n has. s.0 n has), (λ o a. s.1 o (λ k e. elim (a k e) [ inl p ↦ inl p | inr p ↦ inr (omega (arith, p, h)) ])))

pub scoped-calls : (c x : ℕ) (K : List Choice) (I : List Item) → c ≤ x → Scoped c K I → Scoped x K I
scoped-calls c x K [] h s = tt
scoped-calls c x K (Goal t m ∷ J) h s = (same-more c x K (keep m K) J h s.0, scoped-calls c x K J h s.1)
scoped-calls c x K (Cut m ∷ J) h s = (same-more c x K (keep m K) J h s.0, scoped-calls c x K J h s.1)
scoped-calls c x K (Exit k g ∷ J) h s = scoped-calls c x K J h s
scoped-calls c x K (Execute t k g ∷ J) h s = (same-more c x K (keep (Call k) K) (Exit k g ∷ J) h s.0, scoped-calls c x K J h s.1)

pub goal-given : (c d : ℕ) (m : Barrier) → IsGoalBarrier c d m → IsGiven c d m
goal-given c d (Call k) h = h
goal-given c d (InCondition n) h = h
goal-given c d (AtSuccess n) h = absurd h

pub has-given : (c d : ℕ) (I : List Item) (m : Barrier) → AreGiven c d I → Has m I → IsGiven c d m
has-given c d [] m a h = absurd h
has-given c d (Goal t b ∷ J) m a h =
    elim h [ inl e ↦ subst (IsGiven c d) (sym e) (goal-given c d b a.0) | inr r ↦ has-given c d J m a.1 r ]
has-given c d (Cut b ∷ J) m a h = elim h [ inl e ↦ subst (IsGiven c d) (sym e) a.0 | inr r ↦ has-given c d J m a.1 r ]
has-given c d (Exit k g ∷ J) m a h = has-given c d J m a.1 h
has-given c d (Execute t k g ∷ J) m a h = elim h [ inl e ↦ subst (IsGiven c d) (sym e) a.0 | inr r ↦ has-given c d J m a.1 r ]

-- a box that is open in these items was called
pub not-open : (c d k : ℕ) (I : List Item) → AreGiven c d I → c < k → is_open k (open_boxes I) ≡ false
not-open c d k [] a h = refl
not-open c d k (Goal t b ∷ J) a h = not-open c d k J a.1 h
not-open c d k (Cut b ∷ J) a h = not-open c d k J a.1 h
not-open c d k (Exit j g ∷ J) a h =
    let e : (j == k) ≡ false = let low : j ≤ c = a.0 in grind (arith, nat_tests) in
    ap (λ (b : Bool). b || is_open k (open_boxes J)) e ∙ not-open c d k J a.1 h
not-open c d k (Execute t j g ∷ J) a h =
    let e : (j == k) ≡ false = let low : j ≤ c = a.0 in grind (arith, nat_tests) in
    ap (λ (b : Bool). b || is_open k (open_boxes J)) e ∙ not-open c d k J a.1 h

module _ (c d x y : ℕ) (more : c ≤ x) (over : d ≤ y) where
  pub barrier-more : (m : Barrier) → IsGoalBarrier c d m → IsGoalBarrier x y m
  barrier-more (Call k) h = omega arith
  barrier-more (InCondition n) h = omega arith
  barrier-more (AtSuccess n) h = h

  pub one-more : (m : Barrier) → IsGiven c d m → IsGiven x y m
  one-more (Call k) h = omega arith
  one-more (InCondition n) h = omega arith
  one-more (AtSuccess n) h = omega arith

  pub given-more : (I : List Item) → AreGiven c d I → AreGiven x y I
  given-more [] a = tt
  given-more (Goal t b ∷ J) a = (barrier-more b a.0, given-more J a.1)
  given-more (Cut b ∷ J) a = (one-more b a.0, given-more J a.1)
  given-more (Exit k g ∷ J) a = (omega (arith, a.0), given-more J a.1)
  given-more (Execute t k g ∷ J) a = (omega (arith, a.0), given-more J a.1)

  pub scoped-more : (K : List Choice) → AreScoped c d K → AreScoped x y K
  scoped-more [] a = tt
  scoped-more (Redo k g σ J ∷ K) a = (tt, scoped-more K a.1)
  scoped-more (Branch t m σ J ∷ K) a =
      ((scoped-calls c x K (Goal t m ∷ J) more a.0.0, given-more (Goal t m ∷ J) a.0.1), scoped-more K a.1)
  scoped-more (More cs k g σ J ∷ K) a =
      ((a.0.0, scoped-calls c x K J more a.0.1, omega (arith, a.0.2), given-more J a.0.3), scoped-more K a.1)
  scoped-more (Again t k g σ J ∷ K) a =
      ((scoped-calls c x K (Execute t k g ∷ J) more a.0.0, given-more (Execute t k g ∷ J) a.0.1), scoped-more K a.1)
  scoped-more (Fail k g σ J ∷ K) a = (tt, scoped-more K a.1)
  scoped-more (Catch k g σ J ∷ K) a = (
    (scoped-calls c x (Fail k g σ J ∷ K) (Execute Recovery k g ∷ J) more a.0.0, given-more (Execute Recovery k g ∷ J) a.0.1),
    scoped-more K a.1,
  )
  scoped-more (Condition n t m σ J ∷ K) a =
      ((scoped-calls c x K (Goal t m ∷ J) more a.0.0, given-more (Goal t m ∷ J) a.0.1), scoped-more K a.1)

-- what a cut keeps is in step as before
pub keep-scoped : (c d : ℕ) (m : Barrier) (K : List Choice) → AreScoped c d K → AreScoped c d (keep m K)
keep-scoped c d m [] a = tt
keep-scoped c d m (x ∷ K) a = go (stays x m) (goes x m) (keep-scoped c d m K a.1)
  where
    go : (p q : Bool) → AreScoped c d (keep m K) → AreScoped c d (if p then x ∷ K else (if q then K else keep m K))
    go true q below = a
    go false true below = a.1
    go false false below = below

-- a box's own choice point ends the cuts to its call, and no other
pub stays-last : (i : Inside) (k : ℕ) (g : Term Text) (σ : Bindings Text) (J : List Item) (m : Barrier)
    → stays (last_choice i k g σ J) m ≡ same_barrier m (Call k)
stays-last (Clauses cs) k g σ J m = refl
stays-last WithoutProcedure k g σ J m = refl
stays-last Protected k g σ J m = refl

pub goes-last : (i : Inside) (k : ℕ) (g : Term Text) (σ : Bindings Text) (J : List Item) (m : Barrier)
    → goes (last_choice i k g σ J) m ≡ false
goes-last (Clauses cs) k g σ J m = refl
goes-last WithoutProcedure k g σ J m = refl
goes-last Protected k g σ J m = refl

-- a barrier that was given before isn't that of a new box
pub given-other : (c d k : ℕ) (m : Barrier) → IsGiven c d m → c < k → same_barrier m (Call k) ≡ false
given-other c d k (Call m) low high = grind (arith, nat_tests)
given-other c d k (InCondition m) low high = refl
given-other c d k (AtSuccess m) low high = refl

-- so that a new box's own choice point ends no cut to one that was given before
pub keep-fresh : (i : Inside) (c d k : ℕ) (m : Barrier) (g : Term Text) (σ : Bindings Text) (J : List Item) (K : List Choice)
    → IsGiven c d m → c < k → keep m (last_choice i k g σ J ∷ K) ≡ keep m K
keep-fresh i c d k m g σ J K low high =
    let x : Choice = last_choice i k g σ J in
    ap (λ (b : Bool). if b then x ∷ K else (if goes x m then K else keep m K)) (stays-last i k g σ J m ∙ given-other c d k m low high)
    ∙ ap (λ (b : Bool). if b then K else keep m K) (goes-last i k g σ J m)

pub left-last : (i : Inside) (k : ℕ) (g : Term Text) (σ : Bindings Text) (J : List Item) (o : List ℕ) (K : List Choice)
    → left_to o (last_choice i k g σ J ∷ K) ≡ (if is_open k o then last_choice i k g σ J ∷ K else left_to o K)
left-last (Clauses cs) k g σ J o K = refl
left-last WithoutProcedure k g σ J o K = refl
left-last Protected k g σ J o K = refl

-- and no ball goes up to it
pub left-fresh : (i : Inside) (c d x k : ℕ) (o : List ℕ) (g : Term Text) (σ : Bindings Text) (I J : List Item) (K : List Choice)
    → AreGiven c d I → c < k → k ≤ x → AreAmong o (open_boxes I) x → left_to o (last_choice i k g σ J ∷ K) ≡ left_to o K
left-fresh i c d x k o g σ I J K given fresh last a = left-last i k g σ J o K ∙ go (is_open k o) refl
  where
    go : (b : Bool) → is_open k o ≡ b → (if b then last_choice i k g σ J ∷ K else left_to o K) ≡ left_to o K
    go true e = elim (a k e) [
      | inl p ↦ (let q : true ≡ false = sym p ∙ not-open c d k I given fresh in cc)
      | inr p ↦ absurd (omega (arith, p, last))
    ]
    go false e = refl

pub keep-own : (i : Inside) (k : ℕ) (g : Term Text) (σ : Bindings Text) (J : List Item) (K : List Choice)
    → keep (Call k) (last_choice i k g σ J ∷ K) ≡ last_choice i k g σ J ∷ K
keep-own i k g σ J K =
    let x : Choice = last_choice i k g σ J in
    let e : (k == k) ≡ true = grind (arith, nat_tests) in
    ap (λ (b : Bool). if b then x ∷ K else (if goes x (Call k) then K else keep (Call k) K)) (stays-last i k g σ J (Call k) ∙ e)

-- nor does that of a new condition
pub keep-before : (c d n : ℕ) (m b : Barrier) (t : Term Text) (σ : Bindings Text) (J : List Item) (K : List Choice) → IsGiven c d m → d < n
    → keep m (Condition n t b σ J ∷ K) ≡ keep m K
keep-before c d n (Call m) b t σ J K low high = refl
keep-before c d n (InCondition m) b t σ J K low high =
    let e : (m == n) ≡ false = grind (arith, nat_tests) in
    ap (λ (a : Bool). if a then Condition n t b σ J ∷ K else keep (InCondition m) K) e
keep-before c d n (AtSuccess m) b t σ J K low high =
    let e : (m == n) ≡ false = grind (arith, nat_tests) in
    ap (λ (a : Bool). if a then K else keep (AtSuccess m) K) e

pub keep-within : (n : ℕ) (b : Barrier) (t : Term Text) (σ : Bindings Text) (J : List Item) (K : List Choice)
    → keep (InCondition n) (Condition n t b σ J ∷ K) ≡ Condition n t b σ J ∷ K
keep-within n b t σ J K =
    let e : (n == n) ≡ true = grind (arith, nat_tests) in
    ap (λ (a : Bool). if a then Condition n t b σ J ∷ K else keep (InCondition n) K) e

pub keep-past : (n : ℕ) (b : Barrier) (t : Term Text) (σ : Bindings Text) (J : List Item) (K : List Choice)
    → keep (AtSuccess n) (Condition n t b σ J ∷ K) ≡ K
keep-past n b t σ J K =
    let e : (n == n) ≡ true = grind (arith, nat_tests) in
    ap (λ (a : Bool). if a then K else keep (AtSuccess n) K) e

pub more-scoped : (c d : ℕ) (cs : List Clause) (k : ℕ) (g : Term Text) (σ : Bindings Text) (J : List Item) (K : List Choice)
    → keep (Call k) K ≡ K → Scoped c K J → k ≤ c → AreGiven c d J → AreScoped c d K → AreScoped c d (with_more cs k g σ J K)
more-scoped c d [] k g σ J K own s h a all = all
more-scoped c d (x ∷ cs) k g σ J K own s h a all = ((own, s, h, a), all)

-- the goals of a conjunction, or a branch, with the barrier of the whole
pub again-behind : (c d : ℕ) (m : Barrier) (K : List Choice) (t : Term Text) (J : List Item) → IsGoalBarrier c d m → Behind c m K J
    → Behind c m K (Goal t m ∷ J)
again-behind c d m K t J h b = (
  (λ n has.
      elim has [ inl e ↦ subst (λ (i : Barrier). keep i (keep m K) ≡ keep i K) (sym e) (keep-keep c d m K h) | inr r ↦ b.0 n r ]),
  (λ o a. b.1 o a),
)

-- a cut that drops nothing
pub own-behind : (c : ℕ) (m : Barrier) (K : List Choice) (J : List Item) → keep m K ≡ K → Behind c m K J
own-behind c m K J e = ((λ n h. ap (keep n) e), (λ o a. ap (left_to o) e))

-- a condition before what follows its success, over its own choice point
pub if_then_else_chosen-scoped : (c d n : ℕ) (t u e : Term Text) (m : Barrier) (σ : Bindings Text) (J : List Item) (K : List Choice)
    → IsGoalBarrier c d m → AreGiven c d J → d < n → Scoped c K (Goal u m ∷ J)
    → Scoped c (Condition n e m σ J ∷ K) (Goal t (InCondition n) ∷ Cut (AtSuccess n) ∷ Goal u m ∷ J)
if_then_else_chosen-scoped c d n t u e m σ J K h a fresh s =
    let L : List Choice = Condition n e m σ J ∷ K in
    let same : SameFor c K L (Goal u m ∷ J) =
    ((λ x has. keep-before c d n x m e σ J K (has-given c d (Goal u m ∷ J) x (h, a) has) fresh), (λ o b. refl)) in
    let past : Behind c (AtSuccess n) L (Goal u m ∷ J) =
    ((λ x has. ap (keep x) (keep-past n m e σ J K) ∙ sym (same.0 x has)), (λ o b. ap (left_to o) (keep-past n m e σ J K))) in (
      own-behind c (InCondition n) L (Cut (AtSuccess n) ∷ Goal u m ∷ J) (keep-within n m e σ J K),
      (past, scoped-along c K L (Goal u m ∷ J) same s),
    )

-- a box that was entered, over its own choice point
pub box-in_step : (i : Inside) (k : ℕ) (g : Term Text) (J : List Item) (L : List Choice) (σ : Bindings Text) (w : World)
    → keep (Call k) L ≡ L → Scoped w.calls L J → k ≤ w.calls → AreGiven w.calls w.conditions J → AreScoped w.calls w.conditions L
    → InStep (entered_state i k g J L σ w)
box-in_step (Clauses cs) k g J L σ w own s h a all = more-scoped w.calls w.conditions cs k g σ J L own s h a all
box-in_step WithoutProcedure k g J L σ w own s h a all = ((own-behind w.calls (Call k) L (Exit k g ∷ J) own, s), (h, a), all)
box-in_step Protected k g J L σ w own s h a all = ((own-behind w.calls (Call k) L (Exit k g ∷ J) own, s), (h, a), all)

-- the items behind a new box, over its own choice point
pub fresh-scoped : (i : Inside) (c d x k : ℕ) (g : Term Text) (σ : Bindings Text) (J : List Item) (K : List Choice)
    → AreGiven c d J → c < k → k ≤ x → Scoped c K J → Scoped x (last_choice i k g σ J ∷ K) J
fresh-scoped i c d x k g σ J K a fresh last s =
    scoped-along x K (last_choice i k g σ J ∷ K) J (
      (λ n has. keep-fresh i c d k n g σ J K (has-given c d J n a has) fresh),
      (λ o b. left-fresh i c d x k o g σ J J K a fresh last b),
    ) (scoped-calls c x K J (omega (arith, fresh, last)) s)

-- that choice point itself
pub last-scoped : (i : Inside) (c d x k : ℕ) (g : Term Text) (σ : Bindings Text) (J : List Item) (K : List Choice)
    → AreGiven c d J → c < k → k ≤ x → Scoped c K J → IsScopedChoicePoint x d (last_choice i k g σ J) K
last-scoped (Clauses cs) c d x k g σ J K a fresh last s = tt
last-scoped WithoutProcedure c d x k g σ J K a fresh last s = tt
last-scoped Protected c d x k g σ J K a fresh last s = (
  (
    own-behind x (Call k) (Fail k g σ J ∷ K) (Exit k g ∷ J) (keep-own WithoutProcedure k g σ J K),
    fresh-scoped WithoutProcedure c d x k g σ J K a fresh last s,
  ),
  (last, given-more c d x d (omega (arith, fresh, last)) (omega arith) J a),
)

pub chosen-in_step : (q : Control) (t : Term Text) (m : Barrier) (J : List Item) (K : List Choice) (σ : Bindings Text) (w : World)
    → Behind w.calls m K J → Scoped w.calls K J → IsGoalBarrier w.calls w.conditions m → AreGiven w.calls w.conditions J
    → AreScoped w.calls w.conditions K
    → InStep (chosen q t m J K σ w).state
chosen-in_step TrueGoal t m J K σ w b s h a all = (s, a, all)
chosen-in_step FailGoal t m J K σ w b s h a all = all
chosen-in_step CutGoal t m J K σ w b s h a all = (scoped-along w.calls K (keep m K) J b s, a, keep-scoped w.calls w.conditions m K all)
chosen-in_step (Conjunction x y) t m J K σ w b s h a all = ((again-behind w.calls w.conditions m K y J h b, (b, s)), (h, (h, a)), all)
chosen-in_step (Disjunction x y) t m J K σ w b s h a all = ((b, s), (h, a), (((b, s), (h, a)), all))
chosen-in_step (IfThenElse c x y) t m J K σ w b s h a all =
    let n : ℕ = w.conditions + 1 in
    let same : w.calls ≤ w.calls = omega arith in
    let more : w.conditions ≤ w.conditions + 1 = omega arith in
    let fresh : w.conditions < n = omega arith in
    let last : n ≤ n = omega arith in
    let given : AreGiven w.calls (w.conditions + 1) (Goal x m ∷ J) =
    given-more w.calls w.conditions w.calls (w.conditions + 1) same more (Goal x m ∷ J) (h, a) in (
      if_then_else_chosen-scoped w.calls w.conditions n c x y m σ J K h a fresh (b, s),
      (last, (last, given)),
      (((b, s), given), scoped-more w.calls w.conditions w.calls (w.conditions + 1) same more K all),
    )
chosen-in_step BoxedGoal t m J K σ w b s h a all =
    let k : ℕ = w.calls + 1 in
    let i : Inside = inside w.database t in
    let more : w.calls ≤ w.calls + 1 = omega arith in
    let same : w.conditions ≤ w.conditions = omega arith in
    let fresh : w.calls < k = omega arith in
    let last : k ≤ w.calls + 1 = omega arith in
    let given : AreGiven (w.calls + 1) w.conditions J = given-more w.calls w.conditions (w.calls + 1) w.conditions more same J a in
    box-in_step i k t J (last_choice i k t σ J ∷ K) σ (record w { calls = w.calls + 1; events = w.events + 1 }) (keep-own i k t σ J K)
    (fresh-scoped i w.calls w.conditions (w.calls + 1) k t σ J K a fresh last s) last given (
      last-scoped i w.calls w.conditions (w.calls + 1) k t σ J K a fresh last s,
      scoped-more w.calls w.conditions (w.calls + 1) w.conditions more same K all,
    )

pub entered-in_step : (f : ℕ) (c : Clause) (k : ℕ) (g : Term Text) (J : List Item) (L : List Choice) (τ : Bindings Text) (u : World)
    → Behind u.calls (Call k) L (Exit k g ∷ J) → Scoped u.calls L J → k ≤ u.calls → AreGiven u.calls u.conditions J
    → AreScoped u.calls u.conditions L
    → InStep (Forward (entered f c k g J) L τ u)
entered-in_step f c k g J L τ u b s h a all = go (is_true c.body)
  where
    go : (t : Bool) → InStep (Forward (if t then Exit k g ∷ J else Goal (shift f c.body) (Call k) ∷ Exit k g ∷ J) L τ u)
    go true = (s, (h, a), all)
    go false = ((b, s), (h, (h, a)), all)

pub paid-in_step : (t : Bool) (s : Setup) (n : ℕ) (w : World) (h : World → Moved) → InStep (h (record w { steps = w.steps + n })).state
    → InStep (paid t s n w h).state
paid-in_step true s n w h i = i
paid-in_step false s n w h i = tt

pub met-in_step : (s : Setup) (c : Clause) (k : ℕ) (g : Term Text) (J : List Item) (L : List Choice) (w : World) (o : Option (Result Text))
    → Behind w.calls (Call k) L (Exit k g ∷ J) → Scoped w.calls L J → k ≤ w.calls → AreGiven w.calls w.conditions J
    → AreScoped w.calls w.conditions L
    → InStep (head_unified s c k g J L w o).state
met-in_step s c k g J L w None b sc h a all = tt
met-in_step s c k g J L w (Some (None, left)) b sc h a all = all
met-in_step s c k g J L w (Some (Some τ, left)) b sc h a all =
    paid-in_step (nat_le (s.budget - left + c.variables) s.budget) s c.variables (record w { steps = s.budget - left }) _
    (entered-in_step w.variables c k g J L τ (record w { steps = s.budget - left + c.variables; variables = w.variables + c.variables })
    b sc h a all)

pub tried-in_step : (s : Setup) (c : Clause) (cs : List Clause) (k : ℕ) (g : Term Text) (σ : Bindings Text) (J : List Item)
    (K : List Choice) (w : World)
    → keep (Call k) K ≡ K → Scoped w.calls K J → k ≤ w.calls → AreGiven w.calls w.conditions J → AreScoped w.calls w.conditions K
    → InStep (tried s c k g σ J (with_more cs k g σ J K) w).state
tried-in_step s c cs k g σ J K w own sc h a all =
    let L : List Choice = with_more cs k g σ J K in
    paid-in_step (nat_le (w.steps + 1) s.budget) s 1 w _
    (met-in_step s c k g J L (record w { steps = w.steps + 1 }) _
    ((
      (λ n has. ap (keep n) (keep-with_more (Call k) cs k g σ J K ∙ own) ∙ sym (keep-with_more n cs k g σ J K)),
      (λ o b. ap
          (left_to o) (keep-with_more (Call k) cs k g σ J K ∙ own) ∙ sym (left-with_more o cs k g σ J K)),
    ))
    (scoped-along w.calls K L J
    (((λ n has. keep-with_more n cs k g σ J K), (λ o b. left-with_more o cs k g σ J K))) sc) h a
    (more-scoped w.calls w.conditions cs k g σ J K own sc h a all))

pub branched-in_step : (s : Setup) (t : Term Text) (m : Barrier) (σ : Bindings Text) (J : List Item) (K : List Choice) (w : World)
    → Scoped w.calls K (Goal t m ∷ J) → AreGiven w.calls w.conditions (Goal t m ∷ J) → AreScoped w.calls w.conditions K
    → InStep (branched s t m σ J K w).state
branched-in_step s t m σ J K w sc a all = paid-in_step (nat_le (w.steps + 1) s.budget) s 1 w _ (sc, a, all)

pub acted-in_step : (t : Bool) (s : Setup) (a : Act) (k : ℕ) (g : Term Text) (J : List Item) (K : List Choice) (σ : Bindings Text)
    (w : World)
    → ((t : Execution) → Scoped w.calls K (Execute t k g ∷ J)) → (k ≤ w.calls) × AreGiven w.calls w.conditions J
    → AreScoped w.calls w.conditions K
    → InStep (acted t s a w (yielded k g J K σ)).state
acted-in_step true s a k g J K σ w sc gi all = go a.yield
  where
    go : (y : Yield) → InStep (yielded k g J K σ y (record (counted_as w a.after) { steps = w.steps + a.cost })).state
    go Fails = all
    go (Succeeds τ) = ((sc First).1, gi, all)
    go (Succeeds_again τ x) = ((sc First).1, gi, ((sc x, gi), all))
    go (Runs b) = (sc First, (gi.0, gi), all)
    go (Throws b) = all
    go (Halts i) = tt
acted-in_step false s a k g J K σ w sc gi all = tt

-- a recovery goes on over its box's own choice point
pub unified-in_step : (s : Setup) (k : ℕ) (g : Term Text) (σ : Bindings Text) (J : List Item) (K : List Choice) (b : Term Text)
    (o : List ℕ) (w : World) (r : Option (Result Text))
    → AreScoped w.calls w.conditions (Catch k g σ J ∷ K) → InStep (ball_unified s k g σ J K b o w r).state
unified-in_step s k g σ J K b o w None a = tt
unified-in_step s k g σ J K b o w (Some (None, left)) a = a.1
unified-in_step s k g σ J K b o w (Some (Some τ, left)) a =
    paid-in_step (nat_le (s.budget - left + 1) s.budget) s 1 (record w { steps = s.budget - left }) _ (a.0.0, a.0.1, (tt, a.1))

pub leaving-in_step : (s : Setup) (b : Term Text) (o : List ℕ) (K : List Choice) (w : World) → AreScoped w.calls w.conditions K
    → InStep (leaving s b o K w).state
leaving-in_step s b o [] w a = tt
leaving-in_step s b o (Redo k g σ J ∷ K) w a = leaving-in_step s b o K w a.1
leaving-in_step s b o (Branch t m σ J ∷ K) w a = leaving-in_step s b o K w a.1
leaving-in_step s b o (More cs k g σ J ∷ K) w a = leaving-in_step s b o K w a.1
leaving-in_step s b o (Again t k g σ J ∷ K) w a = leaving-in_step s b o K w a.1
leaving-in_step s b o (Condition n t m σ J ∷ K) w a = leaving-in_step s b o K w a.1
leaving-in_step s b o (Fail k g σ J ∷ K) w a = go (is_open k o) (leaving-in_step s b o K w a.1)
  where
    go : (t : Bool) → InStep (leaving s b o K w).state
        → InStep (if t then raised k g σ J K b (around k o) w else leaving s b o K w).state
    go true l = a.1
    go false l = l
leaving-in_step s b o (Catch k g σ J ∷ K) w a = go (is_open k o) (leaving-in_step s b o K w a.1)
  where
    go : (t : Bool) → InStep (leaving s b o K w).state
        → InStep (if t then ball_met s k g σ J K b (around k o) w else leaving s b o K w).state
    go true l =
        unified-in_step s k g σ J K b (around k o) w (unify text_eq (s.budget - w.steps) σ ((b, catcher_of g) ∷ [])) a
    go false l = l

pub move-in_step : (s : Setup) (t : State) → InStep t → InStep (move s t).state
move-in_step s (Forward [] K σ w) h = go (w.solutions + 1 == s.wanted)
  where
    go : (b : Bool) → InStep (if b then Over Stopped (record w { solutions = w.solutions + 1 }) else Backward K
        (record w { solutions = w.solutions + 1 }))
    go true = tt
    go false = h.2
move-in_step s (Forward (Exit k g ∷ J) K σ w) h =
    (h.0, h.1.1, (tt, h.2))
move-in_step s (Forward (Cut m ∷ J) K σ w) h = (
  scoped-along w.calls K
      (keep m K) J h.0.0 h.0.1,
  h.1.1,
  keep-scoped w.calls w.conditions m K h.2,
)
move-in_step s (Forward (Execute t k g ∷ J) K σ w) h =
    let a : Act = s.act (s.budget - w.steps) t g σ w in
    acted-in_step (nat_le (w.steps + a.cost) s.budget) s a k g J K σ w (λ x. h.0) h.1 h.2
move-in_step s (Forward (Goal t m ∷ J) K σ w) h =
    paid-in_step (nat_le (w.steps + 1) s.budget) s 1 w _
    (chosen-in_step (control t) t m J K σ (record w { steps = w.steps + 1 }) h.0.0 h.0.1 h.1.0 h.1.1 h.2)
move-in_step s (Backward [] w) h = tt
move-in_step s (Backward (Redo k g σ J ∷ K) w) h = h.1
move-in_step s (Backward (Branch t m σ J ∷ K) w) h = branched-in_step s t m σ J K w h.0.0 h.0.1 h.1
move-in_step s (Backward (Condition n t m σ J ∷ K) w) h = branched-in_step s t m σ J K w h.0.0 h.0.1 h.1
move-in_step s (Backward (Again t k g σ J ∷ K) w) h = paid-in_step (nat_le (w.steps + 1) s.budget) s 1 w _ (h.0.0, h.0.1, h.1)
move-in_step s (Backward (Fail k g σ J ∷ K) w) h = h.1
move-in_step s (Backward (Catch k g σ J ∷ K) w) h = h.1
move-in_step s (Backward (More [] k g σ J ∷ K) w) h = h.1
move-in_step s (Backward (More (c ∷ cs) k g σ J ∷ K) w) h = tried-in_step s c cs k g σ J K w h.0.0 h.0.1 h.0.2 h.0.3 h.1
move-in_step s (Throwing b o K w) h = leaving-in_step s b o K w h
move-in_step s (Over r w) h = tt
