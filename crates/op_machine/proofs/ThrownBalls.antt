-- A ball is thrown: a copy of a term is made, which goes up from a box.
use Rattle.std.proofs.Common.{◌≡◌, ℕ, ◌+◌, ◌-◌, ◌<◌, ◌≤◌, nat_eq, List, ◌∷◌, length, reverse, Some, Result, IfOk}
use Rattle.std.proofs.Common.{refl, sym, ap, ◌∙◌, subst, arith}
use Rattle.std.specs.List.{position_or_len}
use Rattle.std.proofs.lemmas.Result.{IfOk-weaker}
use Rattle.op_logic.specs.Term.{Term, var, int, node, Args, no_args, arg, size, IsWithin}
use Rattle.op_logic.specs.Bind.{apply}
use Rattle.op_logic.specs.Laws.{instance_of, instances_of}
use Rattle.op_logic.specs.Names.{name_at, HasNames, ArgsHaveNames, HaveNames}
use Rattle.op_logic.proofs.UnifierNames.{apply-names}
use Rattle.op_logic.proofs.RenamedUnification.{size-rename}
use Rattle.op_term.specs.Places.{term_at}
use Rattle.op_term.specs.Variables.{distinct_variables}
use Rattle.op_bind.specs.Copied as bind
use Rattle.op_bind.specs.State.{State, bindings, value_of}
use Rattle.op_bind.specs.Grown.{Grows}
use Rattle.op_trace.specs.World.{open_boxes}
use Rattle.op_trace.specs.Database.{Text}
use Rattle.op_trace.specs.Copy.{variables_of, copied}
use Rattle.op_trace.specs.Visit as visit
use Rattle.op_machine.specs.declared.core_state.Core.{Core}
use Rattle.op_machine.specs.declared.core_state.Mode.TheVariants as mode
use Rattle.op_machine.specs.declared.core_state.Outcome.TheVariants as outcome
use Rattle.op_machine.specs.declared.core_state.Step.{Step}
use Rattle.op_machine.specs.declared.core_state.Step.TheVariants as step
use Rattle.op_machine.specs.Program.{goal_named}
use Rattle.op_machine.specs.Meaning.{level_in, level_of, setup_of, world_in, items_now, goal_now, bindings_now}
use Rattle.op_machine.specs.Meaning.{choice_points_in, open_in}
use Rattle.op_machine.specs.Resume.{Throwing, Moved, silent, yielded}
use Rattle.op_machine.specs.inner.Invariant.{IsGood, HasGoal, HasItems, HasCalled}
use Rattle.op_machine.specs.inner.Moves.{Advances, Makes, steps_left, ball_thrown, ball_raised}
use Rattle.op_machine.proofs.ActMoves.{world_thrown, performed-throw, performed-throw-spent}
use Rattle.op_machine.proofs.AdvanceLaws.{silent-advances, advances-from}
use Rattle.op_machine.proofs.CopiedBalls.{variables-named, copied-named}
use Rattle.op_machine.proofs.HeadUnification.{bound_on, bound-good, bound-rises}
use Rattle.op_machine.proofs.LevelLaws.{choice_points-rise}
use Rattle.op_machine.proofs.MadeTerms.{thrown-made}
use Rattle.op_machine.proofs.NamedTerms.{value-named}
use Rattle.op_machine.proofs.OpenBoxes.{open-called}

-- an instance has the names of the term where the terms for its variables have no others
module _ (n : ℕ) (θ : ℕ → Term ℕ) (names : (v : ℕ) → HasNames n (θ v)) where
  mutual
    instance-names : (t : Term ℕ) → HasNames n t → HasNames n (instance_of θ t)
    instance-names (var v) h = names v
    instance-names (int i) h = tt
    instance-names (node f ts) h = (h.0, instances-names ts h.1)

    instances-names : (ts : Args ℕ) → ArgsHaveNames n ts → ArgsHaveNames n (instances_of θ ts)
    instances-names no_args h = tt
    instances-names (arg t ts) h = (instance-names t h.0, instances-names ts h.1)

-- a copy's names are those of the term
pub copied-names : (n first : ℕ) (t : Term ℕ) → HasNames n t → HasNames n (bind.copied first t)
copied-names n first t h =
    instance-names n (λ v. var (first + position_or_len (nat_eq v) (distinct_variables t))) (λ v. tt) t h

-- the names of a term under its bindings
pub value-names : (c : Core) (r : ℕ) → IsGood c → HasGoal c r → HasNames (length c.store.names) (value_of c.bindings r)
value-names c r good there =
    apply-names (length c.store.names) (bindings c.bindings) (term_at c.bindings.terms r) good.level.bound there.1

-- a term goes up from a box
pub raised-advances : (c : Core) (r k : ℕ) (ball : Term ℕ) → IsGood c → HasGoal c r → IsWithin c.bindings.count (value_of c.bindings r)
    → ball ≡ value_of c.bindings r
    → Advances c (record c { ball = Some ball; mode = mode.Throwing k }) (ball_raised c r k) step.Silent
raised-advances c r k ball good there within value = record {
  turns = refl;
  state = ap (λ (t : Term Text). Throwing t (open_in c.frames k) (choice_points_in c) (world_in c))
      (ap (goal_named c.store) value ∙ value-named c.store c.bindings r);
  good = record {
    level = good.level;
    frames = good.frames;
    mode = tt;
    values = good.values;
    failure = good.failure;
    ball = (
      subst (HasNames (length c.store.names)) (sym value) (value-names c r good there),
      subst (λ (t : Term ℕ). IsWithin c.bindings.count t) (sym value) within,
    );
    boxes = good.boxes;
    boxed = good.boxed;
  };
  looked = tt;
  store = refl;
  names = refl;
  budget = refl;
  wanted = refl;
}

-- a machine in which a copy was made, which has other variables and is bound to nothing
module _ (c : Core) (s : State) (term : ℕ) (good : IsGood c) (grows : Grows c.bindings s) (same : bindings s ≡ bindings c.bindings)
    (goal : HasGoal c term) where
  pub copied-good : (steps : ℕ) → IsGood (bound_on c s steps)
  copied-good steps =
      bound-good c s steps good grows (subst (HaveNames (length c.store.names)) (sym same) good.level.bound)

  pub copied-goal : (r steps : ℕ) → r < length s.terms → term_at s.terms r ≡ bind.copied c.bindings.count (value_of c.bindings term)
      → HasGoal (bound_on c s steps) r
  copied-goal r steps there is = (
    there,
    subst (HasNames (length c.store.names)) (sym is)
        (copied-names (length c.store.names) c.bindings.count (value_of c.bindings term) (value-names c term good goal)),
  )

  copied-text : (r steps : ℕ) → value_of s r ≡ bind.copied c.bindings.count (value_of c.bindings term)
      → apply (bindings_now (bound_on c s steps)) (goal_now (bound_on c s steps) r)
      ≡ copied c.bindings.count (apply (bindings_now c) (goal_now c term))
  copied-text r steps free =
      sym (value-named c.store s r)
      ∙ (ap (goal_named c.store) free
      ∙ (sym (copied-named c.store.names c.bindings.count (value_of c.bindings term))
      ∙ ap (copied c.bindings.count) (value-named c.store c.bindings term)))

  copied-choice_points : (steps : ℕ) → choice_points_in (bound_on c s steps) ≡ choice_points_in c
  copied-choice_points steps =
      choice_points-rise c.store c.floor.terms (level_in c) (level_of s c.continuations) (reverse c.frames.choices)
      (bound-rises c s grows) good.frames

  -- the throw of a term comes to the rise of its copy
  pub thrown-raised : (r k g n left : ℕ) → c.steps ≤ c.budget → HasCalled c k g n
      → value_of s r ≡ bind.copied c.bindings.count (value_of c.bindings term)
      → s.count ≡ c.bindings.count + length (distinct_variables (value_of c.bindings term))
      → c.budget - c.steps ≡ left + size (value_of c.bindings term)
      → ball_thrown c (goal_now c term) k g n ≡ ball_raised (bound_on c s (c.budget - left)) r k
  thrown-raised r k g n left below called free count paid =
      let mid : Core = bound_on c s (c.budget - left) in
      let b : Term Text = apply (bindings_now c) (goal_now c term) in
      let z : size b ≡ size (value_of c.bindings term) =
      ap size (sym (value-named c.store c.bindings term)) ∙ size-rename (name_at c.store.names) (value_of c.bindings term) in
      let vs : length (variables_of b) ≡ length (distinct_variables (value_of c.bindings term)) =
      ap length (ap variables_of (sym (value-named c.store c.bindings term)) ∙ variables-named c.store.names (value_of c.bindings term)) in
      let fits : c.steps + size b ≤ c.budget = omega arith in
      let steps : c.steps + size b ≡ c.budget - left = omega arith in
      let variables : c.bindings.count + length (variables_of b) ≡ s.count = omega arith in
      performed-throw (setup_of c) (steps_left c) c.steps (bindings_now c) (goal_now c term) (world_in c)
      (yielded k (goal_now c g) (items_now c n) (choice_points_in c) (bindings_now c)) refl below fits
      ∙ (ap (λ (t : Term Text). silent (Throwing t (k ∷ open_boxes (items_now c n)) (choice_points_in c) (world_thrown (world_in c) b)))
      (sym (copied-text r (c.budget - left) free))
      ∙ (ap (λ (o : List ℕ). silent (Throwing (apply (bindings_now mid) (goal_now mid r)) o (choice_points_in c)
      (world_thrown (world_in c) b))) (sym (open-called c k g n called))
      ∙ (ap (λ (K : List visit.Choice). silent (Throwing (apply (bindings_now mid) (goal_now mid r)) (open_in c.frames k) K
      (world_thrown (world_in c) b))) (sym (copied-choice_points (c.budget - left)))
      ∙ (ap (λ (x : ℕ). silent (Throwing (apply (bindings_now mid) (goal_now mid r)) (open_in c.frames k) (choice_points_in mid)
      (record (world_in c) { steps = x; variables = c.bindings.count + length (variables_of b) }))) steps
      ∙ ap (λ (x : ℕ). silent (Throwing (apply (bindings_now mid) (goal_now mid r)) (open_in c.frames k) (choice_points_in mid)
      (record (world_in c) { steps = c.budget - left; variables = x }))) variables))))

  pub thrown-copied : (new : Core) (r k g n left : ℕ) → c.steps ≤ c.budget → HasCalled c k g n
      → value_of s r ≡ bind.copied c.bindings.count (value_of c.bindings term)
      → s.count ≡ c.bindings.count + length (distinct_variables (value_of c.bindings term))
      → c.budget - c.steps ≡ left + size (value_of c.bindings term)
      → Advances (bound_on c s (c.budget - left)) new (ball_raised (bound_on c s (c.budget - left)) r k) step.Silent
      → Advances c new (ball_thrown c (goal_now c term) k g n) step.Silent
  thrown-copied new r k g n left below called free count paid a =
      advances-from c (bound_on c s (c.budget - left)) new _ _ step.Silent refl refl refl refl
      (sym (thrown-raised r k g n left below called free count paid)) a

-- one whose steps are not there
pub thrown-spent : (c : Core) (s : State) (term k g n : ℕ) (new : Core) → IsGood c → c.steps ≤ c.budget
    → c.budget - c.steps < size (value_of c.bindings term) → s ≡ c.bindings
    → new ≡ record c { bindings = s; steps = c.budget; mode = mode.Over outcome.Spent }
    → Advances c new (ball_thrown c (goal_now c term) k g n) step.Silent
thrown-spent c s term k g n new good below short still is =
    let m : Moved = ball_thrown c (goal_now c term) k g n in
    let b : Term Text = apply (bindings_now c) (goal_now c term) in
    let z : size b ≡ size (value_of c.bindings term) =
    ap size (sym (value-named c.store c.bindings term)) ∙ size-rename (name_at c.store.names) (value_of c.bindings term) in
    subst (λ (x : Core). Advances c x m step.Silent) (sym is)
    (subst (λ (b : State). Advances c (record c { bindings = b; steps = c.budget; mode = mode.Over outcome.Spent }) m step.Silent)
    (sym still)
    (silent-advances c c.budget (mode.Over outcome.Spent) m good tt
    (performed-throw-spent (setup_of c) (steps_left c) c.steps (bindings_now c) (goal_now c term) (world_in c)
    (yielded k (goal_now c g) (items_now c n) (choice_points_in c) (bindings_now c)) refl below (omega arith))))

-- a ball was made, and then thrown: what the call answers
pub thrown-answer : {E : Type 0} (c d new : Core) (r : ℕ) (t : Term Text) (k g n : ℕ) (o : Result Step E) → IsGood c → Makes c d r
    → HasGoal c g → HasItems c n → goal_now d r ≡ t → IfOk o (Advances d new (ball_thrown d (goal_now d r) k g n))
    → IfOk o (Advances c new (ball_thrown c t k g n))
thrown-answer c d new r t k g n o good m goal there value a =
    IfOk-weaker o (λ s. Advances d new (ball_thrown d (goal_now d r) k g n) s) (λ s. Advances c new (ball_thrown c t k g n) s)
    (λ s b. thrown-made c d r good m new t k g n s goal there value b) a
