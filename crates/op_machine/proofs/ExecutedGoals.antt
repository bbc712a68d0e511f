-- A goal without a procedure is executed: what each builtin of control comes to.
use Rattle.std.proofs.Common.{◌≡◌, ℕ, ◌≤◌, Bool, true, false, ℤ, List, codes, Result, IfOk, refl, sym, ap, ◌∙◌, subst, if◌then◌else◌}
use Rattle.std.proofs.lemmas.Result.{IfOk-weaker}
use Rattle.op_logic.specs.Term.{Term, var, int, node, no_args, arg}
use Rattle.op_logic.specs.Bind.{Bindings}
use Rattle.op_logic.specs.Names.{named}
use Rattle.op_term.specs.Head.{head}
use Rattle.op_term.specs.declared.node.Node.TheVariants as nodes
use Rattle.op_trace.specs.Database.{Text}
use Rattle.op_trace.specs.World.{World}
use Rattle.op_trace.specs.Act.{Act, Fails, Halts, done}
use Rattle.op_trace.specs.Builtins.{instantiation_error, type_error, no_procedure, throw, unknown, throw_argument, halt_with}
use Rattle.op_machine.specs.Acts.{act_of_goal}
use Rattle.op_machine.specs.declared.builtin_kind.Builtin.{Builtin}
use Rattle.op_machine.specs.declared.core_state.Core.{Core}
use Rattle.op_machine.specs.declared.core_state.Mode.TheVariants as mode
use Rattle.op_machine.specs.declared.core_state.Step.{Step}
use Rattle.op_machine.specs.declared.core_state.Step.TheVariants as step
use Rattle.op_machine.specs.Meaning.{setup_of, world_in, items_now, goal_now, bindings_now, choice_points_in}
use Rattle.op_machine.specs.Resume.{Moved, yielded}
use Rattle.op_machine.specs.inner.BuiltinKinds.{act_of_kind}
use Rattle.op_machine.specs.inner.Invariant.{IsGood}
use Rattle.op_machine.specs.inner.Moves.{Advances, Proceeds, act_moved, steps_left}
use Rattle.op_machine.proofs.ActMoves.{performed-done}
use Rattle.op_machine.proofs.AdvanceLaws.{silent-advances}
use Rattle.op_machine.proofs.ProgramLaws.{proceeds, answer_proceeds}

-- a move in another form, in what a call answers
pub answer-as : {E : Type 0} (c new : Core) (m n : Moved) (o : Result Step E) → m ≡ n → IfOk o (Advances c new m)
    → IfOk o (Advances c new n)
answer-as c new m n o e a =
    IfOk-weaker o (λ s. Advances c new m s) (λ s. Advances c new n s) (λ s b. subst (λ (x : Moved). Advances c new x s) e b) a

-- the same for acts
pub act-as : {E : Type 0} (c new : Core) (a b : Act) (k g n : ℕ) (o : Result Step E) → a ≡ b → IfOk o (Advances c new (act_moved c a k g n))
    → IfOk o (Advances c new (act_moved c b k g n))
act-as c new a b k g n o e h = answer-as c new (act_moved c a k g n) (act_moved c b k g n) o (ap (λ (x : Act). act_moved c x k g n) e) h

pub act-same : (c new : Core) (a b : Act) (k g n : ℕ) (s : Step) → a ≡ b → Advances c new (act_moved c a k g n) s
    → Advances c new (act_moved c b k g n) s
act-same c new a b k g n s e h = subst (λ (x : Act). Advances c new (act_moved c x k g n) s) e h

pub act-proceeds : {E : Type 0} (c new : Core) (a b : Act) (k g n : ℕ) (o : Result Step E) → a ≡ b
    → IfOk o (Advances c new (act_moved c a k g n)) → IfOk o (Proceeds c new (act_moved c b k g n))
act-proceeds c new a b k g n o e h = answer_proceeds c new (act_moved c b k g n) o (act-as c new a b k g n o e h)

pub same-proceeds : (c new : Core) (a b : Act) (k g n : ℕ) (s : Step) → a ≡ b → Advances c new (act_moved c a k g n) s
    → Proceeds c new (act_moved c b k g n) s
same-proceeds c new a b k g n s e h = proceeds c new (act_moved c b k g n) s (act-same c new a b k g n s e h)

-- the same of a call in which names may have joined
pub goal-proceeds : {E : Type 0} (c new : Core) (a b : Act) (k g n : ℕ) (o : Result Step E) → a ≡ b
    → IfOk o (Proceeds c new (act_moved c a k g n)) → IfOk o (Proceeds c new (act_moved c b k g n))
goal-proceeds c new a b k g n o e h =
    IfOk-weaker o (λ s. Proceeds c new (act_moved c a k g n) s) (λ s. Proceeds c new (act_moved c b k g n) s)
    (λ s p. subst (λ (x : Act). Proceeds c new (act_moved c x k g n) s) e p) h

-- what the goal of a kind of builtin does
pub executed-kind : (c : Core) (q b : Builtin) (g : ℕ)
    → ((left : ℕ) (σ : Bindings Text) (w : World) → act_of_goal left (goal_now c g) σ w ≡ act_of_kind c.store q (goal_now c g) left σ w)
    → q ≡ b
    → act_of_kind c.store b (goal_now c g) (steps_left c) (bindings_now c) (world_in c)
    ≡ act_of_goal (steps_left c) (goal_now c g) (bindings_now c) (world_in c)
executed-kind c q b g act e =
    ap (λ (x : Builtin). act_of_kind c.store x (goal_now c g) (steps_left c) (bindings_now c) (world_in c)) (sym e)
    ∙ sym (act (steps_left c) (bindings_now c) (world_in c))

-- an act that has no solution
pub fails-advances : (c : Core) (k g n : ℕ) → IsGood c → c.steps ≤ c.budget
    → Advances c (record c { mode = mode.Backward }) (act_moved c (done (world_in c) Fails) k g n) step.Silent
fails-advances c k g n good below =
    silent-advances c c.steps mode.Backward (act_moved c (done (world_in c) Fails) k g n) good tt
    (performed-done (setup_of c) (world_in c) Fails
    (yielded k (goal_now c g) (items_now c n) (choice_points_in c) (bindings_now c)) below)

-- the act of a goal without a procedure, by the flag
pub unknown-fails : (f : Text) (n left : ℕ) (σ : Bindings Text) (w : World) → w.database.flags.unknown_fails ≡ true
    → done w Fails ≡ unknown f n left σ w
unknown-fails f n left σ w e = sym (ap (λ (t : Bool). if t then done w Fails else throw left σ (no_procedure f n) w) e)

pub unknown-throws : (f : Text) (n left : ℕ) (σ : Bindings Text) (w : World) → w.database.flags.unknown_fails ≡ false
    → throw left σ (no_procedure f n) w ≡ unknown f n left σ w
unknown-throws f n left σ w e = sym (ap (λ (t : Bool). if t then done w Fails else throw left σ (no_procedure f n) w) e)

-- what throw/1 and halt/1 do with an argument, by its outermost node
module _ (names : List Text) (left : ℕ) (σ : Bindings Text) (w : World) where
  pub throw-var : (g : Term ℕ) (v : ℕ) → head g ≡ nodes.Var v → throw left σ instantiation_error w
      ≡ throw_argument (named names g) left σ w
  throw-var (var u) v e = refl
  throw-var (int i) v e = absurd cc
  throw-var (node f no_args) v e = absurd cc
  throw-var (node f (arg t ts)) v e = absurd cc

  pub throw-other : (g : Term ℕ) → ((v : ℕ) → head g ≡ nodes.Var v → ⊥) → throw left σ (named names g) w
      ≡ throw_argument (named names g) left σ w
  throw-other (var v) no_var = absurd (no_var v refl)
  throw-other (int i) no_var = refl
  throw-other (node f ts) no_var = refl

  pub halt-var : (g : Term ℕ) (v : ℕ) → head g ≡ nodes.Var v → throw left σ instantiation_error w ≡ halt_with (named names g) left σ w
  halt-var (var u) v e = refl
  halt-var (int i) v e = absurd cc
  halt-var (node f no_args) v e = absurd cc
  halt-var (node f (arg t ts)) v e = absurd cc

  pub halt-int : (g : Term ℕ) (i : ℤ) → head g ≡ nodes.Int i → done w (Halts i) ≡ halt_with (named names g) left σ w
  halt-int (var u) i e = absurd cc
  halt-int (int j) i e = let s : j ≡ i = cc in ap (λ (x : ℤ). done w (Halts x)) (sym s)
  halt-int (node f no_args) i e = absurd cc
  halt-int (node f (arg t ts)) i e = absurd cc

  pub halt-other : (g : Term ℕ) → ((v : ℕ) → head g ≡ nodes.Var v → ⊥) → ((i : ℤ) → head g ≡ nodes.Int i → ⊥)
      → throw left σ (type_error (codes "integer") (named names g)) w ≡ halt_with (named names g) left σ w
  halt-other (var v) no_var no_int = absurd (no_var v refl)
  halt-other (int i) no_var no_int = absurd (no_int i refl)
  halt-other (node f ts) no_var no_int = refl
