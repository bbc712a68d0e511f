-- The acts of a program keep the rules of acts.
use Rattle.std.proofs.Common.{◌≡◌, ℕ, suc, ◌+◌, ◌-◌, ◌<◌, ◌≤◌, ◌==◌, ◌&&◌, nat_le, pos, Bool, true, false}
use Rattle.std.proofs.Common.{Option, Some, None, codes, length, refl, sym, ap, subst}
use Rattle.std.proofs.Common.{arith, if◌then◌else◌}
use Rattle.std.proofs.lemmas.Bool.Decides.{nat_tests}
use Rattle.op_logic.specs.Term.{Term, var, int, node, Args, no_args, arg, args_of, nth_arg, size, arity}
use Rattle.op_logic.specs.Bind.{Bindings, apply, follow}
use Rattle.op_trace.specs.Database.{Text, text_eq}
use Rattle.op_trace.specs.World.{World, Execution, First, Repeated, Recovery}
use Rattle.op_trace.specs.Act.{Yield, Fails, Runs, Throws, Halts, Act, done, paid, pay}
use Rattle.op_trace.specs.Body.{Body, Division, divided, term_of}
use Rattle.op_trace.specs.Copy.{variables_of, copied}
use Rattle.op_trace.specs.Builtins.{instantiation_error, type_error, no_procedure, throw, unknown, run_division, added, run_goal, alone}
use Rattle.op_trace.specs.Builtins.{first_solution, no_solution, throw_argument, halt_with, act_of_goal}
use Rattle.op_inspect.specs.Inspected.{act_on_terms}
use Rattle.op_machine.specs.Acts as acts
use Rattle.op_machine.specs.Acts.{act_or}
use Rattle.op_inspect.specs.ActRules.{OnlyBinds, IsSameAct, KeepsActRules}
use Rattle.op_inspect.proofs.TermActs.{Inspects, nothing, something, inspects}

-- what is done with so many steps left
pub record IsActRule (σ : Bindings Text) (a : ℕ → Act) : Type 0 where
  pub binds : (left : ℕ) → OnlyBinds σ (a left).yield
  pub same : (m n : ℕ) → (a m).cost ≤ m → (a m).cost ≤ n → IsSameAct (a m) (a n)

pub done-rule : (σ : Bindings Text) (w : World) (y : Yield) → OnlyBinds σ y → IsActRule σ (λ left. done w y)
done-rule σ w y o = record {
  binds = λ left. o;
  same = λ m n before after. record { cost = refl; after = refl; yield = refl };
}

pub pay-rule : (σ : Bindings Text) (k : ℕ) (w : World) (rest : ℕ → Act) → IsActRule σ rest → IsActRule σ (λ left. pay k left w rest)
pay-rule σ k w rest r = record {
  binds = λ left. only left (nat_le k left);
  same = λ m n before after. go m n (nat_le k m) (nat_le k n) refl refl before after;
}
  where
    only : (left : ℕ) (t : Bool) → OnlyBinds σ (paid t k left w rest).yield
    only left true = r.binds (left - k)
    only left false = tt

    go : (m n : ℕ) (s t : Bool) → nat_le k m ≡ s → nat_le k n ≡ t → (paid s k m w rest).cost ≤ m → (paid s k m w rest).cost ≤ n
        → IsSameAct (paid s k m w rest) (paid t k n w rest)
    go m n true true e f before after =
        let fits : k ≤ m = grind (arith, nat_tests) in
        let i = r.same (m - k) (n - k) (omega (arith, before, fits)) (omega (arith, after)) in
        record { cost = ap (λ (c : ℕ). k + c) i.cost; after = i.after; yield = i.yield }
    go m n true false e f before after = let short : n < k = grind (arith, nat_tests) in absurd (omega (arith, after, short))
    go m n false t e f before after = absurd (omega (arith, before))

pub if-rule : (σ : Bindings Text) (t : Bool) (a b : ℕ → Act) → IsActRule σ a → IsActRule σ b → IsActRule σ
    (λ left. if t then a left else b left)
if-rule σ true a b x y = x
if-rule σ false a b x y = y

pub throw-rule : (σ : Bindings Text) (t : Term Text) (w : World) → IsActRule σ (λ left. throw left σ t w)
throw-rule σ t w =
    let b : Term Text = apply σ t in
    let u : World = record w { variables = w.variables + length (variables_of b) } in
    pay-rule σ (size b) w (λ l. done u (Throws (copied w.variables b))) (done-rule σ u (Throws (copied w.variables b)) tt)

pub unknown-rule : (f : Text) (n : ℕ) (σ : Bindings Text) (w : World) → IsActRule σ (λ left. unknown f n left σ w)
unknown-rule f n σ w =
    if-rule σ w.database.flags.unknown_fails (λ l. done w Fails) (λ l. throw l σ (no_procedure f n) w) (done-rule σ w Fails tt)
    (throw-rule σ (no_procedure f n) w)

pub run_division-rule : (d : Division) (r : Term Text → Term Text) (g : Term Text) (σ : Bindings Text) (w : World)
    → IsActRule σ (λ left. run_division d r g left σ w)
run_division-rule d r g σ w = go d.tree
  where
    go : (o : Option Body) → IsActRule σ (λ left. run_division (record { tree = o; steps = d.steps }) r g left σ w)
    go None = pay-rule σ d.steps w (λ l. throw l σ (type_error (codes "callable") g) w) (throw-rule σ (type_error (codes "callable") g) w)
    go (Some b) = pay-rule σ d.steps w (λ l. done w (Runs (r (term_of b)))) (done-rule σ w (Runs (r (term_of b))) tt)

pub run_goal-rule : (r : Term Text → Term Text) (t : Term Text) (us : Args Text) (σ : Bindings Text) (w : World)
    → IsActRule σ (λ left. run_goal r t us left σ w)
run_goal-rule r (var v) us σ w = throw-rule σ instantiation_error w
run_goal-rule r (int i) us σ w = run_division-rule (divided σ (int i)) r (int i) σ w
run_goal-rule r (node f ts) us σ w = run_division-rule (divided σ (node f (added ts us))) r (node f (added ts us)) σ w

pub throw_argument-rule : (t : Term Text) (σ : Bindings Text) (w : World) → IsActRule σ (λ left. throw_argument t left σ w)
throw_argument-rule (var v) σ w = throw-rule σ instantiation_error w
throw_argument-rule (int i) σ w = throw-rule σ (int i) w
throw_argument-rule (node f ts) σ w = throw-rule σ (node f ts) w

pub halt_with-rule : (t : Term Text) (σ : Bindings Text) (w : World) → IsActRule σ (λ left. halt_with t left σ w)
halt_with-rule (var v) σ w = throw-rule σ instantiation_error w
halt_with-rule (int i) σ w = done-rule σ w (Halts i) tt
halt_with-rule (node f ts) σ w = throw-rule σ (type_error (codes "integer") (node f ts)) w

pub goal-rule : (g : Term Text) (σ : Bindings Text) (w : World) → IsActRule σ (λ left. act_of_goal left g σ w)
goal-rule (var v) σ w = done-rule σ w Fails tt
goal-rule (int i) σ w = done-rule σ w Fails tt
goal-rule (node f no_args) σ w =
    if-rule σ (text_eq f (codes "halt")) (λ l. done w (Halts (pos 0))) (λ l. unknown f 0 l σ w) (done-rule σ w (Halts (pos 0)) tt)
    (unknown-rule f 0 σ w)
goal-rule (node f (arg a no_args)) σ w =
    let t : Term Text = follow σ a in
    let last : ℕ → Act = λ l. unknown f 1 l σ w in
    let halts : ℕ → Act = λ l. if text_eq f (codes "halt") then halt_with t l σ w else last l in
    let throws : ℕ → Act = λ l. if text_eq f (codes "throw") then throw_argument t l σ w else halts l in
    let nots : ℕ → Act = λ l. if text_eq f (codes "\\+") then run_goal no_solution t no_args l σ w else throws l in
    let onces : ℕ → Act = λ l. if text_eq f (codes "once") then run_goal first_solution t no_args l σ w else nots l in
    if-rule σ (text_eq f (codes "call")) (λ l. run_goal alone t no_args l σ w) onces (run_goal-rule alone t no_args σ w)
    (if-rule σ (text_eq f (codes "once")) (λ l. run_goal first_solution t no_args l σ w) nots (run_goal-rule first_solution t no_args σ w)
    (if-rule σ (text_eq f (codes "\\+")) (λ l. run_goal no_solution t no_args l σ w) throws (run_goal-rule no_solution t no_args σ w)
    (if-rule σ (text_eq f (codes "throw")) (λ l. throw_argument t l σ w) halts (throw_argument-rule t σ w)
    (if-rule σ (text_eq f (codes "halt")) (λ l. halt_with t l σ w) last (halt_with-rule t σ w) (unknown-rule f 1 σ w)))))
goal-rule (node f (arg a (arg b us))) σ w =
    let last : ℕ → Act = λ l. unknown f (suc (arity (arg b us))) l σ w in
    let catches : ℕ → Act =
    λ l. if text_eq f (codes "catch") && (arity (arg b us) == 2) then run_goal alone (follow σ a) no_args l σ w else last l in
    if-rule σ (text_eq f (codes "call") && nat_le (arity (arg b us)) 7) (λ l. run_goal alone (follow σ a) (arg b us) l σ w)
    catches (run_goal-rule alone (follow σ a) (arg b us) σ w)
    (if-rule σ (text_eq f (codes "catch") && (arity (arg b us) == 2)) (λ l. run_goal alone (follow σ a) no_args l σ w) last
    (run_goal-rule alone (follow σ a) no_args σ w) (unknown-rule f (suc (arity (arg b us))) σ w))

-- what is the same for each number of steps keeps the rules
rule-along : (σ : Bindings Text) (a b : ℕ → Act) → ((left : ℕ) → b left ≡ a left) → IsActRule σ a → IsActRule σ b
rule-along σ a b e h = record {
  binds = λ left. subst (λ (x : Act). OnlyBinds σ x.yield) (sym (e left)) (h.binds left);
  same = λ m n before after.
      subst (λ (x : Act). IsSameAct x (b n)) (sym (e m))
      (subst (λ (x : Act). IsSameAct (a m) x) (sym (e n))
      (h.same m n (subst (λ (x : Act). x.cost ≤ m) (e m) before) (subst (λ (x : Act). x.cost ≤ n) (e m) after)));
}

-- a goal is one of the builtins on terms, or of control
table-rule : (g : Term Text) (σ : Bindings Text) (w : World) → Inspects σ g → IsActRule σ (λ left. acts.act_of_goal left g σ w)
table-rule g σ w (nothing e) =
    rule-along σ (λ left. act_of_goal left g σ w) (λ left. acts.act_of_goal left g σ w)
    (λ left. ap (λ (o : Option Act). act_or o (act_of_goal left g σ w)) (e left w)) (goal-rule g σ w)
table-rule g σ w (something e h) =
    rule-along σ (λ left. act_on_terms left g σ w) (λ left. acts.act_of_goal left g σ w)
    (λ left. ap (λ (o : Option Act). act_or o (act_of_goal left g σ w)) (e left w))
    (record { binds = λ left. h.binds left w; same = λ m n before after. h.same m n w before after })

-- each execution
pub execution-rule : (t : Execution) (g : Term Text) (σ : Bindings Text) (w : World)
    → IsActRule σ (λ left. acts.act_of_program left t g σ w)
execution-rule First g σ w = table-rule g σ w (inspects σ g)
execution-rule Repeated g σ w = table-rule g σ w (inspects σ g)
execution-rule Recovery g σ w = run_goal-rule alone (follow σ (nth_arg (args_of g) 2)) no_args σ w

pub program-acts : KeepsActRules acts.act_of_program
program-acts = record {
  binds = λ left t g σ w. (execution-rule t g σ w).binds left;
  same = λ m n t g σ w before after. (execution-rule t g σ w).same m n before after;
}
