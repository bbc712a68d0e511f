-- What an act that is performed comes to.
use Rattle.std.proofs.Common.{◌≡◌, ℕ, suc, ◌+◌, ◌-◌, ◌<◌, ◌≤◌, nat_le, Bool, true, false, Option, Some}
use Rattle.std.proofs.Common.{None, codes, length, refl, ap, ◌∙◌}
use Rattle.std.proofs.Common.{arith}
use Rattle.std.proofs.lemmas.Bool.Decides.{nat_tests}
use Rattle.op_logic.specs.Term.{Term, size}
use Rattle.op_logic.specs.Bind.{Bindings, apply}
use Rattle.op_trace.specs.Database.{Text}
use Rattle.op_trace.specs.World.{World}
use Rattle.op_trace.specs.Act.{Yield, Runs, Throws, Act, done, Setup}
use Rattle.op_trace.specs.Act as act
use Rattle.op_trace.specs.Body.{Body, Division, term_of}
use Rattle.op_trace.specs.Copy.{variables_of, copied}
use Rattle.op_trace.specs.Builtins.{type_error, throw, run_division}
use Rattle.op_trace.specs.Visit.{Spent, counted_as}
use Rattle.op_machine.specs.Resume.{Over, Moved, silent, acted, performed}

abbrev Continues : Type 0
Continues = Yield → World → Moved

-- an act of no steps
pub performed-done : (s : Setup) (w : World) (y : Yield) (h : Continues) → w.steps ≤ s.budget → performed s (done w y) w h ≡ h y w
performed-done s w y h below =
    let e : w.steps + 0 ≡ w.steps = omega arith in
    let fits : nat_le (w.steps + 0) s.budget ≡ true = grind (arith, nat_tests) in
    ap (λ (t : Bool). acted t s (done w y) w h) fits ∙ ap (λ (n : ℕ). h y (record w { steps = n })) e

abbrev costing : ℕ → Act → Act
costing k a = record a { cost = k + a.cost }

later : (s : Setup) (k : ℕ) (a : Act) (w : World) (h : Continues)
    → performed s (costing k a) w h ≡ performed s a (record w { steps = w.steps + k }) h
later s k a w h =
    let sum : w.steps + (k + a.cost) ≡ w.steps + k + a.cost = omega arith in
    ap (λ (n : ℕ). acted (nat_le n s.budget) s (costing k a) w h) sum ∙ go (nat_le (w.steps + k + a.cost) s.budget) sum
  where
    go : (t : Bool) → w.steps + (k + a.cost) ≡ w.steps + k + a.cost
        → acted t s (costing k a) w h ≡ acted t s a (record w { steps = w.steps + k }) h
    go true sum = ap (λ (n : ℕ). h a.yield (record (counted_as w a.after) { steps = n })) sum
    go false sum = refl

-- steps that are there, and then the rest of an act
pub performed-paid : (s : Setup) (k left : ℕ) (u w : World) (rest : ℕ → Act) (h : Continues) → left ≡ s.budget - w.steps
    → w.steps ≤ s.budget
    → w.steps + k ≤ s.budget → performed s (act.pay k left u rest) w h ≡ performed s (rest (left - k)) (record w { steps = w.steps + k }) h
performed-paid s k left u w rest h e below fits =
    let there : nat_le k left ≡ true = grind (arith, nat_tests) in
    ap (λ (t : Bool). performed s (act.paid t k left u rest) w h) there ∙ later s k (rest (left - k)) w h

-- steps that are not there
pub performed-unpaid : (s : Setup) (k left m : ℕ) (w : World) (rest : ℕ → Act) (h : Continues) → left ≡ s.budget - w.steps
    → w.steps ≤ s.budget → s.budget < w.steps + k
    → performed s (act.pay k left (record w { steps = m }) rest) w h ≡ silent (Over Spent (record w { steps = s.budget }))
performed-unpaid s k left m w rest h e below short =
    let missing : nat_le k left ≡ false = grind (arith, nat_tests) in
    let over : nat_le (w.steps + suc left) s.budget ≡ false = grind (arith, nat_tests) in
    ap (λ (t : Bool). performed s (act.paid t k left (record w { steps = m }) rest) w h) missing
    ∙ ap (λ (t : Bool). acted t s (act.paid false k left (record w { steps = m }) rest) w h) over

abbrev pub world_thrown : World → Term Text → World
world_thrown w b = record w { steps = w.steps + size b; variables = w.variables + length (variables_of b) }

-- a ball that is thrown, at a moment of other steps
pub performed-throw : (s : Setup) (left m : ℕ) (σ : Bindings Text) (t : Term Text) (w : World) (h : Continues) → left ≡ s.budget - w.steps
    → w.steps ≤ s.budget → w.steps + size (apply σ t) ≤ s.budget
    → performed s (throw left σ t (record w { steps = m })) w h
    ≡ h (Throws (copied w.variables (apply σ t))) (world_thrown w (apply σ t))
performed-throw s left m σ t w h e below fits =
    let b : Term Text = apply σ t in
    let y : Yield = Throws (copied w.variables b) in
    let u : World = record w { steps = m; variables = w.variables + length (variables_of b) } in
    let v : World = record w { steps = w.steps + size b } in
    let z : w.steps + size b + 0 ≡ w.steps + size b = omega arith in
    let there : nat_le (w.steps + size b + 0) s.budget ≡ true = grind (arith, nat_tests) in
    performed-paid s (size b) left (record w { steps = m }) w (λ l. done u y) h e below fits
    ∙ (ap (λ (q : Bool). acted q s (done u y) v h) there
    ∙ ap (λ (n : ℕ). h y (record w { steps = n; variables = w.variables + length (variables_of b) })) z)

pub performed-throw-spent : (s : Setup) (left m : ℕ) (σ : Bindings Text) (t : Term Text) (w : World) (h : Continues)
    → left ≡ s.budget - w.steps → w.steps ≤ s.budget → s.budget < w.steps + size (apply σ t)
    → performed s (throw left σ t (record w { steps = m })) w h ≡ silent (Over Spent (record w { steps = s.budget }))
performed-throw-spent s left m σ t w h e below short = performed-unpaid s (size (apply σ t)) left m w _ h e below short

abbrev division : Option Body → ℕ → Division
division o n = record { tree = o; steps = n }

abbrev not_callable : Term Text → Term Text
not_callable g = type_error (codes "callable") g

-- a goal that was converted runs
pub performed-run : (s : Setup) (left n : ℕ) (b : Body) (r : Term Text → Term Text) (g : Term Text) (σ : Bindings Text) (w : World)
    (h : Continues)
    → left ≡ s.budget - w.steps → w.steps ≤ s.budget → w.steps + n ≤ s.budget
    → performed s (run_division (division (Some b) n) r g left σ w) w h ≡ h (Runs (r (term_of b))) (record w { steps = w.steps + n })
performed-run s left n b r g σ w h e below fits =
    let y : Yield = Runs (r (term_of b)) in
    let v : World = record w { steps = w.steps + n } in
    let z : w.steps + n + 0 ≡ w.steps + n = omega arith in
    let there : nat_le (w.steps + n + 0) s.budget ≡ true = grind (arith, nat_tests) in
    performed-paid s n left w w (λ l. done w y) h e below fits
    ∙ (ap (λ (q : Bool). acted q s (done w y) v h) there ∙ ap (λ (k : ℕ). h y (record w { steps = k })) z)

-- the throw of a ball in the world of a moment; the steps of that world don't count
abbrev thrown_in : Bool → ℕ → Term Text → World → Act
thrown_in t left b u =
    act.paid t (size b) left u
    (λ l. done (record u { variables = u.variables + length (variables_of b) }) (Throws (copied u.variables b)))

moment : (s : Setup) (t : Bool) (left m : ℕ) (b : Term Text) (w v : World) (h : Continues)
    → performed s (thrown_in t left b w) v h ≡ performed s (thrown_in t left b (record w { steps = m })) v h
moment s true left m b w v h = go (nat_le (v.steps + (size b + 0)) s.budget)
  where
    go : (q : Bool) → acted q s (thrown_in true left b w) v h ≡ acted q s (thrown_in true left b (record w { steps = m })) v h
    go true = refl
    go false = refl
moment s false left m b w v h = go (nat_le (v.steps + suc left) s.budget)
  where
    go : (q : Bool) → acted q s (thrown_in false left b w) v h ≡ acted q s (thrown_in false left b (record w { steps = m })) v h
    go true = refl
    go false = refl

-- one that was refused: its ball is thrown, with the steps that are left
pub performed-refused : (s : Setup) (left n : ℕ) (r : Term Text → Term Text) (g : Term Text) (σ : Bindings Text) (w : World) (h : Continues)
    → left ≡ s.budget - w.steps → w.steps ≤ s.budget → w.steps + n ≤ s.budget
    → performed s (run_division (division None n) r g left σ w) w h
    ≡ performed s (throw (s.budget - (w.steps + n)) σ (not_callable g) (record w { steps = w.steps + n }))
    (record w { steps = w.steps + n }) h
performed-refused s left n r g σ w h e below fits =
    let v : World = record w { steps = w.steps + n } in
    let rest : left - n ≡ s.budget - (w.steps + n) = omega arith in
    performed-paid s n left w w (λ l. throw l σ (not_callable g) w) h e below fits
    ∙ (ap (λ (l : ℕ). performed s (throw l σ (not_callable g) w) v h) rest
    ∙ moment s (nat_le (size (apply σ (not_callable g))) (s.budget - (w.steps + n))) (s.budget - (w.steps + n)) (w.steps + n)
    (apply σ (not_callable g)) w v h)

-- one whose conversion takes more steps than are there
pub performed-run-spent : (s : Setup) (left : ℕ) (d : Division) (r : Term Text → Term Text) (g : Term Text) (σ : Bindings Text) (w : World)
    (h : Continues)
    → left ≡ s.budget - w.steps → w.steps ≤ s.budget → s.budget < w.steps + d.steps
    → performed s (run_division d r g left σ w) w h ≡ silent (Over Spent (record w { steps = s.budget }))
performed-run-spent s left d r g σ w h e below short = go d.tree
  where
    go : (o : Option Body) → performed s (run_division (division o d.steps) r g left σ w) w h
        ≡ silent (Over Spent (record w { steps = s.budget }))
    go None = performed-unpaid s d.steps left w.steps w _ h e below short
    go (Some b) = performed-unpaid s d.steps left w.steps w _ h e below short
