-- The builtins on terms by their names: those of control are none of them.
use Rattle.std.proofs.Common.{◌≡◌, ℕ, ◌<◌, ◌==◌, Bool, true, false, length, take, codes, Option, Some, None, option_map}
use Rattle.std.proofs.Common.{is_some, refl, sym, ap, ◌∙◌, subst, arith, if◌then◌else◌}
use Rattle.std.proofs.lemmas.Slice.Eq.{bytes_eq-Decides}
use Rattle.op_logic.specs.Term.{Term, node, Args, no_args, arg, args_of, arity, rename_args}
use Rattle.op_logic.specs.Bind.{Bindings}
use Rattle.op_logic.specs.Names.{name_at, IsTable, HasNames}
use Rattle.std.proofs.lemmas.Bool.Decides.{nat_tests}
use Rattle.op_logic.proofs.BoolCases.{by_test, by_order, if_false}
use Rattle.op_logic.proofs.RenamedUnification.{arity-rename}
use Rattle.op_term.specs.declared.symbols.Sym.{Sym}
use Rattle.op_trace.specs.Database.{Text}
use Rattle.op_trace.specs.World.{World}
use Rattle.op_trace.specs.Act.{Act}
use Rattle.op_trace.specs.Builtins as control
use Rattle.op_inspect.specs.Inspected.{inspected, act_on_terms, act_if_any, act_of_one, act_of_two, act_of_three, of_one, of_two, of_three}
use Rattle.op_inspect.specs.Inspected.{is_builtin}
use Rattle.op_inspect.specs.declared.builtin.OfOne.{OfOne}
use Rattle.op_inspect.specs.declared.builtin.OfTwo.{OfTwo}
use Rattle.op_inspect.specs.declared.builtin.OfThree.{OfThree}
use Rattle.op_store.specs.Stored.{Stored, first_names}
use Rattle.op_machine.specs.Acts.{act_or, act_of_goal}
use Rattle.op_machine.specs.Program.{goal_named}
use Rattle.op_machine.specs.inner.BuiltinKinds.{act_of_kind, IsNotOnTerms, IsOfControl, IsOnTerms}
use Rattle.op_machine.specs.declared.builtin_kind.Builtin.{Builtin}
use Rattle.op_machine.specs.declared.builtin_kind.Builtin.TheVariants as builtin
use Rattle.op_machine.specs.declared.builtin_kind.Around.TheVariants.{Alone, FirstSolution, NoSolution}
use Rattle.op_machine.proofs.ControlLaws.{by_equal, same-text}
use Rattle.op_machine.proofs.BuiltinLaws.{AtomBuiltin, SingleBuiltin, LongerBuiltin}

-- none of them has more than three arguments
long-none : (f : Text) (n : ℕ) → 3 < n → is_builtin f n ≡ false
long-none f n l =
    let one : (n == 1) ≡ false = grind (arith, nat_tests) in
    let two : (n == 2) ≡ false = grind (arith, nat_tests) in
    let three : (n == 3) ≡ false = grind (arith, nat_tests) in
    if_false (n == 1) (is_some (of_one f)) (if n == 2 then is_some (of_two f) else if n == 3 then is_some (of_three f) else false) one
    ∙ (if_false (n == 2) (is_some (of_two f)) (if n == 3 then is_some (of_three f) else false) two
    ∙ if_false (n == 3) (is_some (of_three f)) false three)

-- whether there is an act is whether the name with its arguments is a builtin
module _ (left : ℕ) (σ : Bindings Text) (w : World) where
  some-one : (o : Option OfOne) (a : Term Text) → is_some o ≡ true
      → Some (act_if_any w (option_map (λ k. act_of_one k a left σ w) o)) ≡ option_map (λ k. act_of_one k a left σ w) o
  some-one None a h = absurd cc
  some-one (Some k) a h = refl

  some-two : (o : Option OfTwo) (a b : Term Text) → is_some o ≡ true
      → Some (act_if_any w (option_map (λ k. act_of_two k a b left σ w) o)) ≡ option_map (λ k. act_of_two k a b left σ w) o
  some-two None a b h = absurd cc
  some-two (Some k) a b h = refl

  some-three : (o : Option OfThree) (a b c : Term Text) → is_some o ≡ true
      → Some (act_if_any w (option_map (λ k. act_of_three k a b c left σ w) o)) ≡ option_map (λ k. act_of_three k a b c left σ w) o
  some-three None a b c h = absurd cc
  some-three (Some k) a b c h = refl

  pub is-inspected : (f : Text) (ts : Args Text) → is_builtin f (arity ts) ≡ true
      → Some (act_on_terms left (node f ts) σ w) ≡ inspected left (node f ts) σ w
  is-inspected f no_args h = absurd cc
  is-inspected f (arg a no_args) h = some-one (of_one f) a h
  is-inspected f (arg a (arg b no_args)) h = some-two (of_two f) a b h
  is-inspected f (arg a (arg b (arg c no_args))) h = some-three (of_three f) a b c h
  is-inspected f (arg a (arg b (arg c (arg d us)))) h =
      let none = long-none f (arity (arg a (arg b (arg c (arg d us))))) (omega arith) in
      let bad : false ≡ true = sym none ∙ h in absurd cc

  none-one : (o : Option OfOne) (a : Term Text) → is_some o ≡ false → option_map (λ k. act_of_one k a left σ w) o ≡ None
  none-one None a h = refl
  none-one (Some k) a h = absurd cc

  none-two : (o : Option OfTwo) (a b : Term Text) → is_some o ≡ false → option_map (λ k. act_of_two k a b left σ w) o ≡ None
  none-two None a b h = refl
  none-two (Some k) a b h = absurd cc

  none-three : (o : Option OfThree) (a b c : Term Text) → is_some o ≡ false → option_map (λ k. act_of_three k a b c left σ w) o ≡ None
  none-three None a b c h = refl
  none-three (Some k) a b c h = absurd cc

  pub not-inspected : (f : Text) (ts : Args Text) → is_builtin f (arity ts) ≡ false → inspected left (node f ts) σ w ≡ None
  not-inspected f no_args h = refl
  not-inspected f (arg a no_args) h = none-one (of_one f) a h
  not-inspected f (arg a (arg b no_args)) h = none-two (of_two f) a b h
  not-inspected f (arg a (arg b (arg c no_args))) h = none-three (of_three f) a b c h
  not-inspected f (arg a (arg b (arg c (arg d us)))) h = refl

  -- the act of a goal, by whether it is one of them
  pub act-on-terms : (f : Text) (ts : Args Text) → is_builtin f (arity ts) ≡ true
      → act_of_goal left (node f ts) σ w ≡ act_on_terms left (node f ts) σ w
  act-on-terms f ts h = ap (λ (o : Option Act). act_or o (control.act_of_goal left (node f ts) σ w)) (sym (is-inspected f ts h))

  pub act-of-control : (g : Term Text) → inspected left g σ w ≡ None → act_of_goal left g σ w ≡ control.act_of_goal left g σ w
  act-of-control g e = ap (λ (o : Option Act). act_or o (control.act_of_goal left g σ w)) e

-- a name that is no builtin with any number of arguments
none-named : (f : Text) → is_some (of_one f) ≡ false → is_some (of_two f) ≡ false → is_some (of_three f) ≡ false → (ts : Args Text)
    → is_builtin f (arity ts) ≡ false
none-named f h k l no_args = refl
none-named f h k l (arg a no_args) = h
none-named f h k l (arg a (arg b no_args)) = k
none-named f h k l (arg a (arg b (arg c no_args))) = l
none-named f h k l (arg a (arg b (arg c (arg d us)))) = long-none f (arity (arg a (arg b (arg c (arg d us))))) (omega arith)

module _ (t : Stored) (table : IsTable t.names) (begins : take (length first_names) t.names ≡ first_names) where
  -- one of the names of control
  first-none : (f : Sym) (k : ℕ) (x : Text) (ts : Args ℕ) → k < 22 → name_at first_names k ≡ x → f.0 ≡ k → is_some (of_one x) ≡ false
      → is_some (of_two x) ≡ false → is_some (of_three x) ≡ false → IsNotOnTerms t (node f.0 ts)
  first-none f k x ts below e q h i j =
      λ left σ w.
      let us : Args Text = rename_args (name_at t.names) ts in
      let is : name_at t.names f.0 ≡ x = (bytes_eq-Decides (name_at t.names f.0) x).0 (same-text t table begins f.0 k x below e q) in
      ap (λ (y : Text). inspected left (node y us) σ w) is
      ∙ not-inspected left σ w x us (none-named x h i j us)

  named-kind : (f : Sym) (n : ℕ) (ts : Args ℕ) → arity ts ≡ n → IsOfControl t (builtin.Unknown f n) (node f.0 ts)
  named-kind f n ts e = (refl, e)

  kind-as : (g : Term ℕ) (b c : Builtin) → c ≡ b → IsOfControl t b g → IsOfControl t c g
  kind-as g b c e h = subst (λ (x : Builtin). IsOfControl t x g) (sym e) h

  pub atom-kind : (f : Sym) (b : Builtin) (g : Term ℕ) → AtomBuiltin f b → g ≡ node f.0 no_args → IsOfControl t b g
  atom-kind f b g h e =
      let a : Term ℕ = node f.0 no_args in
      subst (IsOfControl t b) (sym e)
      (by_equal f.0 11 (λ q. kind-as a builtin.Halt b (h.halt q) (λ left σ w. refl))
      (λ q. kind-as a (builtin.Unknown f 0) b (h.other q) (refl, refl)))

  pub single-kind : (f : Sym) (b : Builtin) (g : Term ℕ) → SingleBuiltin f b → g ≡ node f.0 (args_of g) → arity (args_of g) ≡ 1
      → IsOfControl t b g
  single-kind f b g h e one =
      let ts : Args ℕ = args_of g in
      let a : Term ℕ = node f.0 ts in
      subst (IsOfControl t b) (sym e)
      (by_equal f.0 7 (λ q. kind-as a (builtin.Run Alone) b (h.call q) (first-none f 7 (codes "call") ts (omega arith) refl q refl refl refl))
      (λ k.
      by_equal f.0 8 (λ q. kind-as a (builtin.Run FirstSolution) b (h.once q)
      (first-none f 8 (codes "once") ts (omega arith) refl q refl refl refl)) (λ l.
      by_equal f.0 9 (λ q. kind-as a (builtin.Run NoSolution) b (h.not q)
      (first-none f 9 (codes "\\+") ts (omega arith) refl q refl refl refl)) (λ m.
      by_equal f.0 10 (λ q. kind-as a builtin.Throw b (h.throw q)
      (first-none f 10 (codes "throw") ts (omega arith) refl q refl refl refl)) (λ n.
      by_equal f.0 11 (λ q. kind-as a builtin.HaltWith b (h.halt q)
      (first-none f 11 (codes "halt") ts (omega arith) refl q refl refl refl)) (λ o.
      kind-as a (builtin.Unknown f 1) b (h.other k l m n o) (named-kind f 1 ts one)))))))

  pub longer-kind : (f : Sym) (n : ℕ) (b : Builtin) (g : Term ℕ) → LongerBuiltin f n b → g ≡ node f.0 (args_of g)
      → arity (args_of g) ≡ n → IsOfControl t b g
  longer-kind f n b g h e count =
      let ts : Args ℕ = args_of g in
      let a : Term ℕ = node f.0 ts in
      let none : IsOfControl t (builtin.Unknown f n) a = named-kind f n ts count in
      subst (IsOfControl t b) (sym e)
      (by_equal f.0 7 (λ q.
      by_order 8 n (λ l. kind-as a (builtin.Unknown f n) b (h.long l) none)
      (λ l. kind-as a (builtin.Run Alone) b (h.call q l) (first-none f 7 (codes "call") ts (omega arith) refl q refl refl refl)))
      (λ p.
      by_equal f.0 12 (λ q.
      by_equal n 3 (λ three. kind-as a builtin.Catch b (h.catch q three)
      (first-none f 12 (codes "catch") ts (omega arith) refl q refl refl refl))
      (λ no. kind-as a (builtin.Unknown f n) b (h.other_catch q no) none))
      (λ q. kind-as a (builtin.Unknown f n) b (h.other p q) none)))

-- a goal that is of no builtin of control, by whether it is one on terms
module _ (t : Stored) (f : Sym) (n : ℕ) (b : Builtin) (g : Term ℕ)
    (yes : is_builtin (name_at t.names f.0) n ≡ true → b ≡ builtin.OnTerms f n)
    (no : is_builtin (name_at t.names f.0) n ≡ false → b ≡ builtin.Unknown f n) (is : IsOfControl t (builtin.Unknown f n) g) where
  abbrev texts : Args Text
  texts = rename_args (name_at t.names) (args_of g)

  count : arity texts ≡ n
  count = arity-rename (name_at t.names) (args_of g) ∙ is.1

  tested : (x : Bool) → is_builtin (name_at t.names f.0) n ≡ x → is_builtin (name_at t.names f.0) (arity texts) ≡ x
  tested x h = ap (is_builtin (name_at t.names f.0)) count ∙ h

  pub other-act : (left : ℕ) (σ : Bindings Text) (w : World)
      → control.act_of_goal left (goal_named t g) σ w ≡ act_of_kind t (builtin.Unknown f n) (goal_named t g) left σ w
      → act_of_goal left (goal_named t g) σ w ≡ act_of_kind t b (goal_named t g) left σ w
  other-act left σ w own =
      let name : Text = name_at t.names f.0 in
      let whole : goal_named t g ≡ node name texts = ap (goal_named t) is.0 in
      by_test (is_builtin name n)
      (λ h. ap (λ (x : Term Text). act_of_goal left x σ w) whole
      ∙ (act-on-terms left σ w name texts (tested true h)
      ∙ (ap (λ (x : Term Text). act_on_terms left x σ w) (sym whole)
      ∙ ap (λ (x : Builtin). act_of_kind t x (goal_named t g) left σ w) (sym (yes h)))))
      (λ h. act-of-control left σ w (goal_named t g)
      (ap (λ (x : Term Text). inspected left x σ w) whole ∙ not-inspected left σ w name texts (tested false h))
      ∙ (own ∙ ap (λ (x : Builtin). act_of_kind t x (goal_named t g) left σ w) (sym (no h))))

  pub other-terms : (h : Sym) (m : ℕ) → b ≡ builtin.OnTerms h m → IsOnTerms t h m g
  other-terms h m e =
      by_test (is_builtin (name_at t.names f.0) n)
      (λ q. let both : builtin.OnTerms f n ≡ builtin.OnTerms h m = sym (yes q) ∙ e in
      let same : f ≡ h = cc in
      let count : n ≡ m = cc in
      subst (λ (x : Sym). IsOnTerms t x m g) same
      (is.0, is.1 ∙ count, ap (is_builtin (name_at t.names f.0)) (sym count) ∙ q))
      (λ q. let none : builtin.Unknown f n ≡ builtin.OnTerms h m = sym (no q) ∙ e in absurd cc)

  pub other-known : (h : Sym) (m : ℕ) → HasNames (length t.names) g → b ≡ builtin.Unknown h m → h.0 < length t.names
  other-known h m names e =
      by_test (is_builtin (name_at t.names f.0) n)
      (λ q. let none : builtin.OnTerms f n ≡ builtin.Unknown h m = sym (yes q) ∙ e in absurd cc)
      (λ q. let same : builtin.Unknown f n ≡ builtin.Unknown h m = sym (no q) ∙ e in
      let one : f ≡ h = cc in
      subst (λ (x : Sym). x.0 < length t.names) one (subst (HasNames (length t.names)) is.0 names).0)

-- one of control has its own act
pub own-act : (t : Stored) (b : Builtin) (g : Term ℕ) → IsOfControl t b g → ((f : Sym) (n : ℕ) → b ≡ builtin.Unknown f n → ⊥)
    → (left : ℕ) (σ : Bindings Text) (w : World)
    → control.act_of_goal left (goal_named t g) σ w ≡ act_of_kind t b (goal_named t g) left σ w
    → act_of_goal left (goal_named t g) σ w ≡ act_of_kind t b (goal_named t g) left σ w
own-act t (builtin.Run r) g h other left σ w e = act-of-control left σ w (goal_named t g) (h left σ w) ∙ e
own-act t builtin.Catch g h other left σ w e = act-of-control left σ w (goal_named t g) (h left σ w) ∙ e
own-act t builtin.Throw g h other left σ w e = act-of-control left σ w (goal_named t g) (h left σ w) ∙ e
own-act t builtin.Halt g h other left σ w e = act-of-control left σ w (goal_named t g) (h left σ w) ∙ e
own-act t builtin.HaltWith g h other left σ w e = act-of-control left σ w (goal_named t g) (h left σ w) ∙ e
own-act t (builtin.OnTerms f m) g h other left σ w e = absurd h
own-act t (builtin.Unknown f n) g h other left σ w e = absurd (other f n refl)
own-act t builtin.NoGoal g h other left σ w e = act-of-control left σ w (goal_named t g) (h left σ w) ∙ e

pub own-terms : (t : Stored) (b : Builtin) (g : Term ℕ) (f : Sym) (n : ℕ) → IsOfControl t b g → b ≡ builtin.OnTerms f n → IsOnTerms t f n g
own-terms t b g f n h e = absurd (subst (λ (x : Builtin). IsOfControl t x g) e h)
