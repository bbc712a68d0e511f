-- The acts of the builtins on terms keep the rules of acts, and look at no more of the world than how many variables were given out.
use Rattle.std.proofs.Common.{◌≡◌, ℕ, ℤ, zero, suc, ◌+◌, ◌-◌, ◌<◌, ◌≤◌, nat_le, nat_lt, pos, Bool, true, false, []}
use Rattle.std.proofs.Common.{◌∷◌, Option}
use Rattle.std.proofs.Common.{Some, None, option_map, Ok, Err, length, codes, refl, sym, ap, ◌∙◌, subst, arith, if◌then◌else◌}
use Rattle.std.proofs.lemmas.Bool.Decides.{nat_tests}
use Rattle.std.specs.Ordering.{int_cmp}
use Rattle.std.specs.declared.cmp.Ordering.{Ordering}
use Rattle.op_logic.specs.Term.{Term, var, int, node, Args, no_args, arg, args_of, arity, atom, size, nth_arg}
use Rattle.op_logic.specs.Bind.{Bindings, Pairs, Solved, apply, follow, solve, within, unify}
use Rattle.op_logic.proofs.BoolCases.{by_order}
use Rattle.op_logic.proofs.StepCounts.{unify-solved, unify-spent}
use Rattle.op_term.specs.Order.{standard_order, pairs_compared}
use Rattle.op_term.specs.Variables.{has_no_variable}
use Rattle.op_trace.specs.Database.{Text, text_eq}
use Rattle.op_trace.specs.World.{World}
use Rattle.op_trace.specs.Act.{Yield, Fails, Succeeds, Throws, Act, done, pay, paid}
use Rattle.op_trace.specs.Copy.{variables_of, copied}
use Rattle.op_trace.specs.Builtins.{throw, instantiation_error, type_error}
use Rattle.op_inspect.specs.Answering.{decided, refused_by, by_unifier, succeeds_with, succeeds_without, unify_pairs, unify_terms}
use Rattle.op_inspect.specs.Arithmetic.{Evaluated, evaluated}
use Rattle.op_inspect.specs.TypeTests.{passes}
use Rattle.op_inspect.specs.Comparison.{compared, holds, text_of_order, compare_error, order_told}
use Rattle.op_inspect.specs.Construction.{with_arguments, variables_from, made_functor, functor_error, count_in, name_of}
use Rattle.op_inspect.specs.Construction.{functor_by, arg_error, arg_found, parts_of, head_error}
use Rattle.op_inspect.specs.Construction.{term_made, univ_listed, univ_taken, univ_by}
use Rattle.op_inspect.specs.Copies.{copy_act, variables_as, no_list_error, variables_listed, variables_act}
use Rattle.op_inspect.specs.Errors.{domain_error, error_of_cause}
use Rattle.op_inspect.specs.Evaluation.{valued, evaluating, compared_with}
use Rattle.op_inspect.specs.Inspected.{act_of_one, act_of_two, act_of_three, of_one, of_two, of_three, inspected, act_if_any, act_on_terms}
use Rattle.op_inspect.specs.Lists.{Listed, Elements, Partial, No_list, list_of, listed}
use Rattle.op_inspect.specs.declared.builtin.OfOne.{OfOne}
use Rattle.op_inspect.specs.declared.builtin.OfOne.TheVariants as one
use Rattle.op_inspect.specs.declared.builtin.OfTwo.{OfTwo}
use Rattle.op_inspect.specs.declared.builtin.OfTwo.TheVariants as two
use Rattle.op_inspect.specs.declared.builtin.OfThree.{OfThree}
use Rattle.op_inspect.specs.declared.builtin.OfThree.TheVariants as three
use Rattle.op_inspect.specs.ActRules.{OnlyBinds, IsSameAct, KeepsActRules, OnlyGivesOut}
use Rattle.op_inspect.proofs.FoundBindings.{Finds, Solves, extends-self, unify-solves}

-- an act of another world that has given out as many variables, in this world
abbrev pub in_world : World → Act → Act
in_world w a = record {
  cost = a.cost;
  after = record w { variables = a.after.variables };
  interrupted = record w { variables = a.interrupted.variables };
  yield = a.yield;
}

-- no number of a variable is given back
abbrev pub GivesMore : World → Act → Type 0
GivesMore w a = (w.variables ≤ a.after.variables) × (w.variables ≤ a.interrupted.variables)

-- what is done with so many steps left in a world: where it is interrupted, the world is as it was
pub record IsTermAct (σ : Bindings Text) (a : ℕ → World → Act) : Type 0 where
  pub binds : (left : ℕ) (w : World) → OnlyBinds σ (a left w).yield
  pub same : (m n : ℕ) (w : World) → (a m w).cost ≤ m → (a m w).cost ≤ n → IsSameAct (a m w) (a n w)
  pub world : (left : ℕ) (w u : World) → w.variables ≡ u.variables → a left w ≡ in_world w (a left u)
  pub still : (left : ℕ) (w : World) → left < (a left w).cost → (a left w).interrupted ≡ w
  pub more : (left : ℕ) (w : World) → GivesMore w (a left w)

-- nothing is paid, and variables may be given out
given-act : (σ : Bindings Text) (f : ℕ → ℕ) (y : ℕ → Yield) → ((n : ℕ) → OnlyBinds σ (y n)) → ((n : ℕ) → n ≤ f n)
    → IsTermAct σ (λ left w. done (record w { variables = f w.variables }) (y w.variables))
given-act σ f y h g = record {
  binds = λ left w. h w.variables;
  same = λ m n w before after. record { cost = refl; after = refl; yield = refl };
  world = λ left w u e.
      ap (λ (n : ℕ). done (record w { variables = f n }) (y n)) e;
  still = λ left w short. absurd (omega (arith, short));
  more = λ left w. (g w.variables, g w.variables);
}

done-act : (σ : Bindings Text) (y : Yield) → OnlyBinds σ y → IsTermAct σ (λ left w. done w y)
done-act σ y h = given-act σ (λ n. n) (λ n. y) (λ n. h) (λ n. omega arith)

module _ (σ : Bindings Text) (k : ℕ) (rest : ℕ → World → Act) (r : IsTermAct σ rest) where
  abbrev paying : Bool → ℕ → World → Act
  paying t left w = paid t k left w (λ l. rest l w)

  pay-binds : (left : ℕ) (w : World) (t : Bool) → OnlyBinds σ (paying t left w).yield
  pay-binds left w true = r.binds (left - k) w
  pay-binds left w false = tt

  pay-same : (m n : ℕ) (w : World) (s t : Bool) → nat_le k m ≡ s → nat_le k n ≡ t → (paying s m w).cost ≤ m → (paying s m w).cost ≤ n
      → IsSameAct (paying s m w) (paying t n w)
  pay-same m n w true true e f before after =
      let fits : k ≤ m = grind (arith, nat_tests) in
      let i = r.same (m - k) (n - k) w (omega (arith, before, fits)) (omega (arith, after)) in
      record { cost = ap (λ (c : ℕ). k + c) i.cost; after = i.after; yield = i.yield }
  pay-same m n w true false e f before after = let short : n < k = grind (arith, nat_tests) in absurd (omega (arith, after, short))
  pay-same m n w false t e f before after = absurd (omega (arith, before))

  pay-world : (left : ℕ) (w u : World) (t : Bool) → w.variables ≡ u.variables → paying t left w ≡ in_world w (paying t left u)
  pay-world left w u true e = ap (λ (a : Act). record a { cost = k + a.cost }) (r.world (left - k) w u e)
  pay-world left w u false e =
      ap (λ (n : ℕ). record { cost = suc left; after = record w { variables = n }; interrupted = record w { variables = n }; yield = Fails })
      e

  pay-still : (left : ℕ) (w : World) (t : Bool) → nat_le k left ≡ t → left < (paying t left w).cost → (paying t left w).interrupted ≡ w
  pay-still left w true e short =
      let fits : k ≤ left = grind (arith, nat_tests) in
      r.still (left - k) w (omega (arith, short, fits))
  pay-still left w false e short = refl

  pay-more : (left : ℕ) (w : World) (t : Bool) → GivesMore w (paying t left w)
  pay-more left w true = r.more (left - k) w
  pay-more left w false = (omega arith, omega arith)

  pub pay-act : IsTermAct σ (λ left w. pay k left w (λ l. rest l w))
  pay-act = record {
    binds = λ left w. pay-binds left w (nat_le k left);
    same = λ m n w before after. pay-same m n w (nat_le k m) (nat_le k n) refl refl before after;
    world = λ left w u e. pay-world left w u (nat_le k left) e;
    still = λ left w short. pay-still left w (nat_le k left) refl short;
    more = λ left w. pay-more left w (nat_le k left);
  }

throw-act : (σ : Bindings Text) (t : Term Text) → IsTermAct σ (λ left w. throw left σ t w)
throw-act σ t =
    let b : Term Text = apply σ t in
    let more : ℕ = length (variables_of b) in
    pay-act σ (size b) (λ l w. done (record w { variables = w.variables + more }) (Throws (copied w.variables b)))
    (given-act σ (λ n. n + more) (λ n. Throws (copied n b)) (λ n. tt) (λ n. omega arith))

refused-act : (σ : Bindings Text) (o : Option (Term Text)) (rest : ℕ → World → Act) → IsTermAct σ rest
    → IsTermAct σ (λ left w. refused_by o left σ w (rest left w))
refused-act σ None rest r = r
refused-act σ (Some ball) rest r = throw-act σ ball

-- a unification of pairs that may have new variables
module _ (σ : Bindings Text) (ps : ℕ → Pairs Text) (f : ℕ → ℕ) (y : Option (Bindings Text) → Yield)
    (h : (o : Option (Bindings Text)) → Finds σ o → OnlyBinds σ (y o)) (g : (n : ℕ) → n ≤ f n) where
  abbrev found : ℕ → ℕ → Option (Solved Text)
  found left v = unify text_eq left σ (ps v)

  abbrev decided_by : Option (Solved Text) → ℕ → World → ℕ → Act
  decided_by o left w v = by_unifier o left w (record w { variables = v }) y

  unifier-binds : (o : Option (Solved Text)) (left : ℕ) (w : World) (v : ℕ) → Solves σ o → OnlyBinds σ (decided_by o left w v).yield
  unifier-binds None left w v s = tt
  unifier-binds (Some r) left w v s = h r.0 s

  unifier-world : (o : Option (Solved Text)) (left v : ℕ) (w u : World) → w.variables ≡ u.variables
      → decided_by o left w v ≡ in_world w (decided_by o left u v)
  unifier-world None left v w u e =
      ap (λ (n : ℕ). record {
        cost = suc left;
        after = record w { variables = v };
        interrupted = record w { variables = n };
        yield = Fails;
      }) e
  unifier-world (Some r) left v w u e =
      ap (λ (n : ℕ). record {
        cost = left - r.1;
        after = record w { variables = v };
        interrupted = record w { variables = n };
        yield = y r.0;
      }) e

  unifier-still : (o : Option (Solved Text)) (left v : ℕ) (w : World) → left < (decided_by o left w v).cost
      → (decided_by o left w v).interrupted ≡ w
  unifier-still None left v w short = refl
  unifier-still (Some r) left v w short = refl

  unifier-more : (o : Option (Solved Text)) (left v : ℕ) (w : World) → w.variables ≤ v → GivesMore w (decided_by o left w v)
  unifier-more None left v w k = (k, omega arith)
  unifier-more (Some r) left v w k = (k, omega arith)

  unifier-same : (m n x : ℕ) (w : World) (o : Option (Solved Text)) → solve text_eq m σ (ps x) ≡ o
      → (decided_by (found m x) m w (f x)).cost ≤ m → (decided_by (found m x) m w (f x)).cost ≤ n
      → IsSameAct (decided_by (found m x) m w (f x)) (decided_by (found n x) n w (f x))
  unifier-same m n x w None e before after =
      let none : found m x ≡ None = ap (λ (q : Option (Solved Text)). within m q) e in
      let over : suc m ≤ m = subst (λ (q : Option (Solved Text)). (decided_by q m w (f x)).cost ≤ m) none before in
      absurd (omega (arith, over))
  unifier-same m n x w (Some r) e before after =
      by_order m r.1
      (λ short.
      let none : found m x ≡ None = unify-spent text_eq m m σ (ps x) r e short in
      let over : suc m ≤ m = subst (λ (q : Option (Solved Text)). (decided_by q m w (f x)).cost ≤ m) none before in
      absurd (omega (arith, over)))
      (λ fits.
      let here : found m x ≡ Some (r.0, m - r.1) = unify-solved text_eq m m σ (ps x) r e fits in
      let cost : m - (m - r.1) ≤ n = subst (λ (q : Option (Solved Text)). (decided_by q m w (f x)).cost ≤ n) here after in
      let there : found n x ≡ Some (r.0, n - r.1) = unify-solved text_eq m n σ (ps x) r e (omega (arith, cost, fits)) in
      subst (λ (q : Option (Solved Text)). IsSameAct (decided_by q m w (f x)) (decided_by (found n x) n w (f x))) (sym here)
      (subst (λ (q : Option (Solved Text)). IsSameAct (decided_by (Some (r.0, m - r.1)) m w (f x)) (decided_by q n w (f x))) (sym there)
      (record { cost = omega (arith, cost, fits); after = refl; yield = refl })))

  pub unifier-act : IsTermAct σ (λ left w. decided_by (found left w.variables) left w (f w.variables))
  unifier-act = record {
    binds = λ left w. unifier-binds (found left w.variables) left w (f w.variables) (unify-solves left σ (ps w.variables));
    same = λ m n w before after. unifier-same m n w.variables w (solve text_eq m σ (ps w.variables)) refl before after;
    world = λ left w u e.
        ap (λ (v : ℕ). decided_by (found left v) left w (f v)) e
        ∙ unifier-world (found left u.variables) left (f u.variables) w u e;
    still = λ left w short. unifier-still (found left w.variables) left (f w.variables) w short;
    more = λ left w. unifier-more (found left w.variables) left (f w.variables) w (g w.variables);
  }

with-binds : (σ : Bindings Text) (o : Option (Bindings Text)) → Finds σ o → OnlyBinds σ (succeeds_with o)
with-binds σ None h = tt
with-binds σ (Some τ) h = h

without-binds : (σ : Bindings Text) (o : Option (Bindings Text)) → Finds σ o → OnlyBinds σ (succeeds_without σ o)
without-binds σ None h = extends-self σ
without-binds σ (Some τ) h = tt

pairs-act : (σ : Bindings Text) (ps : Pairs Text) → IsTermAct σ (λ left w. unify_pairs ps left σ w w)
pairs-act σ ps = unifier-act σ (λ v. ps) (λ n. n) succeeds_with (with-binds σ) (λ n. omega arith)

terms-act : (σ : Bindings Text) (t u : Term Text) → IsTermAct σ (λ left w. unify_terms t u left σ w w)
terms-act σ t u = pairs-act σ ((t, u) ∷ [])

decided-act : (σ : Bindings Text) (b : Bool) → IsTermAct σ (λ left w. decided b σ w)
decided-act σ true = done-act σ (Succeeds σ) (extends-self σ)
decided-act σ false = done-act σ Fails tt

valued-act : (σ : Bindings Text) (q : Evaluated) (rest : ℤ → ℕ → World → Act) → ((x : ℤ) → IsTermAct σ (rest x))
    → IsTermAct σ (λ left w. valued q left σ w (λ x l. rest x l w))
valued-act σ (Ok x, n) rest h = pay-act σ n (rest x) (h x)
valued-act σ (Err c, n) rest h = pay-act σ n (λ l w. throw l σ (error_of_cause c) w) (throw-act σ (error_of_cause c))

evaluating-act : (σ : Bindings Text) (t : Term Text) (rest : ℤ → ℕ → World → Act) → ((x : ℤ) → IsTermAct σ (rest x))
    → IsTermAct σ (λ left w. evaluating t left σ w (λ x l. rest x l w))
evaluating-act σ t rest h = valued-act σ (evaluated (apply σ t)) rest h

comparing-act : (σ : Bindings Text) (t u : Term Text) (rest : Ordering → ℕ → World → Act) → ((o : Ordering) → IsTermAct σ (rest o))
    → IsTermAct σ (λ left w. compared t u left σ w (λ o l. rest o l w))
comparing-act σ t u rest h =
    let a : Term Text = apply σ t in
    let b : Term Text = apply σ u in
    pay-act σ (pairs_compared a b) (rest (standard_order a b)) (h (standard_order a b))

-- functor/3
functor_made-act : (σ : Bindings Text) (t f : Term Text) (n : ℕ) → IsTermAct σ (λ left w. made_functor t f n left σ w)
functor_made-act σ t f n =
    pay-act σ n
    (λ l w. unify_terms t (with_arguments f (variables_from w.variables n)) l σ w (record w { variables = w.variables + n }))
    (unifier-act σ (λ v. (t, with_arguments f (variables_from v n)) ∷ []) (λ v. v + n) succeeds_with (with-binds σ) (λ v. omega arith))

functor-act : (σ : Bindings Text) (g t f n : Term Text) → IsTermAct σ (λ left w. functor_by g f n left σ w)
functor-act σ (var v) t f n =
    refused-act σ (functor_error (follow σ f) (follow σ n)) (λ left w. made_functor (var v) (follow σ f) (count_in (follow σ n)) left σ w)
    (functor_made-act σ (var v) (follow σ f) (count_in (follow σ n)))
functor-act σ (int i) t f n = pairs-act σ ((f, name_of (int i)) ∷ (n, int (pos (arity {N = Text} (args_of (int i))))) ∷ [])
functor-act σ (node g us) t f n = pairs-act σ ((f, name_of (node g us)) ∷ (n, int (pos (arity (args_of (node g us))))) ∷ [])

-- arg/3
arg_there-act : (σ : Bindings Text) (b : Bool) (t a : Term Text)
    → IsTermAct σ (λ left w. if b then unify_terms a t left σ w w else done w Fails)
arg_there-act σ true t a = terms-act σ a t
arg_there-act σ false t a = done-act σ Fails tt

arg_found-act : (σ : Bindings Text) (n : ℕ) (ts : Args Text) (a : Term Text) → IsTermAct σ (λ left w. arg_found n ts a left σ w)
arg_found-act σ zero ts a = done-act σ Fails tt
arg_found-act σ (suc i) ts a = arg_there-act σ (nat_lt i (arity ts)) (nth_arg ts i) a

-- `=..`
term_made-act : (σ : Bindings Text) (t f : Term Text) (ts : Args Text) → IsTermAct σ (λ left w. term_made t f ts left σ w)
term_made-act σ t f ts =
    pay-act σ (arity ts) (λ l w. unify_terms t (with_arguments f ts) l σ w w) (terms-act σ t (with_arguments f ts))

univ_listed-act : (σ : Bindings Text) (x : Listed) (t l : Term Text) → IsTermAct σ (λ left w. univ_listed x t l left σ w)
univ_listed-act σ Partial t l = throw-act σ instantiation_error
univ_listed-act σ No_list t l = throw-act σ (type_error (codes "list") l)
univ_listed-act σ (Elements no_args) t l = throw-act σ (domain_error (codes "non_empty_list") l)
univ_listed-act σ (Elements (arg h ts)) t l =
    refused-act σ (head_error (follow σ h) ts) (λ left w. term_made t (follow σ h) ts left σ w) (term_made-act σ t (follow σ h) ts)

univ_taken-act : (σ : Bindings Text) (t l : Term Text) → IsTermAct σ (λ left w. univ_taken t l left σ w)
univ_taken-act σ t l =
    pay-act σ (arity (args_of t)) (λ k w. unify_terms l (list_of (parts_of t)) k σ w w) (terms-act σ l (list_of (parts_of t)))

univ-act : (σ : Bindings Text) (t l : Term Text) → IsTermAct σ (λ left w. univ_by t l left σ w)
univ-act σ (var v) l = univ_listed-act σ (listed σ l) (var v) l
univ-act σ (int i) l = univ_taken-act σ (int i) l
univ-act σ (node f ts) l = univ_taken-act σ (node f ts) l

-- copies
copy-act : (σ : Bindings Text) (t u : Term Text) → IsTermAct σ (λ left w. copy_act t u left σ w)
copy-act σ t u =
    let b : Term Text = apply σ t in
    let more : ℕ = length (variables_of b) in
    pay-act σ (size b) (λ l w. unify_terms u (copied w.variables b) l σ w (record w { variables = w.variables + more }))
    (unifier-act σ (λ v. (u, copied v b) ∷ []) (λ v. v + more) succeeds_with (with-binds σ) (λ v. omega arith))

variables-act : (σ : Bindings Text) (t l : Term Text) → IsTermAct σ (λ left w. variables_act t l left σ w)
variables-act σ t l =
    let b : Term Text = apply σ t in
    refused-act σ (no_list_error (listed σ l) l) (λ left w. variables_listed t l left σ w)
    (pay-act σ (size b) (λ k w. unify_terms l (list_of (variables_as (variables_of b))) k σ w w)
    (terms-act σ l (list_of (variables_as (variables_of b)))))

-- each builtin
one-act : (σ : Bindings Text) (k : OfOne) (a : Term Text) → IsTermAct σ (λ left w. act_of_one k a left σ w)
one-act σ (one.Test test) a = decided-act σ (passes test (follow σ a))
one-act σ one.Ground a =
    let b : Term Text = apply σ a in
    pay-act σ (size b) (λ l w. decided (has_no_variable b) σ w) (decided-act σ (has_no_variable b))

two-act : (σ : Bindings Text) (k : OfTwo) (a b : Term Text) → IsTermAct σ (λ left w. act_of_two k a b left σ w)
two-act σ two.Equal a b = terms-act σ a b
two-act σ two.Different a b = unifier-act σ (λ v. (a, b) ∷ []) (λ n. n) (succeeds_without σ) (without-binds σ) (λ n. omega arith)
two-act σ (two.Order r) a b = comparing-act σ a b (λ o l w. decided (holds r o) σ w) (λ o. decided-act σ (holds r o))
two-act σ (two.Values r) a b =
    evaluating-act σ a (λ x l w. compared_with r x b l σ w)
    (λ x. evaluating-act σ b (λ y l w. decided (holds r (int_cmp x y)) σ w) (λ y. decided-act σ (holds r (int_cmp x y))))
two-act σ two.Is a b = evaluating-act σ b (λ x l w. unify_terms a (int x) l σ w w) (λ x. terms-act σ a (int x))
two-act σ two.Univ a b = univ-act σ (follow σ a) b
two-act σ two.Copy a b = copy-act σ a b
two-act σ two.Variables a b = variables-act σ a b

three-act : (σ : Bindings Text) (k : OfThree) (a b c : Term Text) → IsTermAct σ (λ left w. act_of_three k a b c left σ w)
three-act σ three.Functor a b c = functor-act σ (follow σ a) a b c
three-act σ three.Arg a b c =
    refused-act σ (arg_error (follow σ a) (follow σ b)) (λ left w. arg_found (count_in (follow σ a)) (args_of (follow σ b)) c left σ w)
    (arg_found-act σ (count_in (follow σ a)) (args_of (follow σ b)) c)
three-act σ three.Compare a b c =
    refused-act σ (compare_error (follow σ a)) (λ left w. order_told a b c left σ w)
    (comparing-act σ b c (λ r l w. unify_terms a (atom (text_of_order r)) l σ w w) (λ r. terms-act σ a (atom (text_of_order r))))

-- acts that are the same everywhere
act-along : (σ : Bindings Text) (a b : ℕ → World → Act) → ((left : ℕ) (w : World) → b left w ≡ a left w) → IsTermAct σ a → IsTermAct σ b
act-along σ a b e h = record {
  binds = λ left w. subst (λ (x : Act). OnlyBinds σ x.yield) (sym (e left w)) (h.binds left w);
  same = λ m n w before after.
      subst (λ (x : Act). IsSameAct x (b n w)) (sym (e m w))
      (subst (λ (x : Act). IsSameAct (a m w) x) (sym (e n w))
      (h.same m n w (subst (λ (x : Act). x.cost ≤ m) (e m w) before) (subst (λ (x : Act). x.cost ≤ n) (e m w) after)));
  world = λ left w u q. e left w ∙ (h.world left w u q ∙ ap (in_world w) (sym (e left u)));
  still = λ left w short.
      subst (λ (x : Act). x.interrupted ≡ w) (sym (e left w))
      (h.still left w (subst (λ (x : Act). left < x.cost) (e left w) short));
  more = λ left w. subst (GivesMore w) (sym (e left w)) (h.more left w);
}

-- either there is no act with any number of steps, or these are the acts
pub data Inspects (σ : Bindings Text) (g : Term Text) : Type 0 where
  nothing : ((left : ℕ) (w : World) → inspected left g σ w ≡ None) → Inspects σ g
  something : ((left : ℕ) (w : World) → inspected left g σ w ≡ Some (act_on_terms left g σ w))
      → IsTermAct σ (λ left w. act_on_terms left g σ w) → Inspects σ g

found-act : (σ : Bindings Text) (g : Term Text) (act : ℕ → World → Act)
    → ((left : ℕ) (w : World) → inspected left g σ w ≡ Some (act left w)) → IsTermAct σ act → Inspects σ g
found-act σ g act is h =
    something (λ left w. is left w ∙ ap (λ (o : Option Act). Some (act_if_any w o)) (sym (is left w)))
    (act-along σ act (λ left w. act_on_terms left g σ w) (λ left w. ap (act_if_any w) (is left w)) h)

by-one : (σ : Bindings Text) (f : Text) (a : Term Text) (o : Option OfOne) → of_one f ≡ o → Inspects σ (node f (arg a no_args))
by-one σ f a None e = nothing (λ left w. ap (option_map (λ k. act_of_one k a left σ w)) e)
by-one σ f a (Some k) e =
    found-act σ (node f (arg a no_args)) (λ left w. act_of_one k a left σ w) (λ left w. ap (option_map (λ j. act_of_one j a left σ w)) e)
    (one-act σ k a)

by-two : (σ : Bindings Text) (f : Text) (a b : Term Text) (o : Option OfTwo) → of_two f ≡ o
    → Inspects σ (node f (arg a (arg b no_args)))
by-two σ f a b None e = nothing (λ left w. ap (option_map (λ k. act_of_two k a b left σ w)) e)
by-two σ f a b (Some k) e =
    found-act σ (node f (arg a (arg b no_args))) (λ left w. act_of_two k a b left σ w)
    (λ left w. ap (option_map (λ j. act_of_two j a b left σ w)) e) (two-act σ k a b)

by-three : (σ : Bindings Text) (f : Text) (a b c : Term Text) (o : Option OfThree) → of_three f ≡ o
    → Inspects σ (node f (arg a (arg b (arg c no_args))))
by-three σ f a b c None e = nothing (λ left w. ap (option_map (λ k. act_of_three k a b c left σ w)) e)
by-three σ f a b c (Some k) e =
    found-act σ (node f (arg a (arg b (arg c no_args)))) (λ left w. act_of_three k a b c left σ w)
    (λ left w. ap (option_map (λ j. act_of_three j a b c left σ w)) e) (three-act σ k a b c)

pub inspects : (σ : Bindings Text) (g : Term Text) → Inspects σ g
inspects σ (var v) = nothing (λ left w. refl)
inspects σ (int i) = nothing (λ left w. refl)
inspects σ (node f no_args) = nothing (λ left w. refl)
inspects σ (node f (arg a no_args)) = by-one σ f a (of_one f) refl
inspects σ (node f (arg a (arg b no_args))) = by-two σ f a b (of_two f) refl
inspects σ (node f (arg a (arg b (arg c no_args)))) = by-three σ f a b c (of_three f) refl
inspects σ (node f (arg a (arg b (arg c (arg d us))))) = nothing (λ left w. refl)

-- the act of a goal that is none of them is that it fails
fails-act : (σ : Bindings Text) (g : Term Text) → Inspects σ g → IsTermAct σ (λ left w. act_on_terms left g σ w)
fails-act σ g (nothing e) =
    act-along σ (λ left w. done w Fails) (λ left w. act_on_terms left g σ w) (λ left w. ap (act_if_any w) (e left w))
    (done-act σ Fails tt)
fails-act σ g (something e h) = h

pub on-terms : (σ : Bindings Text) (g : Term Text) → IsTermAct σ (λ left w. act_on_terms left g σ w)
on-terms σ g = fails-act σ g (inspects σ g)

-- the rules of acts, and what of the world changes
pub rules-kept : KeepsActRules (λ left t g σ w. act_on_terms left g σ w)
rules-kept = record {
  binds = λ left t g σ w. (on-terms σ g).binds left w;
  same = λ m n t g σ w before after. (on-terms σ g).same m n w before after;
}

module _ (left : ℕ) (g : Term Text) (σ : Bindings Text) (w : World) where
  pub act-within : act_on_terms left g σ w ≡ in_world w (act_on_terms left g σ w)
  act-within = (on-terms σ g).world left w w refl

  pub gives-after : OnlyGivesOut w (act_on_terms left g σ w).after
  gives-after = record { world = ap (λ (a : Act). a.after) act-within; more = ((on-terms σ g).more left w).0 }

  pub gives-interrupted : OnlyGivesOut w (act_on_terms left g σ w).interrupted
  gives-interrupted = record { world = ap (λ (a : Act). a.interrupted) act-within; more = ((on-terms σ g).more left w).1 }

  pub still-interrupted : left < (act_on_terms left g σ w).cost → (act_on_terms left g σ w).interrupted ≡ w
  still-interrupted short = (on-terms σ g).still left w short
