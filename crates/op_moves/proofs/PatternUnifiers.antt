-- Matching a pattern with what has no variable is unification, pair by pair.
use Rattle.std.proofs.Common.{◌≡◌, ℕ, zero, suc, ◌+◌, ◌≤◌, ◌==◌, Bool, true, false, cond, ◌||◌, [], ◌∷◌, Option, Some, None}
use Rattle.std.proofs.Common.{sym, ◌∙◌, ap, refl, arith}
use Rattle.std.specs.Option.{is_some}
use Rattle.op_logic.specs.Term.{Term, var, int, node, Args, no_args, arg, args_of, size, args_size, occurs, occurs_args, replace}
use Rattle.op_logic.specs.Bind.{Bindings, Pairs, apply, lookup, follow, zip_args, clash, goes, meet, reduction, bind_reduction}
use Rattle.op_logic.specs.Bind.{Solved, add_steps, after, solve}
use Rattle.op_logic.specs.Laws.{Acyclic}
use Rattle.op_logic.proofs.BoolCases.{by_test, if_true, if_false}
use Rattle.op_logic.proofs.AppliedBindings.{lookup-here, lookup-there}
use Rattle.op_logic.proofs.FollowedTerms.{follow-int, follow-node, follow-unbound, follow-bound}
use Rattle.op_logic.proofs.Replacement.{replace-absent}
use Rattle.op_logic.proofs.SolvedPairs.{and_left, and_right}
use Rattle.op_term.specs.Variables.{has_no_variable, have_no_variable}
use Rattle.op_trace.specs.Database.{Text, text_eq}
use Rattle.op_trace.specs.World.{Event}
use Rattle.op_moves.specs.EventTerm.{event_term}
use Rattle.op_moves.specs.Pattern.{Matched, Clashes, Goes_on, pairs_more, matched, test_of}
use Rattle.op_moves.specs.Pairs.{head_of, same_head, IsNode, all_matched}
use Rattle.op_moves.specs.Laws.{taken_after, pairs_taken, IsUnification}
use Rattle.op_moves.proofs.MatchedPairs.{node-met, free-met, bound-met, event-closed, taken, taken-more, on-nothing}

-- what has no variable is changed by no bindings
mutual
  occurs-closed : (v : ℕ) (t : Term Text) → has_no_variable t ≡ true → occurs v t ≡ false
  occurs-closed v (var w) h = absurd cc
  occurs-closed v (int i) h = refl
  occurs-closed v (node f ts) h = occurs_args-closed v ts h

  occurs_args-closed : (v : ℕ) (ts : Args Text) → have_no_variable ts ≡ true → occurs_args v ts ≡ false
  occurs_args-closed v no_args h = refl
  occurs_args-closed v (arg t ts) h =
      ap (λ b. b || occurs_args v ts) (occurs-closed v t (and_left (has_no_variable t) (have_no_variable ts) h))
      ∙ occurs_args-closed v ts (and_right (has_no_variable t) (have_no_variable ts) h)

apply-closed : (σ : Bindings Text) (t : Term Text) → has_no_variable t ≡ true → apply σ t ≡ t
apply-closed [] t h = refl
apply-closed (p ∷ σ) t h =
    ap (λ u. replace p.0 (apply σ p.1) u) (apply-closed σ t h) ∙ replace-absent p.0 (apply σ p.1) t (occurs-closed p.0 t h)

follow-closed : (σ : Bindings Text) (t : Term Text) → has_no_variable t ≡ true → follow σ t ≡ t
follow-closed σ (var v) h = absurd cc
follow-closed σ (int i) h = follow-int σ i
follow-closed σ (node f ts) h = follow-node σ f ts

node-closed : (t : Term Text) → has_no_variable t ≡ true → IsNode (head_of t)
node-closed (var v) h = absurd cc
node-closed (int i) h = tt
node-closed (node f ts) h = tt

-- each variable stands for one term, which has no variable
abbrev AreClosed : Bindings Text → Type 0
AreClosed [] = Unit {0}
AreClosed (p ∷ σ) = AreClosed σ × (lookup σ p.0 ≡ None) × (has_no_variable p.1 ≡ true)

closed-acyclic : (σ : Bindings Text) → AreClosed σ → Acyclic σ
closed-acyclic [] h = tt
closed-acyclic (p ∷ σ) h =
    (closed-acyclic σ h.0, h.1, ap (occurs p.0) (apply-closed σ p.1 h.2) ∙ occurs-closed p.0 p.1 h.2)

lookup-closed : (σ : Bindings Text) (v : ℕ) (s : Term Text) → AreClosed σ → lookup σ v ≡ Some s → has_no_variable s ≡ true
lookup-closed [] v s h e = cc
lookup-closed (p ∷ σ) v s h e =
    by_test (p.0 == v)
    (λ q. let i : Some p.1 ≡ Some s = sym (lookup-here p σ v q) ∙ e in
    let j : p.1 ≡ s = cc in sym (ap has_no_variable j) ∙ h.2)
    (λ q. lookup-closed σ v s h.0 (sym (lookup-there p σ v q) ∙ e))

-- pairs whose right sides have no variable, and the nodes of these
abbrev RightsClosed : Pairs Text → Type 0
RightsClosed [] = Unit {0}
RightsClosed (p ∷ ps) = (has_no_variable p.1 ≡ true) × RightsClosed ps

abbrev right_sizes : Pairs Text → ℕ
right_sizes [] = 0
right_sizes (p ∷ ps) = size p.1 + right_sizes ps

zip-closed : (ts us : Args Text) (ps : Pairs Text) → have_no_variable us ≡ true → RightsClosed ps → RightsClosed (zip_args ts us ps)
zip-closed no_args us ps h k = k
zip-closed (arg t ts) no_args ps h k = k
zip-closed (arg t ts) (arg u us) ps h k =
    (and_left (has_no_variable u) (have_no_variable us) h, zip-closed ts us ps (and_right (has_no_variable u) (have_no_variable us) h) k)

zip-sizes : (ts us : Args Text) (ps : Pairs Text) → right_sizes (zip_args ts us ps) ≤ args_size us + right_sizes ps
zip-sizes no_args us ps = omega arith
zip-sizes (arg t ts) no_args ps = omega arith
zip-sizes (arg t ts) (arg u us) ps = omega (arith, zip-sizes ts us ps)

args-closed-of : (t : Term Text) → has_no_variable t ≡ true → have_no_variable (args_of t) ≡ true
args-closed-of (var v) h = absurd cc
args-closed-of (int i) h = refl
args-closed-of (node f ts) h = h

size-args : (t : Term Text) → size t ≡ 1 + args_size (args_of t)
size-args (var v) = refl
size-args (int i) = refl
size-args (node f ts) = omega arith

-- what unification does with a pair
bind-free : (σ : Bindings Text) (v : ℕ) (t : Term Text) (ps : Pairs Text) → has_no_variable t ≡ true
    → bind_reduction v t σ ps ≡ goes ((v, t) ∷ σ) ps (1 + size (apply σ t))
bind-free σ v t ps h =
    if_false (occurs v (apply σ t)) _ _ (ap (occurs v) (apply-closed σ t h) ∙ occurs-closed v t h)

meet-free : (σ : Bindings Text) (v : ℕ) (t : Term Text) (ps : Pairs Text) → has_no_variable t ≡ true
    → meet text_eq (var v) t σ ps ≡ goes ((v, t) ∷ σ) ps (1 + size (apply σ t))
meet-free σ v (var w) ps h = absurd cc
meet-free σ v (int i) ps h = bind-free σ v (int i) ps h
meet-free σ v (node f ts) ps h = bind-free σ v (node f ts) ps h

meet-nodes : (s t : Term Text) (σ : Bindings Text) (ps : Pairs Text) → IsNode (head_of s) → IsNode (head_of t)
    → meet text_eq s t σ ps ≡ cond (same_head (head_of s) (head_of t)) (goes σ (zip_args (args_of s) (args_of t) ps) 1) (clash 1)
meet-nodes (var v) t σ ps h k = absurd h
meet-nodes (int i) (var w) σ ps h k = absurd k
meet-nodes (int i) (int j) σ ps h k = refl
meet-nodes (int i) (node g us) σ ps h k = refl
meet-nodes (node f ts) (var w) σ ps h k = absurd k
meet-nodes (node f ts) (int j) σ ps h k = refl
meet-nodes (node f ts) (node g us) σ ps h k = refl

-- both give the same, and take as many pairs
record Agree (k : ℕ) (σ : Bindings Text) (ps : Pairs Text) : Type 0 where
  pub solved : Solved Text
  pub ends : solve text_eq k σ ps ≡ Some solved
  pub yes : (test_of (all_matched σ ps)).yes ≡ is_some solved.0
  pub cost : taken (all_matched σ ps) ≡ pairs_taken text_eq k σ ps

yes-more : (n : ℕ) (m : Matched) → (test_of (pairs_more n m)).yes ≡ (test_of m).yes
yes-more n (Clashes k) = refl
yes-more n (Goes_on σ k) = refl

agree-goes : (k : ℕ) (σ τ : Bindings Text) (s t : Term Text) (ps qs : Pairs Text) (c : ℕ) → reduction text_eq σ s t ps ≡ goes τ qs c
    → all_matched σ ((s, t) ∷ ps) ≡ pairs_more 1 (all_matched τ qs) → Agree k τ qs → Agree (suc k) σ ((s, t) ∷ ps)
agree-goes k σ τ s t ps qs c e m a = record {
  solved = (a.solved.0, c + a.solved.1);
  ends = ap (λ r. after r (λ υ rs. solve text_eq k υ rs)) e ∙ ap (add_steps c) a.ends;
  yes = ap (λ x. (test_of x).yes) m ∙ (yes-more 1 (all_matched τ qs) ∙ a.yes);
  cost = ap taken m ∙ (taken-more 1 (all_matched τ qs) ∙ (ap (λ (n : ℕ). 1 + n) a.cost
      ∙ sym (ap (λ r. 1 + taken_after r (λ υ rs. pairs_taken text_eq k υ rs)) e)));
}

agree-clashes : (k : ℕ) (σ : Bindings Text) (s t : Term Text) (ps : Pairs Text) (c : ℕ) → reduction text_eq σ s t ps ≡ clash c
    → all_matched σ ((s, t) ∷ ps) ≡ Clashes 1 → Agree (suc k) σ ((s, t) ∷ ps)
agree-clashes k σ s t ps c e m = record {
  solved = (None, c);
  ends = ap (λ r. after r (λ υ rs. solve text_eq k υ rs)) e;
  yes = ap (λ x. (test_of x).yes) m;
  cost = ap taken m ∙ sym (ap (λ r. 1 + taken_after r (λ υ rs. pairs_taken text_eq k υ rs)) e);
}

abbrev Enough : ℕ → Type 0
Enough k = (σ : Bindings Text) (ps : Pairs Text) → AreClosed σ → RightsClosed ps → right_sizes ps ≤ k → Agree k σ ps

-- a pair whose left side leads to q, which is no variable
agree-node : (k : ℕ) → Enough k → (σ : Bindings Text) (s q t : Term Text) (ps : Pairs Text) → AreClosed σ → has_no_variable t ≡ true
    → RightsClosed ps → size t + right_sizes ps ≤ suc k → IsNode (head_of q) → follow σ s ≡ q
    → all_matched σ ((s, t) ∷ ps) ≡ all_matched σ ((q, t) ∷ ps) → Agree (suc k) σ ((s, t) ∷ ps)
agree-node k rest σ s q t ps a h r l n e m =
    let zs : Pairs Text = zip_args (args_of q) (args_of t) ps in
    let b : Bool = same_head (head_of q) (head_of t) in
    let w = m ∙ node-met σ q t ps n in
    let red : reduction text_eq σ s t ps ≡ cond b (goes σ zs 1) (clash 1) =
    ap (λ x. meet text_eq x (follow σ t) σ ps) e ∙ (ap (λ y. meet text_eq q y σ ps) (follow-closed σ t h)
    ∙ meet-nodes q t σ ps n (node-closed t h)) in
    by_test b
    (λ d. agree-goes k σ σ s t ps zs 1 (red ∙ if_true b (goes σ zs 1) (clash 1) d) (w ∙ if_true b _ _ d)
    (rest σ zs a (zip-closed (args_of q) (args_of t) ps (args-closed-of t h) r)
    (omega (arith, l, size-args t, zip-sizes (args_of q) (args_of t) ps))))
    (λ d. agree-clashes k σ s t ps 1 (red ∙ if_false b (goes σ zs 1) (clash 1) d) (w ∙ if_false b _ _ d))

agree-free : (k : ℕ) → Enough k → (σ : Bindings Text) (v : ℕ) (t : Term Text) (ps : Pairs Text) → AreClosed σ → has_no_variable t ≡ true
    → RightsClosed ps → size t + right_sizes ps ≤ suc k → lookup σ v ≡ None → Agree (suc k) σ ((var v, t) ∷ ps)
agree-free k rest σ v t ps a h r l e =
    let red : reduction text_eq σ (var v) t ps ≡ goes ((v, t) ∷ σ) ps (1 + size (apply σ t)) =
    ap (λ x. meet text_eq x (follow σ t) σ ps) (follow-unbound σ v e) ∙ (ap (λ y. meet text_eq (var v) y σ ps) (follow-closed σ t h)
    ∙ meet-free σ v t ps h) in
    agree-goes k σ ((v, t) ∷ σ) (var v) t ps ps (1 + size (apply σ t)) red (free-met σ v t ps e)
    (rest ((v, t) ∷ σ) ps (a, e, h) r (omega (arith, l, size-args t)))

agree-variable : (k : ℕ) → Enough k → (σ : Bindings Text) (v : ℕ) (o : Option (Term Text)) (t : Term Text) (ps : Pairs Text) → AreClosed σ
    → has_no_variable t ≡ true → RightsClosed ps → size t + right_sizes ps ≤ suc k → lookup σ v ≡ o → Agree (suc k) σ ((var v, t) ∷ ps)
agree-variable k rest σ v None t ps a h r l e = agree-free k rest σ v t ps a h r l e
agree-variable k rest σ v (Some q) t ps a h r l e =
    let c = lookup-closed σ v q a e in
    agree-node k rest σ (var v) q t ps a h r l (node-closed q c)
    (follow-bound σ v q (closed-acyclic σ a) e ∙ follow-closed σ q c) (bound-met σ v q t ps e c)

agree-first : (k : ℕ) → Enough k → (σ : Bindings Text) (s t : Term Text) (ps : Pairs Text) → AreClosed σ → has_no_variable t ≡ true
    → RightsClosed ps → size t + right_sizes ps ≤ suc k → Agree (suc k) σ ((s, t) ∷ ps)
agree-first k rest σ (var v) t ps a h r l = agree-variable k rest σ v (lookup σ v) t ps a h r l refl
agree-first k rest σ (int i) t ps a h r l = agree-node k rest σ (int i) (int i) t ps a h r l tt (follow-int σ i) refl
agree-first k rest σ (node f ts) t ps a h r l = agree-node k rest σ (node f ts) (node f ts) t ps a h r l tt (follow-node σ f ts) refl

agree : (k : ℕ) → Enough k
agree k σ [] a r l = record { solved = (Some σ, 0); ends = refl; yes = refl; cost = refl }
agree zero σ (p ∷ ps) a r l = absurd (omega (arith, l, size-args p.1))
agree (suc k) σ (p ∷ ps) a r l = agree-first k (agree k) σ p.0 p.1 ps a r.0 r.1 l

pub tested-unifies : (p : Term Text) (e : Event) → IsUnification p e
tested-unifies p e =
    let t = event_term e in
    let n : size t + 0 ≤ size t = omega arith in
    let a = agree (size t) [] ((p, t) ∷ []) tt (event-closed e, tt) n in
    let m : all_matched [] ((p, t) ∷ []) ≡ matched [] p t = on-nothing (matched [] p t) in
    record {
      enough = size t;
      solved = a.solved;
      ends = a.ends;
      yes = sym (ap (λ x. (test_of x).yes) m) ∙ a.yes;
      cost = sym (ap taken m) ∙ a.cost;
    }
