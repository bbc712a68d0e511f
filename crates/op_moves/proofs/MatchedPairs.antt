-- A pattern is matched with a list of the pairs that are still to be taken.
use Rattle.std.proofs.Common.{◌≡◌, ℕ, ◌+◌, ◌<◌, ◌≤◌, Bool, true, false, cond, ◌&&◌, ◌∷◌, Option, Some, None, sym, ◌∙◌}
use Rattle.std.proofs.Common.{ap, refl, arith}
use Rattle.std.specs.Ordering.{int_eq}
use Rattle.op_logic.specs.Term.{Term, var, int, node, Args, no_args, arg, args_of, arity}
use Rattle.op_logic.specs.Bind.{Bindings, Pairs, lookup, zip_args}
use Rattle.op_logic.proofs.SolvedPairs.{and_left, and_right}
use Rattle.op_term.specs.Variables.{has_no_variable, have_no_variable}
use Rattle.op_trace.specs.Database.{Text}
use Rattle.op_trace.specs.World.{Event}
use Rattle.op_moves.specs.EventTerm.{shown, shown_args, event_term}
use Rattle.op_moves.specs.Pattern.{Test, answer, and_then, same_name, compared, args_compared, Matched, Clashes, Goes_on, pairs_more}
use Rattle.op_moves.specs.Pattern.{going_on, one_pair, all_pairs, variable_matched, matched, args_matched, test_of}
use Rattle.op_moves.specs.Pairs.{head_of, same_head, IsNode, all_matched, went_on}

pub pairs-none : (m : Matched) → pairs_more 0 m ≡ m
pairs-none (Clashes n) = let e : 0 + n ≡ n = omega arith in ap Clashes e
pairs-none (Goes_on σ n) = let e : 0 + n ≡ n = omega arith in ap (Goes_on σ) e

pub pairs-both : (a b : ℕ) (m : Matched) → pairs_more a (pairs_more b m) ≡ pairs_more (a + b) m
pairs-both a b (Clashes n) = let e : a + (b + n) ≡ (a + b) + n = omega arith in ap Clashes e
pairs-both a b (Goes_on σ n) = let e : a + (b + n) ≡ (a + b) + n = omega arith in ap (Goes_on σ) e

on-more : (n : ℕ) (m : Matched) (f : Bindings Text → Matched) → going_on (pairs_more n m) f ≡ pairs_more n (going_on m f)
on-more n (Clashes k) f = refl
on-more n (Goes_on σ k) f = sym (pairs-both n k (f σ))

on-on : (m : Matched) (f g : Bindings Text → Matched) → going_on (going_on m f) g ≡ going_on m (λ τ. going_on (f τ) g)
on-on (Clashes n) f g = refl
on-on (Goes_on σ n) f g = on-more n (f σ) g

on-same : (m : Matched) (f g : Bindings Text → Matched) → ((τ : Bindings Text) → f τ ≡ g τ) → going_on m f ≡ going_on m g
on-same (Clashes n) f g h = refl
on-same (Goes_on σ n) f g h = ap (pairs_more n) (h σ)

pub on-nothing : (m : Matched) → going_on m (λ τ. Goes_on τ 0) ≡ m
on-nothing (Clashes n) = refl
on-nothing (Goes_on σ n) = let e : n + 0 ≡ n = omega arith in ap (Goes_on σ) e

one-on : (b : Bool) (σ : Bindings Text) (f : Bindings Text → Matched)
    → going_on (one_pair b σ) f ≡ cond b (pairs_more 1 (f σ)) (Clashes 1)
one-on true σ f = refl
one-on false σ f = refl

-- the pairs of arguments come before the others
args-zip : (ps ts : Args Text) (σ : Bindings Text) (qs : Pairs Text)
    → going_on (args_matched σ ps ts) (λ τ. all_matched τ qs) ≡ all_matched σ (zip_args ps ts qs)
args-zip no_args ts σ qs = pairs-none (all_matched σ qs)
args-zip (arg p ps) no_args σ qs = pairs-none (all_matched σ qs)
args-zip (arg p ps) (arg t ts) σ qs =
    on-on (matched σ p t) (λ τ. args_matched τ ps ts) (λ τ. all_matched τ qs)
    ∙ on-same (matched σ p t) (λ τ. going_on (args_matched τ ps ts) (λ υ. all_matched υ qs)) (λ τ. all_matched τ (zip_args ps ts qs))
    (λ τ. args-zip ps ts τ qs)

-- a pair whose left side is no variable
pub node-met : (σ : Bindings Text) (s t : Term Text) (qs : Pairs Text) → IsNode (head_of s)
    → all_matched σ ((s, t) ∷ qs) ≡ went_on (same_head (head_of s) (head_of t)) σ (zip_args (args_of s) (args_of t) qs)
node-met σ (var v) t qs h = absurd h
node-met σ (int i) (var w) qs h = refl
node-met σ (int i) (int j) qs h = one-on (int_eq i j) σ (λ τ. all_matched τ qs)
node-met σ (int i) (node g us) qs h = refl
node-met σ (node f ts) (var w) qs h = refl
node-met σ (node f ts) (int j) qs h = refl
node-met σ (node f ts) (node g us) qs h =
    let b = same_name f (arity ts) g (arity us) in
    on-on (one_pair b σ) (λ τ. args_matched τ ts us) (λ τ. all_matched τ qs)
    ∙ (one-on b σ (λ τ. going_on (args_matched τ ts us) (λ υ. all_matched υ qs))
    ∙ ap (λ m. cond b (pairs_more 1 m) (Clashes 1)) (args-zip ts us σ qs))

-- a variable that stands for nothing as yet
pub free-met : (σ : Bindings Text) (v : ℕ) (t : Term Text) (qs : Pairs Text) → lookup σ v ≡ None
    → all_matched σ ((var v, t) ∷ qs) ≡ went_on true ((v, t) ∷ σ) qs
free-met σ v t qs e = ap (λ o. going_on (variable_matched σ v o t) (λ τ. all_matched τ qs)) e

then-pairs : (a b : Test) (σ : Bindings Text) → going_on (all_pairs a σ) (λ τ. all_pairs b τ) ≡ all_pairs (and_then a b) σ
then-pairs a b σ = over a.yes a.cost b.yes b.cost
  where
    over : (x : Bool) (n : ℕ) (y : Bool) (m : ℕ)
        → going_on (all_pairs (answer x n) σ) (λ τ. all_pairs (answer y m) τ) ≡ all_pairs (and_then (answer x n) (answer y m)) σ
    over true n true m = refl
    over true n false m = refl
    over false n y m = refl

-- what has no variable is compared
mutual
  pub closed-matched : (s t : Term Text) → has_no_variable s ≡ true → (σ : Bindings Text) → matched σ s t ≡ all_pairs (compared s t) σ
  closed-matched (var v) t h σ = absurd cc
  closed-matched (int i) (var w) h σ = refl
  closed-matched (int i) (int j) h σ = refl
  closed-matched (int i) (node g us) h σ = refl
  closed-matched (node f ts) (var w) h σ = refl
  closed-matched (node f ts) (int j) h σ = refl
  closed-matched (node f ts) (node g us) h σ =
      let b = same_name f (arity ts) g (arity us) in
      on-same (one_pair b σ) (λ τ. args_matched τ ts us) (λ τ. all_pairs (args_compared ts us) τ)
      (λ τ. args-closed ts us h τ)
      ∙ then-pairs (answer b 1) (args_compared ts us) σ

  args-closed : (ss ts : Args Text) → have_no_variable ss ≡ true → (σ : Bindings Text)
      → args_matched σ ss ts ≡ all_pairs (args_compared ss ts) σ
  args-closed no_args ts h σ = refl
  args-closed (arg s ss) no_args h σ = refl
  args-closed (arg s ss) (arg t ts) h σ =
      ap (λ m. going_on m (λ τ. args_matched τ ss ts)) (closed-matched s t (and_left (has_no_variable s) (have_no_variable ss) h) σ)
      ∙ (on-same (all_pairs (compared s t) σ) (λ τ. args_matched τ ss ts) (λ τ. all_pairs (args_compared ss ts) τ)
      (λ τ. args-closed ss ts (and_right (has_no_variable s) (have_no_variable ss) h) τ)
      ∙ then-pairs (compared s t) (args_compared ss ts) σ)

-- a variable is taken as what it stands for
pub bound-met : (σ : Bindings Text) (v : ℕ) (s t : Term Text) (qs : Pairs Text) → lookup σ v ≡ Some s → has_no_variable s ≡ true
    → all_matched σ ((var v, t) ∷ qs) ≡ all_matched σ ((s, t) ∷ qs)
bound-met σ v s t qs e h =
    ap (λ m. going_on m (λ τ. all_matched τ qs)) (ap (λ o. variable_matched σ v o t) e ∙ sym (closed-matched s t h σ))

-- an event's term has no variable
mutual
  pub shown-closed : (t : Term Text) → has_no_variable (shown t) ≡ true
  shown-closed (var v) = refl
  shown-closed (int i) = refl
  shown-closed (node f ts) = shown_args-closed ts

  shown_args-closed : (ts : Args Text) → have_no_variable (shown_args ts) ≡ true
  shown_args-closed no_args = refl
  shown_args-closed (arg t ts) =
      ap (λ b. b && have_no_variable (shown_args ts)) (shown-closed t) ∙ shown_args-closed ts

pub event-closed : (e : Event) → has_no_variable (event_term e) ≡ true
event-closed e = ap (λ b. b && true) (shown-closed e.goal)

-- each pair that is taken counts
abbrev pub taken : Matched → ℕ
taken m = (test_of m).cost

pub taken-more : (n : ℕ) (m : Matched) → taken (pairs_more n m) ≡ n + taken m
taken-more n (Clashes k) = refl
taken-more n (Goes_on σ k) = refl

taken-all : (t : Test) (σ : Bindings Text) → taken (all_pairs t σ) ≡ t.cost
taken-all t σ = over t.yes t.cost
  where
    over : (b : Bool) (n : ℕ) → taken (all_pairs (answer b n) σ) ≡ n
    over true n = refl
    over false n = refl

pub taken-on : (m : Matched) (f : Bindings Text → Matched) → taken m ≤ taken (going_on m f)
taken-on (Clashes n) f = omega arith
taken-on (Goes_on σ n) f = omega (arith, taken-more n (f σ))

taken-one : (b : Bool) (σ : Bindings Text) → taken (one_pair b σ) ≡ 1
taken-one true σ = refl
taken-one false σ = refl

compared-some : (s t : Term Text) → 0 < (compared s t).cost
compared-some (var v) t = omega arith
compared-some (int i) (var w) = omega arith
compared-some (int i) (int j) = omega arith
compared-some (int i) (node g us) = omega arith
compared-some (node f ts) (var w) = omega arith
compared-some (node f ts) (int j) = omega arith
compared-some (node f ts) (node g us) = over (same_name f (arity ts) g (arity us)) (args_compared ts us)
  where
    over : (b : Bool) (r : Test) → 0 < (and_then (answer b 1) r).cost
    over true r = omega arith
    over false r = omega arith

variable-some : (σ : Bindings Text) (v : ℕ) (o : Option (Term Text)) (t : Term Text) → 0 < taken (variable_matched σ v o t)
variable-some σ v None t = omega arith
variable-some σ v (Some s) t = omega (arith, taken-all (compared s t) σ, compared-some s t)

pub matched-some : (σ : Bindings Text) (p t : Term Text) → 0 < taken (matched σ p t)
matched-some σ (var v) t = variable-some σ v (lookup σ v) t
matched-some σ (int i) (var w) = omega arith
matched-some σ (int i) (int j) = omega (arith, taken-one (int_eq i j) σ)
matched-some σ (int i) (node g us) = omega arith
matched-some σ (node f ts) (var w) = omega arith
matched-some σ (node f ts) (int j) = omega arith
matched-some σ (node f ts) (node g us) =
    let b = same_name f (arity ts) g (arity us) in
    omega (arith, taken-one b σ, taken-on (one_pair b σ) (λ τ. args_matched τ ts us))
