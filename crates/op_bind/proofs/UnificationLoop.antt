-- The reductions of unifying, one after another.
use Rattle.std.proofs.Common.{◌≡◌, ℕ, ◌+◌, ◌-◌, ◌<◌, ◌≤◌, nat_eq, Bool, true, false, leb, List, [], ◌∷◌, ◌++◌, length, take, drop, reverse}
use Rattle.std.proofs.Common.{Some, None, sym, ◌∙◌, ap, subst, refl, arith, length-drop}
use Rattle.std.proofs.lemmas.Bool.{le-leb, lt-leb}
use Rattle.std.proofs.lemmas.Bool.Decides.{Decides-eqb}
use Rattle.std.proofs.lemmas.List.{drop-drop}
use Rattle.std.proofs.Math.Seq.{take-length}
use Rattle.op_logic.specs.Term.{Term}
use Rattle.op_logic.specs.Bind.{apply, Reduction, clash, goes, unify}
use Rattle.op_logic.specs.Laws.{Acyclic, pay, steps_of, instance_of, Respects}
use Rattle.op_logic.proofs.BoolCases.{if_true, if_false}
use Rattle.op_logic.proofs.StepCounts.{unify-reduction, reduction-paid}
use Rattle.op_logic.proofs.BudgetedUnifiers.{unify-equal, unify-none}
use Rattle.op_term.specs.Places.{term_at}
use Rattle.op_bind.specs.State.{State, bindings, value_of, oldest}
use Rattle.op_bind.specs.Grown.{Grows, IsLater}
use Rattle.op_bind.specs.Unified.{unified}
use Rattle.op_bind.specs.inner.Pairs.{pairs_of, stack_pairs, reduction_of, reduced, ArePairs}
use Rattle.op_bind.proofs.BindingsInvariant.{reverse-push}

pub oldest-oldest : (n m : ℕ) (ps : List (ℕ × ℕ)) → n ≤ m → m ≤ length ps → oldest n (oldest m ps) ≡ oldest n ps
oldest-oldest n m ps h k =
    let l : length (oldest m ps) ≡ m = omega (arith, length-drop (length ps - m) ps) in
    let e : (length ps - m) + (length (oldest m ps) - n) ≡ length ps - n = omega arith in
    drop-drop (length (oldest m ps) - n) (length ps - m) ps ∙ ap (λ (i : ℕ). drop i ps) e

pub later-starts : (s : State) → IsLater s s
later-starts s =
    let z : length s.bound - length s.bound ≡ 0 = omega arith in
    record { terms = refl; count = refl; enough = omega arith; bound = ap (λ (k : ℕ). drop k s.bound) z }

pub later-later : (a b c : State) → IsLater a b → IsLater b c → IsLater a c
later-later a b c h k =
    record {
      terms = k.terms ∙ h.terms;
      count = k.count ∙ h.count;
      enough = omega (arith, h.enough, k.enough);
      bound = sym (oldest-oldest (length a.bound) (length b.bound) c.bound h.enough k.enough)
          ∙ (ap (oldest (length a.bound)) k.bound ∙ h.bound);
    }

pub later-grows : (a b : State) → IsLater a b → Grows a b
later-grows a b h =
    record {
      terms_there = omega (arith, ap length h.terms);
      terms = ap (take (length a.terms)) h.terms ∙ take-length a.terms;
      bound_there = h.enough;
      bound = h.bound;
      count = omega (arith, h.count);
    }

-- what is left to do comes to what the whole comes to
pub record IsUnifying (first now : State) (t u : Term ℕ) (start left : ℕ) (todo : List (ℕ × ℕ)) : Type 0 where
  pub same : unify nat_eq left (bindings now) (stack_pairs now.terms todo) ≡ unified start first t u
  pub later : IsLater first now
  pub there : ArePairs (length now.terms) (reverse todo)
  pub falls : left ≤ start

pub unifying-starts : (s : State) (a b start : ℕ) → a < length s.terms → b < length s.terms
    → IsUnifying s s (term_at s.terms a) (term_at s.terms b) start start ((a, b) ∷ [])
unifying-starts s a b start h k = record { same = refl; later = later-starts s; there = (h, k, tt); falls = omega arith }

pub unifying-ends : (first now : State) (t u : Term ℕ) (start left : ℕ) → IsUnifying first now t u start left []
    → unified start first t u ≡ Some (Some (bindings now), left)
unifying-ends first now t u start left h =
    let z : left - 0 ≡ left = omega arith in
    sym h.same ∙ (if_true (leb 0 left) (Some (Some (bindings now), left - 0)) None (le-leb 0 left (omega arith))
    ∙ ap (λ n. Some (Some (bindings now), n)) z)

module _ (first now : State) (t u : Term ℕ) (start left : ℕ) (rest : List (ℕ × ℕ)) (x y : ℕ)
    (h : IsUnifying first now t u start left (rest ++ (x, y) ∷ [])) where
  pairs-here : ArePairs (length now.terms) ((x, y) ∷ reverse rest)
  pairs-here = subst (ArePairs (length now.terms)) (reverse-push rest (x, y)) h.there

  pub left-there : x < length now.terms
  left-there = pairs-here.0

  pub right-there : y < length now.terms
  right-there = pairs-here.1

  pub rest-there : ArePairs (length now.terms) (reverse rest)
  rest-there = pairs-here.2

  reduction-same : pay left (reduction_of now rest x y) (unify nat_eq) ≡ unified start first t u
  reduction-same =
      let e : stack_pairs now.terms (rest ++ (x, y) ∷ []) ≡ (term_at now.terms x, term_at now.terms y) ∷ stack_pairs now.terms rest =
      ap (pairs_of now.terms) (reverse-push rest (x, y)) in
      sym (unify-reduction nat_eq left (bindings now) (term_at now.terms x, term_at now.terms y) (stack_pairs now.terms rest))
      ∙ (sym (ap (unify nat_eq left (bindings now)) e) ∙ h.same)

  pub unifying-spent : left < steps_of (reduction_of now rest x y) → unified start first t u ≡ None
  unifying-spent l = sym reduction-same ∙ over (reduction_of now rest x y) l
    where
      over : (q : Reduction ℕ) → left < steps_of q → pay left q (unify nat_eq) ≡ None
      over (clash c) l = if_false _ _ _ (lt-leb c left l)
      over (goes σ ps c) l = if_false _ _ _ (lt-leb c left l)

  pub unifying-falls : (went : Bool) (next : State) (more : List (ℕ × ℕ)) (after : ℕ)
      → reduction_of now rest x y ≡ reduced went next more (left - after) → after < left
  unifying-falls went next more after e =
      let p : 0 < steps_of (reduction_of now rest x y) = reduction-paid nat_eq (bindings now) (term_at now.terms x) (term_at now.terms y)
      (stack_pairs now.terms rest) in
      let s : steps_of (reduced went next more (left - after)) ≡ left - after = count went in
      omega (arith, ap steps_of e)
    where
      count : (w : Bool) → steps_of (reduced w next more (left - after)) ≡ left - after
      count true = refl
      count false = refl

  pub unifying-clashes : (next : State) (more : List (ℕ × ℕ)) (after : ℕ) → after ≤ left
      → reduction_of now rest x y ≡ reduced false next more (left - after) → unified start first t u ≡ Some (None, after)
  unifying-clashes next more after l e =
      let z : left - (left - after) ≡ after = omega arith in
      sym reduction-same ∙ (ap (λ q. pay left q (unify nat_eq)) e ∙ (if_true _ _ _ (le-leb (left - after) left (omega arith))
      ∙ ap (λ n. Some (None, n)) z))

  pub unifying-goes : (next : State) (more : List (ℕ × ℕ)) (after : ℕ) → after ≤ left
      → reduction_of now rest x y ≡ reduced true next more (left - after) → IsLater now next → ArePairs (length now.terms) (reverse more)
      → IsUnifying first next t u start after more
  unifying-goes next more after l e k m =
      let z : left - (left - after) ≡ after = omega arith in
      record {
        same = sym (sym reduction-same ∙ (ap (λ q. pay left q (unify nat_eq)) e
            ∙ (if_true _ _ _ (le-leb (left - after) left (omega arith))
            ∙ ap (λ n. unify nat_eq n (bindings next) (stack_pairs next.terms more)) z)));
        later = later-later first now next h.later k;
        there = subst (λ (n : ℕ). ArePairs n (reverse more)) (sym (ap length k.terms)) m;
        falls = omega (arith, h.falls, l);
      }

-- what the answers mean
pub unified-equal : (s new : State) (a b start left : ℕ) → Acyclic (bindings s) → IsLater s new
    → unified start s (term_at s.terms a) (term_at s.terms b) ≡ Some (Some (bindings new), left) → value_of new a ≡ value_of new b
unified-equal s new a b start left y l h =
    let e = (unify-equal nat_eq Decides-eqb start (bindings s) (bindings new) ((term_at s.terms a, term_at s.terms b) ∷ []) left y h).0 in
    subst (λ (ts : List (Term ℕ)). apply (bindings new) (term_at ts a) ≡ apply (bindings new) (term_at ts b)) (sym l.terms) e

pub unified-none : (s : State) (t u : Term ℕ) (start left : ℕ) → Acyclic (bindings s) → unified start s t u ≡ Some (None, left)
    → (θ : ℕ → Term ℕ) → Respects θ (bindings s) → instance_of θ t ≡ instance_of θ u → ⊥
unified-none s t u start left y h θ r e = unify-none nat_eq Decides-eqb start (bindings s) ((t, u) ∷ []) left y h θ r (e, tt)

pub none-left : (xs : List (ℕ × ℕ)) → length xs ≡ 0 → xs ≡ []
none-left [] h = refl
none-left (x ∷ xs) h = absurd (omega arith)
