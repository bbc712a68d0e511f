-- Pairs on a stack, and what variables stand for.
use Rattle.std.proofs.Common.{◌≡◌, ℕ, zero, suc, ◌+◌, ◌<◌, ◌==◌, true, false, cond, List, [], ◌∷◌, ◌++◌, length, take, get_or, All}
use Rattle.std.proofs.Common.{Some, sym, ◌∙◌, ap, subst, refl, arith}
use Rattle.std.proofs.lemmas.List.{take_more}
use Rattle.std.proofs.lemmas.List.Elements.{All-push, All-pop}
use Rattle.std.proofs.lemmas.Bool.Decides.{nat_tests}
use Rattle.op_logic.specs.Term.{Term, Args, no_args, arg, args_of, nth_arg, arity}
use Rattle.op_logic.specs.Bind.{Bindings, Pairs, lookup, zip_args}
use Rattle.op_logic.specs.Names.{named}
use Rattle.op_logic.proofs.BoolCases.{by_test, if_true, if_false}
use Rattle.op_logic.proofs.AppliedBindings.{eq_of}
use Rattle.op_term.specs.Variables.{has_no_variable}
use Rattle.op_bind.specs.State.{value_of}
use Rattle.op_trace.specs.Database.{Text}
use Rattle.op_event.specs.View.{Showing, event_in}
use Rattle.op_cursor.specs.declared.part.Part.{Part}
use Rattle.op_cursor.specs.declared.part.Part.TheVariants as part
use Rattle.op_cursor.specs.declared.part.Side.{Side}
use Rattle.op_cursor.specs.inner.Parts.{part_term, side_term, IsPart}
use Rattle.op_cursor.specs.inner.Stacks.{pairs_from, values_from, IsPair}
use Rattle.op_moves.proofs.MatchedPairs.{shown-closed, event-closed}

pub part-closed : (v : Showing) (p : Part) → has_no_variable (part_term v p) ≡ true
part-closed v part.Whole = event-closed (event_in v)
part-closed v (part.Number n) = refl
part-closed v (part.Port p) = refl
part-closed v (part.Goal r) = shown-closed (named v.names (value_of v.state r))

eq-same : (n : ℕ) → (n == n) ≡ true
eq-same n = grind (arith, nat_tests)

eq-other : (m n : ℕ) → (m ≡ n → ⊥) → (m == n) ≡ false
eq-other m n h = by_test (m == n) (λ e. absurd (h (eq_of m n e))) (λ e. e)

-- what stands newest is found first
values-last : (v : Showing) (xs : List (ℕ × Part)) (x : ℕ × Part) (σ : Bindings Text)
    → values_from v (xs ++ x ∷ []) σ ≡ (x.0, part_term v x.1) ∷ values_from v xs σ
values-last v [] x σ = refl
values-last v (y ∷ ys) x σ = values-last v ys x ((y.0, part_term v y.1) ∷ σ)

pub values-push : (v : Showing) (xs ys : List (ℕ × Part)) (x : ℕ × Part) → ys ≡ xs ++ x ∷ []
    → values_from v ys [] ≡ (x.0, part_term v x.1) ∷ values_from v xs []
values-push v xs ys x e = ap (λ zs. values_from v zs []) e ∙ values-last v xs x []

module _ (v : Showing) (xs : List (ℕ × Part)) (n : ℕ) (x : ℕ × Part) (l : n < length xs) (is : x ≡ get_or xs n x) (w : ℕ) where
  looked : lookup (values_from v (take (n + 1) xs) []) w
      ≡ cond (x.0 == w) (Some (part_term v x.1)) (lookup (values_from v (take n xs) []) w)
  looked =
      ap (λ σ. lookup σ w) (values-push v (take n xs) (take (n + 1) xs) x
      (take_more xs n x l ∙ ap (λ z. take n xs ++ z ∷ []) (sym is)))

  pub value-here : x.0 ≡ w → lookup (values_from v (take (n + 1) xs) []) w ≡ Some (part_term v x.1)
  value-here e = looked ∙ if_true _ _ _ (ap (λ (k : ℕ). k == w) e ∙ eq-same w)

  pub value-below : (x.0 ≡ w → ⊥) → lookup (values_from v (take (n + 1) xs) []) w ≡ lookup (values_from v (take n xs) []) w
  value-below e = looked ∙ if_false _ _ _ (eq-other x.0 w e)

-- the arguments from one on
abbrev skip : ℕ → Args Text → Args Text
skip zero ts = ts
skip (suc i) no_args = no_args
skip (suc i) (arg t ts) = skip i ts

skip-all : (ts : Args Text) (n : ℕ) → n ≡ arity ts → skip n ts ≡ no_args
skip-all no_args zero h = refl
skip-all no_args (suc n) h = refl
skip-all (arg t ts) zero h = absurd (omega (arith, h))
skip-all (arg t ts) (suc n) h = skip-all ts n (omega (arith, h))

skip-one : (ts : Args Text) (i : ℕ) → i < arity ts → skip i ts ≡ arg (nth_arg ts i) (skip (i + 1) ts)
skip-one no_args i h = absurd (omega arith)
skip-one (arg t ts) zero h = refl
skip-one (arg t ts) (suc i) h =
    let e : suc i + 1 ≡ suc (i + 1) = omega arith in
    skip-one ts i (omega arith) ∙ ap (λ (k : ℕ). arg (nth_arg ts i) (skip k (arg t ts))) (sym e)

zipped : (ts us : Args Text) (i : ℕ) (x y : Term Text) (ps : Pairs Text) → i < arity ts → i < arity us → x ≡ nth_arg ts i → y ≡ nth_arg us i
    → (x, y) ∷ zip_args (skip (i + 1) ts) (skip (i + 1) us) ps ≡ zip_args (skip i ts) (skip i us) ps
zipped ts us i x y ps h k e f =
    let a = skip-one ts i h in
    let b = skip-one us i k in
    cc

module _ (terms : List (Term ℕ)) (own : List Text) (v : Showing) where
  pairs-last : (xs : List (Side × Part)) (p : Side × Part) (ps : Pairs Text) → pairs_from terms own v (xs ++ p ∷ []) ps
      ≡ (side_term terms own v p.0, part_term v p.1) ∷ pairs_from terms own v xs ps
  pairs-last [] p ps = refl
  pairs-last (x ∷ xs) p ps = pairs-last xs p ((side_term terms own v x.0, part_term v x.1) ∷ ps)

  pub pairs-top : (xs ys : List (Side × Part)) (p : Side × Part) → ys ≡ xs ++ p ∷ []
      → pairs_from terms own v ys [] ≡ (side_term terms own v p.0, part_term v p.1) ∷ pairs_from terms own v xs []
  pairs-top xs ys p e = ap (λ ps. pairs_from terms own v ps []) e ∙ pairs-last xs p []

  -- the arguments from i on were pushed
  pub record ArePushed (t u : Term Text) (old todo : List (Side × Part)) (i : ℕ) : Type 0 where
    pub pairs : pairs_from terms own v todo [] ≡ zip_args (skip i (args_of t)) (skip i (args_of u)) (pairs_from terms own v old [])

  pub none-pushed : (t u : Term Text) (old : List (Side × Part)) (n : ℕ) → n ≡ arity (args_of t) → ArePushed t u old old n
  none-pushed t u old n h = record {
    pairs = sym (ap (λ ts. zip_args ts (skip n (args_of u)) (pairs_from terms own v old [])) (skip-all (args_of t) n h));
  }

  pub all-pushed : (t u : Term Text) (old todo : List (Side × Part)) → ArePushed t u old todo 0
      → pairs_from terms own v todo [] ≡ zip_args (args_of t) (args_of u) (pairs_from terms own v old [])
  all-pushed t u old todo a = a.pairs

  pub one-pushed : (t u : Term Text) (old todo new : List (Side × Part)) (i : ℕ) (p : Side × Part) → i < arity (args_of t)
      → i < arity (args_of u) → side_term terms own v p.0 ≡ nth_arg (args_of t) i → part_term v p.1 ≡ nth_arg (args_of u) i
      → new ≡ todo ++ p ∷ [] → ArePushed t u old todo (i + 1) → ArePushed t u old new i
  one-pushed t u old todo new i p h k e f g a = record {
    pairs =
        pairs-top todo new p g
        ∙ (ap (λ ps. (side_term terms own v p.0, part_term v p.1) ∷ ps) a.pairs
        ∙ zipped (args_of t) (args_of u) i (side_term terms own v p.0) (part_term v p.1) (pairs_from terms own v old []) h k e f);
  }

-- what holds of each pair of a stack
module _ (terms : List (Term ℕ)) (own : List Text) (v : Showing) where
  pub pairs-there : (xs ys : List (Side × Part)) (p : Side × Part) → ys ≡ xs ++ p ∷ [] → All (λ q. IsPair terms own v q) ys
      → IsPair terms own v p × All (λ q. IsPair terms own v q) xs
  pairs-there xs ys p e h = let r = All-pop (λ q. IsPair terms own v q) ys xs (Some p) e h in (r.1, r.0)

  pub pairs-more : (xs ys : List (Side × Part)) (p : Side × Part) → ys ≡ xs ++ p ∷ [] → All (λ q. IsPair terms own v q) xs
      → IsPair terms own v p → All (λ q. IsPair terms own v q) ys
  pairs-more xs ys p e h k =
      subst (λ (zs : List (Side × Part)). All (λ q. IsPair terms own v q) zs) (sym e) (All-push (λ q. IsPair terms own v q) xs p h k)

pub values-more : (v : Showing) (xs ys : List (ℕ × Part)) (x : ℕ × Part) → ys ≡ xs ++ x ∷ [] → All (λ q. IsPart v q.1) xs → IsPart v x.1
    → All (λ q. IsPart v q.1) ys
values-more v xs ys x e h k =
    subst (λ (zs : List (ℕ × Part)). All (λ q. IsPart v q.1) zs) (sym e) (All-push (λ q. IsPart v q.1) xs x h k)
