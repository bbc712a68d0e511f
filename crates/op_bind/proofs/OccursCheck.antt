-- A value is walked with a stack of the terms that are still to be met.
use Rattle.std.proofs.Common.{◌≡◌, ℕ, suc, ◌+◌, ◌==◌, ◌<◌, ◌≤◌, Bool, true, false, ◌||◌, List, [], ◌∷◌, ◌++◌, length, All, sym, ◌∙◌, ap}
use Rattle.std.proofs.Common.{refl, arith}
use Rattle.op_logic.specs.Term.{Term, var, int, node, args_of, size, args_size, occurs, occurs_args}
use Rattle.op_logic.specs.Bind.{follow}
use Rattle.op_logic.specs.Laws.{Acyclic}
use Rattle.op_logic.proofs.AppliedBindings.{apply_args, apply_args-none, apply_args-arg}
use Rattle.op_term.specs.Places.{term_at, args_at}
use Rattle.op_term.specs.Head.{head}
use Rattle.op_term.specs.declared.node.Node.TheVariants as nodes
use Rattle.op_bind.specs.State.{State, bindings, value_of}
use Rattle.op_bind.proofs.ValueHeads.{value-var, size-other, occurs-other}

abbrev pub AllBelow : ℕ → List ℕ → Type 0
AllBelow n [] = Unit {0}
AllBelow n (x ∷ xs) = (x < n) × AllBelow n xs

below-append : (n : ℕ) (xs ys : List ℕ) → AllBelow n xs → AllBelow n ys → AllBelow n (xs ++ ys)
below-append n [] ys h k = k
below-append n (x ∷ xs) ys h k = (h.0, below-append n xs ys h.1 k)

below-front : (n : ℕ) (xs ys : List ℕ) → AllBelow n (xs ++ ys) → AllBelow n xs
below-front n [] ys h = tt
below-front n (x ∷ xs) ys h = (h.0, below-front n xs ys h.1)

below-back : (n : ℕ) (xs ys : List ℕ) → AllBelow n (xs ++ ys) → AllBelow n ys
below-back n [] ys h = h
below-back n (x ∷ xs) ys h = below-back n xs ys h.1

below-from : (n m : ℕ) (xs : List ℕ) → n ≤ m → All (λ x. x < n) xs → AllBelow m xs
below-from n m [] l h = tt
below-from n m (x ∷ xs) l h = (omega (arith, h 0 0 (omega arith)), below-from n m xs l (λ k d i. h (suc k) d (omega arith)))

-- the nodes of all values, and whether a variable is in one of them
abbrev pub weight : State → List ℕ → ℕ
weight s [] = 0
weight s (r ∷ rs) = size (value_of s r) + weight s rs

abbrev pub in_some : State → ℕ → List ℕ → Bool
in_some s v [] = false
in_some s v (r ∷ rs) = occurs v (value_of s r) || in_some s v rs

weight-append : (s : State) (xs ys : List ℕ) → weight s (xs ++ ys) ≡ weight s xs + weight s ys
weight-append s [] ys = omega arith
weight-append s (x ∷ xs) ys = omega (arith, weight-append s xs ys)

or_assoc : (a b c : Bool) → (a || (b || c)) ≡ ((a || b) || c)
or_assoc true b c = refl
or_assoc false b c = refl

or_none : (a : Bool) → (a || false) ≡ a
or_none true = refl
or_none false = refl

or_swap : (a b c : Bool) → (a || (b || c)) ≡ ((a || c) || b)
or_swap true b c = refl
or_swap false true true = refl
or_swap false true false = refl
or_swap false false true = refl
or_swap false false false = refl

in_some-append : (s : State) (v : ℕ) (xs ys : List ℕ) → in_some s v (xs ++ ys) ≡ (in_some s v xs || in_some s v ys)
in_some-append s v [] ys = refl
in_some-append s v (x ∷ xs) ys =
    ap (λ b. occurs v (value_of s x) || b) (in_some-append s v xs ys)
    ∙ or_assoc (occurs v (value_of s x)) (in_some s v xs) (in_some s v ys)

-- the arguments of a node stand at its parts
parts-weight : (s : State) (ps : List ℕ) → args_size (apply_args (bindings s) (args_at s.terms ps)) ≡ weight s ps
parts-weight s [] = ap args_size (apply_args-none (bindings s))
parts-weight s (p ∷ ps) =
    omega (arith, ap args_size (apply_args-arg (bindings s) (term_at s.terms p) (args_at s.terms ps)), parts-weight s ps)

parts-in_some : (s : State) (v : ℕ) (ps : List ℕ) → occurs_args v (apply_args (bindings s) (args_at s.terms ps)) ≡ in_some s v ps
parts-in_some s v [] = ap (occurs_args v) (apply_args-none (bindings s))
parts-in_some s v (p ∷ ps) =
    ap (occurs_args v) (apply_args-arg (bindings s) (term_at s.terms p) (args_at s.terms ps))
    ∙ ap (λ b. occurs v (value_of s p) || b) (parts-in_some s v ps)

-- what was met and what is still to be met is the whole value
pub record IsWeighing (s : State) (v r start left : ℕ) (met : Bool) (todo : List ℕ) : Type 0 where
  pub there : AllBelow (length s.terms) todo
  pub paid : start + weight s todo ≡ left + size (value_of s r)
  pub found : (met || in_some s v todo) ≡ occurs v (value_of s r)

pub weighing-starts : (s : State) (v r start : ℕ) → r < length s.terms → IsWeighing s v r start start false (r ∷ [])
weighing-starts s v r start h = record { there = (h, tt); paid = omega arith; found = or_none (occurs v (value_of s r)) }

pub weighing-ends : (s : State) (v r start left : ℕ) (met : Bool) → IsWeighing s v r start left met []
    → (met ≡ occurs v (value_of s r)) × (start ≡ left + size (value_of s r))
weighing-ends s v r start left met w = (sym (or_none met) ∙ w.found, omega (arith, w.paid))

module _ (s : State) (v r start left : ℕ) (met : Bool) (rest : List ℕ) (next : ℕ)
    (w : IsWeighing s v r start left met (rest ++ next ∷ [])) where
  pub weighing-next : next < length s.terms
  weighing-next = (below-back (length s.terms) rest (next ∷ []) w.there).0

  weighing-paid : start + (weight s rest + size (value_of s next)) ≡ left + size (value_of s r)
  weighing-paid = omega (arith, w.paid, weight-append s rest (next ∷ []))

  weighing-found : (met || (in_some s v rest || occurs v (value_of s next))) ≡ occurs v (value_of s r)
  weighing-found =
      let a : in_some s v (rest ++ next ∷ []) ≡ (in_some s v rest || (occurs v (value_of s next) || false)) =
      in_some-append s v rest (next ∷ []) in
      let b : (in_some s v rest || (occurs v (value_of s next) || false)) ≡ (in_some s v rest || occurs v (value_of s next)) =
      ap (λ x. in_some s v rest || x) (or_none (occurs v (value_of s next))) in
      ap (λ x. met || x) (sym (a ∙ b)) ∙ w.found

  size-some : (t : Term ℕ) → 0 < size t
  size-some (var x) = omega arith
  size-some (int i) = omega arith
  size-some (node f ts) = omega arith

  pub weighing-spent : left < 1 → start < size (value_of s r)
  weighing-spent h = omega (arith, weighing-paid, size-some (value_of s next))

  module _ (acyclic : Acyclic (bindings s)) (at after : ℕ) (followed : term_at s.terms at ≡ follow (bindings s) (term_at s.terms next))
      (spent : left ≡ after + 1) where
    pub weighing-var : (x : ℕ) → nodes.Var x ≡ head (term_at s.terms at) → IsWeighing s v r start after (met || (v == x)) rest
    weighing-var x h =
        let e : value_of s next ≡ var x = value-var (bindings s) acyclic (term_at s.terms next) (term_at s.terms at) followed x h in
        let n : size (value_of s next) ≡ 1 = ap size e in
        let o : occurs v (value_of s next) ≡ (v == x) = ap (occurs v) e in
        record {
          there = below-front (length s.terms) rest (next ∷ []) w.there;
          paid = omega (arith, weighing-paid);
          found = sym (or_swap met (in_some s v rest) (v == x)) ∙ (ap (λ b. met || (in_some s v rest || b)) (sym o) ∙ weighing-found);
        }

    pub weighing-other : ((x : ℕ) → head (term_at s.terms at) ≡ nodes.Var x → ⊥) → at < length s.terms → (ps : List ℕ)
        → All (λ p. p < at) ps → args_at s.terms ps ≡ args_of (term_at s.terms at) → IsWeighing s v r start after met (rest ++ ps)
    weighing-other h l ps below args =
        let q : Term ℕ = term_at s.terms at in
        let a : apply_args (bindings s) (args_of q) ≡ apply_args (bindings s) (args_at s.terms ps) =
        ap (apply_args (bindings s)) (sym args) in
        let n : size (value_of s next) ≡ suc (weight s ps) =
        size-other (bindings s) acyclic (term_at s.terms next) q followed h ∙ (ap (λ us. suc (args_size us)) a
        ∙ ap suc (parts-weight s ps)) in
        let o : occurs v (value_of s next) ≡ in_some s v ps =
        occurs-other (bindings s) acyclic (term_at s.terms next) v q followed h ∙ (ap (occurs_args v) a ∙ parts-in_some s v ps) in
        record {
          there = below-append (length s.terms) rest ps (below-front (length s.terms) rest (next ∷ []) w.there)
              (below-from at (length s.terms) ps (omega arith) below);
          paid = omega (arith, weighing-paid, weight-append s rest ps);
          found = ap (λ b. met || b) (in_some-append s v rest ps ∙ ap (λ b. in_some s v rest || b) (sym o)) ∙ weighing-found;
        }

pub or-then : (a b : Bool) → a ≡ true → (a || b) ≡ a
or-then true b h = refl
or-then false b h = cc

pub or-else : (a b : Bool) → a ≡ false → (a || b) ≡ b
or-else true b h = cc
or-else false b h = refl
