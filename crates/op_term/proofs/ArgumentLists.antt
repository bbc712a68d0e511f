-- The arguments of a term as a list, and their places as they are pushed on a stack.
use Rattle.std.proofs.Common.{◌≡◌, ℕ, zero, suc, ◌+◌, ◌<◌, List, [], ◌∷◌, ◌++◌, length, take, map, sym, ◌∙◌, ap, refl, arith, append_assoc}
use Rattle.std.proofs.lemmas.List.{map-append}
use Rattle.op_logic.specs.Term.{Term, var, int, node, Args, no_args, arg, args_of, nth_arg, arity}
use Rattle.op_term.specs.Arguments.{args_list, argument_count}
use Rattle.op_term.specs.Head.{head}

pub length-list : (ts : Args ℕ) → length (args_list ts) ≡ arity ts
length-list no_args = refl
length-list (arg t ts) = ap suc (length-list ts)

pub count-head : (t : Term ℕ) → argument_count (head t) ≡ arity (args_of t)
count-head (var v) = refl
count-head (int i) = refl
count-head (node f no_args) = refl
count-head (node f (arg t ts)) = refl

nth-list : (ts : Args ℕ) (i : ℕ) → i < arity ts → take (i + 1) (args_list ts) ≡ take i (args_list ts) ++ nth_arg ts i ∷ []
nth-list no_args i h = absurd (omega arith)
nth-list (arg t ts) zero h = refl
nth-list (arg t ts) (suc i) h =
    let e : suc i + 1 ≡ suc (i + 1) = omega arith in
    ap (λ (k : ℕ). take k (t ∷ args_list ts)) e ∙ ap (λ us. t ∷ us) (nth-list ts i (omega arith))

take-list : (ts : Args ℕ) (n : ℕ) → n ≡ arity ts → take n (args_list ts) ≡ args_list ts
take-list no_args n e = ap (λ (k : ℕ). take k []) e
take-list (arg t ts) n e = ap (λ (k : ℕ). take k (t ∷ args_list ts)) e ∙ ap (λ us. t ∷ us) (take-list ts (arity ts) refl)

module _ {P : Type 0} (term : P → Term ℕ) where
  -- the arguments that were pushed
  pub record Pushed (t : Term ℕ) (old todo : List P) (i : ℕ) : Type 0 where
    pub terms : map term todo ≡ map term old ++ take i (args_list (args_of t))

  pub pushed-more : (t : Term ℕ) (old todo new : List P) (i : ℕ) (p : P) → i < arity (args_of t) → new ≡ todo ++ p ∷ []
      → term p ≡ nth_arg (args_of t) i → Pushed t old todo i → Pushed t old new (i + 1)
  pushed-more t old todo new i p h e n g = record {
    terms =
        ap (λ (ps : List P). map term ps) e
        ∙ (map-append term todo (p ∷ [])
        ∙ (ap (λ (ts : List (Term ℕ)). ts ++ term p ∷ []) g.terms
        ∙ (append_assoc (map term old) (take i (args_list (args_of t))) (term p ∷ [])
        ∙ ap (λ (ts : List (Term ℕ)). map term old ++ ts) (ap (λ (x : Term ℕ). take i (args_list (args_of t)) ++ x ∷ []) n
        ∙ sym (nth-list (args_of t) i h)))));
  }

  pub pushed-all : (t : Term ℕ) (old todo : List P) (n : ℕ) → n ≡ arity (args_of t) → Pushed t old todo n
      → map term todo ≡ map term old ++ args_list (args_of t)
  pushed-all t old todo n e g = g.terms ∙ ap (λ (ts : List (Term ℕ)). map term old ++ ts) (take-list (args_of t) n e)
