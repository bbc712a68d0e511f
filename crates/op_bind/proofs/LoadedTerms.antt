-- A term that is brought in, its variables counted from a first one on.
use Rattle.std.proofs.Common.{◌≡◌, ℕ, zero, suc, ◌<◌, ◌≤◌, ◌^◌, List, length, take, sym, ◌∙◌, ap, refl, arith, Option}
use Rattle.op_logic.specs.Term.{Term, var, int, node, Args, no_args, arg, args_of, nth_arg, arity, size, args_size, IsWithin, ArgsWithin}
use Rattle.op_logic.specs.Term.{shift, shift_args}
use Rattle.op_term.specs.Head.{head, sym as name_of}
use Rattle.op_term.specs.declared.node.Node.TheVariants as nodes
use Rattle.op_bind.specs.inner.Loaded.{shifted_node, CanShift}
use Rattle.op_bind.specs.State.{resolved}
use Rattle.op_bind.specs.Within.{AllWithin}
use Rattle.op_bind.specs.inner.Sound.{AreBound, IsSound}
use Rattle.op_bind.proofs.BindingsInvariant.{refs-there, bound-same, resolved-same}
use Rattle.op_bind.proofs.KeptTerms.{below-more, term-more}

pub can-shift : (first : ℕ) (t : Term ℕ) → IsWithin (2 ^ 64) (shift first t) → CanShift first (head t)
can-shift first (var v) h = h
can-shift first (int i) h = tt
can-shift first (node f no_args) h = tt
can-shift first (node f (arg t ts)) h = tt

pub arity-shift : (first : ℕ) (ts : Args ℕ) → arity (shift_args first ts) ≡ arity ts
arity-shift first no_args = refl
arity-shift first (arg t ts) = ap suc (arity-shift first ts)

pub head-shift : (first : ℕ) (t : Term ℕ) → shifted_node first (head t) ≡ head (shift first t)
head-shift first (var v) = refl
head-shift first (int i) = refl
head-shift first (node f no_args) = refl
head-shift first (node f (arg t ts)) = ap (λ (n : ℕ). nodes.Struct (name_of f) (suc n)) (sym (arity-shift first ts))

pub args-shift : (first : ℕ) (t : Term ℕ) → args_of (shift first t) ≡ shift_args first (args_of t)
args-shift first (var v) = refl
args-shift first (int i) = refl
args-shift first (node f ts) = refl

nth-shift : (first : ℕ) (ts : Args ℕ) (i : ℕ) → i < arity ts → nth_arg (shift_args first ts) i ≡ shift first (nth_arg ts i)
nth-shift first no_args i h = absurd (omega arith)
nth-shift first (arg t ts) zero h = refl
nth-shift first (arg t ts) (suc i) h = nth-shift first ts i (omega arith)

-- an argument of a term that is counted so
pub arity-of-shift : (first : ℕ) (t : Term ℕ) → arity (args_of (shift first t)) ≡ arity (args_of t)
arity-of-shift first t = ap arity (args-shift first t) ∙ arity-shift first (args_of t)

pub part-of-shift : (first : ℕ) (t : Term ℕ) (i : ℕ) → i < arity (args_of t)
    → nth_arg (args_of (shift first t)) i ≡ shift first (nth_arg (args_of t) i)
part-of-shift first t i h = ap (λ (ts : Args ℕ). nth_arg ts i) (args-shift first t) ∙ nth-shift first (args_of t) i h

nth-within : (n : ℕ) (ts : Args ℕ) (i : ℕ) → i < arity ts → ArgsWithin n ts → IsWithin n (nth_arg ts i)
nth-within n no_args i h w = absurd (omega arith)
nth-within n (arg t ts) zero h w = w.0
nth-within n (arg t ts) (suc i) h w = nth-within n ts i (omega arith) w.1

pub part-within : (n : ℕ) (t : Term ℕ) (i : ℕ) → i < arity (args_of t) → IsWithin n t → IsWithin n (nth_arg (args_of t) i)
part-within n (var v) i h w = absurd (omega arith)
part-within n (int j) i h w = absurd (omega arith)
part-within n (node f ts) i h w = nth-within n ts i h w

-- variables in a range are in a wider one
mutual
  pub within-more : (n m : ℕ) → n ≤ m → (t : Term ℕ) → IsWithin n t → IsWithin m t
  within-more n m l (var v) h = omega (arith, h)
  within-more n m l (int i) h = tt
  within-more n m l (node f ts) h = args_within-more n m l ts h

  args_within-more : (n m : ℕ) → n ≤ m → (ts : Args ℕ) → ArgsWithin n ts → ArgsWithin m ts
  args_within-more n m l no_args h = tt
  args_within-more n m l (arg t ts) h = (within-more n m l t h.0, args_within-more n m l ts h.1)

mutual
  pub size-shift : (first : ℕ) (t : Term ℕ) → size (shift first t) ≡ size t
  size-shift first (var v) = refl
  size-shift first (int i) = refl
  size-shift first (node f ts) = ap suc (args_size-shift first ts)

  args_size-shift : (first : ℕ) (ts : Args ℕ) → args_size (shift_args first ts) ≡ args_size ts
  args_size-shift first no_args = refl
  args_size-shift first (arg t ts) = omega (arith, size-shift first t, args_size-shift first ts)

-- terms that join behind those that are there change no binding
pub sound-load : (ts new : List (Term ℕ)) (ps : List (ℕ × ℕ)) (table : List (Option ℕ)) → IsSound ts ps table → take (length ts) new ≡ ts
    → AllWithin (length table) new → IsSound new ps table
sound-load ts new ps table s kept w = record {
  within = w;
  are_bound = bound-same (length ts) ts new (λ r h. term-more ts new r kept h) (length table) ps (below-more ts new kept)
      (refs-there (length table) ts ps s.are_bound) s.are_bound;
  looked_up = s.looked_up;
}

pub load-bindings : (n : ℕ) (ts new : List (Term ℕ)) (ps : List (ℕ × ℕ)) → AreBound n ts ps → take (length ts) new ≡ ts
    → resolved new ps ≡ resolved ts ps
load-bindings n ts new ps b kept = resolved-same (length ts) ts new (λ r h. term-more ts new r kept h) ps (refs-there n ts ps b)
