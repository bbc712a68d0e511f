-- Numbering the variables of a term from another number on, and its names.
use Rattle.std.proofs.Common.{◌≡◌, ℕ, zero, suc, ◌+◌, ◌<◌, refl, ap, arith}
use Rattle.op_logic.specs.Term.{Term, var, int, node, Args, no_args, arg, arity, shift, shift_args, rename, rename_args, nth_arg}
use Rattle.op_logic.specs.Names.{HasNames, ArgsHaveNames}

module _ {N M : Type 0} (f : N → M) where
  mutual
    pub shift-rename : (n : ℕ) (t : Term N) → shift n (rename f t) ≡ rename f (shift n t)
    shift-rename n (var v) = refl
    shift-rename n (int i) = refl
    shift-rename n (node g ts) = ap (node (f g)) (shift_args-rename n ts)

    shift_args-rename : (n : ℕ) (ts : Args N) → shift_args n (rename_args f ts) ≡ rename_args f (shift_args n ts)
    shift_args-rename n no_args = refl
    shift_args-rename n (arg t ts) = let a = shift-rename n t in let b = shift_args-rename n ts in cc

  pub nth-rename : (ts : Args N) (i : ℕ) → i < arity ts → nth_arg (rename_args f ts) i ≡ rename f (nth_arg ts i)
  nth-rename no_args i h = absurd (omega arith)
  nth-rename (arg t ts) zero h = refl
  nth-rename (arg t ts) (suc i) h = nth-rename ts i (omega arith)

module _ {N : Type 0} where
  mutual
    pub shift-none : (t : Term N) → shift 0 t ≡ t
    shift-none (var v) = let e : 0 + v ≡ v = omega arith in ap var e
    shift-none (int i) = refl
    shift-none (node g ts) = ap (node g) (shift_args-none ts)

    shift_args-none : (ts : Args N) → shift_args 0 ts ≡ ts
    shift_args-none no_args = refl
    shift_args-none (arg t ts) = let a = shift-none t in let b = shift_args-none ts in cc

mutual
  pub shift-names : (n k : ℕ) (t : Term ℕ) → HasNames n t → HasNames n (shift k t)
  shift-names n k (var v) h = tt
  shift-names n k (int i) h = tt
  shift-names n k (node g ts) h = (h.0, shift_args-names n k ts h.1)

  shift_args-names : (n k : ℕ) (ts : Args ℕ) → ArgsHaveNames n ts → ArgsHaveNames n (shift_args k ts)
  shift_args-names n k no_args h = tt
  shift_args-names n k (arg t ts) h = (shift-names n k t h.0, shift_args-names n k ts h.1)

pub nth-names : (n : ℕ) (ts : Args ℕ) (i : ℕ) → ArgsHaveNames n ts → HasNames n (nth_arg ts i)
nth-names n no_args i h = tt
nth-names n (arg t ts) zero h = h.0
nth-names n (arg t ts) (suc i) h = nth-names n ts i h.1
