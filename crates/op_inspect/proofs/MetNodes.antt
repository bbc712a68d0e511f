-- What a node is evaluated to, by what it is.
use Rattle.std.proofs.Math.Path.{ap₂}
use Rattle.std.proofs.Common.{◌≡◌, ℕ, suc, ◌<◌, List, ap, sym, subst, refl, arith}
use Rattle.std.specs.Prelude.{ℤ, Ok, Err}
use Rattle.op_logic.specs.Term.{Term, var, int, node, Args, no_args, arg, arity, rename_args}
use Rattle.op_logic.specs.Names.{name_at, named, HasNames}
use Rattle.op_term.specs.Head.{head, sym as sym_of}
use Rattle.op_term.specs.declared.node.Node.TheVariants.{Struct, Atom, Var, Int}
use Rattle.op_term.specs.declared.symbols.Sym.{Sym}
use Rattle.op_inspect.specs.Arithmetic.{instantiation, evaluable, evaluated}
use Rattle.op_inspect.specs.Told.{of_error}
use Rattle.op_inspect.specs.declared.fault.EvaluationError.{EvaluationError}
use Rattle.op_inspect.specs.declared.fault.EvaluationError.TheVariants as errors
use Rattle.op_inspect.specs.declared.fault.EvalFault.TheVariants.{Spent, Unbound, Evaluable}

pub unbound-not-spent : Unbound ≡ Spent → ⊥
unbound-not-spent h = cc

pub evaluable-not-spent : (f : Sym) (n : ℕ) → Evaluable f n ≡ Spent → ⊥
evaluable-not-spent f n h = cc

pub error-not-spent : (e : EvaluationError) → of_error e ≡ Spent → ⊥
error-not-spent errors.Overflow h = cc
error-not-spent errors.ZeroDivisor h = cc
error-not-spent errors.Undefined h = cc

arity-renamed : (names : List (List ℕ)) (ts : Args ℕ) → arity (rename_args (name_at names) ts) ≡ arity ts
arity-renamed names no_args = refl
arity-renamed names (arg t ts) = ap suc (arity-renamed names ts)

module _ (names : List (List ℕ)) where
  pub met-variable : (t : Term ℕ) (v : ℕ) → Var v ≡ head t → evaluated (named names t) ≡ (Err instantiation, 1)
  met-variable (var v) w h = refl
  met-variable (int i) w h = cc
  met-variable (node f no_args) w h = cc
  met-variable (node f (arg t ts)) w h = cc

  pub met-integer : (t : Term ℕ) (i : ℤ) → Int i ≡ head t → evaluated (named names t) ≡ (Ok i, 1)
  met-integer (var v) j h = cc
  met-integer (int i) j h = let same : j ≡ i = cc in ap (λ (k : ℤ). (Ok k, 1)) (sym same)
  met-integer (node f no_args) j h = cc
  met-integer (node f (arg t ts)) j h = cc

  pub met-atom : (t : Term ℕ) (f : Sym) → Atom f ≡ head t → evaluated (named names t) ≡ (Err (evaluable (name_at names f.0) 0), 1)
  met-atom (var v) f h = cc
  met-atom (int i) f h = cc
  met-atom (node g no_args) f h =
      let same : f ≡ sym_of g = cc in ap (λ (k : Sym). (Err (evaluable (name_at names k.0) 0), 1)) (sym same)
  met-atom (node g (arg t ts)) f h = cc

  pub met-many : (t : Term ℕ) (f : Sym) (n : ℕ) → Struct f n ≡ head t → (n ≡ 1 → ⊥) → (n ≡ 2 → ⊥)
      → evaluated (named names t) ≡ (Err (evaluable (name_at names f.0) n), 1)
  met-many (var v) f n h one two = cc
  met-many (int i) f n h one two = cc
  met-many (node g no_args) f n h one two = cc
  met-many (node g (arg t no_args)) f n h one two = let same : n ≡ suc 0 = cc in absurd (one same)
  met-many (node g (arg t (arg u no_args))) f n h one two = let same : n ≡ suc (suc 0) = cc in absurd (two same)
  met-many (node g (arg t (arg u (arg v vs)))) f n h one two =
      let same : f ≡ sym_of g = cc in
      let many : n ≡ suc (suc (suc (arity vs))) = cc in
      let rest = arity-renamed names vs in
      ap₂ (λ (k : Sym) (m : ℕ). (Err (evaluable (name_at names k.0) m), 1)) (sym same) (omega (arith, many, rest))

-- the name of a node is known
pub known-atom : (t : Term ℕ) (f : Sym) (count : ℕ) → Atom f ≡ head t → HasNames count t → f.0 < count
known-atom (var v) f count h names = let no : ⊥ = cc in absurd no
known-atom (int i) f count h names = let no : ⊥ = cc in absurd no
known-atom (node g no_args) f count h names =
    let same : f ≡ sym_of g = cc in subst (λ (k : Sym). k.0 < count) (sym same) names.0
known-atom (node g (arg t ts)) f count h names = let no : ⊥ = cc in absurd no

pub known-struct : (t : Term ℕ) (f : Sym) (n count : ℕ) → Struct f n ≡ head t → HasNames count t → f.0 < count
known-struct (var v) f n count h names = let no : ⊥ = cc in absurd no
known-struct (int i) f n count h names = let no : ⊥ = cc in absurd no
known-struct (node g no_args) f n count h names = let no : ⊥ = cc in absurd no
known-struct (node g (arg t ts)) f n count h names =
    let same : f ≡ sym_of g = cc in subst (λ (k : Sym). k.0 < count) (sym same) names.0
