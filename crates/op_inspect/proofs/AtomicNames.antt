-- The names of terms.
use Rattle.std.proofs.Common.{◌≡◌, ℕ, suc, List, refl, sym, subst}
use Rattle.op_logic.specs.Term.{Term, var, int, node, no_args, arg, arity}
use Rattle.op_logic.specs.Names.{named}
use Rattle.op_term.specs.Head.{head, sym as sym_of}
use Rattle.op_term.specs.declared.node.Node.TheVariants.{Struct}
use Rattle.op_term.specs.declared.symbols.Sym.{Sym}
use Rattle.op_trace.specs.Database.{Text}
use Rattle.op_inspect.specs.Construction.{name_of}
use Rattle.op_inspect.specs.inner.Made.{IsBound}
use Rattle.op_inspect.specs.inner.Settings.{IsAtomic}

pub name-itself : (names : List (List ℕ)) (t : Term ℕ) → ((f : Sym) (n : ℕ) → head t ≡ Struct f n → ⊥)
    → named names t ≡ name_of (named names t)
name-itself names (var v) h = refl
name-itself names (int i) h = refl
name-itself names (node f no_args) h = refl
name-itself names (node f (arg t ts)) h = absurd (h (sym_of f) (suc (arity ts)) refl)

-- the name of a term that is no variable is atomic
abbrev IsAtomicText : Term Text → Type 0
IsAtomicText (var v) = ⊥
IsAtomicText (int i) = Unit {0}
IsAtomicText (node f ts) = ts ≡ no_args

name-text : (names : List (List ℕ)) (t : Term ℕ) → IsBound t → IsAtomicText (name_of (named names t))
name-text names (var v) h = absurd h
name-text names (int i) h = tt
name-text names (node f ts) h = refl

text-atomic : (names : List (List ℕ)) (t : Term ℕ) → IsAtomicText (named names t) → IsAtomic t
text-atomic names (var v) h = absurd h
text-atomic names (int i) h = tt
text-atomic names (node f no_args) h = refl
text-atomic names (node f (arg t ts)) h = absurd cc

pub name-atomic : (names : List (List ℕ)) (t q : Term ℕ) → IsBound t → named names q ≡ name_of (named names t) → IsAtomic q
name-atomic names t q h e = text-atomic names q (subst IsAtomicText (sym e) (name-text names t h))
