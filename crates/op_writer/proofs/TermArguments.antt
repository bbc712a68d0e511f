-- What the outermost node says of a term and its arguments.
use Rattle.std.proofs.Common.{◌≡◌, ◌<◌, ◌≤◌, ◌+◌, ℕ, zero, suc, refl, sym, ◌∙◌, ap, subst, arith}
use Rattle.op_logic.specs.Term.{Term, var, int, node, Args, no_args, arg, args_of, arity, nth_arg}
use Rattle.op_logic.specs.Names.{HasNames, ArgsHaveNames}
use Rattle.op_term.specs.Head.{head}
use Rattle.op_term.specs.declared.node.Node.TheVariants.{Struct}
use Rattle.op_term.specs.declared.symbols.Sym.{Sym}
use Rattle.op_writer.specs.inner.Stack.{drop_args}

names-nth : (n : ℕ) (ts : Args ℕ) (i : ℕ) → ArgsHaveNames n ts → i < arity ts → HasNames n (nth_arg ts i)
names-nth n no_args i h l = absurd (omega arith)
names-nth n (arg t ts) zero h l = h.0
names-nth n (arg t ts) (suc i) h l = names-nth n ts i h.1 (omega (arith, l))

-- the arguments of a term whose names are in a table have theirs there
pub names-part : (n : ℕ) (t : Term ℕ) (i : ℕ) → HasNames n t → i < arity (args_of t) → HasNames n (nth_arg (args_of t) i)
names-part n (var v) i h l = absurd (omega arith)
names-part n (int z) i h l = absurd (omega arith)
names-part n (node f ts) i h l = names-nth n ts i h.1 l

-- a compound of so many arguments
pub compound-of : (t : Term ℕ) (f : Sym) (n : ℕ) → head t ≡ Struct f n → (t ≡ node f.0 (args_of t)) × (arity (args_of t) ≡ n) × (0 < n)
compound-of (var v) f n h = absurd (cc)
compound-of (int i) f n h = absurd (cc)
compound-of (node g no_args) f n h = absurd (cc)
compound-of (node g (arg t ts)) f n h =
    let e : Struct (record { 0 = g }) (suc (arity ts)) ≡ Struct f n = h in
    let s : record { 0 = g } ≡ f = cc in
    let a : suc (arity ts) ≡ n = cc in
    (ap (λ (x : Sym). node x.0 (arg t ts)) s, a, omega (arith, a))

args-two : (ts : Args ℕ) → arity ts ≡ 2 → ts ≡ arg (nth_arg ts 0) (arg (nth_arg ts 1) no_args)
args-two no_args h = absurd (omega arith)
args-two (arg t no_args) h = absurd (omega arith)
args-two (arg t (arg u no_args)) h = refl
args-two (arg t (arg u (arg v vs))) h = absurd (omega arith)

args-one : (ts : Args ℕ) → arity ts ≡ 1 → ts ≡ arg (nth_arg ts 0) no_args
args-one no_args h = absurd (omega arith)
args-one (arg t no_args) h = refl
args-one (arg t (arg u us)) h = absurd (omega arith)

args-some : (ts : Args ℕ) → 0 < arity ts → ts ≡ arg (nth_arg ts 0) (drop_args 1 ts)
args-some no_args h = absurd (omega arith)
args-some (arg t ts) h = refl

pub compound-two : (t : Term ℕ) (f : Sym) → head t ≡ Struct f 2
    → t ≡ node f.0 (arg (nth_arg (args_of t) 0) (arg (nth_arg (args_of t) 1) no_args))
compound-two t f h = let c = compound-of t f 2 h in c.0 ∙ ap (node f.0) (args-two (args_of t) c.1)

pub compound-one : (t : Term ℕ) (f : Sym) → head t ≡ Struct f 1 → t ≡ node f.0 (arg (nth_arg (args_of t) 0) no_args)
compound-one t f h = let c = compound-of t f 1 h in c.0 ∙ ap (node f.0) (args-one (args_of t) c.1)

pub compound-some : (t : Term ℕ) (f : Sym) (n : ℕ) → head t ≡ Struct f n
    → t ≡ node f.0 (arg (nth_arg (args_of t) 0) (drop_args 1 (args_of t)))
compound-some t f n h = let c = compound-of t f n h in c.0 ∙ ap (node f.0) (args-some (args_of t) (omega (arith, c.1, c.2)))

-- the arguments from an index on
pub drop-some : (ts : Args ℕ) (i : ℕ) → i < arity ts → drop_args i ts ≡ arg (nth_arg ts i) (drop_args (i + 1) ts)
drop-some no_args i l = absurd (omega arith)
drop-some (arg t ts) zero l = refl
drop-some (arg t ts) (suc i) l =
    let e : suc i + 1 ≡ suc (i + 1) = omega arith in
    drop-some ts i (omega (arith, l)) ∙ ap (λ (k : ℕ). arg (nth_arg ts i) (drop_args k (arg t ts))) (sym e)

pub drop-none : (ts : Args ℕ) (i : ℕ) → arity ts ≤ i → drop_args i ts ≡ no_args
drop-none no_args zero l = refl
drop-none no_args (suc i) l = refl
drop-none (arg t ts) zero l = absurd (omega (arith, l))
drop-none (arg t ts) (suc i) l = drop-none ts i (omega (arith, l))

-- the name of a compound is in the table
pub named-head : (n : ℕ) (t : Term ℕ) (f : Sym) (k : ℕ) → head t ≡ Struct f k → HasNames n t → f.0 < n
named-head n t f k h named =
    let c = compound-of t f k h in
    let all : HasNames n (node f.0 (args_of t)) = subst (λ (x : Term ℕ). HasNames n x) c.0 named in
    all.0

-- a term that is no compound has no arguments
pub arity-head : (t : Term ℕ) → ((f : Sym) (n : ℕ) → head t ≡ Struct f n → ⊥) → 0 ≡ arity (args_of t)
arity-head (var v) h = refl
arity-head (int i) h = refl
arity-head (node f no_args) h = refl
arity-head (node f (arg t ts)) h = absurd (h (record { 0 = f }) (suc (arity ts)) refl)
