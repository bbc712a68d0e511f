-- Terms by their outermost nodes and their arguments.
use Rattle.std.proofs.Common.{◌≡◌, ℕ, sym, ap, ◌∙◌, arith}
use Rattle.op_logic.specs.Term.{Term, var, int, node, Args, no_args, arg, arity, args_of, nth_arg}
use Rattle.op_term.specs.Head.{head, sym as name}
use Rattle.op_term.specs.declared.symbols.Sym.{Sym}
use Rattle.op_term.specs.declared.node.Node.TheVariants.{Struct}

by-args : (g : ℕ) (f : Sym) (ts us : Args ℕ) → f ≡ name g → ts ≡ us → node g ts ≡ node f.0 us
by-args g f ts us e h = ap (λ (x : Sym). node x.0 ts) (sym e) ∙ ap (node f.0) h

one-args : (ts : Args ℕ) (a : Term ℕ) → arity ts ≡ 1 → a ≡ nth_arg ts 0 → ts ≡ arg a no_args
one-args no_args a e h = absurd (omega arith)
one-args (arg x no_args) a e h = ap (λ (t : Term ℕ). arg t no_args) (sym h)
one-args (arg x (arg y ts)) a e h = absurd (omega arith)

two-args : (ts : Args ℕ) (a b : Term ℕ) → arity ts ≡ 2 → a ≡ nth_arg ts 0 → b ≡ nth_arg ts 1 → ts ≡ arg a (arg b no_args)
two-args no_args a b e ha hb = absurd (omega arith)
two-args (arg x ts) a b e ha hb = ap (λ (t : Term ℕ). arg t ts) (sym ha) ∙ ap (arg a) (one-args ts b (omega arith) hb)

three-args : (ts : Args ℕ) (a b c : Term ℕ) → arity ts ≡ 3 → a ≡ nth_arg ts 0 → b ≡ nth_arg ts 1 → c ≡ nth_arg ts 2
    → ts ≡ arg a (arg b (arg c no_args))
three-args no_args a b c e ha hb hc = absurd (omega arith)
three-args (arg x ts) a b c e ha hb hc = ap (λ (t : Term ℕ). arg t ts) (sym ha) ∙ ap (arg a) (two-args ts b c (omega arith) hb hc)

struct-args : (g : ℕ) (ts : Args ℕ) (f : Sym) (n : ℕ) → Struct f n ≡ head (node g ts) → (f ≡ name g) × (arity ts ≡ n)
struct-args g no_args f n e = absurd cc
struct-args g (arg t ts) f n e = (cc, cc)

pub one-shape : (t a : Term ℕ) (f : Sym) (n : ℕ) → Struct f n ≡ head t → n ≡ 1 → a ≡ nth_arg (args_of t) 0 → t ≡ node f.0 (arg a no_args)
one-shape (var v) a f n e k ha = absurd cc
one-shape (int i) a f n e k ha = absurd cc
one-shape (node g ts) a f n e k ha = let s = struct-args g ts f n e in by-args g f ts (arg a no_args) s.0 (one-args ts a (s.1 ∙ k) ha)

pub two-shape : (t a b : Term ℕ) (f : Sym) (n : ℕ) → Struct f n ≡ head t → n ≡ 2 → a ≡ nth_arg (args_of t) 0 → b ≡ nth_arg (args_of t) 1
    → t ≡ node f.0 (arg a (arg b no_args))
two-shape (var v) a b f n e k ha hb = absurd cc
two-shape (int i) a b f n e k ha hb = absurd cc
two-shape (node g ts) a b f n e k ha hb =
    let s = struct-args g ts f n e in by-args g f ts (arg a (arg b no_args)) s.0 (two-args ts a b (s.1 ∙ k) ha hb)

pub three-shape : (t a b c : Term ℕ) (f : Sym) (n : ℕ) → Struct f n ≡ head t → n ≡ 3 → a ≡ nth_arg (args_of t) 0 → b ≡ nth_arg (args_of t) 1
    → c ≡ nth_arg (args_of t) 2 → t ≡ node f.0 (arg a (arg b (arg c no_args)))
three-shape (var v) a b c f n e k ha hb hc = absurd cc
three-shape (int i) a b c f n e k ha hb hc = absurd cc
three-shape (node g ts) a b c f n e k ha hb hc =
    let s = struct-args g ts f n e in by-args g f ts (arg a (arg b (arg c no_args))) s.0 (three-args ts a b c (s.1 ∙ k) ha hb hc)
