-- What a term's outermost node says of the term.
use Rattle.std.proofs.Common.{◌≡◌, ℕ, suc, ◌<◌, ap, arith}
use Rattle.op_logic.specs.Term.{Term, var, int, node, no_args, arg, args_of, arity}
use Rattle.op_term.specs.Head.{head, sym as name_of}
use Rattle.op_term.specs.declared.node.Node.TheVariants.{Atom, Struct}
use Rattle.op_term.specs.declared.symbols.Sym.{Sym}

pub head-atom : (g : Term ℕ) (f : Sym) → head g ≡ Atom f → g ≡ node f.0 no_args
head-atom (var v) f e = absurd cc
head-atom (int i) f e = absurd cc
head-atom (node h no_args) f e = let s : name_of h ≡ f = cc in ap (λ (x : Sym). node x.0 no_args) s
head-atom (node h (arg t ts)) f e = absurd cc

pub head-struct : (g : Term ℕ) (f : Sym) (n : ℕ) → head g ≡ Struct f n → (g ≡ node f.0 (args_of g)) × (arity (args_of g) ≡ n)
    × (0 < arity (args_of g))
head-struct (var v) f n e = absurd cc
head-struct (int i) f n e = absurd cc
head-struct (node h no_args) f n e = absurd cc
head-struct (node h (arg t ts)) f n e =
    let s : name_of h ≡ f = cc in
    let k : suc (arity ts) ≡ n = cc in
    (ap (λ (x : Sym). node x.0 (arg t ts)) s, k, omega arith)
