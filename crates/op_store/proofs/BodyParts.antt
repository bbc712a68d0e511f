-- What terms are as parts of a body, by their outermost nodes.
use Rattle.std.proofs.Common.{◌≡◌, ◌≢◌, ℕ, suc, List, refl, sym, ap, arith}
use Rattle.op_logic.specs.Term.{Term, var, int, node, no_args, arg, arity}
use Rattle.op_logic.specs.Names.{name_at, named}
use Rattle.op_term.specs.Head.{head, sym as name}
use Rattle.op_term.specs.declared.symbols.Sym.{Sym}
use Rattle.op_term.specs.declared.node.Node.TheVariants as nodes
use Rattle.op_store.specs.inner.BodyParts.{part_of_term, part_of_pair}
use Rattle.op_store.specs.declared.bodies.body_part.Part.TheVariants as parts

pub of-pair : (names : List (List ℕ)) (t : Term ℕ) (f : Sym) (n : ℕ) → nodes.Struct f n ≡ head t → n ≡ 2
    → part_of_term (named names t) ≡ part_of_pair (name_at names f.0)
of-pair names (var v) f n e two = absurd cc
of-pair names (int i) f n e two = absurd cc
of-pair names (node g no_args) f n e two = absurd cc
of-pair names (node g (arg a no_args)) f n e two = let k : n ≡ 1 = cc in absurd (omega arith)
of-pair names (node g (arg a (arg b no_args))) f n e two =
    let s : f ≡ name g = cc in sym (ap (λ (x : Sym). part_of_pair (name_at names x.0)) s)
of-pair names (node g (arg a (arg b (arg c ts)))) f n e two = let k : n ≡ suc (suc (suc (arity ts))) = cc in absurd (omega arith)

pub of-other : (names : List (List ℕ)) (t : Term ℕ) (f : Sym) (n : ℕ) → nodes.Struct f n ≡ head t → n ≢ 2
    → part_of_term (named names t) ≡ parts.Goal
of-other names (var v) f n e two = absurd cc
of-other names (int i) f n e two = absurd cc
of-other names (node g no_args) f n e two = absurd cc
of-other names (node g (arg a no_args)) f n e two = refl
of-other names (node g (arg a (arg b no_args))) f n e two = let k : n ≡ 2 = cc in absurd (two k)
of-other names (node g (arg a (arg b (arg c ts)))) f n e two = refl
