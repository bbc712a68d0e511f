-- Terms '$VAR'(N).
use Rattle.std.proofs.Common.{◌≡◌, ◌&&◌, ℕ, ℤ, pos, negsuc, nat_abs, Bool, true, false, not, cond, List, Option, Some, None, refl, sym, ◌∙◌}
use Rattle.std.proofs.Common.{ap}
use Rattle.std.specs.Prelude.{codes, int_lt}
use Rattle.std.specs.Str.{bytes_eq}
use Rattle.op_logic.proofs.BoolCases.{if_true, if_false}
use Rattle.op_logic.specs.Term.{Term, var, int, node, Args, no_args, arg, args_of, arity, nth_arg, rename_args}
use Rattle.op_logic.specs.Names.{name_at, named}
use Rattle.op_term.specs.Head.{head}
use Rattle.op_term.specs.declared.node.Node.TheVariants.{Int, Struct}
use Rattle.op_term.specs.declared.symbols.Sym.{Sym}
use Rattle.op_writer.specs.Text.{is_canonical, only_one, natural}
use Rattle.op_writer.specs.inner.Stack.{Ways, letter, natural_of}
use Rattle.op_writer.proofs.TermArguments.{compound-of, compound-one}
use Rattle.op_writer.proofs.CompoundForms.{no-letter}

pub natural-int : (z : ℤ) → int_lt z (pos 0) ≡ false → Some (nat_abs z) ≡ natural_of (Int z)
natural-int (pos n) h = refl
natural-int (negsuc n) h = absurd (let e : true ≡ false = h in cc)

natural-head : (names : List (List ℕ)) (t : Term ℕ) → natural (Some (named names t)) ≡ natural_of (head t)
natural-head names (var v) = refl
natural-head names (int (pos n)) = refl
natural-head names (int (negsuc n)) = refl
natural-head names (node f no_args) = refl
natural-head names (node f (arg t ts)) = refl

only-many : (names : List (List ℕ)) (ts : Args ℕ) → (arity ts ≡ 1 → ⊥)
    → ◌≡◌ {A = Option ℕ} (natural (only_one (rename_args (name_at names) ts))) None
only-many names no_args h = refl
only-many names (arg t no_args) h = absurd (h refl)
only-many names (arg t (arg u us)) h = refl

abbrev flag : Ways → ℕ → Bool
flag w f = not (is_canonical w.style) && bytes_eq (name_at w.names f) (codes "$VAR")

pub letter-many : (w : Ways) (t : Term ℕ) (f : Sym) (n : ℕ) → head t ≡ Struct f n → (n ≡ 1 → ⊥) → None ≡ letter w t f.0
letter-many w t f n h g =
    let c = compound-of t f n h in
    let e = only-many w.names (args_of t) (λ one. g (sym c.1 ∙ one)) in
    sym (ap (λ (o : Option ℕ). cond (flag w f.0) o None) e ∙ no-letter (flag w f.0))

pub letter-off : (w : Ways) (t : Term ℕ) (f : Sym) → flag w f.0 ≡ false → None ≡ letter w t f.0
letter-off w t f h = sym (if_false (flag w f.0) _ _ h)

pub letter-one : (w : Ways) (t : Term ℕ) (f : Sym) → head t ≡ Struct f 1 → flag w f.0 ≡ true
    → natural_of (head (nth_arg (args_of t) 0)) ≡ letter w t f.0
letter-one w t f h on =
    let a = nth_arg (args_of t) 0 in
    let e : args_of t ≡ arg a no_args = ap args_of (compound-one t f h) in
    sym (if_true (flag w f.0) _ _ on ∙ (ap (λ (ts : Args ℕ). natural (only_one (rename_args (name_at w.names) ts))) e
    ∙ natural-head w.names a))
