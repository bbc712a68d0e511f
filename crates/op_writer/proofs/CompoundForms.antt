-- The forms of compounds.
use Rattle.std.proofs.Common.{◌≡◌, ◌++◌, ◌&&◌, ℕ, suc, ℤ, Bool, true, false, not, cond, List, [], ◌∷◌, Option, Some, None, refl, sym, ◌∙◌}
use Rattle.std.proofs.Common.{ap, subst}
use Rattle.std.specs.Prelude.{codes}
use Rattle.std.specs.Str.{bytes_eq}
use Rattle.op_logic.proofs.BoolCases.{if_false}
use Rattle.op_term.specs.Head.{head}
use Rattle.op_term.specs.declared.node.Node.TheVariants.{Var, Int, Atom, Struct}
use Rattle.op_term.specs.declared.symbols.Sym.{Sym}
use Rattle.op_writer.proofs.TermArguments.{compound-some, compound-of}
use Rattle.op_logic.specs.Term.{Term, var, int, node, Args, no_args, arg, args_of, arity, nth_arg, rename_args}
use Rattle.op_logic.specs.Names.{name_at}
use Rattle.op_writer.specs.declared.style.Style.{Style}
use Rattle.op_writer.specs.declared.bound.Bound.{Bound}
use Rattle.op_writer.specs.declared.notation.Notation.{Notation}
use Rattle.op_writer.specs.declared.notation.Notation.TheVariants.{List as Listed, Braces, Infix, Prefix as Before, Postfix as Behind}
use Rattle.op_writer.specs.declared.notation.Notation.TheVariants.{Functional}
use Rattle.op_writer.specs.Fragments.{Fragment}
use Rattle.op_writer.specs.Spelling.{name_text}
use Rattle.op_writer.specs.Text.{Form, Place, within, named_form, compound_form, compound, functional, notation_of, letter_of, is_canonical}
use Rattle.op_writer.specs.Text.{rest_of, sign, argument, rest}
use Rattle.op_writer.specs.inner.Stack.{Ways, form, forms, letter, drop_args, IsBarred}

arity-names : (names : List (List ℕ)) (ts : Args ℕ) → arity (rename_args (name_at names) ts) ≡ arity ts
arity-names names no_args = refl
arity-names names (arg t ts) = ap suc (arity-names names ts)

-- a compound that is no letter
pub form-compound : (w : Ways) (t : Term ℕ) (f : ℕ) (a : Term ℕ) (ts : Args ℕ) (place : Place) → t ≡ node f (arg a ts) → letter w t f ≡ None
    → form w t place ≡ compound_form w.style (name_at w.names f) (form w a ∷ forms w ts) (notation_of w.ops w.style
    (name_at w.names f) (suc (arity ts))) place
form-compound w t f a ts place e k =
    let name = name_at w.names f in
    let args = rename_args (name_at w.names) (arg a ts) in
    let l : letter_of w.style name args ≡ None = subst (λ (x : Term ℕ). letter w x f ≡ None) e k in
    ap (λ (x : Term ℕ). form w x place) e
    ∙ (ap (λ (o : Option ℕ). named_form w.ops w.style name args o (form w a ∷ forms w ts) place) l
    ∙ ap (λ (n : ℕ). compound_form w.style name (form w a ∷ forms w ts) (notation_of w.ops w.style name (suc n)) place)
    (arity-names w.names ts))

-- a letter
pub form-letter : (w : Ways) (t : Term ℕ) (f : ℕ) (a : Term ℕ) (ts : Args ℕ) (place : Place) (n : ℕ)
    → t ≡ node f (arg a ts) → letter w t f ≡ Some n
    → form w t place ≡ named_form w.ops w.style (name_at w.names f) (rename_args (name_at w.names) (arg a ts)) (Some n)
    (form w a ∷ forms w ts) place
form-letter w t f a ts place n e k =
    let name = name_at w.names f in
    let args = rename_args (name_at w.names) (arg a ts) in
    let l : letter_of w.style name args ≡ Some n = subst (λ (x : Term ℕ). letter w x f ≡ Some n) e k in
    ap (λ (x : Term ℕ). form w x place) e ∙ ap (λ (o : Option ℕ). named_form w.ops w.style name args o (form w a ∷ forms w ts) place) l

pub functional-form : (style : Style) (f : List ℕ) (a : Form) (fs : List Form) (bound : Bound)
    → compound style f (a ∷ fs) bound Functional ≡ functional (name_text style f) (a ∷ fs)
functional-form style f a [] bound = refl
functional-form style f a (b ∷ []) bound = refl
functional-form style f a (b ∷ (d ∷ fs)) bound = refl

pub no-letter : (b : Bool) → ◌≡◌ {A = Option ℕ} (cond b None None) None
no-letter true = refl
no-letter false = refl

pub letter-two : (w : Ways) (f : ℕ) (a b : Term ℕ) → letter w (node f (arg a (arg b no_args))) f ≡ None
letter-two w f a b = no-letter (not (is_canonical w.style) && bytes_eq (name_at w.names f) (codes "$VAR"))

-- rests that are no lists
rest-other : (fs : List Form) (nt : Notation) (other : List Fragment) → (nt ≡ Listed → ⊥)
    → rest_of fs nt other ≡ sign (codes "|") ++ other ++ sign (codes "]")
rest-other [] nt other h = refl
rest-other (a ∷ []) nt other h = refl
rest-other (a ∷ b ∷ []) Listed other h = absurd (h refl)
rest-other (a ∷ b ∷ []) Braces other h = refl
rest-other (a ∷ b ∷ []) (Infix m) other h = refl
rest-other (a ∷ b ∷ []) (Before m) other h = refl
rest-other (a ∷ b ∷ []) (Behind m) other h = refl
rest-other (a ∷ b ∷ []) Functional other h = refl
rest-other (a ∷ b ∷ (d ∷ fs)) nt other h = refl

pub barred-var : (w : Ways) (t : Term ℕ) (n : ℕ) → head t ≡ Var n → IsBarred w t
barred-var w (var v) n h = refl
barred-var w (int i) n h = absurd (cc)
barred-var w (node f no_args) n h = absurd (cc)
barred-var w (node f (arg u us)) n h = absurd (cc)

pub barred-int : (w : Ways) (t : Term ℕ) (i : ℤ) → head t ≡ Int i → IsBarred w t
barred-int w (var v) n h = absurd (cc)
barred-int w (int i) n h = refl
barred-int w (node f no_args) n h = absurd (cc)
barred-int w (node f (arg u us)) n h = absurd (cc)

pub barred-atom : (w : Ways) (t : Term ℕ) (f : Sym) → head t ≡ Atom f → bytes_eq (name_at w.names f.0) (codes "[]") ≡ false → IsBarred w t
barred-atom w (var v) n h g = absurd (cc)
barred-atom w (int i) n h g = absurd (cc)
barred-atom w (node f no_args) n h g =
    let s : record { 0 = f } ≡ n = cc in
    let e : bytes_eq (name_at w.names f) (codes "[]") ≡ false =
    subst (λ (x : Sym). bytes_eq (name_at w.names x.0) (codes "[]") ≡ false) (sym s) g in
    if_false (bytes_eq (name_at w.names f) (codes "[]")) _ _ e
barred-atom w (node f (arg u us)) n h g = absurd (cc)

pub barred-struct : (w : Ways) (t : Term ℕ) (f : Sym) (n : ℕ) → head t ≡ Struct f n
    → (notation_of w.ops w.style (name_at w.names f.0) n ≡ Listed → ⊥) → IsBarred w t
barred-struct w t f n h g =
    let ts = drop_args 1 (args_of t) in
    let a = nth_arg (args_of t) 0 in
    let e = compound-some t f n h in
    let c = compound-of t f n h in
    let k : suc (arity ts) ≡ n = sym (ap (λ x. arity (args_of x)) e) ∙ c.1 in
    let name = name_at w.names f.0 in
    let fs = form w a ∷ forms w ts in
    let nt = notation_of w.ops w.style name (suc (arity ts)) in
    elim (letter w t f.0) as (λ o. letter w t f.0 ≡ o → IsBarred w t) [
      | None ↦ λ l.
          form-compound w t f.0 a ts rest e l
          ∙ (rest-other fs nt (compound w.style name fs argument nt) (λ x. g (sym (ap (λ (m : ℕ). notation_of w.ops w.style name m) k) ∙ x))
          ∙ ap (λ x. sign (codes "|") ++ x ++ sign (codes "]")) (sym (form-compound w t f.0 a ts (within argument) e l)))
      | Some m ↦ λ l.
          form-letter w t f.0 a ts rest m e l ∙ ap (λ x. sign (codes "|") ++ x ++ sign (codes "]"))
          (sym (form-letter w t f.0 a ts (within argument) m e l))
    ] refl
