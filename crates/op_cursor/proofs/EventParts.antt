-- What the nodes of goals and of patterns say of the terms that they show as.
use Rattle.std.proofs.Common.{◌≡◌, ℕ, zero, suc, ◌<◌, ◌==◌, ◌&&◌, Bool, true, false, List, sym, ◌∙◌, ap, refl, arith}
use Rattle.std.specs.Prelude.{codes}
use Rattle.op_logic.specs.Term.{Term, var, int, node, Args, no_args, arg, args_of, nth_arg, arity, rename_args}
use Rattle.op_logic.specs.Names.{name_at, named, HasNames, ArgsHaveNames}
use Rattle.op_logic.proofs.RenamedUnification.{arity-rename}
use Rattle.op_logic.proofs.ShiftedTerms.{nth-rename, nth-names}
use Rattle.op_term.specs.Head.{head, sym as name_of}
use Rattle.op_term.specs.declared.node.Node.TheVariants.{Var, Atom, Struct}
use Rattle.op_term.specs.declared.symbols.Sym.{Sym}
use Rattle.op_term.proofs.Heads.{head-atom, head-struct}
use Rattle.op_trace.specs.Database.{Text, text_eq}
use Rattle.op_moves.specs.EventTerm.{shown, shown_args}
use Rattle.op_moves.specs.Pairs.{head_of, name}
use Rattle.op_moves.specs.Pattern.{same_name, is_event}

pub arity-shown : (ts : Args Text) → arity (shown_args ts) ≡ arity ts
arity-shown no_args = refl
arity-shown (arg t ts) = ap suc (arity-shown ts)

pub nth-shown : (ts : Args Text) (i : ℕ) → i < arity ts → nth_arg (shown_args ts) i ≡ shown (nth_arg ts i)
nth-shown no_args i h = absurd (omega arith)
nth-shown (arg t ts) zero h = refl
nth-shown (arg t ts) (suc i) h = nth-shown ts i (omega arith)

module _ (names : List Text) where
  pub struct-head : (t : Term ℕ) (f : Sym) (n : ℕ) → head t ≡ Struct f n → name (name_at names f.0) n ≡ head_of (named names t)
  struct-head t f n e =
      let h = head-struct t f n e in
      sym (ap (λ (x : Term ℕ). head_of (named names x)) h.0
      ∙ ap (name (name_at names f.0)) (arity-rename (name_at names) (args_of t) ∙ h.1))

  pub struct-shown : (t : Term ℕ) (f : Sym) (n : ℕ) → head t ≡ Struct f n → name (name_at names f.0) n ≡ head_of (shown (named names t))
  struct-shown t f n e =
      let h = head-struct t f n e in
      sym (ap (λ (x : Term ℕ). head_of (shown (named names x))) h.0
      ∙ ap (name (name_at names f.0)) (arity-shown (rename_args (name_at names) (args_of t))
      ∙ (arity-rename (name_at names) (args_of t) ∙ h.1)))

  args-named : (t : Term ℕ) → args_of (named names t) ≡ rename_args (name_at names) (args_of t)
  args-named (var v) = refl
  args-named (int i) = refl
  args-named (node f ts) = refl

  pub arity-named : (t : Term ℕ) → arity (args_of (named names t)) ≡ arity (args_of t)
  arity-named t = ap arity (args-named t) ∙ arity-rename (name_at names) (args_of t)

  pub nth-named : (t : Term ℕ) (i : ℕ) → i < arity (args_of t) → nth_arg (args_of (named names t)) i ≡ named names (nth_arg (args_of t) i)
  nth-named t i h = ap (λ (ts : Args Text). nth_arg ts i) (args-named t) ∙ nth-rename (name_at names) (args_of t) i h

  -- of a goal that is no variable the arguments are shown
  args-goal : (t : Term ℕ) → ((v : ℕ) → head t ≡ Var v → ⊥) → args_of (shown (named names t)) ≡ shown_args (args_of (named names t))
  args-goal (var v) h = absurd (h v refl)
  args-goal (int i) h = refl
  args-goal (node f ts) h = refl

  pub arity-goal : (t : Term ℕ) → ((v : ℕ) → head t ≡ Var v → ⊥) → arity (args_of (shown (named names t))) ≡ arity (args_of t)
  arity-goal t h = ap arity (args-goal t h) ∙ (arity-shown (args_of (named names t)) ∙ arity-named t)

  pub nth-goal : (t : Term ℕ) → ((v : ℕ) → head t ≡ Var v → ⊥) → (i : ℕ) → i < arity (args_of t)
      → nth_arg (args_of (shown (named names t))) i ≡ shown (named names (nth_arg (args_of t) i))
  nth-goal t h i l =
      let k : i < arity (args_of (named names t)) = omega (arith, l, arity-named t) in
      ap (λ (ts : Args Text). nth_arg ts i) (args-goal t h) ∙ (nth-shown (args_of (named names t)) i k ∙ ap shown (nth-named t i l))

pub part-names : (n : ℕ) (t : Term ℕ) (i : ℕ) → HasNames n t → HasNames n (nth_arg (args_of t) i)
part-names n t i h = nth-names n (args_of t) i (args-have n t h)
  where
    args-have : (k : ℕ) (u : Term ℕ) → HasNames k u → ArgsHaveNames k (args_of u)
    args-have k (var v) h = tt
    args-have k (int j) h = tt
    args-have k (node f ts) h = h.1

-- what a node says of a term that may be a pattern
pub event-struct : (names : List Text) (t : Term ℕ) (f : Sym) (n : ℕ) → head t ≡ Struct f n
    → is_event (named names t) ≡ same_name (name_at names f.0) n (codes "event") 6
event-struct names t f n e =
    let h = head-struct t f n e in
    ap (λ (x : Term ℕ). is_event (named names x)) h.0
    ∙ ap (λ (k : ℕ). same_name (name_at names f.0) k (codes "event") 6) (arity-rename (name_at names) (args_of t) ∙ h.1)

pub event-atom : (names : List Text) (t : Term ℕ) (f : Sym) → head t ≡ Atom f → is_event (named names t) ≡ false
event-atom names t f e =
    ap (λ (x : Term ℕ). is_event (named names x)) (head-atom t f e) ∙ none (text_eq (name_at names f.0) (codes "event"))
  where
    none : (b : Bool) → (b && (0 == 6)) ≡ false
    none true = refl
    none false = refl

pub event-other : (names : List Text) (t : Term ℕ) → ((f : Sym) (n : ℕ) → head t ≡ Struct f n → ⊥) → ((f : Sym) → head t ≡ Atom f → ⊥)
    → is_event (named names t) ≡ false
event-other names (var v) h k = refl
event-other names (int i) h k = refl
event-other names (node f no_args) h k = absurd (k (name_of f) refl)
event-other names (node f (arg t ts)) h k = absurd (h (name_of f) (suc (arity ts)) refl)
