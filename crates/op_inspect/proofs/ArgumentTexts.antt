-- Arguments over texts, and those of Refs.
use Rattle.std.proofs.Common.{◌≡◌, ℕ, ◌<◌, List, [], ◌∷◌, length, map, All, refl, sym, ap, ◌∙◌, subst, arith}
use Rattle.std.proofs.lemmas.List.Elements.{All-nil, All-cons, All-head, All-tail}
use Rattle.op_logic.specs.Term.{Term, var, int, node, Args, no_args, arg, args_of, nth_arg, arity, rename_args}
use Rattle.op_logic.specs.Names.{name_at, named, HasNames, ArgsHaveNames}
use Rattle.op_logic.proofs.RenamedUnification.{arity-rename}
use Rattle.op_logic.proofs.ShiftedTerms.{nth-rename}
use Rattle.op_term.specs.Arguments.{args_list}
use Rattle.op_term.specs.Places.{term_at, args_at}
use Rattle.op_bind.specs.State.{State}
use Rattle.op_trace.specs.Database.{Text}
use Rattle.op_inspect.specs.Construction.{name_of, parts_of}
use Rattle.op_inspect.specs.Outcomes.{text_at, IsKnown}
use Rattle.op_inspect.specs.inner.Seen.{texts}

pub args-names : (n : ℕ) (t : Term ℕ) → HasNames n t → ArgsHaveNames n (args_of t)
args-names n (var v) h = tt
args-names n (int i) h = tt
args-names n (node f ts) h = h.1

module _ (names : List (List ℕ)) where
  pub args-text : (t : Term ℕ) → args_of (named names t) ≡ rename_args (name_at names) (args_of t)
  args-text (var v) = refl
  args-text (int i) = refl
  args-text (node f ts) = refl

  pub arity-text : (t : Term ℕ) → arity (args_of (named names t)) ≡ arity (args_of t)
  arity-text t = ap arity (args-text t) ∙ arity-rename (name_at names) (args_of t)

  pub nth-text : (t : Term ℕ) (i : ℕ) → i < arity (args_of t) → nth_arg (args_of (named names t)) i ≡ named names (nth_arg (args_of t) i)
  nth-text t i h = ap (λ (ts : Args Text). nth_arg ts i) (args-text t) ∙ nth-rename (name_at names) (args_of t) i h

  -- Refs of arguments
  module _ (s : State) where
    pub texts-list : (rs : List ℕ) (ts : Args ℕ) → map (term_at s.terms) rs ≡ args_list ts → texts names s rs
        ≡ rename_args (name_at names) ts
    texts-list [] no_args e = refl
    texts-list [] (arg t ts) e = absurd cc
    texts-list (r ∷ rs) no_args e = absurd cc
    texts-list (r ∷ rs) (arg t ts) e =
        let first : term_at s.terms r ≡ t = cc in
        let others : map (term_at s.terms) rs ≡ args_list ts = cc in
        ap (λ (x : Term ℕ). arg (named names x) (texts names s rs)) first ∙ ap (arg (named names t)) (texts-list rs ts others)

    pub texts-known : (rs : List ℕ) (ts : Args ℕ) → map (term_at s.terms) rs ≡ args_list ts → ArgsHaveNames (length names) ts
        → All (λ r. r < length s.terms) rs → All (IsKnown names s) rs
    texts-known [] no_args e h l = All-nil (IsKnown names s)
    texts-known [] (arg t ts) e h l = absurd cc
    texts-known (r ∷ rs) no_args e h l = absurd cc
    texts-known (r ∷ rs) (arg t ts) e h l =
        let first : term_at s.terms r ≡ t = cc in
        let others : map (term_at s.terms) rs ≡ args_list ts = cc in
        All-cons (IsKnown names s) r rs (All-head (λ q. q < length s.terms) r rs l, subst (HasNames (length names)) (sym first) h.0)
        (texts-known rs ts others h.1 (All-tail (λ q. q < length s.terms) r rs l))

    pub texts-arity : (rs : List ℕ) → arity (texts names s rs) ≡ length rs
    texts-arity [] = refl
    texts-arity (r ∷ rs) = let e = texts-arity rs in omega (arith, e)

    -- what compounds of Refs come to
    pub texts-at : (rs : List ℕ) → texts names s rs ≡ rename_args (name_at names) (args_at s.terms rs)
    texts-at [] = refl
    texts-at (r ∷ rs) = ap (arg (text_at names s r)) (texts-at rs)

    pub names-at : (rs : List ℕ) → All (IsKnown names s) rs → ArgsHaveNames (length names) (args_at s.terms rs)
    names-at [] h = tt
    names-at (r ∷ rs) h = ((All-head (IsKnown names s) r rs h).1, names-at rs (All-tail (IsKnown names s) r rs h))

    pub there-at : (rs : List ℕ) → All (IsKnown names s) rs → All (λ r. r < length s.terms) rs
    there-at [] h = All-nil (λ r. r < length s.terms)
    there-at (r ∷ rs) h =
        All-cons (λ q. q < length s.terms) r rs (All-head (IsKnown names s) r rs h).0 (there-at rs (All-tail (IsKnown names s) r rs h))

-- a term's parts are its name and its arguments
pub parts-name : (t : Term Text) → parts_of t ≡ arg (name_of t) (args_of t)
parts-name (var v) = refl
parts-name (int i) = refl
parts-name (node f ts) = refl
