-- Terms that are made of a name and of Refs of arguments.
use Rattle.std.proofs.Common.{◌≡◌, ℕ, ◌<◌, List, [], ◌∷◌, length, map, All, refl, sym, ap, ◌∙◌, subst, arith}
use Rattle.op_logic.specs.Bind.{Bindings, follow}
use Rattle.op_logic.specs.Names.{name_at, named, HasNames}
use Rattle.op_logic.specs.Term.{Term, var, int, node, Args, no_args, arg, args_of, rename_args}
use Rattle.std.specs.Prelude.{Some, None}
use Rattle.op_term.specs.Arguments.{args_list}
use Rattle.op_term.specs.Places.{term_at, args_at}
use Rattle.op_bind.specs.State as bind
use Rattle.op_bind.specs.State.{State}
use Rattle.op_bind.proofs.StateGrowth.{term-stays}
use Rattle.op_trace.specs.Database.{Text}
use Rattle.op_trace.specs.World.{World}
use Rattle.op_trace.specs.Builtins.{throw}
use Rattle.op_inspect.specs.Construction.{with_arguments, name_of, parts_of, head_error, univ_of_elements, term_made}
use Rattle.op_inspect.specs.Lists.{list_of}
use Rattle.op_inspect.specs.Outcomes.{text_at, IsKnown}
use Rattle.op_inspect.specs.inner.Made.{CanName}
use Rattle.op_inspect.specs.inner.Seen.{texts}
use Rattle.op_inspect.specs.inner.Settings.{Makes, Stays}
use Rattle.op_inspect.proofs.ArgumentTexts.{args-text, args-names, texts-list, texts-known, texts-at, names-at, parts-name}
use Rattle.op_inspect.proofs.MakingTerms.{makes-then, makes-text}
use Rattle.op_inspect.proofs.Refusals.{refused-some, refused-none}
use Rattle.op_inspect.proofs.TextsLater.{known-later}

texts-none : (names : List (List ℕ)) (s : State) (xs : List ℕ) → length xs ≡ 0 → texts names s xs ≡ no_args
texts-none names s [] h = refl
texts-none names s (x ∷ xs) h = absurd (omega (arith, h))

pub makes-alone : (names : List (List ℕ)) (s : State) (name : ℕ) (xs : List ℕ) → IsKnown names s name
    → CanName (term_at s.terms name) (length xs) → length xs ≡ 0
    → Makes names s names s name (with_arguments (text_at names s name) (texts names s xs))
makes-alone names s name xs known can h = record {
  known = known;
  text = go (term_at s.terms name) can ∙ ap (with_arguments (text_at names s name)) (sym (texts-none names s xs h));
  bound = refl;
  count = refl;
}
  where
    go : (t : Term ℕ) → CanName t (length xs) → named names t ≡ with_arguments (named names t) no_args
    go (var v) c = absurd c
    go (int i) c = refl
    go (node f ts) c = ap (λ (us : Args ℕ). node (name_at names f) (rename_args (name_at names) us)) c

pub makes-args : (names : List (List ℕ)) (s t : State) (name r f : ℕ) (xs : List ℕ) → IsKnown names s name
    → term_at s.terms name ≡ node f no_args → All (IsKnown names s) xs → r < length t.terms
    → term_at t.terms r ≡ node f (args_at s.terms xs) → bind.bindings t ≡ bind.bindings s → t.count ≡ s.count
    → Makes names s names t r (with_arguments (text_at names s name) (texts names s xs))
makes-args names s t name r f xs known is args there value bound count = record {
  known = (
    there,
    subst (HasNames (length names)) (sym value)
        ((subst (HasNames (length names)) is known.1).0, names-at names s xs args),
  );
  text =
      ap (named names) value
      ∙ (ap (node (name_at names f)) (sym (texts-at names s xs))
      ∙ ap (λ (x : Term ℕ). with_arguments (named names x) (texts names s xs)) (sym is));
  bound = bound;
  count = count;
}

-- the parts of a term, once its name was made
module _ (names : List (List ℕ)) (s t : State) (at name : ℕ) (ps : List ℕ) (known : IsKnown names s at)
    (made : Makes names s names t name (name_of (text_at names s at))) (stays : Stays names names s t)
    (terms : map (term_at t.terms) ps ≡ term_at t.terms name ∷ args_list (args_of (term_at t.terms at))) where
  pub parts-known : All (λ r. r < length t.terms) ps → All (IsKnown names t) ps
  parts-known there =
      texts-known names t ps (arg (term_at t.terms name) (args_of (term_at t.terms at))) terms
      (made.known.1, args-names (length names) (term_at t.terms at) (known-later names names s t at stays known).1) there

  pub parts-texts : texts names t ps ≡ parts_of (text_at names s at)
  parts-texts =
      texts-list names t ps (arg (term_at t.terms name) (args_of (term_at t.terms at))) terms
      ∙ (ap (λ (x : Term Text). arg x (rename_args (name_at names) (args_of (term_at t.terms at)))) made.text
      ∙ (ap (λ (x : Term ℕ). arg (name_of (text_at names s at)) (rename_args (name_at names) (args_of x)))
      (term-stays s t stays.grows at known.0)
      ∙ (ap (arg (name_of (text_at names s at))) (sym (args-text names (term_at s.terms at))) ∙ sym (parts-name (text_at names s at)))))

  pub makes-parts : (b : List (List ℕ)) (u : State) (list : ℕ) → Makes names t b u list (list_of (texts names t ps))
      → Makes names s b u list (list_of (parts_of (text_at names s at)))
  makes-parts b u list more =
      makes-text names s b u list (list_of (texts names t ps)) (list_of (parts_of (text_at names s at)))
      (makes-then names names b s t u name list (name_of (text_at names s at)) (list_of (texts names t ps)) made more) (ap list_of parts-texts)

module _ (left : ℕ) (σ : Bindings Text) (w : World) where
  pub univ-throws : (t h n b : Term Text) (ts : Args Text) → n ≡ follow σ h → head_error n ts ≡ Some b
      → univ_of_elements t h ts left σ w ≡ throw left σ b w
  univ-throws t h n b ts en e =
      refused-some (head_error (follow σ h) ts) b left σ w (term_made t (follow σ h) ts left σ w)
      (ap (λ (y : Term Text). head_error y ts) (sym en) ∙ e)

  pub univ-makes : (t h n : Term Text) (ts : Args Text) → n ≡ follow σ h → head_error n ts ≡ None
      → univ_of_elements t h ts left σ w ≡ term_made t n ts left σ w
  univ-makes t h n ts en e =
      refused-none (head_error (follow σ h) ts) left σ w (term_made t (follow σ h) ts left σ w)
      (ap (λ (y : Term Text). head_error y ts) (sym en) ∙ e)
      ∙ ap (λ (y : Term Text). term_made t y ts left σ w) (sym en)
