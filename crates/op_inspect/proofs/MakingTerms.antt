-- Terms that are made one after the other.
use Rattle.std.proofs.Common.{◌≡◌, ℕ, ◌<◌, List, [], ◌∷◌, length, take, Result, Ok, Err, IfOk, sym, ap, ◌∙◌, subst}
use Rattle.op_logic.specs.Term.{Term, node, no_args, arg, shift}
use Rattle.op_logic.specs.Names.{name_at, named, HasNames}
use Rattle.op_logic.proofs.NameTables.{named-more}
use Rattle.op_logic.proofs.ShiftedTerms.{shift-none}
use Rattle.op_term.specs.Places.{term_at, args_at}
use Rattle.op_bind.specs.State as bind
use Rattle.op_bind.specs.State.{State}
use Rattle.op_bind.proofs.StateGrowth.{grows-self}
use Rattle.op_trace.specs.Database.{Text}
use Rattle.op_trace.specs.Body.{pair}
use Rattle.op_inspect.specs.Outcomes.{text_at, IsKnown}
use Rattle.op_inspect.specs.inner.Settings.{Stays, Makes}
use Rattle.op_inspect.proofs.TextsLater.{more-names, has-more}

-- a term over numbers that was loaded
pub makes-loaded : (names : List (List ℕ)) (s t : State) (r : ℕ) (x : Term ℕ) → r < length t.terms → term_at t.terms r ≡ shift 0 x
    → HasNames (length names) x → bind.bindings t ≡ bind.bindings s → t.count ≡ s.count → Makes names s names t r (named names x)
makes-loaded names s t r x there e known bound count =
    let same : term_at t.terms r ≡ x = e ∙ shift-none x in
    record {
      known = (there, subst (HasNames (length names)) (sym same) known);
      text = ap (named names) same;
      bound = bound;
      count = count;
    }

-- the same term, otherwise written
pub makes-text : (a : List (List ℕ)) (s : State) (b : List (List ℕ)) (t : State) (r : ℕ) (x y : Term Text) → Makes a s b t r x → x ≡ y
    → Makes a s b t r y
makes-text a s b t r x y m e = subst (Makes a s b t r) e m

-- made behind what was made
pub makes-then : (a b c : List (List ℕ)) (s t u : State) (q r : ℕ) (x y : Term Text) → Makes a s b t q x → Makes b t c u r y
    → Makes a s c u r y
makes-then a b c s t u q r x y m n = record {
  known = n.known;
  text = n.text;
  bound = n.bound ∙ m.bound;
  count = n.count ∙ m.count;
}

-- names that joined change no state
pub makes-named : (a b c : List (List ℕ)) (s u : State) (r : ℕ) (y : Term Text) → Makes b s c u r y → Makes a s c u r y
makes-named a b c s u r y n = record { known = n.known; text = n.text; bound = n.bound; count = n.count }

pub stays-named : (a b : List (List ℕ)) (s : State) → take (length a) b ≡ a → Stays a b s s
stays-named a b s e = record { kept = e; grows = grows-self s }

module _ (a b : List (List ℕ)) (s t : State) (kept : take (length a) b ≡ a) (bound : bind.bindings t ≡ bind.bindings s)
    (count : t.count ≡ s.count) (r n : ℕ) (name : List ℕ) (there : r < length t.terms) (below : n < length b) (is : name_at b n
    ≡ name) where
  pub makes-single : (x : ℕ) → term_at t.terms r ≡ node n (args_at s.terms (x ∷ [])) → IsKnown a s x
      → Makes a s b t r (node name (arg (text_at a s x) no_args))
  makes-single x e k =
      let h = has-more (length a) (length b) (more-names a b kept) (term_at s.terms x) k.1 in
      let f = named-more a b kept (term_at s.terms x) k.1 in
      record {
        known = (there, subst (HasNames (length b)) (sym e) (below, (h, tt)));
        text = ap (named b) e ∙ (ap (λ (m : List ℕ). node m (arg (named b (term_at s.terms x)) no_args)) is
            ∙ ap (λ (y : Term Text). node name (arg y no_args)) f);
        bound = bound;
        count = count;
      }

  pub makes-pair : (x y : ℕ) → term_at t.terms r ≡ node n (args_at s.terms (x ∷ y ∷ [])) → IsKnown a s x → IsKnown a s y
      → Makes a s b t r (pair name (text_at a s x) (text_at a s y))
  makes-pair x y e k l =
      let h = has-more (length a) (length b) (more-names a b kept) (term_at s.terms x) k.1 in
      let i = has-more (length a) (length b) (more-names a b kept) (term_at s.terms y) l.1 in
      let f = named-more a b kept (term_at s.terms x) k.1 in
      let g = named-more a b kept (term_at s.terms y) l.1 in
      record {
        known = (there, subst (HasNames (length b)) (sym e) (below, (h, (i, tt))));
        text = ap (named b) e
            ∙ (ap (λ (m : List ℕ). pair m (named b (term_at s.terms x)) (named b (term_at s.terms y))) is
            ∙ (ap (λ (z : Term Text). pair name z (named b (term_at s.terms y))) f
            ∙ ap (λ (z : Term Text). pair name (named a (term_at s.terms x)) z) g));
        bound = bound;
        count = count;
      }

-- what holds of a Ref that was made, once other things hold of it
pub ok-both : {E : Type 0} (r : Result ℕ E) (P Q R : ℕ → Type 0) → IfOk r P → IfOk r Q → ((x : ℕ) → P x → Q x → R x) → IfOk r R
ok-both (Ok x) P Q R p q f = f x p q
ok-both (Err e) P Q R p q f = tt

pub ok-then : {E : Type 0} (r : Result ℕ E) (P R : ℕ → Type 0) → IfOk r P → ((x : ℕ) → P x → R x) → IfOk r R
ok-then (Ok x) P R p f = f x p
ok-then (Err e) P R p f = tt
