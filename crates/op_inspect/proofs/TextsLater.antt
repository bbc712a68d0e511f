-- Terms and bindings over texts stay while names and terms join.
use Rattle.std.proofs.Common.{◌≡◌, ℕ, zero, suc, ◌<◌, ◌≤◌, List, [], ◌∷◌, length, take}
use Rattle.std.proofs.Common.{refl, sym, ap, ◌∙◌, subst, arith}
use Rattle.std.proofs.Math.Seq.{take-length}
use Rattle.std.proofs.lemmas.List.{length-take}
use Rattle.op_logic.specs.Term.{Term, var, int, node, Args, no_args, arg}
use Rattle.op_logic.specs.Bind.{Bindings, apply, follow}
use Rattle.op_logic.specs.Laws.{rename_bindings}
use Rattle.op_logic.specs.Names.{name_at, named, HasNames, ArgsHaveNames, HaveNames}
use Rattle.op_logic.proofs.NameTables.{named-more}
use Rattle.op_logic.proofs.RenamedUnification.{apply-rename, follow-rename}
use Rattle.op_logic.proofs.UnifierNames.{follow-names}
use Rattle.op_term.specs.Places.{term_at}
use Rattle.op_bind.specs.State as bind
use Rattle.op_bind.specs.State.{State, value_of}
use Rattle.op_bind.proofs.StateGrowth.{grows-self, grows-grows, term-stays}
use Rattle.op_inspect.specs.Outcomes.{texts_of, text_at, IsKnown, IsSetting}
use Rattle.op_inspect.specs.inner.Settings.{Stays}

pub more-names : (old new : List (List ℕ)) → take (length old) new ≡ old → length old ≤ length new
more-names old new e = omega (arith, length-take (length old) new, ap length e)

mutual
  pub has-more : (n m : ℕ) → n ≤ m → (t : Term ℕ) → HasNames n t → HasNames m t
  has-more n m h (var v) k = tt
  has-more n m h (int i) k = tt
  has-more n m h (node f ts) k = (omega (arith, k.0), args-have-more n m h ts k.1)

  args-have-more : (n m : ℕ) → n ≤ m → (ts : Args ℕ) → ArgsHaveNames n ts → ArgsHaveNames m ts
  args-have-more n m h no_args k = tt
  args-have-more n m h (arg t ts) k = (has-more n m h t k.0, args-have-more n m h ts k.1)

pub have-more : (n m : ℕ) → n ≤ m → (σ : Bindings ℕ) → HaveNames n σ → HaveNames m σ
have-more n m h [] k = tt
have-more n m h (p ∷ σ) k = (has-more n m h p.1 k.0, have-more n m h σ k.1)

bindings-more : (old new : List (List ℕ)) → take (length old) new ≡ old → (σ : Bindings ℕ) → HaveNames (length old) σ
    → rename_bindings (name_at new) σ ≡ rename_bindings (name_at old) σ
bindings-more old new e [] h = refl
bindings-more old new e (p ∷ σ) h = let a = named-more old new e p.1 h.0 in let b = bindings-more old new e σ h.1 in cc

take-within : {A : Type 0} (n m : ℕ) (xs : List A) → n ≤ m → take n (take m xs) ≡ take n xs
take-within zero m xs h = refl
take-within (suc n) zero xs h = absurd (omega arith)
take-within (suc n) (suc m) [] h = refl
take-within (suc n) (suc m) (x ∷ xs) h = ap (λ ys. x ∷ ys) (take-within n m xs (omega arith))

pub names-names : (a b c : List (List ℕ)) → take (length a) b ≡ a → take (length b) c ≡ b → take (length a) c ≡ a
names-names a b c h k =
    sym (take-within (length a) (length b) c (more-names a b h)) ∙ (ap (take (length a)) k ∙ h)

pub stays-self : (names : List (List ℕ)) (s : State) → Stays names names s s
stays-self names s = record { kept = take-length names; grows = grows-self s }

pub stays-stays : (a b c : List (List ℕ)) (s t u : State) → Stays a b s t → Stays b c t u → Stays a c s u
stays-stays a b c s t u h k = record { kept = names-names a b c h.kept k.kept; grows = grows-grows s t u h.grows k.grows }

-- a Ref, and what it means
pub known-later : (a b : List (List ℕ)) (s t : State) (r : ℕ) → Stays a b s t → IsKnown a s r → IsKnown b t r
known-later a b s t r h k = (
  omega (arith, k.0, h.grows.terms_there),
  subst (HasNames (length b)) (sym (term-stays s t h.grows r k.0))
      (has-more (length a) (length b) (more-names a b h.kept) (term_at s.terms r) k.1),
)

pub text-later : (a b : List (List ℕ)) (s t : State) (r : ℕ) → Stays a b s t → IsKnown a s r → text_at b t r ≡ text_at a s r
text-later a b s t r h k =
    ap (named b) (term-stays s t h.grows r k.0) ∙ named-more a b h.kept (term_at s.terms r) k.1

-- bindings that stay
pub setting-later : (a b : List (List ℕ)) (s t : State) → Stays a b s t → bind.bindings t ≡ bind.bindings s → IsSetting a s → IsSetting b t
setting-later a b s t h e k =
    subst (HaveNames (length b)) (sym e) (have-more (length a) (length b) (more-names a b h.kept) (bind.bindings s) k)

pub texts-later : (a b : List (List ℕ)) (s t : State) → Stays a b s t → bind.bindings t ≡ bind.bindings s → IsSetting a s
    → texts_of b t ≡ texts_of a s
texts-later a b s t h e k = ap (rename_bindings (name_at b)) e ∙ bindings-more a b h.kept (bind.bindings s) k

-- values and followed terms over texts
pub value-text : (names : List (List ℕ)) (s : State) (r : ℕ) → named names (value_of s r) ≡ apply (texts_of names s) (text_at names s r)
value-text names s r = sym (apply-rename (name_at names) (bind.bindings s) (term_at s.terms r))

pub followed-text : (names : List (List ℕ)) (s : State) (r q : ℕ) → term_at s.terms q ≡ follow (bind.bindings s) (term_at s.terms r)
    → text_at names s q ≡ follow (texts_of names s) (text_at names s r)
followed-text names s r q e = ap (named names) e ∙ sym (follow-rename (name_at names) (bind.bindings s) (term_at s.terms r))

pub followed-known : (names : List (List ℕ)) (s : State) (r q : ℕ) → q < length s.terms
    → term_at s.terms q ≡ follow (bind.bindings s) (term_at s.terms r) → IsSetting names s → IsKnown names s r → IsKnown names s q
followed-known names s r q h e k i =
    (h, subst (HasNames (length names)) (sym e) (follow-names (length names) (bind.bindings s) (term_at s.terms r) k i.1))
