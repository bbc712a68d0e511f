-- Compounds of new variables.
use Rattle.std.specs.Prelude.{Result, Ok, Err, IfOk, OnOk}
use Rattle.std.proofs.Common.{◌≡◌, ℕ, zero, suc, ◌+◌, ◌<◌, List, [], ◌∷◌, ◌++◌, length, All, refl, sym, ap, ◌∙◌, subst, arith}
use Rattle.std.proofs.Common.{length-append}
use Rattle.std.proofs.lemmas.List.Elements.{All-nil, All-cons, All-head, All-tail}
use Rattle.op_logic.specs.Term.{Term, var, int, node, Args, no_args, arg, shift, shift_args, rename_args, IsWithin, ArgsWithin}
use Rattle.op_logic.specs.Names.{name_at, named, HasNames, ArgsHaveNames}
use Rattle.op_term.specs.Head.{head, sym as sym_of}
use Rattle.op_term.specs.declared.node.Node.TheVariants.{Atom}
use Rattle.op_term.specs.declared.symbols.Sym.{Sym}
use Rattle.op_term.specs.Places.{term_at, args_at}
use Rattle.op_bind.specs.State as bind
use Rattle.op_bind.specs.State.{State}
use Rattle.op_trace.specs.Database.{Text}
use Rattle.op_inspect.specs.Construction.{variables_from, with_arguments}
use Rattle.op_inspect.specs.Outcomes.{text_at, IsKnown}
use Rattle.op_inspect.specs.inner.Made.{MakesNew, CanName}

variables-named : (names : List (List ℕ)) (first n : ℕ) → rename_args (name_at names) (variables_from first n) ≡ variables_from first n
variables-named names first zero = refl
variables-named names first (suc n) = ap (arg (var first)) (variables-named names (suc first) n)

variables-names : (k first n : ℕ) → ArgsHaveNames k (variables_from first n)
variables-names k first zero = tt
variables-names k first (suc n) = (tt, variables-names k (suc first) n)

variables-shift : (first m n : ℕ) → shift_args first (variables_from {N = ℕ} m n) ≡ variables_from (first + m) n
variables-shift first m zero = refl
variables-shift first m (suc n) =
    let e : first + suc m ≡ suc (first + m) = omega arith in
    ap (arg (var (first + m))) (variables-shift first (suc m) n ∙ ap (λ (k : ℕ). variables_from k n) e)

variables-within : (first n k : ℕ) → first + n ≡ k → ArgsWithin k (variables_from {N = ℕ} first n)
variables-within first zero k e = tt
variables-within first (suc n) k e = (omega (arith, e), variables-within (suc first) n k (omega (arith, e)))

-- a skeleton whose variables are numbered from a first one on
pub skeleton-shift : (first f n : ℕ) (t : Term ℕ) → t ≡ node f (variables_from 0 n) → shift first t ≡ node f (variables_from first n)
skeleton-shift first f n t e =
    let z : first + 0 ≡ first = omega arith in
    ap (shift first) e ∙ ap (node f) (variables-shift first 0 n ∙ ap (λ (k : ℕ). variables_from k n) z)

pub skeleton-within : (first f n count : ℕ) (t : Term ℕ) → t ≡ node f (variables_from 0 n) → first + n ≡ count → IsWithin count (shift first t)
skeleton-within first f n count t e h =
    subst (IsWithin count) (sym (skeleton-shift first f n t e)) (variables-within first n count h)

-- arguments that were made so far, and those that are still to come
abbrev joined : Args ℕ → Args ℕ → Args ℕ
joined no_args us = us
joined (arg t ts) us = arg t (joined ts us)

pub record IsSkeleton (i : ℕ) (nodes : List (Term ℕ)) (parts : List ℕ) : Type 0 where
  pub number : length nodes ≡ i
  pub below : All (λ p. p < length nodes) parts
  pub made : length parts ≡ i
  pub args : (n : ℕ) → joined (args_at nodes parts) (variables_from i n) ≡ variables_from 0 (i + n)

at-front : (ts us : List (Term ℕ)) (p : ℕ) → p < length ts → term_at (ts ++ us) p ≡ term_at ts p
at-front [] us p h = absurd (omega (arith, h))
at-front (t ∷ ts) us zero h = refl
at-front (t ∷ ts) us (suc p) h = at-front ts us p (omega (arith, h))

at-last : (ts : List (Term ℕ)) (t : Term ℕ) → term_at (ts ++ t ∷ []) (length ts) ≡ t
at-last [] t = refl
at-last (u ∷ ts) t = at-last ts t

below-more : (n m : ℕ) (ps : List ℕ) → n < m → All (λ p. p < n) ps → All (λ p. p < m) (ps ++ n ∷ [])
below-more n m [] l h = All-cons (λ p. p < m) n [] l (All-nil (λ p. p < m))
below-more n m (p ∷ ps) l h =
    All-cons (λ q. q < m) p (ps ++ n ∷ []) (omega (arith, All-head (λ q. q < n) p ps h, l)) (below-more n m ps l (All-tail (λ q. q < n) p ps h))

args-more : (ts : List (Term ℕ)) (ps : List ℕ) (t : Term ℕ) (us : Args ℕ) → All (λ p. p < length ts) ps
    → joined (args_at (ts ++ t ∷ []) (ps ++ length ts ∷ [])) us ≡ joined (args_at ts ps) (arg t us)
args-more ts [] t us h = ap (λ (x : Term ℕ). arg x us) (at-last ts t)
args-more ts (p ∷ ps) t us h =
    ap (λ (x : Term ℕ). arg x (joined (args_at (ts ++ t ∷ []) (ps ++ length ts ∷ [])) us))
    (at-front ts (t ∷ []) p (All-head (λ q. q < length ts) p ps h))
    ∙ ap (arg (term_at ts p)) (args-more ts ps t us (All-tail (λ q. q < length ts) p ps h))

pub skeleton-starts : (ts : List (Term ℕ)) (ps : List ℕ) → ts ≡ [] → ps ≡ [] → IsSkeleton 0 ts ps
skeleton-starts ts ps e f =
    let none : IsSkeleton 0 [] [] =
    record { number = refl; below = All-nil (λ p. p < 0); made = refl; args = λ n. let z : n ≡ 0 + n = omega arith in ap (variables_from 0) z } in
    subst (λ (us : List (Term ℕ)). IsSkeleton 0 us ps) (sym e) (subst (IsSkeleton 0 []) (sym f) none)

pub skeleton-more : (i r : ℕ) (ts us : List (Term ℕ)) (ps qs : List ℕ) → IsSkeleton i ts ps → us ≡ ts ++ var i ∷ [] → r ≡ length ts
    → qs ≡ ps ++ r ∷ [] → IsSkeleton (i + 1) us qs
skeleton-more i r ts us ps qs h eu er eq =
    let parts : qs ≡ ps ++ length ts ∷ [] = eq ∙ ap (λ (k : ℕ). ps ++ k ∷ []) er in
    let longer : length us ≡ length ts + 1 = ap length eu ∙ length-append ts (var i ∷ []) in
    record {
      number = omega (arith, longer, h.number);
      below = subst (λ (xs : List ℕ). All (λ p. p < length us) xs) (sym parts) (below-more (length ts) (length us) ps (omega (arith, longer)) h.below);
      made = let l : length qs ≡ length ps + 1 = ap length parts ∙ length-append ps (length ts ∷ []) in omega (arith, l, h.made);
      args = λ n.
          let next : i + 1 ≡ suc i = omega arith in
          let sum : i + suc n ≡ i + 1 + n = omega arith in
          ap (λ (xs : List ℕ). joined (args_at us xs) (variables_from (i + 1) n)) parts
          ∙ (ap (λ (xs : List (Term ℕ)). joined (args_at xs (ps ++ length ts ∷ [])) (variables_from (i + 1) n)) eu
          ∙ (args-more ts ps (var i) (variables_from (i + 1) n) h.below
          ∙ (ap (λ (k : ℕ). joined (args_at ts ps) (arg (var i) (variables_from k n))) next
          ∙ (h.args (suc n) ∙ ap (variables_from 0) sum))));
    }

joined-none : (ts : Args ℕ) → joined ts no_args ≡ ts
joined-none no_args = refl
joined-none (arg t ts) = ap (arg t) (joined-none ts)

pub skeleton-args : (i : ℕ) (ts : List (Term ℕ)) (ps : List ℕ) → IsSkeleton i ts ps → args_at ts ps ≡ variables_from 0 i
skeleton-args i ts ps h =
    let e : i + 0 ≡ i = omega arith in sym (joined-none (args_at ts ps)) ∙ (h.args 0 ∙ ap (variables_from 0) e)

-- what is made of an atom, or of an integer
pub makes-compound : (names : List (List ℕ)) (s t : State) (name r f n : ℕ) → IsKnown names s name → term_at s.terms name ≡ node f no_args
    → r < length t.terms → term_at t.terms r ≡ node f (variables_from s.count n) → bind.bindings t ≡ bind.bindings s → t.count ≡ s.count + n
    → MakesNew names s t r n (with_arguments (text_at names s name) (variables_from s.count n))
makes-compound names s t name r f n known is there value bound count = record {
  known = (
    there,
    subst (HasNames (length names)) (sym value)
        ((subst (HasNames (length names)) is known.1).0, variables-names (length names) s.count n),
  );
  text =
      ap (named names) value
      ∙ (ap (node (name_at names f)) (variables-named names s.count n)
      ∙ ap (λ (x : Term ℕ). with_arguments (named names x) (variables_from s.count n)) (sym is));
  bound = bound;
  count = count;
}

pub makes-itself : (names : List (List ℕ)) (s : State) (name n : ℕ) → IsKnown names s name → CanName (term_at s.terms name) n → n ≡ 0
    → MakesNew names s s name n (with_arguments (text_at names s name) (variables_from s.count n))
makes-itself names s name n known can e = record {
  known = known;
  text = go (term_at s.terms name) can ∙ ap (λ (k : ℕ). with_arguments (text_at names s name) (variables_from s.count k)) (sym e);
  bound = refl;
  count = omega (arith, e);
}
  where
    go : (t : Term ℕ) → CanName t n → named names t ≡ with_arguments (named names t) no_args
    go (var v) h = absurd h
    go (int i) h = refl
    go (node f ts) h = ap (λ (us : Args ℕ). node (name_at names f) (rename_args (name_at names) us)) h

-- the compound that was made of them
pub skeleton-root : (i n f r : ℕ) (ts us : List (Term ℕ)) (ps qs : List ℕ) → IsSkeleton i ts ps → i ≡ n → qs ≡ ps
    → us ≡ ts ++ node f (args_at ts qs) ∷ [] → r ≡ length ts → term_at us r ≡ node f (variables_from 0 n)
skeleton-root i n f r ts us ps qs h e parts made number =
    ap (term_at us) number ∙ (ap (λ (xs : List (Term ℕ)). term_at xs (length ts)) made
    ∙ (at-last ts (node f (args_at ts qs)) ∙ ap (node f) (ap (args_at ts) parts ∙ (skeleton-args i ts ps h ∙ ap (variables_from 0) e))))

-- what is no atom can have no arguments
pub no-count : (t : Term ℕ) (n : ℕ) → CanName t n → ((f : Sym) → head t ≡ Atom f → ⊥) → n ≡ 0
no-count (var v) n can h = absurd can
no-count (int i) n can h = can
no-count (node f no_args) n can h = absurd (h (sym_of f) refl)
no-count (node f (arg t ts)) n can h = absurd (some t ts can)
  where
    some : (t : Term ℕ) (ts : Args ℕ) → arg t ts ≡ no_args → ⊥
    some t ts e = cc

pub ok-three : {E : Type 0} (r : Result ℕ E) (terms : List (Term ℕ)) (first n count f : ℕ)
    (M : ℕ → ℕ → Term Text → Type 0) (x : Term Text) → IfOk r (λ q. q < length terms)
    → IfOk r (λ q. term_at terms q ≡ node f (variables_from first n)) → OnOk r (count ≡ first + n)
    → ((q : ℕ) → q < length terms → term_at terms q ≡ node f (variables_from first n) → count ≡ first + n → M q n x)
    → IfOk r (λ q. M q n x)
ok-three (Ok q) terms first n count f M x there value counted h = h q there value counted
ok-three (Err e) terms first n count f M x there value counted h = tt
