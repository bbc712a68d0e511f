-- A goal with the arguments of another added.
use Rattle.std.proofs.Common.{◌≡◌, ℕ, zero, suc, ◌+◌, ◌<◌, ◌≤◌, List, [], ◌∷◌, ◌++◌, length, take, drop, map, refl, sym, ap, ◌∙◌, subst}
use Rattle.std.proofs.Common.{arith, append_assoc}
use Rattle.std.proofs.lemmas.List.{map-append}
use Rattle.op_logic.specs.Term.{Term, var, int, node, Args, no_args, arg, args_of, nth_arg, arity, rename_args}
use Rattle.op_logic.specs.Names.{name_at, named, HasNames, ArgsHaveNames}
use Rattle.op_term.specs.Places.{term_at, args_at}
use Rattle.op_term.specs.Arguments.{args_list}
use Rattle.op_trace.specs.Database.{Text}
use Rattle.op_trace.specs.Builtins.{added}
use Rattle.op_store.specs.Stored.{Stored}
use Rattle.op_machine.specs.Program.{goal_named}
use Rattle.op_machine.specs.inner.BuiltinKinds.{behind_first, more_arguments, with_more_arguments}

next-argument : (ts : Args ℕ) (i : ℕ) → i < arity ts → take (i + 1) (args_list ts) ≡ take i (args_list ts) ++ nth_arg ts i ∷ []
next-argument no_args i h = absurd (omega arith)
next-argument (arg t ts) zero h = refl
next-argument (arg t ts) (suc i) h =
    let e : suc i + 1 ≡ suc (i + 1) = omega arith in
    ap (λ (k : ℕ). take k (t ∷ args_list ts)) e ∙ ap (λ (us : List (Term ℕ)). t ∷ us) (next-argument ts i (omega arith))

all-arguments : (ts : Args ℕ) (n : ℕ) → n ≡ arity ts → take n (args_list ts) ≡ args_list ts
all-arguments no_args n e = ap (λ (k : ℕ). take k []) e
all-arguments (arg t ts) n e =
    ap (λ (k : ℕ). take k (t ∷ args_list ts)) e ∙ ap (λ (us : List (Term ℕ)). t ∷ us) (all-arguments ts (arity ts) refl)

behind-list : (ts : Args ℕ) → drop 1 (args_list ts) ≡ args_list (behind_first ts)
behind-list no_args = refl
behind-list (arg t ts) = refl

drop-push : (n : ℕ) (xs : List (Term ℕ)) (x : Term ℕ) → n ≤ length xs → drop n (xs ++ x ∷ []) ≡ drop n xs ++ x ∷ []
drop-push zero xs x h = refl
drop-push (suc n) [] x h = absurd (omega arith)
drop-push (suc n) (y ∷ xs) x h = drop-push n xs x (omega arith)

-- the arguments from one place up to another
abbrev pub arguments_between : ℕ → ℕ → Args ℕ → List (Term ℕ)
arguments_between from to ts = drop from (take to (args_list ts))

take-count : (ts : Args ℕ) (i : ℕ) → i ≤ arity ts → length (take i (args_list ts)) ≡ i
take-count ts zero h = refl
take-count no_args (suc i) h = absurd (omega arith)
take-count (arg t ts) (suc i) h = ap suc (take-count ts i (omega arith))

pub between-next : (ts : Args ℕ) (from i : ℕ) → from ≤ i → i < arity ts
    → arguments_between from (i + 1) ts ≡ arguments_between from i ts ++ nth_arg ts i ∷ []
between-next ts from i low high =
    let count = take-count ts i (omega arith) in
    ap (drop from) (next-argument ts i high)
    ∙ drop-push from (take i (args_list ts)) (nth_arg ts i) (omega (arith, count))

pub between-none : (ts : Args ℕ) (from : ℕ) → from ≤ arity ts → arguments_between from from ts ≡ []
between-none ts from h = drop-short from (take from (args_list ts)) (take-count ts from h)
  where
    drop-short : (n : ℕ) (xs : List (Term ℕ)) → length xs ≡ n → drop n xs ≡ []
    drop-short zero [] e = refl
    drop-short zero (x ∷ xs) e = absurd (omega (arith, e))
    drop-short (suc n) [] e = refl
    drop-short (suc n) (x ∷ xs) e = drop-short n xs (omega (arith, e))

pub between-all : (ts : Args ℕ) (n : ℕ) → arity ts ≡ n → arguments_between 0 n ts ≡ args_list ts
between-all ts n e = all-arguments ts n (sym e)

pub between-behind : (ts : Args ℕ) (n : ℕ) → arity ts ≡ n → arguments_between 1 n ts ≡ args_list (behind_first ts)
between-behind ts n e = ap (drop 1) (all-arguments ts n (sym e)) ∙ behind-list ts

module _ (terms : List (Term ℕ)) where
  -- the terms of some places are the arguments of two lists, one behind the other
  abbrev pub AreAdded : Args ℕ → Args ℕ → List ℕ → Type 0
  AreAdded ts us rs = map (term_at terms) rs ≡ args_list ts ++ args_list us

  pub added-named : (names : List Text) (ts us : Args ℕ) (rs : List ℕ) → AreAdded ts us rs
      → rename_args (name_at names) (args_at terms rs) ≡ added (rename_args (name_at names) ts) (rename_args (name_at names) us)
  added-named names no_args no_args [] e = refl
  added-named names no_args no_args (r ∷ rs) e = absurd cc
  added-named names no_args (arg u us) [] e = absurd cc
  added-named names no_args (arg u us) (r ∷ rs) e =
      let one : term_at terms r ≡ u = cc in
      let rest : map (term_at terms) rs ≡ args_list us = cc in
      let more = added-named names no_args us rs rest in
      ap (λ (x : Term ℕ). arg (named names x) (rename_args (name_at names) (args_at terms rs))) one
      ∙ ap (arg (named names u)) more
  added-named names (arg t ts) us [] e = absurd cc
  added-named names (arg t ts) us (r ∷ rs) e =
      let one : term_at terms r ≡ t = cc in
      let rest : map (term_at terms) rs ≡ args_list ts ++ args_list us = cc in
      let more = added-named names ts us rs rest in
      ap (λ (x : Term ℕ). arg (named names x) (rename_args (name_at names) (args_at terms rs))) one
      ∙ ap (arg (named names t)) more

  pub added-names : (n : ℕ) (ts us : Args ℕ) (rs : List ℕ) → AreAdded ts us rs → ArgsHaveNames n ts → ArgsHaveNames n us
      → ArgsHaveNames n (args_at terms rs)
  added-names n no_args no_args [] e h k = tt
  added-names n no_args no_args (r ∷ rs) e h k = absurd cc
  added-names n no_args (arg u us) [] e h k = absurd cc
  added-names n no_args (arg u us) (r ∷ rs) e h k =
      let one : term_at terms r ≡ u = cc in
      let rest : map (term_at terms) rs ≡ args_list us = cc in
      (subst (HasNames n) (sym one) k.0, added-names n no_args us rs rest tt k.1)
  added-names n (arg t ts) us [] e h k = absurd cc
  added-names n (arg t ts) us (r ∷ rs) e h k =
      let one : term_at terms r ≡ t = cc in
      let rest : map (term_at terms) rs ≡ args_list ts ++ args_list us = cc in
      (subst (HasNames n) (sym one) h.0, added-names n ts us rs rest h.1 k)

  pub added-some : (ts us : Args ℕ) (rs : List ℕ) → AreAdded ts us rs → 0 < arity us → 0 < length rs
  added-some ts no_args rs e h = absurd (omega arith)
  added-some no_args (arg u us) [] e h = absurd cc
  added-some (arg t ts) (arg u us) [] e h = absurd cc
  added-some ts (arg u us) (r ∷ rs) e h = omega arith

-- with nothing added a goal stays
added-none : (ts : Args Text) → added ts no_args ≡ ts
added-none no_args = refl
added-none (arg t ts) = ap (arg t) (added-none ts)

pub with-none : (t : Term Text) → with_more_arguments t no_args ≡ t
with-none (var v) = refl
with-none (int i) = refl
with-none (node f ts) = ap (node f) (added-none ts)

none-behind : (ts : Args ℕ) → arity ts < 2 → behind_first ts ≡ no_args
none-behind no_args h = refl
none-behind (arg t no_args) h = refl
none-behind (arg t (arg u us)) h = absurd (omega arith)

module _ (t : Stored) where
  -- over texts the arguments behind the first are those over numbers
  pub more-named : (g : Term ℕ) → more_arguments (goal_named t g) ≡ rename_args (name_at t.names) (behind_first (args_of g))
  more-named (var v) = refl
  more-named (int i) = refl
  more-named (node f no_args) = refl
  more-named (node f (arg x xs)) = refl

  -- a goal of less than two arguments adds none
  pub adds-none : (g a : Term ℕ) → arity (args_of g) < 2 → goal_named t a ≡ with_more_arguments (goal_named t a) (more_arguments
      (goal_named t g))
  adds-none g a few =
      let none : more_arguments (goal_named t g) ≡ no_args = more-named g
      ∙ ap (rename_args (name_at t.names)) (none-behind (args_of g) few) in
      sym (ap (with_more_arguments (goal_named t a)) none ∙ with-none (goal_named t a))

  -- a goal with the arguments of another behind its own
  pub adds-named : (terms : List (Term ℕ)) (f : ℕ) (a g : Term ℕ) (rs : List ℕ) → a ≡ node f (args_of a)
      → AreAdded terms (args_of a) (behind_first (args_of g)) rs
      → goal_named t (node f (args_at terms rs)) ≡ with_more_arguments (goal_named t a) (more_arguments (goal_named t g))
  adds-named terms f a g rs e all =
      let names : List Text = t.names in
      let F : Text = name_at names f in
      let ts : Args ℕ = args_of a in
      ap (node F) (added-named terms names ts (behind_first (args_of g)) rs all)
      ∙ (ap (λ (us : Args Text). node F (added (rename_args (name_at names) ts) us)) (sym (more-named g))
      ∙ ap (λ (x : Term ℕ). with_more_arguments (goal_named t x) (more_arguments (goal_named t g))) (sym e))

-- one more argument was pushed
pub pushed-argument : (terms : List (Term ℕ)) (t : Term ℕ) (old todo new : List ℕ) (from i r : ℕ) → from ≤ i → i < arity (args_of t)
    → new ≡ todo ++ r ∷ [] → term_at terms r ≡ nth_arg (args_of t) i
    → map (term_at terms) todo ≡ map (term_at terms) old ++ arguments_between from i (args_of t)
    → map (term_at terms) new ≡ map (term_at terms) old ++ arguments_between from (i + 1) (args_of t)
pushed-argument terms t old todo new from i r low high e value before =
    let so_far : List (Term ℕ) = arguments_between from i (args_of t) in
    ap (map (term_at terms)) e
    ∙ (map-append (term_at terms) todo (r ∷ [])
    ∙ (ap (λ (us : List (Term ℕ)). us ++ term_at terms r ∷ []) before
    ∙ (append_assoc (map (term_at terms) old) so_far (term_at terms r ∷ [])
    ∙ ap (λ (us : List (Term ℕ)). map (term_at terms) old ++ us)
    (ap (λ (x : Term ℕ). so_far ++ x ∷ []) value ∙ sym (between-next (args_of t) from i low high)))))

-- the arguments of one goal were pushed, and those of another but the first
pub added-pushed : (terms : List (Term ℕ)) (ts us : Args ℕ) (none some all : List ℕ) (m n : ℕ) → none ≡ [] → arity ts ≡ m → arity us ≡ n
    → map (term_at terms) some ≡ map (term_at terms) none ++ arguments_between 0 m ts
    → map (term_at terms) all ≡ map (term_at terms) some ++ arguments_between 1 n us → AreAdded terms ts (behind_first us) all
added-pushed terms ts us none some all m n e first second one two =
    two
    ∙ (ap (λ (xs : List (Term ℕ)). xs ++ arguments_between 1 n us)
    (one ∙ (ap (λ (rs : List ℕ). map (term_at terms) rs ++ arguments_between 0 m ts) e ∙ between-all ts m first))
    ∙ ap (λ (xs : List (Term ℕ)). args_list ts ++ xs) (between-behind us n second))

pub behind-some : (us : Args ℕ) (n : ℕ) → arity us ≡ n → 1 < n → 0 < arity (behind_first us)
behind-some no_args n e h = absurd (omega (arith, e))
behind-some (arg u us) n e h = omega (arith, e)

pub behind-names : (n : ℕ) (us : Args ℕ) → ArgsHaveNames n us → ArgsHaveNames n (behind_first us)
behind-names n no_args h = tt
behind-names n (arg u us) h = h.1
