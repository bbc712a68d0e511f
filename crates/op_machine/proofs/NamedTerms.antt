-- A machine's terms over texts.
use Rattle.std.proofs.Common.{◌≡◌, ℕ, ◌+◌, ◌-◌, ◌≤◌, nat_le, Bool, true, false, [], ◌∷◌, Option, Some, None, refl, sym, ap, ◌∙◌, subst}
use Rattle.std.proofs.Common.{arith, if◌then◌else◌}
use Rattle.std.proofs.lemmas.Bool.Decides.{nat_tests}
use Rattle.op_logic.specs.Term.{Term, var, int, node, no_args, arg, shift}
use Rattle.op_logic.specs.Bind.{Bindings, Solved, apply, unify}
use Rattle.op_logic.specs.Laws.{rename_bindings, rename_solved}
use Rattle.op_logic.specs.Names.{name_at, IsTable, HasNames, HaveNames}
use Rattle.op_logic.proofs.RenamedUnification.{apply-rename, unify-named}
use Rattle.op_logic.proofs.UnifierNames.{unify-names, FoundHasNames}
use Rattle.op_logic.proofs.ShiftedTerms.{shift-rename}
use Rattle.op_term.specs.Places.{term_at}
use Rattle.op_bind.specs.State as bind
use Rattle.op_bind.specs.State.{bindings, value_of}
use Rattle.op_bind.specs.Unified.{unified, with_variables}
use Rattle.op_trace.specs.Database.{Text, text_eq}
use Rattle.op_trace.specs.Visit.{is_true}
use Rattle.op_store.specs.Stored.{Stored}
use Rattle.op_machine.specs.Program.{goal_named}

pub value-named : (t : Stored) (s : bind.State) (r : ℕ) → goal_named t (value_of s r)
    ≡ apply (rename_bindings (name_at t.names) (bindings s)) (goal_named t (term_at s.terms r))
value-named t s r = sym (apply-rename (name_at t.names) (bindings s) (term_at s.terms r))

pub shift-named : (t : Stored) (n : ℕ) (b : Term ℕ) → goal_named t (shift n b) ≡ shift n (goal_named t b)
shift-named t n b = sym (shift-rename (name_at t.names) n b)

pub is_true-shift : (n : ℕ) (b : Term Text) → is_true (shift n b) ≡ is_true b
is_true-shift n (var v) = refl
is_true-shift n (int i) = refl
is_true-shift n (node f no_args) = refl
is_true-shift n (node f (arg t ts)) = refl

-- a head is unified over texts as over numbers
pub unified-named : (t : Stored) (left : ℕ) (s : bind.State) (g h : Term ℕ) → IsTable t.names
    → unify text_eq left (rename_bindings (name_at t.names) (bindings s)) ((goal_named t g, goal_named t h) ∷ [])
    ≡ rename_solved (name_at t.names) (unified left s g h)
unified-named t left s g h table = unify-named t.names table left (bindings s) ((g, h) ∷ [])

some-same : (x y : Solved ℕ) → Some x ≡ Some y → x ≡ y
some-same x y e = cc

first-same : (x y : Solved ℕ) → Some x ≡ Some y → x.0 ≡ y.0
first-same x y e = ap (λ (q : Solved ℕ). q.0) (some-same x y e)

second-same : (x y : Solved ℕ) → Some x ≡ Some y → x.1 ≡ y.1
second-same x y e = ap (λ (q : Solved ℕ). q.1) (some-same x y e)

abbrev pub found : Bindings ℕ → ℕ → Solved ℕ
found σ left = (Some σ, left)

abbrev pub nothing : ℕ → Solved ℕ
nothing left = (None, left)

no-found : {P : Type 0} (σ : Bindings ℕ) (a b : ℕ) → Some (nothing a) ≡ Some (found σ b) → P
no-found σ a b e = let f : None ≡ Some σ = first-same (nothing a) (found σ b) e in absurd cc

abbrev paid : ℕ → Bindings ℕ → ℕ → Bool → Option (Solved ℕ)
paid n τ left b = if b then Some (found τ (left - n)) else None

-- what paying for the variables says of the unification
pub paid-found : (n : ℕ) (u : Option (Solved ℕ)) (σ : Bindings ℕ) (after : ℕ) → with_variables n u ≡ Some (found σ after) → u
    ≡ Some (found σ (after + n))
paid-found n None σ after e = cc
paid-found n (Some (None, left)) σ after e = no-found σ left after e
paid-found n (Some (Some τ, left)) σ after e = go (nat_le n left) refl e
  where
    go : (b : Bool) → nat_le n left ≡ b → paid n τ left b ≡ Some (found σ after) → Some (found τ left) ≡ Some (found σ (after + n))
    go true q f =
        let fits : n ≤ left = grind (arith, nat_tests) in
        let first : Some τ ≡ Some σ = first-same (found τ (left - n)) (found σ after) f in
        let same : τ ≡ σ = cc in
        let rest : left - n ≡ after = second-same (found τ (left - n)) (found σ after) f in
        let sum : left ≡ after + n = omega arith in
        ap (λ (ρ : Bindings ℕ). Some (found ρ left)) same ∙ ap (λ (k : ℕ). Some (found σ k)) sum
    go false q f = cc

pub paid-none : (n : ℕ) (u : Option (Solved ℕ)) (after : ℕ) → with_variables n u ≡ Some (nothing after) → u ≡ Some (nothing after)
paid-none n None after e = cc
paid-none n (Some (None, left)) after e = e
paid-none n (Some (Some τ, left)) after e = go (nat_le n left) e
  where
    go : (b : Bool) → paid n τ left b ≡ Some (nothing after) → Some (found τ left) ≡ Some (nothing after)
    go true f = no-found τ after (left - n) (sym f)
    go false f = cc

-- the names of what was found
pub found-names : (n left : ℕ) (s : bind.State) (g h : Term ℕ) (σ : Bindings ℕ) (after : ℕ) → HaveNames n (bindings s) → HasNames n g
    → HasNames n h
    → unified left s g h ≡ Some (Some σ, after) → HaveNames n σ
found-names n left s g h σ after hs hg hh e = subst (FoundHasNames n) e (unify-names n left (bindings s) ((g, h) ∷ []) hs (hg, hh, tt))
