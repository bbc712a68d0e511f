-- The variables of a copy are among those that were given out for it.
use Rattle.std.proofs.Common.{◌≡◌, ℕ, ◌+◌, ◌<◌, ◌≤◌, nat_eq, Bool, true, false, List, [], ◌∷◌, ◌++◌, ◌||◌, length, cond}
use Rattle.std.proofs.Common.{not, refl, sym, ap}
use Rattle.std.proofs.Common.{◌∙◌, subst, arith}
use Rattle.std.proofs.lemmas.Bool.{eq-eqb}
use Rattle.std.specs.List.{list_any, position_or_len}
use Rattle.op_logic.specs.Term.{Term, var, int, node, Args, no_args, arg, IsWithin, ArgsWithin}
use Rattle.op_logic.specs.Laws.{instance_of, instances_of}
use Rattle.op_logic.proofs.BoolCases.{by_test, if_true, if_false}
use Rattle.op_term.specs.Variables.{with_number, add_variables, add_args_variables, distinct_variables}
use Rattle.op_bind.specs.Copied as bind

-- variables that are below a number are below a greater one
mutual
  pub within-more : (n m : ℕ) → n ≤ m → (t : Term ℕ) → IsWithin n t → IsWithin m t
  within-more n m l (var v) h = omega (arith, h)
  within-more n m l (int i) h = tt
  within-more n m l (node f ts) h = args_within-more n m l ts h

  args_within-more : (n m : ℕ) → n ≤ m → (ts : Args ℕ) → ArgsWithin n ts → ArgsWithin m ts
  args_within-more n m l no_args h = tt
  args_within-more n m l (arg t ts) h = (within-more n m l t h.0, args_within-more n m l ts h.1)

-- a number that is in a list stays there where another joins, and is there once it joined
abbrev IsIn : ℕ → List ℕ → Type 0
IsIn v vs = list_any (nat_eq v) vs ≡ true

or-front : (a b c : Bool) → (a || b) ≡ true → (b ≡ true → c ≡ true) → (a || c) ≡ true
or-front true b c h f = refl
or-front false b c h f = f h

or-back : (a b : Bool) → b ≡ true → (a || b) ≡ true
or-back true b h = refl
or-back false b h = h

in-front : (u : ℕ) (xs ys : List ℕ) → IsIn u xs → IsIn u (xs ++ ys)
in-front u [] ys k = absurd cc
in-front u (x ∷ xs) ys k = or-front (nat_eq u x) (list_any (nat_eq u) xs) (list_any (nat_eq u) (xs ++ ys)) k (in-front u xs ys)

in-last : (u : ℕ) (xs : List ℕ) → IsIn u (xs ++ u ∷ [])
in-last u [] = ap (λ b. b || false) (eq-eqb u u refl)
in-last u (x ∷ xs) = or-back (nat_eq u x) (list_any (nat_eq u) (xs ++ u ∷ [])) (in-last u xs)

in-with : (v w : ℕ) (vs : List ℕ) → IsIn v vs → IsIn v (with_number vs w)
in-with v w vs h =
    by_test (list_any (nat_eq w) vs)
    (λ e. ap (list_any (nat_eq v)) (if_true (list_any (nat_eq w) vs) vs (vs ++ w ∷ []) e) ∙ h)
    (λ e. ap (list_any (nat_eq v)) (if_false (list_any (nat_eq w) vs) vs (vs ++ w ∷ []) e) ∙ in-front v vs (w ∷ []) h)

in-joined : (v : ℕ) (vs : List ℕ) → IsIn v (with_number vs v)
in-joined v vs =
    by_test (list_any (nat_eq v) vs)
    (λ e. ap (list_any (nat_eq v)) (if_true (list_any (nat_eq v) vs) vs (vs ++ v ∷ []) e) ∙ e)
    (λ e. ap (list_any (nat_eq v)) (if_false (list_any (nat_eq v) vs) vs (vs ++ v ∷ []) e) ∙ in-last v vs)

place-below : (v : ℕ) (vs : List ℕ) → IsIn v vs → position_or_len (nat_eq v) vs < length vs
place-below v [] h = absurd cc
place-below v (w ∷ ws) h =
    by_test (nat_eq v w)
    (λ e. let z : position_or_len (nat_eq v) (w ∷ ws) ≡ 0 =
    ap (λ b. cond (not b) (1 + position_or_len (nat_eq v) ws) 0) e in omega (arith, z))
    (λ e. let z : position_or_len (nat_eq v) (w ∷ ws) ≡ 1 + position_or_len (nat_eq v) ws =
    ap (λ b. cond (not b) (1 + position_or_len (nat_eq v) ws) 0) e in
    let t : IsIn v ws = ap (λ b. b || list_any (nat_eq v) ws) (sym e) ∙ h in
    omega (arith, z, place-below v ws t))

-- the variables of a term are among those that were collected
mutual
  add-keeps : (u : ℕ) (vs : List ℕ) (t : Term ℕ) → IsIn u vs → IsIn u (add_variables vs t)
  add-keeps u vs (var v) h = in-with u v vs h
  add-keeps u vs (int i) h = h
  add-keeps u vs (node f ts) h = args-keep u vs ts h

  args-keep : (u : ℕ) (vs : List ℕ) (ts : Args ℕ) → IsIn u vs → IsIn u (add_args_variables vs ts)
  args-keep u vs no_args h = h
  args-keep u vs (arg t ts) h = args-keep u (add_variables vs t) ts (add-keeps u vs t h)

-- a term whose variables are numbered by their places among some that hold all of them
module _ (first : ℕ) (all : List ℕ) where
  abbrev θ : ℕ → Term ℕ
  θ v = var (first + position_or_len (nat_eq v) all)

  mutual
    instance-within : (vs : List ℕ) (t : Term ℕ) → ((u : ℕ) → IsIn u (add_variables vs t) → IsIn u all)
        → IsWithin (first + length all) (instance_of θ t)
    instance-within vs (var v) h = omega (arith, place-below v all (h v (in-joined v vs)))
    instance-within vs (int i) h = tt
    instance-within vs (node f ts) h = instances-within vs ts h

    instances-within : (vs : List ℕ) (ts : Args ℕ) → ((u : ℕ) → IsIn u (add_args_variables vs ts) → IsIn u all)
        → ArgsWithin (first + length all) (instances_of θ ts)
    instances-within vs no_args h = tt
    instances-within vs (arg t ts) h =
        (instance-within vs t (λ u i. h u (args-keep u (add_variables vs t) ts i)), instances-within (add_variables vs t) ts h)

pub copied-within : (first : ℕ) (t u : Term ℕ) (count : ℕ) → u ≡ bind.copied first t
    → count ≡ first + length (distinct_variables t) → IsWithin count u
copied-within first t u count is counted =
    subst (λ (n : ℕ). IsWithin n u) (sym counted)
    (subst (IsWithin (first + length (distinct_variables t))) (sym is)
    (instance-within first (distinct_variables t) [] t (λ v i. i)))
