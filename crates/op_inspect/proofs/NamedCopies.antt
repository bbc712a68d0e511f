-- A copy over texts is the copy of the term over texts, and so are a term's variables and its size.
use Rattle.std.proofs.Common.{◌≡◌, ℕ, suc, ◌+◌, ◌==◌, nat_eq, Bool, List, [], ◌∷◌, ◌++◌, ◌||◌}
use Rattle.std.proofs.Common.{refl, ap, ◌∙◌, if◌then◌else◌, arith}
use Rattle.std.specs.List.{list_any, position_or_len}
use Rattle.std.proofs.lemmas.Bool.Decides.{nat_tests}
use Rattle.std.proofs.lemmas.List.Recursion.{is_position_or_len}
use Rattle.op_logic.specs.Term.{Term, var, int, node, Args, no_args, arg, rename_args}
use Rattle.op_logic.specs.Laws.{instance_of, instances_of}
use Rattle.op_logic.specs.Names.{name_at, named, HasNames, ArgsHaveNames}
use Rattle.op_term.specs.Variables.{add_variables, add_args_variables, distinct_variables, has_no_variable, have_no_variable}
use Rattle.op_bind.specs.Copied as bind
use Rattle.op_trace.specs.Copy.{variables_onto, args_variables_onto, variables_of, place_of, renumbered, args_renumbered, copied}

same-test : (u v : ℕ) → (u == v) ≡ nat_eq v u
same-test u v = grind (arith, nat_tests)

any-same : (v : ℕ) (vs : List ℕ) → list_any (λ u. u == v) vs ≡ list_any (nat_eq v) vs
any-same v [] = refl
any-same v (u ∷ vs) = ap (λ (b : Bool). b || list_any (λ w. w == v) vs) (same-test u v) ∙ ap (λ (b : Bool). nat_eq v u || b) (any-same v vs)

place-same : (v : ℕ) (vs : List ℕ) → place_of vs v ≡ position_or_len (nat_eq v) vs
place-same v vs =
    is_position_or_len (λ (us : List ℕ). place_of us v) (nat_eq v) refl
    (λ u us.
    let e : suc (place_of us v) ≡ 1 + place_of us v = omega arith in
    ap (λ (b : Bool). if b then 0 else suc (place_of us v)) (same-test u v) ∙ ap (λ (n : ℕ). if nat_eq v u then 0 else n) e) vs

module _ (names : List (List ℕ)) where
  mutual
    variables-same : (vs : List ℕ) (t : Term ℕ) → variables_onto vs (named names t) ≡ add_variables vs t
    variables-same vs (var v) = ap (λ (b : Bool). if b then vs else vs ++ v ∷ []) (any-same v vs)
    variables-same vs (int i) = refl
    variables-same vs (node f ts) = args-same vs ts

    args-same : (vs : List ℕ) (ts : Args ℕ) → args_variables_onto vs (rename_args (name_at names) ts) ≡ add_args_variables vs ts
    args-same vs no_args = refl
    args-same vs (arg t ts) =
        ap (λ (us : List ℕ). args_variables_onto us (rename_args (name_at names) ts)) (variables-same vs t)
        ∙ args-same (add_variables vs t) ts

  pub variables-named : (t : Term ℕ) → variables_of (named names t) ≡ distinct_variables t
  variables-named t = variables-same [] t

  module _ (vs : List ℕ) (first : ℕ) where
    abbrev θ : ℕ → Term ℕ
    θ v = var (first + position_or_len (nat_eq v) vs)

    mutual
      renumbered-same : (t : Term ℕ) → renumbered vs first (named names t) ≡ named names (instance_of θ t)
      renumbered-same (var v) = ap (λ (n : ℕ). var (first + n)) (place-same v vs)
      renumbered-same (int i) = refl
      renumbered-same (node f ts) = ap (node (name_at names f)) (args_renumbered-same ts)

      args_renumbered-same : (ts : Args ℕ) → args_renumbered vs first (rename_args (name_at names) ts)
          ≡ rename_args (name_at names) (instances_of θ ts)
      args_renumbered-same no_args = refl
      args_renumbered-same (arg t ts) = let a = renumbered-same t in let b = args_renumbered-same ts in cc

  pub copied-named : (n : ℕ) (t : Term ℕ) → copied n (named names t) ≡ named names (bind.copied n t)
  copied-named n t =
      ap (λ (vs : List ℕ). renumbered vs n (named names t)) (variables-named t) ∙ renumbered-same (distinct_variables t) n t

  mutual
    pub ground-named : (t : Term ℕ) → has_no_variable (named names t) ≡ has_no_variable t
    ground-named (var v) = refl
    ground-named (int i) = refl
    ground-named (node f ts) = args_ground-named ts

    args_ground-named : (ts : Args ℕ) → have_no_variable (rename_args (name_at names) ts) ≡ have_no_variable ts
    args_ground-named no_args = refl
    args_ground-named (arg t ts) = let a = ground-named t in let b = args_ground-named ts in cc

-- a copy has the names of the term
mutual
  instance-names : (n : ℕ) (θ : ℕ → Term ℕ) → ((v : ℕ) → HasNames n (θ v)) → (t : Term ℕ) → HasNames n t → HasNames n (instance_of θ t)
  instance-names n θ all (var v) h = all v
  instance-names n θ all (int i) h = tt
  instance-names n θ all (node f ts) h = (h.0, instances-names n θ all ts h.1)

  instances-names : (n : ℕ) (θ : ℕ → Term ℕ) → ((v : ℕ) → HasNames n (θ v)) → (ts : Args ℕ) → ArgsHaveNames n ts
      → ArgsHaveNames n (instances_of θ ts)
  instances-names n θ all no_args h = tt
  instances-names n θ all (arg t ts) h = (instance-names n θ all t h.0, instances-names n θ all ts h.1)

pub copied-names : (n first : ℕ) (t : Term ℕ) → HasNames n t → HasNames n (bind.copied first t)
copied-names n first t h = instance-names n (λ v. var (first + position_or_len (nat_eq v) (distinct_variables t))) (λ v. tt) t h
