-- How many variables terms have.
use Rattle.std.proofs.Common.{◌≡◌, ℕ, zero, suc, ◌<◌, ◌≤◌, ◌||◌, true, max, List, [], ◌∷◌, ◌++◌, refl, ap, sym, ◌∙◌, arith}
use Rattle.std.proofs.lemmas.Bool.{eqb-true}
use Rattle.op_logic.specs.Term.{Term, var, int, node, Args, no_args, arg, occurs, occurs_args, rename_args, IsWithin, ArgsWithin}
use Rattle.op_logic.proofs.BoolCases.{by_test}
use Rattle.op_store.specs.Counted.{variable_count, args_variable_count}
use Rattle.op_logic.specs.Names.{name_at, named}
use Rattle.op_term.specs.declared.node.Node.{Node}
use Rattle.op_bind.specs.Visited.{visit, visit_args}
use Rattle.op_store.specs.Counted.{node_variables}

abbrev pub counted : List Node → ℕ
counted [] = 0
counted (n ∷ ns) = max (node_variables n) (counted ns)

pub counted-append : (ms ns : List Node) → counted (ms ++ ns) ≡ max (counted ms) (counted ns)
counted-append [] ns = omega arith
counted-append (m ∷ ms) ns = ap (max (node_variables m)) (counted-append ms ns) ∙ omega arith

mutual
  pub counted-visit : (t : Term ℕ) → counted (visit t) ≡ variable_count t
  counted-visit (var v) = omega arith
  counted-visit (int i) = omega arith
  counted-visit (node f no_args) = omega arith
  counted-visit (node f (arg t ts)) =
      let e : counted (visit_args (arg t ts)) ≡ args_variable_count (arg t ts) = counted-args (arg t ts) in omega arith

  counted-args : (ts : Args ℕ) → counted (visit_args ts) ≡ args_variable_count ts
  counted-args no_args = refl
  counted-args (arg t ts) =
      let a : counted (visit_args ts) ≡ args_variable_count ts = counted-args ts in
      let b : counted (visit t) ≡ variable_count t = counted-visit t in
      let c : counted (visit_args ts ++ visit t) ≡ max (counted (visit_args ts)) (counted (visit t)) =
      counted-append (visit_args ts) (visit t) in
      omega arith

pub counting-goes : (rest : List Node) (n : Node) (most k all : ℕ) → k ≡ node_variables n → max most (counted (rest ++ n ∷ [])) ≡ all
    → max (max most k) (counted rest) ≡ all
counting-goes rest n most k all e h =
    let c : counted (rest ++ n ∷ []) ≡ max (counted rest) (counted (n ∷ [])) = counted-append rest (n ∷ []) in
    let d : counted (n ∷ []) ≡ max (node_variables n) 0 = refl in
    omega arith

mutual
  pub count-named : (names : List (List ℕ)) (t : Term ℕ) → variable_count (named names t) ≡ variable_count t
  count-named names (var v) = refl
  count-named names (int i) = refl
  count-named names (node f ts) = count-args-named names ts

  count-args-named : (names : List (List ℕ)) (ts : Args ℕ) → args_variable_count (rename_args (name_at names) ts) ≡ args_variable_count ts
  count-args-named names no_args = refl
  count-args-named names (arg t ts) =
      let a : variable_count (named names t) ≡ variable_count t = count-named names t in
      let b : args_variable_count (rename_args (name_at names) ts) ≡ args_variable_count ts = count-args-named names ts in
      omega arith

-- a term with exactly the variables below a number has so many
mutual
  within-counted : (n : ℕ) (t : Term ℕ) → IsWithin n t → variable_count t ≤ n
  within-counted n (var v) h = omega (arith, h)
  within-counted n (int i) h = omega arith
  within-counted n (node f ts) h = args-within-counted n ts h

  args-within-counted : (n : ℕ) (ts : Args ℕ) → ArgsWithin n ts → args_variable_count ts ≤ n
  args-within-counted n no_args h = omega arith
  args-within-counted n (arg t ts) h = let a = within-counted n t h.0 in let b = args-within-counted n ts h.1 in omega arith

mutual
  occurs-counted : (v : ℕ) (t : Term ℕ) → occurs v t ≡ true → v < variable_count t
  occurs-counted v (var w) h = let e : v ≡ w = eqb-true v w h in omega arith
  occurs-counted v (int i) h = cc
  occurs-counted v (node f ts) h = args-occurs-counted v ts h

  args-occurs-counted : (v : ℕ) (ts : Args ℕ) → occurs_args v ts ≡ true → v < args_variable_count ts
  args-occurs-counted v no_args h = cc
  args-occurs-counted v (arg t ts) h =
      by_test (occurs v t)
      (λ e. let a = occurs-counted v t e in omega arith)
      (λ e. let a = args-occurs-counted v ts (sym (ap (λ b. b || occurs_args v ts) e) ∙ h) in omega arith)

pub counted-exactly : (n : ℕ) (t : Term ℕ) → IsWithin n t → ((v : ℕ) → v < n → occurs v t ≡ true) → n ≡ variable_count t
counted-exactly zero t h g = let a = within-counted 0 t h in omega arith
counted-exactly (suc n) t h g = let a = within-counted (suc n) t h in let b = occurs-counted n t (g n (omega arith)) in omega arith
