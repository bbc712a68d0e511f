-- The variables of a term.
use Rattle.std.specs.Prelude.{ℕ, nat_eq, Bool, true, false, ◌&&◌, List, [], ◌∷◌, ◌++◌, if◌then◌else◌}
use Rattle.std.specs.List.{list_any}
use Rattle.op_logic.specs.Term.{Term, var, int, node, Args, no_args, arg}

-- a list with a number, which joins at the end unless it is there
abbrev pub with_number : List ℕ → ℕ → List ℕ
with_number vs v = if list_any (nat_eq v) vs then vs else vs ++ v ∷ []

-- the variables that were met, and behind them those of a term from left to right, each once
abbrev mutual
  pub add_variables : {N : Type 0} → List ℕ → Term N → List ℕ
  add_variables vs (var v) = with_number vs v
  add_variables vs (int i) = vs
  add_variables vs (node f ts) = add_args_variables vs ts

  pub add_args_variables : {N : Type 0} → List ℕ → Args N → List ℕ
  add_args_variables vs no_args = vs
  add_args_variables vs (arg t ts) = add_args_variables (add_variables vs t) ts

-- each once, in order of first occurrence
abbrev pub distinct_variables : {N : Type 0} → Term N → List ℕ
distinct_variables t = add_variables [] t

-- whether a term has no variable
abbrev mutual
  pub has_no_variable : {N : Type 0} → Term N → Bool
  has_no_variable (var v) = false
  has_no_variable (int i) = true
  has_no_variable (node f ts) = have_no_variable ts

  pub have_no_variable : {N : Type 0} → Args N → Bool
  have_no_variable no_args = true
  have_no_variable (arg t ts) = has_no_variable t && have_no_variable ts
