-- A copy of a term: its variables by new ones, numbered from a first one on in order of first occurrence.
use Rattle.std.specs.Prelude.{ℕ, zero, suc, ◌+◌, ◌==◌, List, [], ◌∷◌, ◌++◌, if◌then◌else◌}
use Rattle.std.specs.List.{list_any}
use Rattle.op_logic.specs.Term.{Term, var, int, node, Args, no_args, arg}

abbrev pub with_variable : ℕ → List ℕ → List ℕ
with_variable v vs = if list_any (λ u. u == v) vs then vs else vs ++ v ∷ []

-- these variables and then those of a term, each once, in order of first occurrence
abbrev mutual
  pub variables_onto : {N : Type 0} → List ℕ → Term N → List ℕ
  variables_onto vs (var v) = with_variable v vs
  variables_onto vs (int i) = vs
  variables_onto vs (node f ts) = args_variables_onto vs ts

  pub args_variables_onto : {N : Type 0} → List ℕ → Args N → List ℕ
  args_variables_onto vs no_args = vs
  args_variables_onto vs (arg t ts) = args_variables_onto (variables_onto vs t) ts

abbrev pub variables_of : {N : Type 0} → Term N → List ℕ
variables_of t = variables_onto [] t

-- where a variable stands in a list of them
abbrev pub place_of : List ℕ → ℕ → ℕ
place_of [] v = zero
place_of (u ∷ vs) v = if u == v then zero else suc (place_of vs v)

abbrev mutual
  pub renumbered : {N : Type 0} → List ℕ → ℕ → Term N → Term N
  renumbered vs first (var v) = var (first + place_of vs v)
  renumbered vs first (int i) = int i
  renumbered vs first (node f ts) = node f (args_renumbered vs first ts)

  pub args_renumbered : {N : Type 0} → List ℕ → ℕ → Args N → Args N
  args_renumbered vs first no_args = no_args
  args_renumbered vs first (arg t ts) = arg (renumbered vs first t) (args_renumbered vs first ts)

abbrev pub copied : {N : Type 0} → ℕ → Term N → Term N
copied first t = renumbered (variables_of t) first t
