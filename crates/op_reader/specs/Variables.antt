-- The variables of a term that was read: they are numbered from 0 by first occurrence.
use Rattle.std.specs.Prelude.{◌≡◌, ◌<◌, ◌≤◌, ℕ, suc, max, true, List, [], ◌∷◌, ◌++◌}
use Rattle.op_logic.specs.Term.{Term, var, int, node, Args, no_args, arg, occurs, IsWithin}
use Rattle.op_reader.specs.declared.term_reader.Reading.{Reading}
use Rattle.op_reader.specs.declared.term_reader.Reading.TheVariants.{Term as ATerm, End}
use Rattle.op_reader.specs.Reading.{AreCounted}

-- the variables of a term from left to right, each as often as it stands there
abbrev mutual
  pub variables : {N : Type 0} → Term N → List ℕ
  variables (var v) = v ∷ []
  variables (int i) = []
  variables (node f ts) = args_variables ts

  pub args_variables : {N : Type 0} → Args N → List ℕ
  args_variables no_args = []
  args_variables (arg t ts) = variables t ++ args_variables ts

-- each number is one of those before, which are so many, or the next; and so many are there in the end
abbrev pub AreNumbered : ℕ → List ℕ → ℕ → Type 0
AreNumbered before [] count = before ≡ count
AreNumbered before (v ∷ vs) count = (v ≤ before) × AreNumbered (max before (suc v)) vs count

-- a term's variables are exactly those below a count, numbered from 0 by first occurrence, and each named one is among them
pub record HasVariables {N : Type 0} (count : ℕ) (t : Term N) (names : List (List ℕ × ℕ)) : Type 0 where
  pub within : IsWithin count t
  pub there : (v : ℕ) → v < count → occurs v t ≡ true
  pub numbered : AreNumbered 0 (variables t) count
  pub named : AreCounted count names

-- what a reading has: so many variables, and exactly these
abbrev pub HasCount : ℕ → Reading → Type 0
HasCount n (ATerm r) = r.vars ≡ n
HasCount n End = Unit {0}

abbrev pub HasItsVariables : Reading → Type 0
HasItsVariables (ATerm r) = HasVariables r.vars r.term r.names
HasItsVariables End = Unit {0}
