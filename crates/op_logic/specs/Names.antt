-- Names as texts, by a table of them. A number past the table has a list that is no text, so that the names of all numbers differ.
use Rattle.std.specs.Prelude.{◌≡◌, ℕ, ◌+◌, ◌<◌, nat_lt, List, [], ◌∷◌, ◌++◌, if◌then◌else◌, length, slice_index_or, All, bytes_eq}
use Rattle.std.specs.List.{list_any}
use Rattle.op_logic.specs.Bind.{Bindings, Pairs}
use Rattle.op_logic.specs.Term.{Term, var, int, node, Args, no_args, arg, rename}

abbrev pub name_at : List (List ℕ) → ℕ → List ℕ
name_at names n = if nat_lt n (length names) then slice_index_or names n [] else (256 + n) ∷ []

-- the names are distinct, and each is a list of bytes
pub record IsTable (names : List (List ℕ)) : Type 0 where
  pub distinct : (i j : ℕ) → i < length names → j < length names → slice_index_or names i [] ≡ slice_index_or names j [] → i ≡ j
  pub bytes : All (λ name. All (λ b. b < 256) name) names

-- the table with this name: as it is where the name is there, and else with the name at the end
abbrev pub with_name : List (List ℕ) → List ℕ → List (List ℕ)
with_name names name = if list_any (bytes_eq name) names then names else names ++ name ∷ []

-- a term over texts
abbrev pub named : List (List ℕ) → Term ℕ → Term (List ℕ)
named names t = rename (name_at names) t

-- each name is in the table
abbrev mutual
  pub HasNames : ℕ → Term ℕ → Type 0
  HasNames n (var v) = Unit {0}
  HasNames n (int i) = Unit {0}
  HasNames n (node f ts) = (f < n) × ArgsHaveNames n ts

  pub ArgsHaveNames : ℕ → Args ℕ → Type 0
  ArgsHaveNames n no_args = Unit {0}
  ArgsHaveNames n (arg t ts) = HasNames n t × ArgsHaveNames n ts

-- in each term that a variable is bound to, and in both sides of each pair
abbrev pub HaveNames : ℕ → Bindings ℕ → Type 0
HaveNames n [] = Unit {0}
HaveNames n (p ∷ σ) = HasNames n p.1 × HaveNames n σ

abbrev pub PairsHaveNames : ℕ → Pairs ℕ → Type 0
PairsHaveNames n [] = Unit {0}
PairsHaveNames n (p ∷ ps) = HasNames n p.0 × HasNames n p.1 × PairsHaveNames n ps
