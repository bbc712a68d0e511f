-- What a call leaves of what lies outside a program.
use Rattle.std.specs.Prelude.{◌≡◌, ℕ, List, [], ◌++◌}
use Rattle.std.proofs.Common.{sym, subst}
use Rattle.op_trace.specs.Outside.{Taking, nothing, and_then}

-- a host comes from another, in its own words, by some taking and by writing some bytes
pub record Leaves (reach : Taking → List ℕ → Type 0) : Type 0 where
  pub taking : Taking
  pub bytes : List ℕ
  pub went : reach taking bytes

-- nothing was taken and nothing was written
abbrev pub IsNothing : Taking → List ℕ → Type 0
IsNothing t o = (t ≡ nothing) × (o ≡ [])

-- twice nothing is nothing
pub joins_nothing : (t u : Taking) (x y : List ℕ) → IsNothing t x → IsNothing u y → IsNothing (and_then t u) (x ++ y)
joins_nothing t u x y a b =
    subst (λ (s : Taking). IsNothing (and_then s u) (x ++ y)) (sym a.0)
    (subst (λ (z : List ℕ). IsNothing (and_then nothing u) (z ++ y)) (sym a.1) b)
