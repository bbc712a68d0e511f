-- Tests of numbers.
use Rattle.std.proofs.Common.{◌≡◌, ℕ, ◌==◌, false}
use Rattle.std.proofs.lemmas.Bool.Decides.{Decides-eqb}
use Rattle.op_logic.proofs.BoolCases.{by_test}

pub not-eq : (m n : ℕ) → (m ≡ n → ⊥) → (m == n) ≡ false
not-eq m n h = by_test (m == n) (λ e. absurd (h ((Decides-eqb m n).0 e))) (λ e. e)
