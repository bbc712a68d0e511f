use Rattle.std.proofs.Common.{ℕ, subst}
use Rattle.op_logic.specs.Term.{Term}
use Rattle.op_term.specs.Integers.{HasSmallIntegers}
use Rattle.op_term.proofs.term.Term.integers_law.Goals as goal

pub returns : goal.returns
returns c = subst (λ (t : Term ℕ). HasSmallIntegers t) c.self.view_is (c.integers_law.ensures c.self.inside.root)
