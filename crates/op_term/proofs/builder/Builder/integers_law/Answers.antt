use Rattle.std.proofs.Common.{ℕ, List, subst}
use Rattle.op_logic.specs.Term.{Term}
use Rattle.op_term.specs.Integers.{HasSmallIntegers}
use Rattle.op_term.specs.Places.{term_at}
use Rattle.op_term.proofs.Integers.{terms-small}
use Rattle.op_term.proofs.builder.Builder.integers_law.Goals as goal

pub returns : goal.returns
returns c i =
    subst (λ (ts : List (Term ℕ)). HasSmallIntegers (term_at ts i)) c.self.view_is
    (terms-small c.self.inside.parts.items c.self.inside.cells.items c.self.invariant.1 i)
