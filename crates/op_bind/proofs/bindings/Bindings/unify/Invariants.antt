use Rattle.op_term.specs.Places.{term_at}
use Rattle.op_bind.proofs.UnificationLoop
use Rattle.op_bind.proofs.bindings.Bindings.unify.Given as goal

abbrev pub decreases-pairs : goal.decreases-pairs
decreases-pairs l = l.fuel

abbrev pub invariant-pairs : goal.invariant-pairs
invariant-pairs l =
    UnificationLoop.IsUnifying l.fn.self l.self (term_at l.fn.self.terms l.fn.a)
    (term_at l.fn.self.terms l.fn.b) l.fn.fuel l.fuel l.todo.items
